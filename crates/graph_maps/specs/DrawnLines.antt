-- How the lines that stand on segments are found: by a mark for each line.
use Rattle.std.specs.Prelude.{ℕ, ◌+◌, Bool, true, List, [], ◌∷◌, if◌then◌else◌, slice_set}
use Rattle.map_base.specs.declared.ids.LineId.{LineId}

-- the marks after these lines are marked
abbrev pub after_lines : List LineId → List Bool → List Bool
after_lines [] marks = marks
after_lines (a ∷ lines) marks = after_lines lines (slice_set marks a.0 true)

-- the marks after the lines of these segments are marked
abbrev pub after_segments : List (List LineId) → List Bool → List Bool
after_segments [] marks = marks
after_segments (lines ∷ segs) marks = after_segments segs (after_lines lines marks)

-- the lines that are marked, where the first mark is that of line n
abbrev pub marked_lines : ℕ → List Bool → List LineId
marked_lines n [] = []
marked_lines n (mark ∷ marks) = if mark then record { 0 = n } ∷ marked_lines (n + 1) marks else marked_lines
    (n + 1) marks
