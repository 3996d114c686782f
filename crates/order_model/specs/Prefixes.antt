-- Prefixes: on each segment the lines placed so far, left to right, before all lines that are not.
use Rattle.std.specs.Prelude.{◌≡◌, ◌≢◌, ℕ, ◌+◌, ◌-◌, ◌<◌, ◌≤◌, ◌==◌, Bool, false, ◌&&◌, not, List, [], ◌∷◌, ◌++◌, length, map, take, find, All, Contains, if◌then◌else◌, slice_index_or}
use Rattle.std.specs.Option.{option_to_list}
use Rattle.map_base.specs.declared.ids.LineId.{LineId}
use Rattle.graph_core.specs.Consistent.{AreRising}
use Rattle.order_model.specs.Places.{has_line, no_place, places_in}

-- a prefix: the lines of each segment, rising, and those of them that are placed, left to right
pub record Placement : Type 0 where
  pub segs : List (List LineId)
  pub placed : List (List LineId)

-- the line is among the placed ones
abbrev pub is_placed : List LineId → LineId → Bool
is_placed placed a = has_line placed a

-- the line is not among the placed ones
abbrev pub is_unplaced : List LineId → LineId → Bool
is_unplaced placed a = not (is_placed placed a)

-- the line is one of a segment's, and is not placed
abbrev pub is_left : List LineId → List LineId → LineId → Bool
is_left lines placed a = has_line lines a && is_unplaced placed a

-- where just one of a segment's lines is not placed, it is placed too
abbrev pub with_last : List LineId → List LineId → List LineId
with_last lines placed = if length placed + 1 == length lines then placed ++ option_to_list (find (is_unplaced placed) lines) else placed

-- what is placed on a segment before any line is chosen: nothing, but for a lone line
abbrev pub first_placed : List LineId → List LineId
first_placed lines = with_last lines []

-- what is placed on all segments before any line is chosen
abbrev pub none_placed : List (List LineId) → List (List LineId)
none_placed segs = map first_placed segs

-- the placed lines of a segment, of these lines, once one more is placed
abbrev pub with_line : List LineId → List LineId → LineId → List LineId
with_line lines placed line = with_last lines (placed ++ line ∷ [])

-- how many lines the last placing placed: two where it placed the last two
abbrev pub last_placed : List LineId → List LineId → ℕ
last_placed lines placed = if length placed == length lines then 2 else 1

-- the placed lines of a segment before the last placing
abbrev pub without_last : List LineId → List LineId → List LineId
without_last lines placed = take (length placed - last_placed lines placed) placed

-- no line stands twice
abbrev pub AreApart : List LineId → Type 0
AreApart [] = Unit {0}
AreApart (a ∷ rest) = (is_placed rest a ≡ false) × AreApart rest

-- lines of the segment, each once, and never all but one
pub record ArePlacedLines (lines placed : List LineId) : Type 0 where
  pub known : All (Contains lines) placed
  pub apart : AreApart placed
  pub none_alone : length placed + 1 ≢ length lines

-- a prefix of a problem with these segments
pub record IsPrefixOf (segs : List (List LineId)) (p : Placement) : Type 0 where
  pub of_problem : p.segs ≡ segs
  pub each : length p.placed ≡ length segs
  pub lines : (s : ℕ) → s < length segs → ArePlacedLines (slice_index_or segs s []) (slice_index_or p.placed s [])

-- How a prefix is kept: segment by segment.

-- the lines of one segment, rising, and those of them that are placed, left to right
pub record SegmentPlacement : Type 0 where
  pub lines : List LineId
  pub placed : List LineId

abbrev pub segment_placement : List LineId → List LineId → SegmentPlacement
segment_placement lines placed = record { lines = lines; placed = placed }

-- a segment as nothing is chosen on it yet
abbrev pub unchosen : List LineId → SegmentPlacement
unchosen lines = segment_placement lines (first_placed lines)

-- the prefix of all segments
abbrev pub placement_of : List SegmentPlacement → Placement
placement_of parts = record {
  segs = map (λ (p : SegmentPlacement). p.lines) parts;
  placed = map (λ (p : SegmentPlacement). p.placed) parts;
}

-- rising lines, those that are placed, how many lines there is room for, and the place of each line
pub record IsKept (lines placed : List LineId) (capacity : ℕ) (table : List ℕ) : Type 0 where
  pub rising : AreRising lines
  pub short : length lines < no_place
  pub fits : ArePlacedLines lines placed
  pub room : length lines ≤ capacity
  pub places : table ≡ places_in lines placed
