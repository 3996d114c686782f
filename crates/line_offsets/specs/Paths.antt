-- The path of a line beside a walk, where a grid step is so many units.
use Rattle.std.specs.Prelude.{ℕ, ◌==◌, ℤ, List, [], ◌∷◌, if◌then◌else◌}
use Rattle.octi_grid.specs.declared.dir.Dir.{Dir}
use Rattle.octi_grid.specs.declared.point.GridPoint.{GridPoint}
use Rattle.octi_grid.specs.declared.walk.Run.{Run}
use Rattle.octi_grid.specs.Ways.{number_of, step_from}
use Rattle.octi_grid.specs.Walks.{PlainWalk}
use Rattle.line_offsets.specs.declared.corner.Corner.{Corner}
use Rattle.line_offsets.specs.Shifts.{drawn_at, moved_at, foot_of, turn_of}

-- behind its start: where the shifted lines meet at each change of direction, and the shifted end
abbrev pub corners_from : ℕ → ℤ → GridPoint → List Dir → List Corner
corners_from pitch k p [] = []
corners_from pitch k p (d ∷ []) = moved_at pitch (step_from p d) k (foot_of d) ∷ []
corners_from pitch k p (d ∷ e ∷ ds) =
    if number_of d == number_of e then corners_from pitch k (step_from p d) (e ∷ ds)
    else moved_at pitch (step_from p d) k (turn_of d e) ∷ corners_from pitch k (step_from p d) (e ∷ ds)

-- the path of steps from a point
abbrev pub path_from : ℕ → ℤ → GridPoint → List Dir → List Corner
path_from pitch k p [] = []
path_from pitch k p (d ∷ ds) = moved_at pitch p k (foot_of d) ∷ corners_from pitch k p (d ∷ ds)

-- the shifted start of a walk, where shifted lines meet at its turns, and its shifted end
abbrev pub line_path_at : ℕ → PlainWalk → ℤ → List Corner
line_path_at pitch w k = path_from pitch k w.start w.steps

abbrev pub line_path : PlainWalk → ℤ → List Corner
line_path w k = line_path_at 100 w k

-- the first corner of the path of steps, and the last, the origin where there is no step
abbrev pub start_from : ℕ → ℤ → GridPoint → List Dir → Corner
start_from pitch k p [] = drawn_at pitch p
start_from pitch k p (d ∷ ds) = moved_at pitch p k (foot_of d)

abbrev pub end_from : ℕ → ℤ → GridPoint → List Dir → Corner
end_from pitch k p [] = drawn_at pitch p
end_from pitch k p (d ∷ []) = moved_at pitch (step_from p d) k (foot_of d)
end_from pitch k p (d ∷ e ∷ ds) = end_from pitch k (step_from p d) (e ∷ ds)

-- where the path of a line starts, and where it ends
abbrev pub path_start_at : ℕ → PlainWalk → ℤ → Corner
path_start_at pitch w k = start_from pitch k w.start w.steps

abbrev pub path_end_at : ℕ → PlainWalk → ℤ → Corner
path_end_at pitch w k = end_from pitch k w.start w.steps

abbrev pub path_start : PlainWalk → ℤ → Corner
path_start w k = path_start_at 100 w k

abbrev pub path_end : PlainWalk → ℤ → Corner
path_end w k = path_end_at 100 w k

-- the corner to which the first of runs leads, which ends at p: where it meets the next, or the end
abbrev pub corner_behind : ℕ → ℤ → GridPoint → List Run → Corner
corner_behind pitch k p [] = drawn_at pitch p
corner_behind pitch k p (r ∷ []) = moved_at pitch p k (foot_of r.dir)
corner_behind pitch k p (r ∷ s ∷ rs) = moved_at pitch p k (turn_of r.dir s.dir)
