-- Walks: a start and steps.
use Rattle.std.specs.Prelude.{ℕ, ◌<◌, ◌&&◌, nat_lt, Bool, List, [], ◌∷◌, length, if◌then◌else◌, Option, Some, None, slice_get, option_map}
use Rattle.std.specs.List.{list_all, AllByRecursion}
use Rattle.octi_grid.specs.declared.dir.Dir.{Dir}
use Rattle.octi_grid.specs.declared.point.GridPoint.{GridPoint}
use Rattle.octi_grid.specs.declared.walk.Run.{Run}
use Rattle.octi_grid.specs.Ways.{after, points_from, doubled_from, reverse_of, is_within, IsWithin}
use Rattle.octi_grid.specs.Costs.{way_cost}
use Rattle.octi_grid.specs.Runs.{are_runs, steps_of}

-- a walk without where it lies in memory
pub record PlainWalk : Type 0 where
  pub start : GridPoint
  pub steps : List Dir

-- it has a step, and each of its points lies within 10,000 either way
pub record IsWalk (w : PlainWalk) : Type 0 where
  pub some : 0 < length w.steps
  pub within : AllByRecursion IsWithin (points_from w.start w.steps)

-- where a walk ends
abbrev pub end_point : PlainWalk → GridPoint
end_point w = after w.start w.steps

-- its grid points, in order
abbrev pub points_of : PlainWalk → List GridPoint
points_of w = points_from w.start w.steps

-- its doubled points, in order
abbrev pub doubled_of : PlainWalk → List GridPoint
doubled_of w = doubled_from w.start w.steps

-- what it costs
abbrev pub cost_of : PlainWalk → ℕ
cost_of w = way_cost w.steps

-- the last of directions
abbrev pub last_of : List Dir → Option Dir
last_of [] = None
last_of (d ∷ []) = Some d
last_of (d ∷ e ∷ ds) = last_of (e ∷ ds)

-- its port at the start: the first direction
abbrev pub start_port : PlainWalk → Option Dir
start_port w = slice_get w.steps 0

-- its port at the end: the reverse of the last direction
abbrev pub end_port : PlainWalk → Option Dir
end_port w = option_map reverse_of (last_of w.steps)

-- the walk of runs from a point
abbrev pub walk_of : GridPoint → List Run → PlainWalk
walk_of start runs = record { start = start; steps = steps_of runs }

-- there is a run, none is without steps, neighbours go different ways, and each point lies within 10,000 either way
abbrev pub fits : GridPoint → List Run → Bool
fits start runs = nat_lt 0 (length runs) && are_runs runs && list_all is_within (points_of (walk_of start runs))

-- the walk of runs from a point, where they fit
abbrev pub walk_by : GridPoint → List Run → Option PlainWalk
walk_by start runs = if fits start runs then Some (walk_of start runs) else None
