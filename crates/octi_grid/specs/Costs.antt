-- What walks cost.
use Rattle.std.specs.Prelude.{ℕ, ◌+◌, ◌-◌, ◌*◌, ◌%◌, List, [], ◌∷◌, min}
use Rattle.octi_grid.specs.declared.dir.Dir.{Dir}
use Rattle.octi_grid.specs.declared.dir.Dir.TheVariants as dir
use Rattle.octi_grid.specs.declared.walk.Run.{Run}
use Rattle.octi_grid.specs.Ways.{number_of}

-- a step along an axis costs 4, a diagonal one 5
abbrev pub step_cost : Dir → ℕ
step_cost dir.N = 4
step_cost dir.NE = 5
step_cost dir.E = 4
step_cost dir.SE = 5
step_cost dir.S = 4
step_cost dir.SW = 5
step_cost dir.W = 4
step_cost dir.NW = 5

-- how far clockwise one direction is from another, in parts of 45 degrees: 0 to 7
abbrev pub clockwise_from : Dir → Dir → ℕ
clockwise_from a b = (number_of b + 8 - number_of a) % 8

-- a turn costs its angle, in parts of 45 degrees: 0 to 4
abbrev pub turn_between : Dir → Dir → ℕ
turn_between a b = min (clockwise_from a b) (clockwise_from b a)

-- the cost of steps with the turns between them
abbrev pub way_cost : List Dir → ℕ
way_cost [] = 0
way_cost (d ∷ []) = step_cost d
way_cost (d ∷ e ∷ ds) = step_cost d + turn_between d e + way_cost (e ∷ ds)

-- the cost of the turn from a direction to that of the next run
abbrev pub turn_to : Dir → List Run → ℕ
turn_to d [] = 0
turn_to d (r ∷ rs) = turn_between d r.dir

-- the cost of the first run, and of the turn to the next
abbrev pub run_cost : List Run → ℕ
run_cost [] = 0
run_cost (r ∷ rs) = r.count * step_cost r.dir + turn_to r.dir rs
