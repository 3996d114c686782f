-- What turns cost, how far points lie apart, and where a drawing puts nodes.
use Rattle.std.specs.Prelude.{ℕ, ◌+◌, ◌*◌, ◌-ℤ◌, pos, unsigned_abs, List, [], ◌∷◌, unwrap_or}
use Rattle.graph_core.specs.declared.parts.GraphParts.{GraphParts}
use Rattle.octi_grid.specs.declared.dir.Dir.{Dir}
use Rattle.octi_grid.specs.declared.point.GridPoint.{GridPoint}
use Rattle.octi_grid.specs.declared.walk.Run.{Run}
use Rattle.octi_grid.specs.Costs.{turn_between, turn_to}
use Rattle.octi_grid.specs.Walks.{PlainWalk}
use Rattle.octi_grid.specs.Legal.{legs_of, puts_of}
use Rattle.octi_grid.specs.Taking.{point_in}

-- what the turns between steps cost together
abbrev pub turns_of : List Dir → ℕ
turns_of [] = 0
turns_of (d ∷ []) = 0
turns_of (d ∷ e ∷ ds) = turn_between d e + turns_of (e ∷ ds)

-- what the turn from the first run to the next one costs
abbrev pub turn_after : List Run → ℕ
turn_after [] = 0
turn_after (r ∷ rs) = turn_to r.dir rs

-- the square of a number
abbrev pub square : ℕ → ℕ
square n = n * n

-- the square of the distance between two points
abbrev pub square_apart : GridPoint → GridPoint → ℕ
square_apart first here = square (unsigned_abs (here.x -ℤ first.x)) + square (unsigned_abs (here.y -ℤ first.y))

-- where a drawing puts node n: where the first walk at it does. In a legal drawing all do.
abbrev pub point_of : GraphParts → List PlainWalk → ℕ → GridPoint
point_of graph walks n = unwrap_or (point_in (puts_of (legs_of graph.ends walks)) n) (record { x = pos 0; y = pos 0 })
