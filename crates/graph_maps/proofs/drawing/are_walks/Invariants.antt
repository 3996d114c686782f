use Rattle.std.proofs.Common.{All, take}
use Rattle.octi_grid.specs.Walks.{IsWalk}
use Rattle.graph_maps.proofs.drawing.are_walks.Given as goal

-- the walks so far
abbrev pub invariant-loop-walk : goal.invariant-loop-walk
invariant-loop-walk l = All IsWalk (take l.walk-index l.walks)
