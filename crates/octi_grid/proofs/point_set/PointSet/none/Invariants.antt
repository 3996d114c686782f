use Rattle.std.proofs.Common.{◌≡◌, replicate}
use Rattle.octi_grid.proofs.PointSetLemmas.{no_flags}
use Rattle.octi_grid.proofs.point_set.PointSet.none.Given as goal

-- the tiles so far have no flags
abbrev pub invariant-loop : goal.invariant-loop
invariant-loop l = l.tiles.items ≡ replicate l.counter no_flags
