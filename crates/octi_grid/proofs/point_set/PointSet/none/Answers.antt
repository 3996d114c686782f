use Rattle.std.proofs.Common.{sym, subst, arith}
use Rattle.octi_grid.specs.PointSets.{AreTiles}
use Rattle.octi_grid.proofs.PointSetLemmas.{AreTiles-none}
use Rattle.octi_grid.proofs.point_set.PointSet.none.Goals as goal

pub invariant_of-result : goal.invariant_of-result
invariant_of-result c = subst AreTiles (sym c.loop.invariant) (AreTiles-none c.loop.counter (omega (arith, c.loop-test.false, c.loop.auto.counter-end)))
