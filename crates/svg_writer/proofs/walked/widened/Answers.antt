use Rattle.std.proofs.Common.{arith}
use Rattle.std.specs.Int.{int_min, int_max}
use Rattle.std.proofs.lemmas.Int.{ints, clamps}
use Rattle.svg_writer.proofs.Hulls.{same_bounds}
use Rattle.svg_writer.proofs.walked.widened.Goals as goal

pub returns-clause-value : goal.returns-clause-value
returns-clause-value c =
    let b = c.args.held in
    let p = c.args.corner in
    same_bounds _ _ _ _ (int_min b.left p.x) (int_max b.right p.x) (int_min b.top p.y) (int_max b.bottom p.y)
    (omega (arith, ints, clamps, c.least.ensures.value, c.least.ensures.small)) (omega (arith, ints, clamps, c.greatest.ensures.value, c.greatest.ensures.small))
    (omega (arith, ints, clamps, c.least-2.ensures.value, c.least-2.ensures.small)) (omega (arith, ints, clamps, c.greatest-2.ensures.value, c.greatest-2.ensures.small))
