use Rattle.std.proofs.Common.{arith}
use Rattle.std.specs.Int.{int_min, int_max}
use Rattle.std.proofs.lemmas.Int.{ints, clamps}
use Rattle.svg_writer.proofs.Hulls.{same_bounds}
use Rattle.label_place.proofs.boxes.hull.Goals as goal

pub returns-clause-value : goal.returns-clause-value
returns-clause-value c =
    let a = c.args.a in
    let b = c.args.b in
    same_bounds _ _ _ _ (int_min a.left b.left) (int_max a.right b.right) (int_min a.top b.top) (int_max a.bottom b.bottom)
    (omega (arith, ints, clamps, c.least.ensures.value, c.least.ensures.small)) (omega (arith, ints, clamps, c.greatest.ensures.value, c.greatest.ensures.small))
    (omega (arith, ints, clamps, c.least-2.ensures.value, c.least-2.ensures.small)) (omega (arith, ints, clamps, c.greatest-2.ensures.value, c.greatest-2.ensures.small))

pub returns-clause-small : goal.returns-clause-small
returns-clause-small c = record {
  left = omega (arith, ints, clamps, c.least.ensures.value, c.least.ensures.small);
  right = omega (arith, ints, clamps, c.greatest.ensures.value, c.greatest.ensures.small);
  top = omega (arith, ints, clamps, c.least-2.ensures.value, c.least-2.ensures.small);
  bottom = omega (arith, ints, clamps, c.greatest-2.ensures.value, c.greatest-2.ensures.small);
}
