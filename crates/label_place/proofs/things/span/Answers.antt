use Rattle.std.proofs.Common.{ap, ◌∙◌, arith}
use Rattle.std.specs.Int.{int_min, int_max}
use Rattle.std.proofs.lemmas.Int.{ints, clamps}
use Rattle.svg_writer.proofs.Hulls.{same_bounds}
use Rattle.label_place.specs.Grids.{box_of_two}
use Rattle.label_place.proofs.things.span.Goals as goal

pub returns-clause-value : goal.returns-clause-value
returns-clause-value c =
    let a = c.args.start in
    let b = c.stroke_end-end.result in
    same_bounds _ _ _ _ (int_min a.x b.x) (int_max a.x b.x) (int_min a.y b.y) (int_max a.y b.y)
    (omega (arith, ints, clamps, c.least.ensures.value, c.least.ensures.small)) (omega (arith, ints, clamps, c.greatest.ensures.value, c.greatest.ensures.small))
    (omega (arith, ints, clamps, c.least-2.ensures.value, c.least-2.ensures.small)) (omega (arith, ints, clamps, c.greatest-2.ensures.value, c.greatest-2.ensures.small))
    ∙ ap (box_of_two a) c.stroke_end-end.ensures.value

pub returns-clause-small : goal.returns-clause-small
returns-clause-small c = record {
  left = omega (arith, ints, clamps, c.least.ensures.value, c.least.ensures.small);
  right = omega (arith, ints, clamps, c.greatest.ensures.value, c.greatest.ensures.small);
  top = omega (arith, ints, clamps, c.least-2.ensures.value, c.least-2.ensures.small);
  bottom = omega (arith, ints, clamps, c.greatest-2.ensures.value, c.greatest-2.ensures.small);
}
