use Rattle.std.proofs.Common.{◌∙◌, Option, Some, ap, sym, arith}
use Rattle.std.specs.Int.{int_min, int_max}
use Rattle.std.proofs.lemmas.Int.{clamps, ints}
use Rattle.grid_board.specs.declared.bounds.Bounds.{Bounds}
use Rattle.drawing_weights.specs.Reach.{bounds_with}
use Rattle.drawing_weights.proofs.BoundParts.{same_bounds}
use Rattle.drawing_weights.proofs.bounds.with_point.Goals as goal

pub returns-in-Some : goal.returns-in-Some
returns-in-Some c =
    let b = c.in-Some.b in
    let p = c.args.p in
    ap (λ (v : Bounds). Some v)
    (same_bounds _ _ _ _ (int_min b.left p.x) (int_max b.right p.x) (int_min b.bottom p.y) (int_max b.top p.y) (omega (arith, ints, clamps, c.min.ensures.value, c.min.type_inv))
    (omega (arith, ints, clamps, c.max.ensures.value, c.max.type_inv)) (omega (arith, ints, clamps, c.min-in-Some.ensures.value, c.min-in-Some.type_inv)) (omega (arith, ints, clamps, c.max-in-Some.ensures.value, c.max-in-Some.type_inv)))
    ∙ sym (ap (λ (o : Option Bounds). bounds_with o p) c.in-Some.is)
