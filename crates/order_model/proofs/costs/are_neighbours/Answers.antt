use Rattle.std.proofs.Common.{◌≡◌, ◌-◌, ◌≤◌, ◌∙◌, false, List, [], ◌∷◌, length, length-drop, drop, refl, sym, arith}
use Rattle.map_base.specs.declared.ids.LineId.{LineId}
use Rattle.order_model.specs.Costs.{are_neighbours}
use Rattle.order_model.proofs.costs.are_neighbours.Goals as goal

one_alone : (xs : List LineId) (a b : LineId) → length xs ≤ 1 → are_neighbours xs a b ≡ false
one_alone [] a b h = refl
one_alone (x ∷ []) a b h = refl
one_alone (x ∷ y ∷ xs) a b h = absurd (omega (arith, h))

pub returns : goal.returns
returns c =
    sym (c.loop-i.invariant ∙ one_alone (drop (c.loop-i.i - 1) c.args.order.now) c.args.a c.args.b
    (omega (arith, length-drop (c.loop-i.i - 1) c.args.order.now, c.loop-i-test.false)))
