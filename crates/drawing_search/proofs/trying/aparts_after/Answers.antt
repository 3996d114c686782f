use Rattle.std.proofs.Common.{◌≡◌, ℕ, ◌+◌, ◌<◌, ◌∷◌, [], true, List, pos, length, get_or, take, sym, ap, ap₂, subst, ◌∙◌, arith}
use Rattle.drawing_search.proofs.Common.{all_moved, apart_weight_by, first_point, is_near, map-append, moved_by}
use Rattle.drawing_search.proofs.Common.{scale_of, sum_by, sum_by_push, take_all, take_more, GridPoint, NodeId, Vector}
use Rattle.drawing_search.proofs.trying.aparts_after.Goals as goal

abbrev nobody : NodeId × GridPoint
nobody = (record { 0 = 0 }, record { x = pos 0; y = pos 0 })

-- what one node more weighs
weigh_more : (f : NodeId × GridPoint → ℕ) (v : Vector) (ms : List (NodeId × GridPoint)) (i : ℕ) → i < length ms
    → sum_by f (all_moved v (take (i + 1) ms)) ≡ sum_by f (all_moved v (take i ms)) + f ((get_or ms i nobody).0, moved_by v (get_or ms i nobody).1)
weigh_more f v ms i h =
    ap (λ (xs : List (NodeId × GridPoint)). sum_by f (all_moved v xs)) (take_more ms i nobody h)
    ∙ ap (sum_by f) (map-append (λ (m : NodeId × GridPoint). (m.0, moved_by v m.1)) (take i ms) (get_or ms i nobody ∷ []))
    ∙ sum_by_push f (all_moved v (take i ms)) ((get_or ms i nobody).0, moved_by v (get_or ms i nobody).1)

pub apart_weight-total-requires-clause-near : goal.apart_weight-total-requires-clause-near
apart_weight-total-requires-clause-near c = subst (λ (p : GridPoint). is_near 2000 p ≡ true) (sym c.after.ensures) (c.requires.there c.loop-known.known-index nobody c.loop-known-test.true)

pub loop-known-preserved : goal.loop-known-preserved
loop-known-preserved c =
    let scale = scale_of c.args.field.by in
    let first = c.args.field.first.now in
    let ms = c.args.moved.now in
    let i = c.loop-known.known-index in
    let n = (get_or ms i nobody).0 in (
      ap₂ (λ a b. a + b) c.loop-known.invariant.0 (c.apart_weight-total.ensures.weight ∙ ap (apart_weight_by scale n.0 (first_point first n.0)) c.after.ensures)
          ∙ sym (weigh_more (λ (m : NodeId × GridPoint). apart_weight_by scale m.0.0 (first_point first m.0.0) m.1) c.args.vector ms i c.loop-known-test.true),
      omega (arith, c.loop-known.invariant.1, c.apart_weight-total.ensures.small),
    )

pub returns-clause-weight : goal.returns-clause-weight
returns-clause-weight c =
    c.loop-known.invariant.0
    ∙ ap (λ (xs : List (NodeId × GridPoint)). sum_by (λ (m : NodeId × GridPoint). apart_weight_by (scale_of c.args.field.by) m.0.0 (first_point c.args.field.first.now m.0.0) m.1) (all_moved c.args.vector xs))
    (take_all c.loop-known.known-index c.args.moved.now c.loop-known-test.false)
