use Rattle.std.proofs.Common.{◌≡◌, ℕ, ◌+◌, ◌<◌, List, pos, length, fold, get_or, drop, sym, ap, subst, ◌∙◌}
use Rattle.drawing_search.proofs.Common.{all_moved, at_drop_all, at_drop_more, drop_more, moved_by, stood, stood_at}
use Rattle.drawing_search.proofs.Common.{CanStand, CanStandEach, GridPoint, NodeId, Sketch, Vector}
use Rattle.drawing_search.proofs.trying.Search.stand_moved.Goals as goal

abbrev nobody : NodeId × GridPoint
nobody = (record { 0 = 0 }, record { x = pos 0; y = pos 0 })

-- the next node may stand where it comes to
next : (k : Sketch) (v : Vector) (ms : List (NodeId × GridPoint)) (i : ℕ) (p : GridPoint) → i < length ms → p ≡ moved_by v (get_or ms i nobody).1 → CanStandEach k (all_moved v (drop i ms))
    → CanStand k (get_or ms i nobody).0 p × CanStandEach (stood k (get_or ms i nobody).0 p) (all_moved v (drop (i + 1) ms))
next k v ms i p h e can =
    subst (λ (q : GridPoint). CanStand k (get_or ms i nobody).0 q × CanStandEach (stood k (get_or ms i nobody).0 q) (all_moved v (drop (i + 1) ms))) (sym e)
    (subst (λ (xs : List (NodeId × GridPoint)). CanStandEach k (all_moved v xs)) (drop_more ms i nobody h) can)

pub stand-requires : goal.stand-requires
stand-requires c =
    let can = (next c.loop-known.self.sketch c.args.vector c.args.moved.now c.loop-known.known-index c.after.result c.loop-known-test.true c.after.ensures c.loop-known.invariant.can).0 in
    record { node = can.node; flag = can.flag; lifted = can.lifted; inside = can.inside; even = can.even }

pub loop-known-preserved : goal.loop-known-preserved
loop-known-preserved c =
    let ms = c.args.moved.now in
    let v = c.args.vector in
    let i = c.loop-known.known-index in
    let k = c.loop-known.self.sketch in
    record {
      rest = ap (λ (j : Sketch). fold stood_at j (all_moved v (drop (i + 1) ms))) (c.stand.ensures ∙ ap (stood k (get_or ms i nobody).0) c.after.ensures)
          ∙ sym (at_drop_more (λ (xs : List (NodeId × GridPoint)). fold stood_at k (all_moved v xs)) ms i nobody c.loop-known-test.true)
          ∙ c.loop-known.invariant.rest;
      can = subst (λ (j : Sketch). CanStandEach j (all_moved v (drop (i + 1) ms))) (sym c.stand.ensures) (next k v ms i c.after.result c.loop-known-test.true c.after.ensures c.loop-known.invariant.can).1;
      weight = c.loop-known.invariant.weight;
      made = c.loop-known.invariant.made;
    }

pub returns-clause-sketch : goal.returns-clause-sketch
returns-clause-sketch c =
    sym (at_drop_all (λ (xs : List (NodeId × GridPoint)). fold stood_at c.loop-known.self.sketch (all_moved c.args.vector xs)) c.args.moved.now c.loop-known.known-index c.loop-known-test.false) ∙ c.loop-known.invariant.rest
