use Rattle.std.proofs.Common.{ℕ, ◌+◌, ◌<◌, List, pos, length, fold, get_or, drop, sym, ap, subst, ◌∙◌}
use Rattle.drawing_search.proofs.Common.{at_drop_all, at_drop_more, drop_more, stood_at, CanStand, CanStandEach}
use Rattle.drawing_search.proofs.Common.{GridPoint, NodeId, Sketch}
use Rattle.drawing_search.proofs.sketch.Sketch.stand_each.Goals as goal

abbrev nobody : NodeId × GridPoint
nobody = (record { 0 = 0 }, record { x = pos 0; y = pos 0 })

next : (k : Sketch) (ms : List (NodeId × GridPoint)) (i : ℕ) → i < length ms → CanStandEach k (drop i ms) → CanStand k (get_or ms i nobody).0 (get_or ms i nobody).1 × CanStandEach (stood_at k (get_or ms i nobody)) (drop (i + 1) ms)
next k ms i h can = subst (CanStandEach k) (drop_more ms i nobody h) can

pub stand-requires : goal.stand-requires
stand-requires c =
    let can = (next c.loop-at.self c.args.known.now c.loop-at.at-index c.loop-at-test.true c.loop-at.invariant.can).0 in
    record { node = can.node; flag = can.flag; lifted = can.lifted; inside = can.inside; even = can.even }

pub loop-at-preserved : goal.loop-at-preserved
loop-at-preserved c =
    let ms = c.args.known.now in
    let i = c.loop-at.at-index in
    record {
      rest = ap (λ (k : Sketch). fold stood_at k (drop (i + 1) ms)) c.stand.ensures ∙ sym (at_drop_more (fold stood_at c.loop-at.self) ms i nobody c.loop-at-test.true) ∙ c.loop-at.invariant.rest;
      can = subst (λ (k : Sketch). CanStandEach k (drop (i + 1) ms)) (sym c.stand.ensures) (next c.loop-at.self ms i c.loop-at-test.true c.loop-at.invariant.can).1;
    }

pub returns : goal.returns
returns c = sym (at_drop_all (fold stood_at c.loop-at.self) c.args.known.now c.loop-at.at-index c.loop-at-test.false) ∙ c.loop-at.invariant.rest
