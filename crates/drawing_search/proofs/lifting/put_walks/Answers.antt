use Rattle.std.proofs.Common.{◌≡◌, sym, ◌∙◌, ap, subst, ℕ, ◌+◌, ◌<◌, ◌∷◌, ◌++◌, [], List, length, fold, get_or, drop, arith, rules}
use Rattle.std.proofs.lemmas.Iterator.Adapters.{YieldsList-from_vec}
use Rattle.std.proofs.lemmas.Iterator.Consumers.{YieldsList-end, YieldsList-turn}
use Rattle.drawing_search.proofs.Common.{at_drop_all, at_drop_more, drop_more, length_push, walked_by, CanWalk}
use Rattle.drawing_search.proofs.Common.{CanWalkEach, PlainWalk, SegId, Sketch}
use Rattle.drawing_search.proofs.lifting.put_walks.Goals as goal

-- the next segment may have its walk, and then the others
next : (k : Sketch) (ms : List (SegId × PlainWalk)) (i : ℕ) (m : SegId × PlainWalk) → i < length ms → m ≡ get_or ms i m → CanWalkEach k (drop i ms) → CanWalk k m.0 m.1 × CanWalkEach (walked_by k m) (drop (i + 1) ms)
next k ms i m h is can =
    subst (λ (x : SegId × PlainWalk). CanWalk k x.0 x.1 × CanWalkEach (walked_by k x) (drop (i + 1) ms)) (sym is) (subst (CanWalkEach k) (drop_more ms i m h) can)

pub put_walk-requires : goal.put_walk-requires
put_walk-requires c =
    let ms = c.args.walks.items in
    let t = YieldsList-turn (YieldsList-from_vec {s = c.into_iter-s-iterator.result} ms (search rules) (search rules)) c.loop-s.yielded c.loop-s.s-iterator c.loop-s.yielded_by c.next.result c.next.new.self (c.in-Some.s, c.in-Some.walk) c.in-Some.is c.next.ensures.steps in
    let can = (next c.loop-s.sketch ms (length c.loop-s.yielded) (c.in-Some.s, c.in-Some.walk) t.0 t.1 c.loop-s.invariant.can).0 in
    record { segment = can.segment; free = can.free; inside = can.inside }

pub loop-s-preserved : goal.loop-s-preserved
loop-s-preserved c =
    let ms = c.args.walks.items in
    let m : SegId × PlainWalk = (c.in-Some.s, c.in-Some.walk) in
    let done = c.loop-s.yielded in
    let k = c.loop-s.sketch in
    let t = YieldsList-turn (YieldsList-from_vec {s = c.into_iter-s-iterator.result} ms (search rules) (search rules)) done c.loop-s.s-iterator c.loop-s.yielded_by c.next.result c.next.new.self m c.in-Some.is c.next.ensures.steps in
    let more : length (done ++ m ∷ []) ≡ length done + 1 = length_push done m in
    record {
      rest = ap (λ i. fold walked_by c.put_walk.new.self (drop i ms)) more
          ∙ ap (λ (j : Sketch). fold walked_by j (drop (length done + 1) ms)) c.put_walk.ensures
          ∙ ap (λ (x : SegId × PlainWalk). fold walked_by (walked_by k x) (drop (length done + 1) ms)) t.1
          ∙ sym (at_drop_more (fold walked_by k) ms (length done) m t.0)
          ∙ c.loop-s.invariant.rest;
      can = subst (λ i. CanWalkEach c.put_walk.new.self (drop i ms)) (sym more)
          (subst (λ (j : Sketch). CanWalkEach j (drop (length done + 1) ms)) (sym c.put_walk.ensures) (next k ms (length done) m t.0 t.1 c.loop-s.invariant.can).1);
    }

pub returns : goal.returns
returns c =
    let ms = c.args.walks.items in
    let all = YieldsList-end (YieldsList-from_vec {s = c.into_iter-s-iterator.result} ms (search rules) (search rules)) c.loop-s.yielded c.loop-s.s-iterator c.loop-s.yielded_by c.next.result c.next.new.self c.in-None.is c.next.ensures.steps in
    sym (at_drop_all (fold walked_by c.loop-s.sketch) ms (length c.loop-s.yielded) (omega (arith, all.1))) ∙ c.loop-s.invariant.rest
