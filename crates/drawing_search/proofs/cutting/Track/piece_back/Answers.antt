use Rattle.std.proofs.Common.{◌≡◌, ℕ, suc, ◌+◌, ◌-◌, ◌<◌, List, [], ◌∷◌, ◌++◌, length, map, reverse, get_or, take, drop, sym, ap, ap₂, subst, ◌∙◌, arith}
use Rattle.drawing_search.proofs.Common.{back_end, end_point, get_or_read, nowhere, piece_along, point_at, reverse_of}
use Rattle.drawing_search.proofs.Common.{reversed_walk, step_back, step_from, Dir, GridPoint, IsTrack, IsWithin}
use Rattle.drawing_search.proofs.Common.{PlainWalk}
use Rattle.drawing_search.proofs.Steps.{back_more, long, on_step, piece_end, point_within}
use Rattle.drawing_search.proofs.cutting.Track.piece_back.Goals as goal

abbrev walk_of : GridPoint → List Dir → PlainWalk
walk_of p ds = record { start = p; steps = ds }

-- a step back from a point of it leads to the one before
back_step : (ps : List GridPoint) (ds : List Dir) → IsTrack ps ds → (i : ℕ) (p : GridPoint) (d e : Dir) → i < length ds → p ≡ point_at ps (i + 1) → d ≡ get_or ds i d → e ≡ reverse_of d → step_from p e ≡ point_at ps i
back_step ps ds t i p d e h at is turned = ap₂ step_from (at ∙ on_step ps ds t i d h ∙ ap (step_from (point_at ps i)) (sym is)) turned ∙ step_back (point_at ps i) d

within_back : (ps : List GridPoint) (ds : List Dir) → IsTrack ps ds → (i : ℕ) (p : GridPoint) (d e : Dir) → i < length ds → p ≡ point_at ps (i + 1) → d ≡ get_or ds i d → e ≡ reverse_of d → IsWithin (step_from p e)
within_back ps ds t i p d e h at is turned = subst IsWithin (sym (back_step ps ds t i p d e h at is turned)) (point_within ps ds t i (omega (arith, h)))

-- the last step, walked back
last_step : (ps : List GridPoint) (ds : List Dir) → IsTrack ps ds → (b : ℕ) (p : GridPoint) (d e : Dir) → 0 < b → b < suc (length ds) → p ≡ point_at ps b → d ≡ get_or ds (b - 1) d → e ≡ reverse_of d
    → walk_of p (e ∷ []) ≡ reversed_walk (piece_along ps ds (b - 1) b)
last_step ps ds t b p d e some h at is turned =
    let none : b - (b - 1 + 1) ≡ 0 = omega (arith, some) in
    ap₂ walk_of (at ∙ sym (piece_end ps ds t (b - 1) b (omega arith) (omega (arith, h))))
    (ap (λ (x : Dir). (let v : List Dir = x ∷ [] in v)) (turned ∙ ap reverse_of is)
    ∙ sym
    (back_more ps ds t (b - 1) b d (omega (arith, some)) (omega (arith, h))
    ∙ ap (λ n. map reverse_of (reverse (take n (drop (b - 1 + 1) ds))) ++ reverse_of (get_or ds (b - 1) d) ∷ []) none))

-- one step more, walked back
one_step : (ps : List GridPoint) (ds : List Dir) → IsTrack ps ds → (b i : ℕ) (w : PlainWalk) (d e : Dir) → i < b → b < suc (length ds) → w ≡ reversed_walk (piece_along ps ds (b - i) b) → d ≡ get_or ds (b - 1 - i) d → e ≡ reverse_of d
    → walk_of w.start (w.steps ++ e ∷ []) ≡ reversed_walk (piece_along ps ds (b - (i + 1)) b)
one_step ps ds t b i w d e h within is there turned =
    let at : b - 1 - i ≡ b - (i + 1) = omega (arith, h) in
    let next : b - (i + 1) + 1 ≡ b - i = omega (arith, h) in
    ap₂ (λ (v : PlainWalk) (x : Dir). walk_of v.start (v.steps ++ x ∷ [])) is (turned ∙ ap reverse_of there ∙ ap (λ n. reverse_of (get_or ds n d)) at)
    ∙ ap₂ walk_of (piece_end ps ds t (b - i) b (omega arith) (omega (arith, within)) ∙ sym (piece_end ps ds t (b - (i + 1)) b (omega arith) (omega (arith, within))))
    (sym
    (back_more ps ds t (b - (i + 1)) b d (omega (arith, h)) (omega (arith, within))
    ∙ ap (λ n. map reverse_of (reverse (take (b - n) (drop n ds))) ++ reverse_of (get_or ds (b - (i + 1)) d) ∷ []) next))

pub index-requires : goal.index-requires
index-requires c = omega (arith, long c.args.self.now.points.items c.args.self.now.steps.items c.requires.track, c.requires.order, c.requires.within)

pub of_step-requires : goal.of_step-requires
of_step-requires c =
    let ps = c.args.self.now.points.items in
    let ds = c.args.self.now.steps.items in
    let whole : c.args.to ≡ c.args.to - 1 + 1 = omega (arith, c.requires.order) in
    record {
      start = subst IsWithin (sym (get_or_read ps c.args.to c.index.result.now (omega (arith, long ps ds c.requires.track, c.requires.within)) c.index.ensures nowhere)) (point_within ps ds c.requires.track c.args.to c.requires.within);
      end =
          within_back ps ds c.requires.track (c.args.to - 1) c.index.result.now c.index-2.result.now c.reverse.result (omega (arith, c.requires.order, c.requires.within))
          (get_or_read ps c.args.to c.index.result.now (omega (arith, long ps ds c.requires.track, c.requires.within)) c.index.ensures nowhere ∙ ap (point_at ps) whole) c.index-2.ensures c.reverse.ensures;
    }

pub loop-i-init : goal.loop-i-init
loop-i-init c =
    let ps = c.args.self.now.points.items in
    let ds = c.args.self.now.steps.items in
    c.in_ok-walk.ensures
    ∙ last_step ps ds c.requires.track c.args.to c.index.result.now c.index-2.result.now c.reverse.result (omega (arith, c.requires.order)) (omega (arith, c.requires.within))
    (get_or_read ps c.args.to c.index.result.now (omega (arith, long ps ds c.requires.track, c.requires.within)) c.index.ensures nowhere) c.index-2.ensures c.reverse.ensures

pub push-requires : goal.push-requires
push-requires c =
    let ps = c.args.self.now.points.items in
    let ds = c.args.self.now.steps.items in
    let i = c.loop-i.i in
    let next : c.args.to - i ≡ c.args.to - 1 - i + 1 = omega (arith, c.loop-i-test.true) in
    within_back ps ds c.requires.track (c.args.to - 1 - i) (end_point c.loop-i.walk) c.index-in-loop-i.result.now c.reverse-in-loop-i.result (omega (arith, c.loop-i-test.true, c.requires.within))
    (ap end_point c.loop-i.invariant ∙ back_end (piece_along ps ds (c.args.to - i) c.args.to) ∙ ap (point_at ps) next) c.index-in-loop-i.ensures c.reverse-in-loop-i.ensures

pub loop-i-preserved : goal.loop-i-preserved
loop-i-preserved c =
    c.in_ok-push.ensures.ok
    ∙ one_step c.args.self.now.points.items c.args.self.now.steps.items c.requires.track c.args.to c.loop-i.i c.loop-i.walk c.index-in-loop-i.result.now c.reverse-in-loop-i.result (omega (arith, c.loop-i-test.true)) (omega (arith, c.requires.within))
    c.loop-i.invariant c.index-in-loop-i.ensures c.reverse-in-loop-i.ensures

pub returns : goal.returns
returns c =
    let at_end : c.args.to - c.loop-i.i ≡ c.args.from = omega (arith, c.loop-i-test.false, c.loop-i.auto.i-end (omega (arith, c.requires.order)), c.requires.order) in
    c.loop-i.invariant ∙ ap (λ n. reversed_walk (piece_along c.args.self.now.points.items c.args.self.now.steps.items n c.args.to)) at_end
