use Rattle.std.proofs.Common.{◌≡◌, ℕ, ◌+◌, ◌-◌, ◌<◌, List, [], ◌∷◌, ◌++◌, length, get_or, take, drop, sym, ap, ap₂, subst, ◌∙◌, arith}
use Rattle.drawing_search.proofs.Common.{drop_more, end_point, get_or_read, nowhere, piece_along, point_at, step_from}
use Rattle.drawing_search.proofs.Common.{Dir, GridPoint, IsTrack, IsWithin, PlainWalk}
use Rattle.drawing_search.proofs.Steps.{long, on_step, piece_end, piece_more, point_within}
use Rattle.drawing_search.proofs.cutting.Track.piece.Goals as goal

abbrev walk_of : GridPoint → List Dir → PlainWalk
walk_of p ds = record { start = p; steps = ds }

-- a step from a point of it leads to the next one
within_next : (ps : List GridPoint) (ds : List Dir) → IsTrack ps ds → (i : ℕ) (p : GridPoint) (d : Dir) → i < length ds → p ≡ point_at ps i → d ≡ get_or ds i d → IsWithin (step_from p d)
within_next ps ds t i p d h at is = subst IsWithin (on_step ps ds t i d h ∙ sym (ap₂ step_from at is)) (point_within ps ds t (i + 1) (omega arith))

first_step : (ds : List Dir) (i : ℕ) (d : Dir) → i < length ds → take (i + 1 - i) (drop i ds) ≡ get_or ds i d ∷ []
first_step ds i d h = let one : i + 1 - i ≡ 1 = omega arith in ap₂ (λ n (v : List Dir). take n v) one (drop_more ds i d h)

pub index-requires : goal.index-requires
index-requires c = omega (arith, long c.args.self.now.points.items c.args.self.now.steps.items c.requires.track, c.requires.order, c.requires.within)

pub of_step-requires : goal.of_step-requires
of_step-requires c =
    let ps = c.args.self.now.points.items in
    let ds = c.args.self.now.steps.items in
    record {
      start =
          subst IsWithin (sym (get_or_read ps c.args.from c.index.result.now (omega (arith, long ps ds c.requires.track, c.requires.order, c.requires.within)) c.index.ensures nowhere))
          (point_within ps ds c.requires.track c.args.from (omega (arith, c.requires.order, c.requires.within)));
      end =
          within_next ps ds c.requires.track c.args.from c.index.result.now c.index-2.result.now (omega (arith, c.requires.order, c.requires.within))
          (get_or_read ps c.args.from c.index.result.now (omega (arith, long ps ds c.requires.track, c.requires.order, c.requires.within)) c.index.ensures nowhere) c.index-2.ensures;
    }

pub loop-i-init : goal.loop-i-init
loop-i-init c =
    let ps = c.args.self.now.points.items in
    let ds = c.args.self.now.steps.items in
    c.in_ok-walk.ensures
    ∙ ap₂ walk_of (get_or_read ps c.args.from c.index.result.now (omega (arith, long ps ds c.requires.track, c.requires.order, c.requires.within)) c.index.ensures nowhere)
    (ap (λ (d : Dir). (let v : List Dir = d ∷ [] in v)) c.index-2.ensures ∙ sym (first_step ds c.args.from c.index-2.result.now (omega (arith, c.requires.order, c.requires.within))))

pub push-requires : goal.push-requires
push-requires c =
    let ps = c.args.self.now.points.items in
    let ds = c.args.self.now.steps.items in
    within_next ps ds c.requires.track c.loop-i.i (end_point c.loop-i.walk) c.index-in-loop-i.result.now (omega (arith, c.loop-i-test.true, c.requires.within))
    (ap end_point c.loop-i.invariant ∙ piece_end ps ds c.requires.track c.args.from c.loop-i.i (omega (arith, c.loop-i.auto.i)) (omega (arith, c.loop-i-test.true, c.requires.within))) c.index-in-loop-i.ensures

pub loop-i-preserved : goal.loop-i-preserved
loop-i-preserved c =
    let ps = c.args.self.now.points.items in
    let ds = c.args.self.now.steps.items in
    c.in_ok-push.ensures.ok
    ∙ ap₂ (λ (w : PlainWalk) (d : Dir). walk_of w.start (w.steps ++ d ∷ [])) c.loop-i.invariant c.index-in-loop-i.ensures
    ∙ ap (walk_of (point_at ps c.args.from)) (sym (piece_more ps ds c.requires.track c.args.from c.loop-i.i c.index-in-loop-i.result.now (omega (arith, c.loop-i.auto.i)) (omega (arith, c.loop-i-test.true, c.requires.within))))

pub returns : goal.returns
returns c =
    let at_end : c.loop-i.i ≡ c.args.to = omega (arith, c.loop-i-test.false, c.loop-i.auto.i-end (omega (arith, c.requires.order)), c.requires.order) in
    c.loop-i.invariant ∙ ap (piece_along c.args.self.now.points.items c.args.self.now.steps.items c.args.from) at_end
