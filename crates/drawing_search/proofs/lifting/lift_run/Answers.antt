use Rattle.std.proofs.Common.{◌≡◌, ℕ, ◌+◌, ◌<◌, List, [], ◌∷◌, ◌++◌, pos, length, map, fold, get_or, drop, append_assoc, append-nil, Option, Some, None, option_map, sym, ap, ap₂, subst, ◌∙◌, refl, zero, suc, inl, inr, arith, get_or-set_other}
use Rattle.run_laying.specs.Sketches.{lifted as lifted_off, walk_in, with_walk_of, IsLegalSketch}
use Rattle.drawing_search.proofs.Common.{at_drop_all, at_drop_more, cons_option, inner_nodes, once_first, points_along}
use Rattle.drawing_search.proofs.Common.{walks_along, without_walks, AreLiftable, AreOnce, AreOnGraph, ChainStep}
use Rattle.drawing_search.proofs.Common.{GridPoint, LeastTurns, Lifted, NodeId, OnOk, PlainWalk, SegId, Sketch}
use Rattle.drawing_search.proofs.RunReads.{run_on_graph}
use Rattle.drawing_search.proofs.TakenOff.{off_legal}
use Rattle.drawing_search.proofs.lifting.lift_run.Goals.{in-Some+in_ok-push, in_default}
use Rattle.run_laying.proofs.RunFacts.{IsOff}
use Rattle.drawing_search.proofs.lifting.lift_run.Goals as goal

-- steps over other segments keep theirs
walks_off : (k : Sketch) (s : SegId) (ts : List ChainStep) → IsOff ts s → walks_along (with_walk_of k s None) ts ≡ walks_along k ts
walks_off k s [] off = refl
walks_off k s (t ∷ ts) off =
    ap₂ (λ (o : Option PlainWalk) (rest : List (SegId × PlainWalk)). cons_option (option_map (λ (w : PlainWalk). (t.seg, w)) o) rest) (get_or-set_other k.walks s.0 t.seg.0 None None (off t (inl refl)))
    (walks_off k s ts (λ q i e. off q (inr i) e))

-- and those that follow a step go over others
once_rest : (ts : List ChainStep) (i : ℕ) (d : ChainStep) → AreOnce ts → i < length ts → IsOff (drop (i + 1) ts) (get_or ts i d).seg
once_rest [] i d once h = absurd (omega (arith, h))
once_rest (t ∷ ts) zero d once h = once_first t ts once
once_rest (t ∷ ts) (suc i) d once h =
    let next : suc i + 1 ≡ suc (i + 1) = omega arith in
    subst (λ k. IsOff (drop k (t ∷ ts)) (get_or ts i d).seg) (sym next) (once_rest ts i d once.1 (omega (arith, h)))

abbrev none : ChainStep
none = record { seg = record { 0 = 0 }; to = record { 0 = 0 } }

-- what the next step has is listed, and it loses its walk
one_walk : (k new : Sketch) (ts : List ChainStep) (i : ℕ) (o : Option PlainWalk) (before walks : List (SegId × PlainWalk)) → AreOnce ts → i < length ts → o ≡ walk_in k (get_or ts i none).seg → new ≡ with_walk_of k (get_or ts i none).seg None
    → walks ≡ before ++ cons_option (option_map (λ (w : PlainWalk). ((get_or ts i none).seg, w)) o) [] → walks ++ walks_along new (drop (i + 1) ts) ≡ before ++ walks_along k (drop i ts)
one_walk k new ts i o before walks once h came is listed =
    ap₂ (λ (v : List (SegId × PlainWalk)) (j : Sketch). v ++ walks_along j (drop (i + 1) ts)) listed is
    ∙ ap₂ (λ (p : Option PlainWalk) (v : List (SegId × PlainWalk)). (before ++ cons_option (option_map (λ (w : PlainWalk). ((get_or ts i none).seg, w)) p) []) ++ v) came (walks_off k (get_or ts i none).seg (drop (i + 1) ts) (once_rest ts i none once h))
    ∙ joined before (option_map (λ (w : PlainWalk). ((get_or ts i none).seg, w)) (walk_in k (get_or ts i none).seg)) (walks_along k (drop (i + 1) ts))
    ∙ ap (λ (v : List (SegId × PlainWalk)). before ++ v) (sym (at_drop_more (walks_along k) ts i none h))
  where
    joined : (xs : List (SegId × PlainWalk)) (m : Option (SegId × PlainWalk)) (ys : List (SegId × PlainWalk)) → (xs ++ cons_option m []) ++ ys ≡ xs ++ cons_option m ys
    joined xs None ys = ap (λ (v : List (SegId × PlainWalk)). v ++ ys) (append-nil xs)
    joined xs (Some x) ys = append_assoc xs (x ∷ []) ys

pub take_walk-requires-clause-segment : goal.take_walk-requires-clause-segment
take_walk-requires-clause-segment c = (subst (AreOnGraph c.args.field.graph.now) (sym c.as_slice-steps.ensures) (run_on_graph c.args.field.graph.now c.requires.field.graph c.args.run.now c.requires.takable.run) c.loop-step.step-index none c.loop-step-test.true).0

pub loop-step-preserved : goal.loop-step-preserved
loop-step-preserved c =
    let ts = c.as_slice-steps.result.now in
    let i = c.loop-step.step-index in
    let k = c.loop-step.sketch in
    let old = c.loop-step.lifted in
    let new = c.match-take_walk.lifted in
    let once : AreOnce ts = subst AreOnce (sym c.as_slice-steps.ensures) c.requires.takable.run.once in
    let listed : new.walks.items ≡ old.walks.items ++ cons_option (option_map (λ (w : PlainWalk). ((get_or ts i none).seg, w)) c.take_walk.result) [] =
    elim c.match-take_walk.branch [
      | in-Some+in_ok-push w ↦ ap (λ (l : Lifted). l.walks.items) w.lifted-is ∙ w.in_ok-push.ensures.items
          ∙ ap (λ (o : Option PlainWalk). old.walks.items ++ cons_option (option_map (λ (v : PlainWalk). ((get_or ts i none).seg, v)) o) []) (sym w.in-Some.is)
      | in_default w ↦ ap (λ (l : Lifted). l.walks.items) w.lifted-is ∙ sym (append-nil old.walks.items)
          ∙ ap (λ (o : Option PlainWalk). old.walks.items ++ cons_option (option_map (λ (v : PlainWalk). ((get_or ts i none).seg, v)) o) []) (sym w.in_default.is)
    ] in
    let kept : (new.inner.items ≡ old.inner.items) × (new.moved.items ≡ old.moved.items) × (new.rest ≡ old.rest) × (new.least.items ≡ old.least.items) =
    elim c.match-take_walk.branch [
      | in-Some+in_ok-push w ↦ (ap (λ (l : Lifted). l.inner.items) w.lifted-is, ap (λ (l : Lifted). l.moved.items) w.lifted-is, ap (λ (l : Lifted). l.rest) w.lifted-is, ap (λ (l : Lifted). l.least.items) w.lifted-is)
      | in_default w ↦ (ap (λ (l : Lifted). l.inner.items) w.lifted-is, ap (λ (l : Lifted). l.moved.items) w.lifted-is, ap (λ (l : Lifted). l.rest) w.lifted-is, ap (λ (l : Lifted). l.least.items) w.lifted-is)
    ] in
    record {
      rest = ap (λ (j : Sketch). without_walks j (drop (i + 1) ts)) c.take_walk.ensures.rest ∙ sym (at_drop_more (without_walks k) ts i none c.loop-step-test.true) ∙ c.loop-step.invariant.rest;
      legal = subst (IsLegalSketch c.args.field.graph.now) (sym c.take_walk.ensures.rest) (off_legal c.args.field.graph.now c.requires.field.graph k c.loop-step.invariant.legal (get_or ts i none).seg);
      walks = one_walk k c.take_walk.new.self ts i c.take_walk.result old.walks.items new.walks.items once c.loop-step-test.true c.take_walk.ensures.walk c.take_walk.ensures.rest listed ∙ c.loop-step.invariant.walks;
      points = ap (λ (j : Sketch). j.points) c.take_walk.ensures.rest ∙ c.loop-step.invariant.points;
      inner = kept.0 ∙ c.loop-step.invariant.inner;
      moved = kept.1 ∙ c.loop-step.invariant.moved;
      weight = kept.2 ∙ c.loop-step.invariant.weight;
      least = kept.3 ∙ c.loop-step.invariant.least;
    }

pub lift_between-requires : goal.lift_between-requires
lift_between-requires c =
    let ts = c.as_slice-steps.result.now in
    let off : c.loop-step.sketch ≡ without_walks c.args.sketch.now ts = sym (at_drop_all (without_walks c.loop-step.sketch) ts c.loop-step.step-index c.loop-step-test.false) ∙ c.loop-step.invariant.rest in
    subst (λ (k : Sketch). AreLiftable c.args.field.graph.now k (inner_nodes ts)) (sym off)
    (subst (λ (v : List ChainStep). AreLiftable c.args.field.graph.now (without_walks c.args.sketch.now v) (inner_nodes v)) (sym c.as_slice-steps.ensures) c.requires.takable.inner)

pub returns : goal.returns
returns c =
    let ts = c.as_slice-steps.result.now in
    let off : c.loop-step.sketch ≡ without_walks c.args.sketch.now ts = sym (at_drop_all (without_walks c.loop-step.sketch) ts c.loop-step.step-index c.loop-step-test.false) ∙ c.loop-step.invariant.rest in
    record {
      sketch =
          subst (λ (x : Sketch). OnOk c.lift_between.result (c.lift_between.new.sketch ≡ x))
          (ap (λ (k : Sketch). fold lifted_off k (inner_nodes ts)) off ∙ ap (λ (v : List ChainStep). fold lifted_off (without_walks c.args.sketch.now v) (inner_nodes v)) c.as_slice-steps.ensures) c.lift_between.ensures.sketch;
      walks =
          subst (λ (x : List (SegId × PlainWalk)). OnOk c.lift_between.result (c.lift_between.new.lifted.walks.items ≡ x))
          (sym (append-nil c.loop-step.lifted.walks.items)
          ∙ sym (at_drop_all (λ (v : List ChainStep). c.loop-step.lifted.walks.items ++ walks_along c.loop-step.sketch v) ts c.loop-step.step-index c.loop-step-test.false)
          ∙ c.loop-step.invariant.walks
          ∙ ap (λ (v : List ChainStep). c.args.lifted.now.walks.items ++ walks_along c.args.sketch.now v) c.as_slice-steps.ensures)
          c.lift_between.ensures.walks;
      inner =
          subst (λ (x : List (NodeId × GridPoint)). OnOk c.lift_between.result (c.lift_between.new.lifted.inner.items ≡ x))
          (ap₂ (λ (v : List (NodeId × GridPoint)) (ps : List GridPoint). v ++ map (λ (n : NodeId). (n, get_or ps n.0 (record { x = pos 0; y = pos 0 }))) (inner_nodes ts)) c.loop-step.invariant.inner c.loop-step.invariant.points
          ∙ ap (λ (v : List ChainStep). c.args.lifted.now.inner.items ++ points_along c.args.sketch.now v) c.as_slice-steps.ensures)
          c.lift_between.ensures.inner;
      moved = subst (λ (x : List (NodeId × GridPoint)). OnOk c.lift_between.result (c.lift_between.new.lifted.moved.items ≡ x)) c.loop-step.invariant.moved c.lift_between.ensures.moved;
      rest = subst (λ (x : ℕ). OnOk c.lift_between.result (c.lift_between.new.lifted.rest ≡ x)) c.loop-step.invariant.weight c.lift_between.ensures.rest;
      least = subst (λ (x : List LeastTurns). OnOk c.lift_between.result (c.lift_between.new.lifted.least.items ≡ x)) c.loop-step.invariant.least c.lift_between.ensures.least;
    }
