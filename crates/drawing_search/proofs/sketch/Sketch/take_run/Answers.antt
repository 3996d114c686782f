use Rattle.std.proofs.Common.{◌≡◌, ◌+◌, List, fold, get_or, drop, sym, ap, subst, ◌∙◌}
use Rattle.drawing_search.proofs.Common.{at_drop_all, at_drop_more, inner_nodes, lifted, without_walks, AreLiftable}
use Rattle.drawing_search.proofs.Common.{AreOnGraph, ChainStep, IsLegalSketch, Sketch}
use Rattle.drawing_search.proofs.RunReads.{run_on_graph}
use Rattle.drawing_search.proofs.TakenOff.{off_legal}
use Rattle.drawing_search.proofs.sketch.Sketch.take_run.Goals as goal

abbrev none : ChainStep
none = record { seg = record { 0 = 0 }; to = record { 0 = 0 } }

pub take_walk-requires-clause-segment : goal.take_walk-requires-clause-segment
take_walk-requires-clause-segment c = (subst (AreOnGraph c.args.graph.now) (sym c.as_slice-steps.ensures) (run_on_graph c.args.graph.now c.requires.graph c.args.run.now c.requires.takable.run) c.loop-step.step-index none c.loop-step-test.true).0

pub loop-step-preserved : goal.loop-step-preserved
loop-step-preserved c =
    let ts = c.as_slice-steps.result.now in
    let i = c.loop-step.step-index in
    let k = c.loop-step.self in
    record {
      rest = ap (λ (j : Sketch). without_walks j (drop (i + 1) ts)) c.take_walk.ensures.rest ∙ sym (at_drop_more (without_walks k) ts i none c.loop-step-test.true) ∙ c.loop-step.invariant.rest;
      legal = subst (IsLegalSketch c.args.graph.now) (sym c.take_walk.ensures.rest) (off_legal c.args.graph.now c.requires.graph k c.loop-step.invariant.legal (get_or ts i none).seg);
    }

pub lift_between-requires : goal.lift_between-requires
lift_between-requires c =
    let ts = c.as_slice-steps.result.now in
    let off : c.loop-step.self ≡ without_walks c.args.self.now ts = sym (at_drop_all (without_walks c.loop-step.self) ts c.loop-step.step-index c.loop-step-test.false) ∙ c.loop-step.invariant.rest in
    subst (λ (k : Sketch). AreLiftable c.args.graph.now k (inner_nodes ts)) (sym off)
    (subst (λ (v : List ChainStep). AreLiftable c.args.graph.now (without_walks c.args.self.now v) (inner_nodes v)) (sym c.as_slice-steps.ensures) c.requires.takable.inner)

pub returns : goal.returns
returns c =
    let ts = c.as_slice-steps.result.now in
    let off : c.loop-step.self ≡ without_walks c.args.self.now ts = sym (at_drop_all (without_walks c.loop-step.self) ts c.loop-step.step-index c.loop-step-test.false) ∙ c.loop-step.invariant.rest in
    c.lift_between.ensures
    ∙ ap (λ (k : Sketch). fold lifted k (inner_nodes ts)) off
    ∙ ap (λ (v : List ChainStep). fold lifted (without_walks c.args.self.now v) (inner_nodes v)) c.as_slice-steps.ensures
