use Rattle.std.proofs.Common.{◌≡◌, refl, sym, ◌∙◌, ap, subst, ◌+◌, ◌<◌, true, false, nat_le, nat_lt, List, length, arith}
use Rattle.std.proofs.lemmas.Result.{err_from_is_err_and}
use Rattle.drawing_search.proofs.Common.{even_steps, is_even, option_map, point_at, vec_items, ChainStep, GridPoint}
use Rattle.drawing_search.proofs.FewSteps.{run_few}
use Rattle.drawing_search.proofs.Laid.{cuts_none, none_laid, uncut_laid, few_points, first_even, some_points}
use Rattle.drawing_search.proofs.RunReads.{no_step}
use Rattle.drawing_search.proofs.RunSteps.{cut_run, step_laid, step_ready, way_begins, way_cuts, way_ends}
use Rattle.drawing_search.proofs.sketch.Sketch.lay.Goals as goal

pub returns-in_default : goal.returns-in_default
returns-in_default c = (none_laid c.args.graph.now c.args.most c.args.run.now c.args.self.now (sym c.in_default.is ∙ c.in_ok-walk.ensures), refl)

pub returns-in_err-track : goal.returns-in_err-track
returns-in_err-track c = let p = err_from_is_err_and c.from_residual-in_err-track.result c.from_residual-in_err-track.ensures.1 in rw p.1 tt

pub cuts-requires : goal.cuts-requires
cuts-requires c =
    let found = sym c.in-Some.is ∙ c.in_ok-walk.ensures in
    record {
      pieces = omega (arith, c.requires.run.some, ap length c.as_slice-steps.ensures);
      some =
          subst (λ (ps : List GridPoint). 0 < length ps) (sym c.in_ok-track.ensures.points)
          (some_points c.args.graph.now c.requires.graph c.args.self.now c.requires.legal c.args.run.now c.requires.run c.requires.free c.args.most c.in-Some.walk found);
      few =
          subst (λ (ps : List GridPoint). length ps < 2147483648) (sym c.in_ok-track.ensures.points)
          (few_points c.args.graph.now c.requires.graph c.args.self.now c.requires.legal c.args.run.now c.requires.run c.requires.free c.args.most c.in-Some.walk found);
      few_pieces = omega (arith, run_few c.args.graph.now c.requires.graph c.args.run.now c.requires.run, ap length c.as_slice-steps.ensures);
      even =
          subst (λ (ps : List GridPoint). is_even (point_at ps 0) ≡ true) (sym c.in_ok-track.ensures.points)
          (first_even c.args.graph.now c.requires.graph c.args.self.now c.requires.legal c.args.run.now c.requires.run c.requires.free c.args.most c.in-Some.walk found);
    }

pub returns-in_err-cuts : goal.returns-in_err-cuts
returns-in_err-cuts c = let p = err_from_is_err_and c.from_residual-in_err-cuts.result c.from_residual-in_err-cuts.ensures.1 in rw p.1 tt

pub returns-in_default-2 : goal.returns-in_default-2
returns-in_default-2 c =
    let found = sym c.in-Some.is ∙ c.in_ok-walk.ensures in
    let few = cuts_none c.in_ok-track.track.points.items (length c.as_slice-steps.result.now) (sym (ap (option_map vec_items) c.in_default-2.is) ∙ c.in_ok-cuts.ensures) in (
      uncut_laid c.args.graph.now c.args.most c.args.run.now c.args.self.now c.in-Some.walk found
          (subst (λ (ps : List GridPoint). nat_le (length c.args.run.now.steps) (even_steps ps) ≡ false) c.in_ok-track.ensures.points
          (subst (λ (ts : List ChainStep). nat_le (length ts) (even_steps c.in_ok-track.track.points.items) ≡ false) c.as_slice-steps.ensures few)),
      refl,
    )

pub loop-i-init : goal.loop-i-init
loop-i-init c =
    way_begins c.args.graph.now c.requires.graph c.args.self.now c.requires.legal c.args.run.now c.requires.run c.requires.free c.args.most c.in_ok-track.track.points.items c.in_ok-track.track.steps.items c.in-Some-2.cuts.items c.as_slice-steps.result.now c.as_slice-steps.ensures
    c.in-Some.walk
    (cut_run c.args.graph.now c.args.self.now c.args.run.now c.args.most c.in-Some.walk c.in_ok-track.track.points.items c.in_ok-track.track.steps.items c.in-Some-2.cuts.items c.as_slice-steps.result.now
    (sym c.in-Some.is ∙ c.in_ok-walk.ensures) c.in_ok-track.ensures.points c.in_ok-track.ensures.steps c.in_ok-track.ensures.track c.as_slice-steps.ensures (sym (ap (option_map vec_items) c.in-Some-2.is) ∙ c.in_ok-cuts.ensures))

pub index-requires : goal.index-requires
index-requires c =
    let many = way_cuts c.args.graph.now c.requires.graph c.args.self.now c.requires.legal c.args.run.now c.requires.run c.requires.free c.args.most c.in_ok-track.track.points.items c.in_ok-track.track.steps.items c.in-Some-2.cuts.items c.as_slice-steps.result.now c.as_slice-steps.ensures
    c.loop-i.i c.loop-i.at c.loop-i.self c.loop-i.invariant in
    omega (arith, many, c.loop-i-test.true, c.in-Some-2.cuts.ok.0)

pub index-requires-in-loop-i : goal.index-requires-in-loop-i
index-requires-in-loop-i c =
    let many = way_cuts c.args.graph.now c.requires.graph c.args.self.now c.requires.legal c.args.run.now c.requires.run c.requires.free c.args.most c.in_ok-track.track.points.items c.in_ok-track.track.steps.items c.in-Some-2.cuts.items c.as_slice-steps.result.now c.as_slice-steps.ensures
    c.loop-i.i c.loop-i.at c.loop-i.self c.loop-i.invariant in
    omega (arith, many, c.loop-i-test.true, c.in-Some-2.cuts.ok.0)

pub lay_step-requires : goal.lay_step-requires
lay_step-requires c =
    let ready = step_ready c.args.graph.now c.requires.graph c.args.self.now c.requires.legal c.args.run.now c.requires.run c.requires.free c.args.most c.in_ok-track.track.points.items c.in_ok-track.track.steps.items c.in-Some-2.cuts.items c.as_slice-steps.result.now c.as_slice-steps.ensures
    c.loop-i.i c.loop-i.at c.loop-i.self c.loop-i.invariant c.loop-i-test.true c.index.result.now c.index-in-loop-i.result.now c.index.ensures c.index-in-loop-i.ensures no_step (nat_lt (c.loop-i.i + 1) (length c.as_slice-steps.result.now)) refl in
    record {
      segment = ready.segment;
      node = ready.node;
      legal = ready.legal;
      free = ready.free;
      to = ready.to;
      track = c.in_ok-track.ensures.track;
      order = ready.order;
      within = ready.within;
      inside = ready.inside;
      even = ready.even;
    }

pub loop-i-preserved : goal.loop-i-preserved
loop-i-preserved c =
    step_laid c.args.graph.now c.requires.graph c.args.self.now c.requires.legal c.args.run.now c.requires.run c.requires.free c.args.most c.in_ok-track.track.points.items c.in_ok-track.track.steps.items c.in-Some-2.cuts.items c.as_slice-steps.result.now c.as_slice-steps.ensures
    c.loop-i.i c.loop-i.at c.loop-i.self c.loop-i.invariant c.loop-i-test.true c.index.result.now c.index-in-loop-i.result.now c.index.ensures c.index-in-loop-i.ensures no_step c.lay_step.new.self c.in_ok-lay_step.ensures

pub returns : goal.returns
returns c =
    way_ends c.args.graph.now c.requires.graph c.args.self.now c.requires.legal c.args.run.now c.requires.run c.requires.free c.args.most c.in_ok-track.track.points.items c.in_ok-track.track.steps.items c.in-Some-2.cuts.items c.as_slice-steps.result.now c.as_slice-steps.ensures
    c.loop-i.i c.loop-i.at c.loop-i.self c.loop-i.invariant c.loop-i-test.false
