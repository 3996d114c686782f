use Rattle.std.proofs.Common.{◌≡◌, ◌+◌, ◌++◌, List, [], drop, get_or, replicate, refl, sym, ap, ◌∙◌, subst, append-nil, arith}
use Rattle.std.proofs.lemmas.List.{at_drop_all}
use Rattle.std.specs.List.{AllByRecursion}
use Rattle.octi_grid.specs.declared.dir.Dir.{Dir}
use Rattle.octi_grid.specs.declared.point.GridPoint.{GridPoint}
use Rattle.octi_grid.specs.declared.walk.Run.{Run}
use Rattle.octi_grid.specs.Ways.{points_from, IsWithin}
use Rattle.octi_grid.specs.Runs.{steps_of}
use Rattle.octi_grid.proofs.WayLemmas.{first_of-points, run_short}
use Rattle.octi_grid.proofs.RunLemmas.{no_run, points_of_rest, points_of_run}
use Rattle.label_place.specs.declared.things.Thing.{Thing}
use Rattle.label_place.specs.Grids.{strokes_from, Adds}
use Rattle.label_place.proofs.Growing.{adds_more, adds_none}
use Rattle.label_place.proofs.Stepping.{run_more}
use Rattle.label_place.proofs.filling.put_walk.Goals as goal

pub loop-run-init : goal.loop-run-init
loop-run-init c =
    let w = c.args.walk.now in
    let runs = c.runs-runs.result.now in
    record {
      so_far = [];
      adds = adds_none c.args.grid.now c.requires.linked;
      whole = ap (λ (p : GridPoint). strokes_from c.args.margin p (steps_of runs)) c.start-at.ensures
          ∙ ap (λ (ds : List Dir). strokes_from c.args.margin w.start ds) c.runs-runs.ensures.steps;
      within =
          subst (λ (p : GridPoint). AllByRecursion IsWithin (points_from p (steps_of runs))) (sym c.start-at.ensures)
          (subst (λ (ds : List Dir). AllByRecursion IsWithin (points_from w.start ds)) (sym c.runs-runs.ensures.steps) c.runs-runs.ensures.walk.within);
    }

pub put_run-requires-clause-start : goal.put_run-requires-clause-start
put_run-requires-clause-start c = first_of-points IsWithin c.loop-run.at _ c.loop-run.invariant.within

pub put_run-requires-clause-count : goal.put_run-requires-clause-count
put_run-requires-clause-count c = run_short c.loop-run.at _ _ (points_of_run c.loop-run.at c.runs-runs.result.now c.loop-run.run-index c.loop-run-test.true c.loop-run.invariant.within)

pub run_end-at-requires-clause-at : goal.run_end-at-requires-clause-at
run_end-at-requires-clause-at c = first_of-points IsWithin c.loop-run.at _ c.loop-run.invariant.within

pub run_end-at-requires-clause-count : goal.run_end-at-requires-clause-count
run_end-at-requires-clause-count c = run_short c.loop-run.at _ _ (points_of_run c.loop-run.at c.runs-runs.result.now c.loop-run.run-index c.loop-run-test.true c.loop-run.invariant.within)

pub loop-run-preserved : goal.loop-run-preserved
loop-run-preserved c =
    let rs = c.runs-runs.result.now in
    let run = get_or rs c.loop-run.run-index no_run in
    let m = c.args.margin in
    let more = strokes_from m c.loop-run.at (replicate run.count run.dir) in
    record {
      so_far = c.loop-run.invariant.so_far ++ more;
      adds = adds_more c.args.grid.now c.loop-run.grid c.put_run.new.grid c.loop-run.invariant.so_far more (c.loop-run.invariant.so_far ++ more) refl c.loop-run.invariant.adds c.in_ok-put_run.ensures;
      whole = run_more m c.loop-run.at c.run_end-at.result rs c.loop-run.run-index c.loop-run.invariant.so_far _ c.loop-run-test.true c.run_end-at.ensures c.loop-run.invariant.whole;
      within =
          subst (λ (p : GridPoint). AllByRecursion IsWithin (points_from p (steps_of (drop (c.loop-run.run-index + 1) rs)))) (sym c.run_end-at.ensures)
          (points_of_rest c.loop-run.at rs c.loop-run.run-index c.loop-run-test.true c.loop-run.invariant.within);
    }

pub returns : goal.returns
returns c =
    let i = c.loop-run.invariant in
    let whole : i.so_far ≡ strokes_from c.args.margin c.args.walk.now.start c.args.walk.now.steps =
    sym (append-nil i.so_far)
    ∙ sym (at_drop_all (λ (rs : List Run). i.so_far ++ strokes_from c.args.margin c.loop-run.at (steps_of rs)) c.runs-runs.result.now c.loop-run.run-index (omega arith))
    ∙ i.whole in
    subst (λ (ts : List Thing). Adds c.args.grid.now c.loop-run.grid ts) whole i.adds
