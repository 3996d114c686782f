use Rattle.std.proofs.Common.{◌≡◌, ◌+◌, List, drop, fold, Some, ap, subst, sym, ◌∙◌, arith}
use Rattle.std.specs.List.{AllByRecursion}
use Rattle.std.proofs.lemmas.List.{at_drop_all}
use Rattle.octi_grid.specs.declared.dir.Dir.{Dir}
use Rattle.octi_grid.specs.declared.point.GridPoint.{GridPoint}
use Rattle.octi_grid.specs.declared.walk.Run.{Run}
use Rattle.octi_grid.specs.Ways.{points_from, IsWithin}
use Rattle.octi_grid.specs.Runs.{steps_of}
use Rattle.octi_grid.proofs.WayLemmas.{first_of-points, last_of-points, run_short}
use Rattle.octi_grid.proofs.RunLemmas.{points_of_rest, points_of_run}
use Rattle.svg_writer.specs.Picture.{bounds_with}
use Rattle.svg_writer.proofs.Hulls.{holds_with, hull_begins, hull_more, hull_ends}
use Rattle.svg_writer.proofs.walked.with_walk.Goals as goal

pub with_point-bounds-requires-clause-point : goal.with_point-bounds-requires-clause-point
with_point-bounds-requires-clause-point c =
    subst IsWithin (sym c.start-at.ensures) (first_of-points IsWithin c.args.walk.now.start c.args.walk.now.steps c.runs-runs.ensures.walk.within)

pub loop-run-init : goal.loop-run-init
loop-run-init c =
    let w = c.args.walk.now in
    let runs = c.runs-runs.result.now in
    let value : Some c.with_point-bounds.result ≡ bounds_with c.args.bounds w.start = c.with_point-bounds.ensures.value ∙ ap (bounds_with c.args.bounds) c.start-at.ensures in
    record {
      whole =
          ap (λ (p : GridPoint). fold bounds_with (Some c.with_point-bounds.result) (points_from p (steps_of runs))) c.start-at.ensures
          ∙ ap (λ (ds : List Dir). fold bounds_with (Some c.with_point-bounds.result) (points_from w.start ds)) c.runs-runs.ensures.steps
          ∙ hull_begins c.args.bounds c.with_point-bounds.result w.start w.steps value;
      holds = holds_with c.args.bounds c.with_point-bounds.result c.start-at.result c.with_point-bounds.ensures.value;
      small = c.with_point-bounds.ensures.small;
      within =
          subst (λ (p : GridPoint). AllByRecursion IsWithin (points_from p (steps_of runs))) (sym c.start-at.ensures)
          (subst (λ (ds : List Dir). AllByRecursion IsWithin (points_from w.start ds)) (sym c.runs-runs.ensures.steps) c.runs-runs.ensures.walk.within);
    }

pub run_end-at-requires-clause-at : goal.run_end-at-requires-clause-at
run_end-at-requires-clause-at c = first_of-points IsWithin c.loop-run.at _ c.loop-run.invariant.within

pub run_end-at-requires-clause-count : goal.run_end-at-requires-clause-count
run_end-at-requires-clause-count c = run_short c.loop-run.at _ _ (points_of_run c.loop-run.at c.runs-runs.result.now c.loop-run.run-index c.loop-run-test.true c.loop-run.invariant.within)

pub with_point-bounds-requires-in-loop-run-clause-point : goal.with_point-bounds-requires-in-loop-run-clause-point
with_point-bounds-requires-in-loop-run-clause-point c =
    subst IsWithin (sym c.run_end-at.ensures)
    (last_of-points IsWithin c.loop-run.at _ (points_of_run c.loop-run.at c.runs-runs.result.now c.loop-run.run-index c.loop-run-test.true c.loop-run.invariant.within))

pub loop-run-preserved : goal.loop-run-preserved
loop-run-preserved c =
    let rs = c.runs-runs.result.now in
    record {
      whole =
          hull_more rs c.loop-run.run-index c.loop-run.bounds c.with_point-bounds-in-loop-run.result c.loop-run.at c.run_end-at.result _ c.loop-run-test.true c.run_end-at.ensures
          c.with_point-bounds-in-loop-run.ensures.value c.loop-run.invariant.holds c.loop-run.invariant.whole;
      holds = holds_with (Some c.loop-run.bounds) c.with_point-bounds-in-loop-run.result c.run_end-at.result c.with_point-bounds-in-loop-run.ensures.value;
      small = c.with_point-bounds-in-loop-run.ensures.small;
      within =
          subst (λ (p : GridPoint). AllByRecursion IsWithin (points_from p (steps_of (drop (c.loop-run.run-index + 1) rs)))) (sym c.run_end-at.ensures)
          (points_of_rest c.loop-run.at rs c.loop-run.run-index c.loop-run-test.true c.loop-run.invariant.within);
    }

pub returns-clause-value : goal.returns-clause-value
returns-clause-value c =
    hull_ends c.loop-run.bounds c.loop-run.at c.loop-run.invariant.holds
    ∙ sym (at_drop_all (λ (rs : List Run). fold bounds_with (Some c.loop-run.bounds) (points_from c.loop-run.at (steps_of rs))) c.runs-runs.result.now c.loop-run.run-index (omega arith))
    ∙ c.loop-run.invariant.whole
