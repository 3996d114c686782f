use Rattle.std.proofs.Common.{◌+◌, drop, sym, ap, ◌∙◌, subst}
use Rattle.std.specs.List.{AllByRecursion}
use Rattle.octi_grid.specs.declared.point.GridPoint.{GridPoint}
use Rattle.octi_grid.specs.Ways.{after, points_from, IsWithin}
use Rattle.octi_grid.specs.Runs.{steps_of}
use Rattle.octi_grid.proofs.WayLemmas.{first_of-points, run_short}
use Rattle.octi_grid.proofs.RunLemmas.{after-drop, points_of_rest, points_of_run}
use Rattle.octi_grid.proofs.cost.end_of.Goals as goal

pub run_end-at-requires-clause-at : goal.run_end-at-requires-clause-at
run_end-at-requires-clause-at c = first_of-points IsWithin c.loop-run.at _ c.loop-run.invariant.1

pub run_end-at-requires-clause-count : goal.run_end-at-requires-clause-count
run_end-at-requires-clause-count c =
    run_short c.loop-run.at _ _ (points_of_run c.loop-run.at c.runs-run-items.result.now c.loop-run.run-index c.loop-run-test.true c.loop-run.invariant.1)

pub loop-run-preserved : goal.loop-run-preserved
loop-run-preserved c =
    let rest = steps_of (drop (c.loop-run.run-index + 1) c.runs-run-items.result.now) in (
      ap (λ (p : GridPoint). after p rest) c.run_end-at.ensures
          ∙ sym (after-drop c.loop-run.at c.runs-run-items.result.now c.loop-run.run-index c.loop-run-test.true)
          ∙ c.loop-run.invariant.0,
      subst (λ (p : GridPoint). AllByRecursion IsWithin (points_from p rest)) (sym c.run_end-at.ensures)
          (points_of_rest c.loop-run.at c.runs-run-items.result.now c.loop-run.run-index c.loop-run-test.true c.loop-run.invariant.1),
    )
