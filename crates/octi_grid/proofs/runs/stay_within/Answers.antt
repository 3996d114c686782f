use Rattle.std.proofs.Common.{sym, ◌∙◌}
use Rattle.octi_grid.specs.Runs.{steps_of}
use Rattle.octi_grid.proofs.WayLemmas.{outside_at_start}
use Rattle.octi_grid.proofs.RunLemmas.{run_on, run_out}
use Rattle.octi_grid.proofs.runs.stay_within.Goals as goal

pub returns-then-not-is_within : goal.returns-then-not-is_within
returns-then-not-is_within c =
    sym (outside_at_start c.args.start (steps_of c.args.runs.now) (sym c.is_within.ensures ∙ c.if-not-is_within.true))

pub returns-in-None : goal.returns-in-None
returns-in-None c =
    sym (sym c.loop-run.invariant.0 ∙ run_out c.loop-run.at c.args.runs.now c.loop-run.run-index c.loop-run-test.true (sym c.end_within.ensures ∙ c.in-None.is))

pub loop-run-preserved : goal.loop-run-preserved
loop-run-preserved c =
    let next = run_on c.loop-run.at c.args.runs.now c.loop-run.run-index c.in-Some.end c.loop-run-test.true (sym c.end_within.ensures ∙ c.in-Some.is) in
    (next.0 ∙ c.loop-run.invariant.0, next.1)
