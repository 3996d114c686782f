use Rattle.std.proofs.Common.{◌≡◌, ◌∙◌, ap, sym, true, false}
use Rattle.octi_grid.specs.Runs.{are_runs, goes_on, steps_of}
use Rattle.octi_grid.proofs.RunLemmas.{are_runs-prolonged, are_runs-push, steps_of-prolonged, steps_of-push}
use Rattle.octi_grid.proofs.runs.push_step.Goals as goal

pub returns-then-goes_on-clause-steps : goal.returns-then-goes_on-clause-steps
returns-then-goes_on-clause-steps c =
    let goes : goes_on c.args.runs.now.items c.args.dir ≡ true = ap (λ rs. goes_on rs c.args.dir) (sym c.deref.ensures.value) ∙ sym c.goes_on.ensures ∙ c.if-goes_on.true in
    ap steps_of c.prolong.ensures ∙ steps_of-prolonged c.args.runs.now.items c.args.dir goes

pub returns-then-goes_on-clause-runs : goal.returns-then-goes_on-clause-runs
returns-then-goes_on-clause-runs c = ap are_runs c.prolong.ensures ∙ are_runs-prolonged c.args.runs.now.items c.requires.runs

pub returns-clause-steps : goal.returns-clause-steps
returns-clause-steps c = ap steps_of c.in_ok-push.ensures.items ∙ steps_of-push c.args.runs.now.items c.args.dir

pub returns-clause-runs : goal.returns-clause-runs
returns-clause-runs c =
    let goes : goes_on c.args.runs.now.items c.args.dir ≡ false = ap (λ rs. goes_on rs c.args.dir) (sym c.deref.ensures.value) ∙ sym c.goes_on.ensures ∙ c.if-goes_on.false in
    ap are_runs c.in_ok-push.ensures.items ∙ are_runs-push c.args.runs.now.items c.args.dir c.requires.runs goes
