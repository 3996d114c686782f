use Rattle.std.proofs.Common.{inr}
use Rattle.std.proofs.lemmas.Result.{err_from_is_err_and}
use Rattle.trial_command.proofs.TrialLemmas.{outcome_of, outcome_unloaded}
use Rattle.trial_command.proofs.trial.print_trial.Goals as goal

pub returns-in_err-loaded-clause-given : goal.returns-in_err-loaded-clause-given
returns-in_err-loaded-clause-given g c =
    outcome_unloaded c.args.trial c.in_err-loaded.field-0.0 c.from_residual.result (err_from_is_err_and c.from_residual.result c.from_residual.ensures.1) c.in_err-loaded.ensures

pub returns-clause-given : goal.returns-clause-given
returns-clause-given g c = outcome_of c.args.trial c.in_ok-loaded.loaded c.tell_map.result c.in_ok-loaded.ensures c.tell_map.ensures.given

pub returns-clause-steps : goal.returns-clause-steps
returns-clause-steps g c = inr (c.in_ok-loaded.loaded, c.in_ok-loaded.ensures, c.tell_map.ensures.steps)
