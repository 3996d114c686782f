use Rattle.std.proofs.Common.{ap}
use Rattle.files_door.specs.Fault.{Rose}
use Rattle.trial_command.proofs.TrialLemmas.{loads_trial, never_rose}
use Rattle.trial_command.proofs.trial.load_trial.Goals as goal

pub returns : goal.returns
returns c =
    loads_trial c.args.trial _ _ (Rose 0 0) c.load.result never_rose (ap (λ files. files.files) c.in_ok-files.ensures) c.trial_inputs-inputs.ensures c.load.ensures.follows
