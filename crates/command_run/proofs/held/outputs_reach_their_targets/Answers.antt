use Rattle.command_run.proofs.HeldLemmas.{held_by-outputs}
use Rattle.command_run.proofs.held.outputs_reach_their_targets.Goals as goal

pub returns : goal.returns
returns c = held_by-outputs
