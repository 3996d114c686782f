use Rattle.files_door.specs.Fault.{Rose}
use Rattle.command_run.proofs.HeldLemmas.{standing_of}
use Rattle.command_run.proofs.held.each_target_holds_what_stands.Goals as goal

pub returns : goal.returns
returns c = λ outputs line before now old new ending is. standing_of outputs line (Rose before now) old new ending is
