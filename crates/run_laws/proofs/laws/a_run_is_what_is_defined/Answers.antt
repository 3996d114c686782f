use Rattle.files_door.specs.Fault.{Rose}
use Rattle.run_laws.proofs.Run.{is_run}
use Rattle.run_laws.proofs.laws.a_run_is_what_is_defined.Goals as goal

pub returns : goal.returns
returns c = λ asked files files_before files_now before now old new ended ends.
    is_run asked files (Rose files_before files_now) (Rose before now) old new ended ends
