use Rattle.files_door.specs.Fault.{Rose}
use Rattle.map_run.proofs.LawLemmas.{leaves_whole}
use Rattle.map_run.proofs.laws.other_statuses_leave_whole_outputs.Goals as goal

pub returns : goal.returns
returns c = λ asked told files_before files_now before now old new ended ends no_fault memory. leaves_whole asked told (Rose files_before files_now) (Rose before now) old new ended ends no_fault memory
