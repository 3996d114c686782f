use Rattle.files_door.specs.Fault.{Rose}
use Rattle.map_run.proofs.LawLemmas.{leaves_two}
use Rattle.map_run.proofs.laws.want_of_memory_leaves_two_beginnings.Goals as goal

pub returns : goal.returns
returns c = λ asked told files_before files_now before now old new ends. leaves_two asked told (Rose files_before files_now) (Rose before now) old new ends
