use Rattle.files_door.specs.Fault.{Rose}
use Rattle.map_run.proofs.LawLemmas.{leaves_beginning}
use Rattle.map_run.proofs.laws.a_fault_of_writing_leaves_a_beginning.Goals as goal

pub returns : goal.returns
returns c = λ asked told files_before files_now before now old new ends. leaves_beginning asked told (Rose files_before files_now) (Rose before now) old new ends
