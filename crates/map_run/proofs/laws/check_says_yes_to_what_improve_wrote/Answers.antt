use Rattle.files_door.specs.Fault.{Rose}
use Rattle.map_run.proofs.SaysYes.{ends_with_yes_again, says_yes_again}
use Rattle.map_run.proofs.laws.check_says_yes_to_what_improve_wrote.Goals as goal

pub returns-clause-defined : goal.returns-clause-defined
returns-clause-defined c = λ feed paths moves chosen files later before made written lie. says_yes_again feed paths moves chosen files later before made written lie

pub returns-clause-done : goal.returns-clause-done
returns-clause-done c = λ feed paths moves chosen files later before made files_before files_now faults_before faults_now old new ended written lie finish told steady.
    ends_with_yes_again feed paths moves chosen files later before made (Rose files_before files_now) (Rose faults_before faults_now) old new ended written lie finish told steady
