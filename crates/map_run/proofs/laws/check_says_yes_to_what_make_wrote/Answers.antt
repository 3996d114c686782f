use Rattle.files_door.specs.Fault.{Rose}
use Rattle.map_run.proofs.SaysYes.{ends_with_yes, says_yes}
use Rattle.map_run.proofs.laws.check_says_yes_to_what_make_wrote.Goals as goal

pub returns-clause-defined : goal.returns-clause-defined
returns-clause-defined c = λ feed paths chosen files later made written lie. says_yes feed paths chosen files later made written lie

pub returns-clause-done : goal.returns-clause-done
returns-clause-done c = λ feed paths chosen files later made files_before files_now before now old new ended written lie finish told steady.
    ends_with_yes feed paths chosen files later made (Rose files_before files_now) (Rose before now) old new ended written lie finish told steady
