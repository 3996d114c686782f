use Rattle.files_door.specs.Fault.{Rose}
use Rattle.map_run.proofs.DoneLemmas.{is_done, is_finished}
use Rattle.map_run.proofs.laws.what_is_defined_is_done.Goals as goal

pub returns-clause-stopped : goal.returns-clause-stopped
returns-clause-stopped c = λ asked files files_before files_now before now old new ended finished ends defined told steady.
    is_finished asked files (Rose files_before files_now) (Rose before now) old new ended finished ends defined told steady

pub returns-clause-whole : goal.returns-clause-whole
returns-clause-whole c = λ asked files files_before files_now before now old new ended outputs ends defined told steady.
    is_done asked files (Rose files_before files_now) (Rose before now) old new ended outputs ends defined told steady
