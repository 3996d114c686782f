-- How the program may end.
use Rattle.std.specs.Prelude.{◌≡◌, ◌⊎◌, Option, None, ⊤}
use Rattle.command_words.specs.Asked.{Asked}
use Rattle.run_status.specs.declared.status.Status.{Status}
use Rattle.run_status.specs.declared.status.Status.TheVariants as status
use Rattle.map_run.specs.declared.answer.Answer.{Answer}
use Rattle.map_run.specs.Ending.{IsDue}

-- the status is that of an answer which is due to what the words ask for, by what each file gave as it was read; or
-- writing failed, or memory ran out
abbrev pub IsEndFor : Option Asked → Status → Type 0
IsEndFor asked ended =
    ((answer : Answer) × IsDue asked None ⊤ answer × (ended ≡ answer.status)) ⊎ ((ended ≡ status.WriteFault) ⊎ (ended ≡ status.NoMemory))
