-- All that a run promises, as one.
use Rattle.std.specs.Prelude.{◌≡◌, ◌⊎◌, ℕ, List, Option, None, IfSome, String}
use Rattle.std.specs.declared.alloc.Global.{Global}
use Rattle.files_door.specs.Targets.{Written}
use Rattle.command_words.specs.Words.{asked_in}
use Rattle.run_status.specs.declared.status.Status.{Status}
use Rattle.run_status.specs.declared.status.Status.TheVariants as status
use Rattle.map_run.specs.Promises.{TakesSteps}
use Rattle.map_run.specs.Ending.{Ends, IsCaused}
use Rattle.map_run.specs.Headline.{MeansDone}

-- A run on these words: how it ends, by the files or by what each one gave as it was read; the cause of its status; what
-- status 0 means; and how far the counter of steps rises.
pub record IsPromised (words : List (String Global)) (told : Option (List (List ℕ × List ℕ))) (files_rose sinks_rose : Type 0)
    (old new : Option Written) (before now : ℕ) (ended : Status) : Type 0 where
  pub ends : Ends (asked_in words) told files_rose sinks_rose old new ended
  pub cause : IsCaused (asked_in words) told files_rose sinks_rose ended
  pub usage : asked_in words ≡ None → (ended ≡ status.Usage) ⊎ (ended ≡ status.NoMemory)
  pub map : ended ≡ status.Done → IfSome (asked_in words) (λ asked. IfSome old (λ before. IfSome new (λ now. MeansDone told asked before now)))
  pub steps : TakesSteps told (asked_in words) before now
