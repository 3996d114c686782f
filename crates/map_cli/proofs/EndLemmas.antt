-- From how a run ends to how the program ends.
use Rattle.std.proofs.Common.{◌≡◌, ◌⊎◌, inl, inr, ℕ, List, Option, None, Some, Result, Ok, Err, sym, subst}
use Rattle.std.specs.Prelude.{⊤, String}
use Rattle.std.specs.declared.alloc.Global.{Global}
use Rattle.files_door.specs.Targets.{Written}
use Rattle.command_run.specs.declared.delivery.Ending.{Ending}
use Rattle.command_run.specs.declared.delivery.Ending.TheVariants.{Whole, CutShort, OutOfMemory}
use Rattle.command_words.specs.Asked.{Asked}
use Rattle.command_words.specs.Words.{asked_in}
use Rattle.run_status.specs.declared.refusal.Refusal.{Refusal}
use Rattle.run_status.specs.declared.refusal.Refusal.TheVariants as refused
use Rattle.run_status.specs.declared.status.Status.{Status}
use Rattle.run_status.specs.declared.status.Status.TheVariants as status
use Rattle.run_status.specs.Following.{HasCause}
use Rattle.map_run.specs.declared.answer.Answer.{Answer}
use Rattle.map_run.specs.Answers.{Finished}
use Rattle.map_run.specs.Ending.{Ends, IsDue, status_after}
use Rattle.map_run.specs.Promise.{IsPromised}
use Rattle.map_run.proofs.EndingLemmas.{Told, due_of}
use Rattle.map_cli.specs.Ends.{IsEndFor}

-- what is due over some files is due over files that tell nothing
untold : (asked : Option Asked) (told : Told) (rose : Type 0) (answer : Answer) → IsDue asked told rose answer → IsDue asked None ⊤ answer
untold None told rose answer is = is
untold (Some asked) told rose answer (result, comes, is) =
    (result, (caused result, record { seen = comes.1.seen; are_told = tt; runs = comes.1.runs }), is)
  where
    caused : (r : Result Finished Refusal) → HasCause ⊤ r
    caused (Ok finished) = tt
    caused (Err (refused.ReadFault input)) = tt
    caused (Err why) = tt

-- the status of an answer, by how its delivery ended
by_ending : (asked : Option Asked) (answer : Answer) (ending : Ending) (ended : Status) → IsDue asked None ⊤ answer
    → ended ≡ status_after answer.status ending → IsEndFor asked ended
by_ending asked answer Whole ended due is = inl (answer, due, is)
by_ending asked answer CutShort ended due is = inr (inl is)
by_ending asked answer OutOfMemory ended due is = inr (inr is)

-- a run that ends so ends with a status that the program may end with
run_end : (asked : Option Asked) (told : Told) (files_rose sinks_rose : Type 0) (old new : Option Written) (ended : Status)
    → Ends asked told files_rose sinks_rose old new ended → IsEndFor asked ended
run_end asked told files_rose sinks_rose old new ended (inl (answer, is, written)) =
    by_ending asked answer written.1 ended (untold asked told files_rose answer (due_of asked told files_rose answer is)) written.4
run_end asked told files_rose sinks_rose old new ended (inr (inl left)) = elim left.5 [ inl cut ↦ inr (inl cut.0) | inr out ↦ inr (inr out.0) ]
run_end asked told files_rose sinks_rose old new ended (inr (inr out)) = inr (inr out.1)

-- what is put in its place, or can't be, keeps that
pub promised_end : (words : List (String Global)) (told : Told) (files_rose sinks_rose : Type 0) (old new : Option Written) (before now : ℕ) (ran ended : Status)
    → IsPromised words told files_rose sinks_rose old new before now ran → (ended ≡ ran) ⊎ ((ended ≡ status.WriteFault) ⊎ (ended ≡ status.NoMemory))
    → IsEndFor (asked_in words) ended
promised_end words told files_rose sinks_rose old new before now ran ended promised (inl same) =
    subst (IsEndFor (asked_in words)) (sym same) (run_end (asked_in words) told files_rose sinks_rose old new ran promised.ends)
promised_end words told files_rose sinks_rose old new before now ran ended promised (inr failed) = inr failed
