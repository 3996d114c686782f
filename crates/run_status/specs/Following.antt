-- What a call answers that does a piece of work.
use Rattle.std.specs.Prelude.{◌≡◌, ℕ, List, Option, Result, Ok, Err, ⊤}
use Rattle.command_run.specs.Work.{Work}
use Rattle.command_run.specs.Told.{IsRun}
use Rattle.run_status.specs.declared.input.Input.{Input}
use Rattle.run_status.specs.declared.refusal.Refusal.{Refusal}
use Rattle.run_status.specs.declared.refusal.Refusal.TheVariants as refused

-- an input is left unread only where the files' count of faults rose
abbrev pub HasCause : {A : Type 0} → Type 0 → Result A Refusal → Type 0
HasCause rose (Err (refused.ReadFault input)) = rose
HasCause rose result = ⊤

-- the work comes to this result over the files, or leaves an input unread
abbrev pub ComesTo : {A : Type 0} → Option (List (List ℕ × List ℕ)) → (Input → List ℕ) → Type 0 → Work Input Refusal A → Result A Refusal → Type 0
ComesTo told paths rose work result = HasCause rose result × IsRun refused.ReadFault told paths work result

-- a call's result, seen by a view, is one that the work comes to; want of memory alone is free
abbrev pub Follows : {A B : Type 0} → Option (List (List ℕ × List ℕ)) → (Input → List ℕ) → Type 0 → (A → B) → Work Input Refusal B → Result A Refusal → Type 0
Follows told paths rose view work (Ok value) = ComesTo told paths rose work (Ok (view value))
Follows told paths rose view work (Err refused.NoMemory) = ⊤
Follows told paths rose view work (Err why) = ComesTo told paths rose work (Err why)

-- the result of a call that reads nothing is the defined one; want of memory alone is free
abbrev pub Gives : {A B : Type 0} → (A → B) → Result A Refusal → Result B Refusal → Type 0
Gives view (Ok value) defined = defined ≡ Ok (view value)
Gives view (Err refused.NoMemory) defined = ⊤
Gives view (Err (refused.ReadFault input)) defined = ⊥
Gives view (Err why) defined = defined ≡ Err why
