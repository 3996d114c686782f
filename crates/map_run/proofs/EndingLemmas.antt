-- From the answer of a command to how a run ends, and to the cause of its status.
use Rattle.std.proofs.Common.{◌≡◌, ◌≢◌, ℕ, ◌⊎◌, inl, inr, List, length, Option, None, Some, Result, Ok, Err, refl, sym, ap, ◌∙◌, subst, arith}
use Rattle.files_door.specs.Targets.{Written}
use Rattle.command_run.specs.declared.output.Output.{Output}
use Rattle.command_run.specs.declared.delivery.Ending.{Ending}
use Rattle.command_run.specs.declared.delivery.Ending.TheVariants.{Whole, CutShort, OutOfMemory}
use Rattle.command_run.specs.Delivered.{IsDelivered, outputs_acts}
use Rattle.command_run.specs.Work.{outcome}
use Rattle.command_run.specs.Told.{file_of, IsRun}
use Rattle.command_run.proofs.WorkLemmas.{told_outcome}
use Rattle.map_run.specs.declared.answer.Answer.{Answer}
use Rattle.run_status.specs.declared.input.Input.{Input}
use Rattle.run_status.specs.declared.refusal.Refusal.{Refusal}
use Rattle.run_status.specs.declared.refusal.Refusal.TheVariants as refused
use Rattle.run_status.specs.declared.status.Status.{Status}
use Rattle.run_status.specs.declared.status.Status.TheVariants as status
use Rattle.command_words.specs.declared.fault.WordsFault.{WordsFault}
use Rattle.command_words.specs.declared.fault.WordsFault.TheVariants as fault
use Rattle.command_words.specs.Words.{Reads as ReadsWords}
use Rattle.command_words.specs.Asked.{Asked, imported, make, improve, session, trial}
use Rattle.asked_inputs.specs.Inputs.{input_path}
use Rattle.map_run.specs.Answers.{Finished, alone, done, answer_by, status_at}
use Rattle.run_status.specs.Statuses.{status_of}
use Rattle.map_run.specs.Commands.{work}
use Rattle.run_status.specs.Following.{HasCause, ComesTo, Follows}
use Rattle.map_run.specs.Promises.{Keeps, TakesSteps}
use Rattle.map_run.specs.Ending.{IsAnswerTo, IsDue, IsWritten, IsEndWritten, IsLeft, IsOutOfMemory, Ends, IsCaused, Reads, status_after}
use Rattle.run_status.proofs.FollowLemmas.{comes_to}

abbrev pub Told : Type 0
Told = Option (List (List ℕ × List ℕ))

-- what is answered is due
pub due_of : (asked : Option Asked) (told : Told) (rose : Type 0) (answer : Answer) → IsAnswerTo asked told rose answer → IsDue asked told rose answer
due_of None told rose answer is = is
due_of (Some asked) told rose answer (result, comes, keeps, is) = (result, comes, is)

-- what a command came to is written
pub command_ends : (told : Told) (asked : Asked) (files_rose sinks_rose : Type 0) (end : Result Finished Refusal) (old new : Option Written) (ended : Status)
    → Follows told (input_path asked) files_rose (λ (f : Finished). f) (work asked) end → Keeps told asked end → IsEndWritten asked end sinks_rose old new ended
    → Ends (Some asked) told files_rose sinks_rose old new ended
command_ends told asked files_rose sinks_rose (Ok finished) old new ended follows keeps (inl written) =
    inl (done finished, (Ok finished, follows, keeps, refl), written.1)
command_ends told asked files_rose sinks_rose (Err why) old new ended follows keeps (inl written) =
    let comes = comes_to told (input_path asked) files_rose (λ (f : Finished). f) (work asked) why (λ same. written.0 (ap (λ (w : Refusal). let e : Result Finished Refusal = Err w in e) same)) follows in
    inl (alone (status_of (input_path asked) why), (Err why, comes, keeps, refl), written.1)
command_ends told asked files_rose sinks_rose end old new ended follows keeps (inr out) = inr (inr out)

-- words that are not read ask for nothing
pub nothing_asked : (asked : Option Asked) (f : WordsFault) → ReadsWords asked (Err f) → f ≢ fault.NoMemory → asked ≡ None
nothing_asked asked (fault.Usage text) none free = none
nothing_asked asked fault.NoMemory none free = absurd (free refl)

-- the text for the user is written
pub unread_ends : (told : Told) (asked : Option Asked) (f : WordsFault) (files_rose sinks_rose : Type 0) (old new : Option Written) (ended : Status) → ReadsWords asked (Err f)
    → ((f ≢ fault.NoMemory) × IsWritten (alone status.Usage) sinks_rose old new ended) ⊎ IsOutOfMemory old new ended → Ends asked told files_rose sinks_rose old new ended
unread_ends told asked f files_rose sinks_rose old new ended reads (inl written) =
    let none = nothing_asked asked f reads written.0 in
    inl (alone status.Usage, subst (λ (a : Option Asked). IsAnswerTo a told files_rose (alone status.Usage)) (sym none) refl, written.1)
unread_ends told asked f files_rose sinks_rose old new ended reads (inr out) = inr (inr out)

-- no step is none too many
pub no_steps : (told : Told) (asked : Option Asked) (steps : ℕ) → TakesSteps told asked steps steps
no_steps told (Some (imported json paths chosen)) steps = inl refl
no_steps told (Some (make feed paths chosen)) steps = inl refl
no_steps told (Some (improve feed paths moves chosen)) steps = inl refl
no_steps told (Some (session feed script out chosen)) steps = inl refl
no_steps told (Some (trial number)) steps = inl refl
no_steps told asked steps = refl

-- the cause of the status of an answer
answer_caused : (asked : Option Asked) (told : Told) (files_rose sinks_rose : Type 0) (answer : Answer) → IsAnswerTo asked told files_rose answer → IsCaused asked told files_rose sinks_rose answer.status
answer_caused None told files_rose sinks_rose answer is = subst (λ (a : Answer). IsCaused None told files_rose sinks_rose a.status) (sym is) refl
answer_caused (Some asked) told files_rose sinks_rose answer (result, comes, keeps, is) =
    subst (λ (a : Answer). IsCaused (Some asked) told files_rose sinks_rose a.status) (sym is) (by_result result comes)
  where
    by_line : (line : Option ℕ) → IsCaused (Some asked) told files_rose sinks_rose (status_at line)
    by_line None = tt
    by_line (Some line) = tt

    by_result : (r : Result Finished Refusal) → ComesTo told (input_path asked) files_rose (work asked) r → IsCaused (Some asked) told files_rose sinks_rose (answer_by (input_path asked) r).status
    by_result (Ok finished) comes = by_line finished.bad_line
    by_result (Err (refused.ReadFault input)) comes = (comes.0, (asked, input, refl, refl, comes.1))
    by_result (Err why) comes = tt

after_caused : (asked : Option Asked) (told : Told) (files_rose sinks_rose : Type 0) (answer : Answer) (line : List ℕ) (old new : Option Written) (ending : Ending)
    → IsAnswerTo asked told files_rose answer → IsDelivered answer.outputs line sinks_rose old new ending → IsCaused asked told files_rose sinks_rose (status_after answer.status ending)
after_caused asked told files_rose sinks_rose answer line old new Whole is delivered = answer_caused asked told files_rose sinks_rose answer is
after_caused asked told files_rose sinks_rose answer line old new CutShort is delivered = delivered.1
after_caused asked told files_rose sinks_rose answer line old new OutOfMemory is delivered = tt

-- the cause of the status of a script that is left off
left_caused : (asked : Option Asked) (told : Told) (files_rose sinks_rose : Type 0) (outputs : List Output) (old new : Option Written) (ended : Status) → IsLeft outputs sinks_rose old new ended → IsCaused asked told files_rose sinks_rose ended
left_caused asked told files_rose sinks_rose outputs old new ended (inl cut) = subst (λ (s : Status). IsCaused asked told files_rose sinks_rose s) (sym cut.0) cut.1.1
left_caused asked told files_rose sinks_rose outputs old new ended (inr out) = subst (λ (s : Status). IsCaused asked told files_rose sinks_rose s) (sym out.0) tt

-- a run that ends so has a status with its cause
pub caused : (asked : Option Asked) (told : Told) (files_rose sinks_rose : Type 0) (old new : Option Written) (ended : Status) → Ends asked told files_rose sinks_rose old new ended → IsCaused asked told files_rose sinks_rose ended
caused asked told files_rose sinks_rose old new ended (inl (answer, is, written)) =
    subst (λ (s : Status). IsCaused asked told files_rose sinks_rose s) (sym written.4) (after_caused asked told files_rose sinks_rose answer written.0 old new written.1 is written.3)
caused asked told files_rose sinks_rose old new ended (inr (inl left)) = left_caused asked told files_rose sinks_rose left.1.outputs old new ended left.5
caused asked told files_rose sinks_rose old new ended (inr (inr out)) = subst (λ (s : Status). IsCaused asked told files_rose sinks_rose s) (sym out.1) tt

-- words that are not read end with the help, or want of memory
after_usage : (answer : Answer) (line : List ℕ) (rose : Type 0) (old new : Option Written) (ending : Ending) → answer ≡ alone status.Usage → IsDelivered answer.outputs line rose old new ending
    → (status_after answer.status ending ≡ status.Usage) ⊎ (status_after answer.status ending ≡ status.NoMemory)
after_usage answer line rose old new Whole is delivered = inl (ap (λ (a : Answer). a.status) is)
after_usage answer line rose old new CutShort is delivered =
    let none : length (outputs_acts answer.outputs) ≡ 0 = ap (λ (a : Answer). length (outputs_acts a.outputs)) is in
    absurd (omega (arith, none, delivered.2))
after_usage answer line rose old new OutOfMemory is delivered = inr refl

pub unread_usage : (asked : Option Asked) (told : Told) (files_rose sinks_rose : Type 0) (old new : Option Written) (ended : Status) → asked ≡ None → Ends asked told files_rose sinks_rose old new ended
    → (ended ≡ status.Usage) ⊎ (ended ≡ status.NoMemory)
unread_usage asked told files_rose sinks_rose old new ended none (inl (answer, is, written)) =
    let help : answer ≡ alone status.Usage = subst (λ (a : Option Asked). IsAnswerTo a told files_rose answer) none is in
    subst (λ (s : Status). (s ≡ status.Usage) ⊎ (s ≡ status.NoMemory)) (sym written.4) (after_usage answer written.0 sinks_rose old new written.1 help written.3)
unread_usage asked told files_rose sinks_rose old new ended none (inr (inl left)) =
    let other : Some left.0 ≡ None = sym left.2 ∙ none in
    absurd (cc)
unread_usage asked told files_rose sinks_rose old new ended none (inr (inr out)) = inr out.1

-- over files that are told the answer that is due is the defined one, or names an input that was left unread
pub told_answer : (asked : Asked) (files : List (List ℕ × List ℕ)) (rose : Type 0) (answer : Answer) → IsDue (Some asked) (Some files) rose answer
    → (answer ≡ answer_by (input_path asked) (outcome (work asked) (file_of files (input_path asked)))) ⊎ ((input : Input) × rose × Reads (Some files) asked input × (answer ≡ alone (status.ReadFault (input_path asked input))))
told_answer asked files rose answer (result, comes, is) =
    by_case (told_outcome refused.ReadFault (work asked) (file_of files (input_path asked)) comes.1.seen result comes.1.are_told comes.1.runs)
  where
    by_case : (result ≡ outcome (work asked) (file_of files (input_path asked))) ⊎ ((input : Input) × (result ≡ Err (refused.ReadFault input)))
        → (answer ≡ answer_by (input_path asked) (outcome (work asked) (file_of files (input_path asked)))) ⊎ ((input : Input) × rose × Reads (Some files) asked input × (answer ≡ alone (status.ReadFault (input_path asked input))))
    by_case (inl defined) = inl (is ∙ ap (answer_by (input_path asked)) defined)
    by_case (inr (input, left)) = inr (
      input,
      subst (λ (r : Result Finished Refusal). HasCause rose r) left comes.0,
      subst (λ (r : Result Finished Refusal). IsRun refused.ReadFault (Some files) (input_path asked) (work asked) r) left comes.1,
      is ∙ ap (answer_by (input_path asked)) left,
    )
