-- What each target holds after a run.
use Rattle.std.proofs.Common.{◌≡◌, ◌≢◌, ℕ, ◌⊎◌, inl, inr, List, [], ◌∷◌, ◌++◌, take, Option, None, Some, unwrap_or, Result, Ok, Err, refl, sym, ap, ◌∙◌, subst}
use Rattle.std.proofs.lemmas.List.{append-nil}
use Rattle.files_door.specs.declared.target.Target.{Target}
use Rattle.files_door.specs.Targets.{Written, held_by}
use Rattle.command_run.specs.declared.output.Output.{Output}
use Rattle.command_run.specs.declared.delivery.Ending.{Ending}
use Rattle.command_run.specs.declared.delivery.Ending.TheVariants.{Whole, CutShort, OutOfMemory}
use Rattle.command_run.specs.Delivered.{IsDelivered, outputs_acts, line_acts, no_memory_line}
use Rattle.command_run.specs.Held.{held_after, line_outputs, IsBeginning}
use Rattle.command_run.proofs.HeldLemmas.{standing_of, cut_of, line_as_outputs, held_by-Does, begin-append}
use Rattle.map_run.specs.declared.answer.Answer.{Answer}
use Rattle.run_status.specs.declared.refusal.Refusal.{Refusal}
use Rattle.run_status.specs.declared.refusal.Refusal.TheVariants as refused
use Rattle.run_status.specs.declared.status.Status.{Status}
use Rattle.run_status.specs.declared.status.Status.TheVariants as status
use Rattle.command_words.specs.Asked.{Asked}
use Rattle.run_status.specs.Following.{ComesTo}
use Rattle.run_status.specs.Lines.{status_line}
use Rattle.map_run.specs.Commands.{work}
use Rattle.asked_inputs.specs.Inputs.{input_path}
use Rattle.map_run.specs.Answers.{Finished, answer_by, done, status_at}
use Rattle.map_run.specs.Ending.{IsAnswerTo, IsDue, IsLeft, IsLineOf, IsToBeWritten, Ends, status_after}
use Rattle.map_run.proofs.EndingLemmas.{Told, due_of}

-- the outputs stand in the targets
abbrev pub Holds : List Output → Written → Written → Type 0
Holds outputs old new = (target : Target) → held_by target new ≡ held_after target outputs (held_by target old)

-- no answer has the status of a fault of writing
line_no_fault : (line : Option ℕ) → status_at line ≡ status.WriteFault → ⊥
line_no_fault None same = cc
line_no_fault (Some line) same = cc

result_no_fault : (asked : Asked) (result : Result Finished Refusal) → (answer_by (input_path asked) result).status ≡ status.WriteFault → ⊥
result_no_fault asked (Ok finished) same = line_no_fault finished.bad_line same
result_no_fault asked (Err (refused.BadRow table row why)) same = cc
result_no_fault asked (Err why) same = cc

answer_no_fault : (asked : Option Asked) (told : Told) (rose : Type 0) (answer : Answer) → IsDue asked told rose answer → answer.status ≢ status.WriteFault
answer_no_fault None told rose answer is same =
    let usage : status.Usage ≡ status.WriteFault = ap (λ (a : Answer). a.status) (sym is) ∙ same in
    cc
answer_no_fault (Some asked) told rose answer (result, comes, is) same = result_no_fault asked result (ap (λ (a : Answer). a.status) (sym is) ∙ same)

-- a status of the answer
abbrev LeavesWhole : Option Asked → Told → Type 0 → Type 0 → Written → Written → Status → Type 0
LeavesWhole asked told files_rose rose old new ended =
    (answer : Answer) × (line : List ℕ) × (front : List Output) × IsAnswerTo asked told files_rose answer
    × (ended ≡ answer.status) × IsLineOf ended line × IsBeginning front (line_outputs line) × ((front ≡ line_outputs line) ⊎ rose) × Holds (answer.outputs ++ front) old new

whole_by : (asked : Option Asked) (told : Told) (files_rose rose : Type 0) (old new : Written) (ended : Status) (answer : Answer) (line : List ℕ) (ending : Ending)
    → IsAnswerTo asked told files_rose answer → IsLineOf answer.status line → IsDelivered answer.outputs line rose (Some old) (Some new) ending
    → ended ≡ status_after answer.status ending → ended ≢ status.WriteFault → ended ≢ status.NoMemory → LeavesWhole asked told files_rose rose old new ended
whole_by asked told files_rose rose old new ended answer line Whole is is_line delivered same no_fault memory =
    let standing = standing_of answer.outputs line rose old new Whole delivered in
    let by = standing.1 in (
      answer,
      line,
      by.0,
      is,
      same,
      subst (λ (s : Status). IsLineOf s line) (sym same) is_line,
      by.2,
      by.3,
      subst (λ (outputs : List Output). Holds outputs old new) by.1 standing.2,
    )
whole_by asked told files_rose rose old new ended answer line CutShort is is_line delivered same no_fault memory = absurd (no_fault same)
whole_by asked told files_rose rose old new ended answer line OutOfMemory is is_line delivered same no_fault memory = absurd (memory same)

pub leaves_whole : (asked : Option Asked) (told : Told) (files_rose rose : Type 0) (old new : Written) (ended : Status) → Ends asked told files_rose rose (Some old) (Some new) ended
    → ended ≢ status.WriteFault → ended ≢ status.NoMemory → LeavesWhole asked told files_rose rose old new ended
leaves_whole asked told files_rose rose old new ended (inl (answer, is, written)) no_fault memory =
    whole_by asked told files_rose rose old new ended answer written.0 written.1 is written.2 written.3 written.4 no_fault memory
leaves_whole asked told files_rose rose old new ended (inr (inl left)) no_fault memory = absurd (elim left.5 [ inl cut ↦ no_fault cut.0 | inr out ↦ memory out.0 ])
leaves_whole asked told files_rose rose old new ended (inr (inr out)) no_fault memory = absurd (memory out.1)

-- what a script that is left off comes to is due
left_due : (asked : Option Asked) (told : Told) (rose : Type 0) (command : Asked) (finished : Finished) → asked ≡ Some command → ComesTo told (input_path command) rose (work command) (Ok finished) → IsDue asked told rose (done finished)
left_due asked told rose command finished is comes = subst (λ (a : Option Asked). IsDue a told rose (done finished)) (sym is) (Ok finished, comes, refl)

-- a fault of writing
abbrev LeavesBeginning : Option Asked → Told → Type 0 → Written → Written → Type 0
LeavesBeginning asked told files_rose old new =
    (answer : Answer) × (front : List Output) × IsDue asked told files_rose answer × IsBeginning front answer.outputs × Holds front old new

beginning_by : (asked : Option Asked) (told : Told) (files_rose rose : Type 0) (old new : Written) (answer : Answer) (line : List ℕ) (ending : Ending)
    → IsDue asked told files_rose answer → IsDelivered answer.outputs line rose (Some old) (Some new) ending
    → status.WriteFault ≡ status_after answer.status ending → LeavesBeginning asked told files_rose old new
beginning_by asked told files_rose rose old new answer line Whole is delivered same = absurd (answer_no_fault asked told files_rose answer is (sym same))
beginning_by asked told files_rose rose old new answer line CutShort is delivered same =
    let standing = standing_of answer.outputs line rose old new CutShort delivered in
    (answer, standing.0, is, standing.1.1, standing.2)
beginning_by asked told files_rose rose old new answer line OutOfMemory is delivered same =
    let other : status.WriteFault ≡ status.NoMemory = same in
    absurd (cc)

pub leaves_beginning : (asked : Option Asked) (told : Told) (files_rose rose : Type 0) (old new : Written) → Ends asked told files_rose rose (Some old) (Some new) status.WriteFault → LeavesBeginning asked told files_rose old new
leaves_beginning asked told files_rose rose old new (inl (answer, is, written)) =
    beginning_by asked told files_rose rose old new answer written.0 written.1 (due_of asked told files_rose answer is) written.3 written.4
leaves_beginning asked told files_rose rose old new (inr (inl left)) = by_end left.5
  where
    by_end : IsLeft left.1.outputs rose (Some old) (Some new) status.WriteFault → LeavesBeginning asked told files_rose old new
    by_end (inl cut) = beginning_by asked told files_rose rose old new (done left.1) [] CutShort (left_due asked told files_rose left.0 left.1 left.2 left.4) cut.1 refl
    by_end (inr out) =
        let other : status.WriteFault ≡ status.NoMemory = out.0 in
        absurd (cc)
leaves_beginning asked told files_rose rose old new (inr (inr out)) =
    let other : status.WriteFault ≡ status.NoMemory = out.1 in
    absurd (cc)

-- the line of the status of an end
line_at : (bad_line : Option ℕ) → (line : List ℕ) × IsLineOf (status_at bad_line) line
line_at None = ([], refl)
line_at (Some line) = (unwrap_or (status_line (status.BadEdit line)) [], refl)

-- what is a beginning of outputs is one of more of them
begins_more : (front outputs more : List Output) → IsBeginning front outputs → IsBeginning front (outputs ++ more)
begins_more [] outputs more begins = tt
begins_more (one ∷ front) [] more begins = absurd begins
begins_more (one ∷ front) (output ∷ outputs) more (same, inl (bytes, rest)) = (same, inl (bytes, begins_more front outputs more rest))
begins_more (one ∷ front) (output ∷ outputs) more (same, inr cut) = (same, inr cut)

-- want of memory
abbrev LeavesTwo : Option Asked → Told → Type 0 → Written → Written → Type 0
LeavesTwo asked told files_rose old new =
    (outputs : List Output) × (front : List Output) × (last : List Output) × IsToBeWritten asked told files_rose outputs
    × IsBeginning front outputs × IsBeginning last (line_outputs no_memory_line) × Holds (front ++ last) old new

two_by : (asked : Option Asked) (told : Told) (files_rose rose : Type 0) (old new : Written) (answer : Answer) (line : List ℕ) (ending : Ending)
    → IsDue asked told files_rose answer → IsLineOf answer.status line → IsDelivered answer.outputs line rose (Some old) (Some new) ending
    → status.NoMemory ≡ status_after answer.status ending → LeavesTwo asked told files_rose old new
two_by asked told files_rose rose old new answer line Whole is is_line delivered same =
    let standing = standing_of answer.outputs line rose old new Whole delivered in
    let by = standing.1 in (
      answer.outputs ++ line_outputs line,
      answer.outputs ++ by.0,
      [],
      inr (answer, line, is, is_line, refl),
      begin-append answer.outputs by.0 (line_outputs line) by.2,
      tt,
      subst (λ (outputs : List Output). Holds outputs old new) (by.1 ∙ sym (append-nil (answer.outputs ++ by.0))) standing.2,
    )
two_by asked told files_rose rose old new answer line CutShort is is_line delivered same =
    let other : status.NoMemory ≡ status.WriteFault = same in
    absurd (cc)
two_by asked told files_rose rose old new answer line OutOfMemory is is_line delivered same =
    let standing = standing_of answer.outputs line rose old new OutOfMemory delivered in
    let by = standing.1 in (
      answer.outputs ++ line_outputs line,
      by.0,
      by.1,
      inr (answer, line, is, is_line, refl),
      by.3,
      by.4,
      subst (λ (outputs : List Output). Holds outputs old new) by.2 standing.2,
    )

pub leaves_two : (asked : Option Asked) (told : Told) (files_rose rose : Type 0) (old new : Written) → Ends asked told files_rose rose (Some old) (Some new) status.NoMemory → LeavesTwo asked told files_rose old new
leaves_two asked told files_rose rose old new (inl (answer, is, written)) =
    two_by asked told files_rose rose old new answer written.0 written.1 (due_of asked told files_rose answer is) written.2 written.3 written.4
leaves_two asked told files_rose rose old new (inr (inl left)) = by_end left.5
  where
    by_end : IsLeft left.1.outputs rose (Some old) (Some new) status.NoMemory → LeavesTwo asked told files_rose old new
    by_end (inl cut) =
        let other : status.NoMemory ≡ status.WriteFault = cut.0 in
        absurd (cc)
    by_end (inr out) =
        let finished : Finished = left.1 in
        let line = line_at finished.bad_line in
        let standing = standing_of finished.outputs [] rose old new OutOfMemory out.1 in
        let by = standing.1 in (
          finished.outputs ++ line_outputs line.0,
          by.0,
          by.1,
          inr (done finished, line.0, left_due asked told files_rose left.0 finished left.2 left.4, line.1, refl),
          begins_more by.0 finished.outputs (line_outputs line.0) (subst (IsBeginning by.0) (append-nil finished.outputs) by.3),
          by.4,
          subst (λ (outputs : List Output). Holds outputs old new) by.2 standing.2,
        )
leaves_two asked told files_rose rose old new (inr (inr out)) =
    let last = cut_of (line_outputs no_memory_line) out.0 in
    let are : take out.0 (line_acts no_memory_line) ≡ outputs_acts last.0 = ap (take out.0) (line_as_outputs no_memory_line) ∙ last.2 in
    ([], [], last.0, inl refl, tt, last.1, held_by-Does (take out.0 (line_acts no_memory_line)) last.0 old new out.2 are)
