-- What is defined is done, where no count of faults rises.
use Rattle.std.proofs.Common.{◌≡◌, ℕ, ◌⊎◌, inl, inr, List, [], ◌++◌, Some, Ok, sym, ap, ◌∙◌, subst}
use Rattle.std.proofs.lemmas.List.{append-nil}
use Rattle.files_door.specs.Targets.{Written}
use Rattle.command_run.specs.declared.output.Output.{Output}
use Rattle.command_run.specs.declared.delivery.Ending.{Ending}
use Rattle.command_run.specs.declared.delivery.Ending.TheVariants.{Whole, CutShort, OutOfMemory}
use Rattle.command_run.specs.Delivered.{IsDelivered}
use Rattle.command_run.specs.Held.{line_outputs}
use Rattle.command_run.specs.Work.{outcome}
use Rattle.command_run.specs.Told.{file_of}
use Rattle.command_run.proofs.HeldLemmas.{standing_of}
use Rattle.map_run.specs.declared.answer.Answer.{Answer}
use Rattle.run_status.specs.declared.status.Status.{Status}
use Rattle.run_status.specs.declared.status.Status.TheVariants as status
use Rattle.command_words.specs.Asked.{Asked}
use Rattle.asked_inputs.specs.Inputs.{input_path}
use Rattle.map_run.specs.Answers.{Finished, done, answer_by, status_at, whole}
use Rattle.map_run.specs.Commands.{work}
use Rattle.map_run.specs.Ending.{IsLineOf, Ends, status_after}
use Rattle.map_run.proofs.EndingLemmas.{due_of, told_answer}
use Rattle.map_run.proofs.LawLemmas.{Holds}

-- the run has the status of the end that the command came to, and each target holds its outputs and the line of the status;
-- or memory ran out
abbrev pub IsDone : Finished → Written → Written → Status → Type 0
IsDone finished old new ended =
    ((ended ≡ status_at finished.bad_line) × ((line : List ℕ) × IsLineOf ended line × Holds (finished.outputs ++ line_outputs line) old new)) ⊎ (ended ≡ status.NoMemory)

-- by how the delivery of the outputs ended
done_by : (finished : Finished) (line : List ℕ) (rose : Type 0) (old new : Written) (ended : Status) (ending : Ending) → (rose → ⊥) → IsLineOf (status_at finished.bad_line) line
    → IsDelivered finished.outputs line rose (Some old) (Some new) ending → ended ≡ status_after (status_at finished.bad_line) ending → IsDone finished old new ended
done_by finished line rose old new ended Whole steady is_line delivered is =
    let standing = standing_of finished.outputs line rose old new Whole delivered in
    let by = standing.1 in
    let front : by.0 ≡ line_outputs line = elim by.3 [ inl same ↦ same | inr rises ↦ absurd (steady rises) ] in
    let stands : standing.0 ≡ finished.outputs ++ line_outputs line = by.1 ∙ ap (λ (f : List Output). finished.outputs ++ f) front in
    inl (is, (line, subst (λ (s : Status). IsLineOf s line) (sym is) is_line, subst (λ (o : List Output). Holds o old new) stands standing.2))
done_by finished line rose old new ended CutShort steady is_line delivered is = absurd (steady delivered.1)
done_by finished line rose old new ended OutOfMemory steady is_line delivered is = inr is

pub is_finished : (asked : Asked) (files : List (List ℕ × List ℕ)) (files_rose rose : Type 0) (old new : Written) (ended : Status) (finished : Finished)
    → Ends (Some asked) (Some files) files_rose rose (Some old) (Some new) ended → outcome (work asked) (file_of files (input_path asked)) ≡ Ok finished
    → (files_rose → ⊥) → (rose → ⊥) → IsDone finished old new ended
is_finished asked files files_rose rose old new ended finished (inr (inl left)) defined told steady =
    elim left.5 [ inl cut ↦ absurd (steady cut.1.1) | inr out ↦ inr out.0 ]
is_finished asked files files_rose rose old new ended finished (inr (inr out)) defined told steady = inr out.1
is_finished asked files files_rose rose old new ended finished (inl (answer, is, written)) defined told steady =
    by_answer (elim (told_answer asked files files_rose answer (due_of (Some asked) (Some files) files_rose answer is)) [ inl same ↦ same ∙ ap (answer_by (input_path asked)) defined | inr found ↦ absurd (told found.1) ])
  where
    by_answer : answer ≡ done finished → IsDone finished old new ended
    by_answer same =
        let line = subst (λ (a : Answer). IsLineOf a.status written.0) same written.2 in
        let delivered = subst (λ (a : Answer). IsDelivered a.outputs written.0 rose (Some old) (Some new) written.1) same written.3 in
        let left = subst (λ (a : Answer). ended ≡ status_after a.status written.1) same written.4 in
        done_by finished written.0 rose old new ended written.1 steady line delivered left

-- the same of a command without a script
pub is_done : (asked : Asked) (files : List (List ℕ × List ℕ)) (files_rose rose : Type 0) (old new : Written) (ended : Status) (outputs : List Output)
    → Ends (Some asked) (Some files) files_rose rose (Some old) (Some new) ended → outcome (work asked) (file_of files (input_path asked)) ≡ Ok (whole outputs)
    → (files_rose → ⊥) → (rose → ⊥) → ((ended ≡ status.Done) × Holds outputs old new) ⊎ (ended ≡ status.NoMemory)
is_done asked files files_rose rose old new ended outputs ends defined told steady = by_end (is_finished asked files files_rose rose old new ended (whole outputs) ends defined told steady)
  where
    by_end : IsDone (whole outputs) old new ended → ((ended ≡ status.Done) × Holds outputs old new) ⊎ (ended ≡ status.NoMemory)
    by_end (inl (is, (line, is_line, holds))) =
        let none : line ≡ [] = subst (λ (s : Status). IsLineOf s line) is is_line in
        let stands : outputs ++ line_outputs line ≡ outputs = ap (λ (l : List ℕ). outputs ++ line_outputs l) none ∙ append-nil outputs in
        inl (is, subst (λ (o : List Output). Holds o old new) stands holds)
    by_end (inr out) = inr out
