-- A run over told files, by how it ends.
use Rattle.std.proofs.Common.{◌≡◌, ℕ, ◌⊎◌, inl, inr, List, [], ◌∷◌, ◌++◌, Option, None, Some, IfSome, Result, Ok, Err, refl, sym, ap, ◌∙◌, subst}
use Rattle.std.proofs.lemmas.List.{append-nil}
use Rattle.files_door.specs.Targets.{Written}
use Rattle.command_run.specs.declared.delivery.Ending.{Ending}
use Rattle.command_run.specs.declared.delivery.Ending.TheVariants.{CutShort, OutOfMemory}
use Rattle.command_run.specs.declared.output.Output.{Output}
use Rattle.command_run.specs.Delivered.{IsDelivered}
use Rattle.command_run.specs.Held.{line_outputs, IsBeginning}
use Rattle.command_run.specs.Told.{file_of, IsRun}
use Rattle.command_run.specs.Work.{outcome}
use Rattle.command_run.proofs.ActLemmas.{delivered_nothing}
use Rattle.command_run.proofs.HeldLemmas.{standing_of}
use Rattle.command_run.proofs.WorkLemmas.{told_outcome}
use Rattle.command_words.specs.Asked.{Asked}
use Rattle.run_status.specs.declared.input.Input.{Input}
use Rattle.run_status.specs.declared.refusal.Refusal.{Refusal}
use Rattle.run_status.specs.declared.refusal.Refusal.TheVariants as refused
use Rattle.run_status.specs.declared.status.Status.{Status}
use Rattle.run_status.specs.Following.{HasCause}
use Rattle.run_status.specs.Lines.{status_line}
use Rattle.map_run.specs.declared.answer.Answer.{Answer}
use Rattle.map_run.specs.Answers.{Finished, answer_by, done}
use Rattle.map_run.specs.Commands.{work}
use Rattle.map_run.specs.Ending.{IsDue, IsLeft, IsLineOf, Ends, status_after}
use Rattle.asked_inputs.specs.Inputs.{input_path}
use Rattle.map_run.proofs.EndingLemmas.{due_of}
use Rattle.run_laws.specs.Runs.{defined_answer, IsAnswerOver, IsRunOf}

-- a beginning of outputs is one of more of them
begins_more : (front outputs more : List Output) → IsBeginning front outputs → IsBeginning front (outputs ++ more)
begins_more [] outputs more begins = tt
begins_more (one ∷ front) [] more begins = absurd begins
begins_more (one ∷ front) (output ∷ outputs) more (same, inl (bytes, rest)) = (same, inl (bytes, begins_more front outputs more rest))
begins_more (one ∷ front) (output ∷ outputs) more (same, inr cut) = (same, inr cut)

module _ (asked : Asked) (files : List (List ℕ × List ℕ)) (files_rose sinks_rose : Type 0) (old new : Written) where
  -- the answer that is due is the defined one, or names an input that could not be read
  answer_over : (answer : Answer) → IsDue (Some asked) (Some files) files_rose answer → IsAnswerOver asked files files_rose answer
  answer_over answer (result, comes, is) =
      by_case (told_outcome refused.ReadFault (work asked) (file_of files (input_path asked)) comes.1.seen result comes.1.are_told comes.1.runs)
    where
      by_case : (result ≡ outcome (work asked) (file_of files (input_path asked))) ⊎ ((input : Input) × (result ≡ Err (refused.ReadFault input)))
          → IsAnswerOver asked files files_rose answer
      by_case (inl defined) = inl (is ∙ ap (answer_by (input_path asked)) defined)
      by_case (inr (input, unread)) = inr (
        input,
        subst (λ (r : Result Finished Refusal). HasCause files_rose r) unread comes.0,
        subst (λ (r : Result Finished Refusal). IsRun refused.ReadFault (Some files) (input_path asked) (work asked) r) unread comes.1,
        is ∙ ap (answer_by (input_path asked)) unread,
      )

  -- an answer is delivered so
  delivered : (answer : Answer) (line : List ℕ) (ending : Ending) (ended : Status) → IsAnswerOver asked files files_rose answer → IsLineOf answer.status line
      → IsDelivered answer.outputs line sinks_rose (Some old) (Some new) ending → ended ≡ status_after answer.status ending
      → IsRunOf asked files files_rose sinks_rose old new ended
  delivered answer line ending ended is its_line how same =
      let standing = standing_of answer.outputs line sinks_rose old new ending how in
      record { answer = answer; line = line; ending = ending; standing = standing.0; is_answer = is; is_line = its_line; is_status = same; stands = standing.1; held = standing.2 }

  -- each status may print some line
  some_line : (why : Status) → (line : List ℕ) × IsLineOf why line
  some_line why = by (status_line why) refl
    where
      by : (o : Option (List ℕ)) → status_line why ≡ o → (line : List ℕ) × IsLineOf why line
      by None is = ([], subst (λ (p : Option (List ℕ)). IfSome p (λ defined. [] ≡ defined)) (sym is) tt)
      by (Some line) is = (line, subst (λ (p : Option (List ℕ)). IfSome p (λ defined. line ≡ defined)) (sym is) refl)

  pub is_run : (ended : Status) → Ends (Some asked) (Some files) files_rose sinks_rose (Some old) (Some new) ended → IsRunOf asked files files_rose sinks_rose old new ended
  is_run ended (inl (answer, is, written)) =
      delivered answer written.0 written.1 ended (answer_over answer (due_of (Some asked) (Some files) files_rose answer is)) written.2 written.3 written.4
  is_run ended (inr (inl (command, finished, same, script, comes, left))) = by_left left
    where
      due : IsDue (Some asked) (Some files) files_rose (done finished)
      due = subst (λ (a : Option Asked). IsDue a (Some files) files_rose (done finished)) (sym same) (Ok finished, comes, refl)

      by_left : IsLeft finished.outputs sinks_rose (Some old) (Some new) ended → IsRunOf asked files files_rose sinks_rose old new ended
      by_left (inl cut) =
          let line = some_line (done finished).status in
          delivered (done finished) line.0 CutShort ended (answer_over (done finished) due) line.1 cut.1 cut.0
      by_left (inr out) =
          let line = some_line (done finished).status in
          let standing = standing_of finished.outputs [] sinks_rose old new OutOfMemory out.1 in
          let two = standing.1 in
          record {
            answer = done finished;
            line = line.0;
            ending = OutOfMemory;
            standing = standing.0;
            is_answer = answer_over (done finished) due;
            is_line = line.1;
            is_status = out.0;
            stands = (two.0, two.1, two.2, begins_more two.0 finished.outputs (line_outputs line.0) (subst (IsBeginning two.0) (append-nil finished.outputs) two.3), two.4);
            held = standing.2;
          }
  is_run ended (inr (inr (n, same, does))) =
      let line = some_line (defined_answer asked files).status in
      delivered (defined_answer asked files) line.0 OutOfMemory ended (inl refl) line.1
      (delivered_nothing (defined_answer asked files).outputs line.0 sinks_rose n (Some old) (Some new) does) same
