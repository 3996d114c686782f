-- What a run over told files is.
use Rattle.std.specs.Prelude.{◌≡◌, ◌⊎◌, ℕ, List, Some}
use Rattle.files_door.specs.declared.target.Target.{Target}
use Rattle.files_door.specs.Targets.{Written, held_by}
use Rattle.command_run.specs.declared.delivery.Ending.{Ending}
use Rattle.command_run.specs.declared.output.Output.{Output}
use Rattle.command_run.specs.Held.{held_after, Stands}
use Rattle.command_run.specs.Told.{file_of}
use Rattle.command_run.specs.Work.{outcome}
use Rattle.command_words.specs.Asked.{Asked}
use Rattle.run_status.specs.declared.input.Input.{Input}
use Rattle.run_status.specs.declared.status.Status.{Status}
use Rattle.run_status.specs.declared.status.Status.TheVariants as status
use Rattle.map_run.specs.declared.answer.Answer.{Answer}
use Rattle.map_run.specs.Answers.{alone, answer_by}
use Rattle.map_run.specs.Commands.{work}
use Rattle.map_run.specs.Ending.{IsLineOf, Reads, status_after}
use Rattle.asked_inputs.specs.Inputs.{input_path}

-- the answer of a command over files, by definition: a status, and outputs in the order in which their targets are begun
abbrev pub defined_answer : Asked → List (List ℕ × List ℕ) → Answer
defined_answer asked files = answer_by (input_path asked) (outcome (work asked) (file_of files (input_path asked)))

-- the answer is the defined one, or it names an input that the command comes to read over these files, and their count of
-- faults rose
abbrev pub IsAnswerOver : Asked → List (List ℕ × List ℕ) → Type 0 → Answer → Type 0
IsAnswerOver asked files rose answer =
    (answer ≡ defined_answer asked files)
    ⊎ ((input : Input) × rose × Reads (Some files) asked input × (answer ≡ alone (status.ReadFault (input_path asked input))))

-- What a run is: there is an answer, with the line of its status, and it is delivered whole, cut short, or until memory ran
-- out. The status is that of the answer, or says that writing failed, or that memory ran out. And each target holds what
-- then stands of the outputs: all of them and the line, of which a beginning may stand where the sinks' count rose; a
-- beginning of them, and the sinks' count rose; or a beginning of both, and then one of `no memory`.
pub record IsRunOf (asked : Asked) (files : List (List ℕ × List ℕ)) (files_rose sinks_rose : Type 0) (old new : Written) (ended : Status) : Type 0 where
  pub answer : Answer
  pub line : List ℕ
  pub ending : Ending
  pub standing : List Output
  pub is_answer : IsAnswerOver asked files files_rose answer
  pub is_line : IsLineOf answer.status line
  pub is_status : ended ≡ status_after answer.status ending
  pub stands : Stands answer.outputs line sinks_rose ending standing
  pub held : (target : Target) → held_by target new ≡ held_after target standing (held_by target old)
