-- Answers of a run: a status, and outputs in the order in which their targets are begun.
use Rattle.std.specs.Prelude.{ℕ, List, [], Option, None, Some, Result, Ok, Err}
use Rattle.command_run.specs.declared.output.Output.{Output}
use Rattle.run_status.specs.declared.input.Input.{Input}
use Rattle.run_status.specs.declared.refusal.Refusal.{Refusal}
use Rattle.run_status.specs.declared.status.Status.{Status}
use Rattle.run_status.specs.declared.status.Status.TheVariants as status
use Rattle.run_status.specs.Statuses.{status_of}
use Rattle.edit_session.specs.SessionWorks.{Played}
use Rattle.map_run.specs.declared.answer.Answer.{Answer}

-- what a command comes to at its end: its outputs in the order in which their targets are begun, and the number of the bad line
-- at which a script stopped, if it met one
pub record Finished : Type 0 where
  pub outputs : List Output
  pub bad_line : Option ℕ

-- a status with nothing but its line
abbrev pub alone : Status → Answer
alone why = record { status = why; outputs = [] }

-- a command without a script came to its end
abbrev pub whole : List Output → Finished
whole outputs = record { outputs = outputs; bad_line = None }

-- a script came to its end, or to its first bad line
abbrev pub stopped : Played → Finished
stopped played = record { outputs = played.outputs; bad_line = played.bad }

-- what a command without a script came to
abbrev pub whole_by : Result (List Output) Refusal → Result Finished Refusal
whole_by (Ok outputs) = Ok (whole outputs)
whole_by (Err why) = Err why

-- the status by the bad line at which a script stopped
abbrev pub status_at : Option ℕ → Status
status_at None = status.Done
status_at (Some line) = status.BadEdit line

-- a command came to its end, and these are its outputs
abbrev pub done : Finished → Answer
done finished = record { status = status_at finished.bad_line; outputs = finished.outputs }

-- the answer of a command by what its work came to
abbrev pub answer_by : (Input → List ℕ) → Result Finished Refusal → Answer
answer_by paths (Ok finished) = done finished
answer_by paths (Err why) = alone (status_of paths why)
