-- What `session` does: it follows a script over a feed, and its draws go to a file.
use Rattle.std.specs.Prelude.{ℕ, List, [], ◌∷◌, Option, None, Some, Result, Ok, Err}
use Rattle.files_door.specs.declared.target.Target.TheVariants.{Path}
use Rattle.edit_session.specs.Scripts.{followed_in, draws_in}
use Rattle.command_run.specs.declared.output.Output.{Output}
use Rattle.command_run.specs.Work.{Work, ends, ◌>>=◌}
use Rattle.command_paths.specs.Paths.{Chosen}
use Rattle.run_status.specs.declared.input.Input.{Input}
use Rattle.run_status.specs.declared.input.Input.TheVariants as input
use Rattle.run_status.specs.declared.refusal.Refusal.{Refusal}
use Rattle.run_status.specs.declared.refusal.Refusal.TheVariants as refused
use Rattle.command_inputs.specs.declared.loaded.Loaded.{Loaded}
use Rattle.command_inputs.specs.Loading.{file_work, load_work}
use Rattle.edit_session.specs.DrawTexts.{draws_text}

-- what a script comes to: its draws, one after another, to their file; and the number, from 1, of its first line that is neither
-- a draw nor an edit that may come there, if it has one
pub record Played : Type 0 where
  pub outputs : List Output
  pub bad : Option ℕ

-- the text of all draws of a script
abbrev pub session_text : Loaded → List ℕ → List ℕ
session_text loaded script = draws_text 1 (draws_in loaded.tables loaded.settings loaded.method script)

-- the text of draws goes to their file
abbrev pub draw_outputs : List ℕ → List ℕ → List Output
draw_outputs out text = record { to = Path out; bytes = text } ∷ []

-- what a script comes to: its draws, up to its first bad line, if it has one
abbrev pub played_by : List ℕ → Loaded → List ℕ → Played
played_by out loaded script = record { outputs = draw_outputs out (session_text loaded script); bad = (followed_in loaded.tables script).bad }

-- a script that is not there is as a bad line 0
abbrev pub script_in : Option (List ℕ) → Result (List ℕ) Refusal
script_in None = Err (refused.BadEdit 0)
script_in (Some script) = Ok script

abbrev pub script_work : Work Input Refusal (List ℕ)
script_work = do
  file ← file_work input.Script
  ends (script_in file)

-- `session`: the settings and the tables come first, then the whole script is read, and then it is followed
abbrev pub session_work : Chosen → List ℕ → Work Input Refusal Played
session_work chosen out = do
  loaded ← load_work chosen
  script ← script_work
  ends (Ok (played_by out loaded script))
