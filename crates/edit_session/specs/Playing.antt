-- How the draws of a script are written, as they are made.
use Rattle.std.specs.Prelude.{◌≡◌, ℕ, List, [], take, Option, Result, Ok, Err}
use Rattle.files_door.specs.declared.stop.Stop.{Stop}
use Rattle.files_door.specs.declared.stop.Stop.TheVariants as stop
use Rattle.files_door.specs.Targets.{Written}
use Rattle.files_door.specs.Acts.{Does}
use Rattle.command_run.specs.declared.delivery.Ending.TheVariants.{CutShort}
use Rattle.command_run.specs.Delivered.{outputs_acts, IsDelivered}
use Rattle.run_status.specs.Following.{ComesTo, Follows}
use Rattle.command_inputs.specs.Inputs.{InputPaths, input_at}
use Rattle.edit_session.specs.declared.stop.ScriptStop.{ScriptStop}
use Rattle.edit_session.specs.declared.stop.ScriptStop.TheVariants as script_stop
use Rattle.edit_session.specs.SessionWorks.{Played, session_work}
use Rattle.edit_session.specs.Promises.{AreOfSession}

-- a call of sinks that is refused stops the script
abbrev pub stopped_by : Stop → ScriptStop
stopped_by stop.Failed = script_stop.WriteFault
stopped_by stop.NoMemory = script_stop.NoMemory

-- this is what `session` comes to over the files
abbrev pub IsPlayed : Option (List (List ℕ × List ℕ)) → InputPaths → List ℕ → Type 0 → Played → Type 0
IsPlayed told inputs out rose played = ComesTo told (input_at inputs) rose (session_work inputs.chosen out) (Ok played)

-- How a script is played, told whether the counts of faults of the files and of the sinks rose. To its end or its first bad
-- line: all draws are written, and each keeps its promise. Or it is refused before anything is written. Or writing failed, or
-- memory ran out, and a beginning of the draws stands that it comes to.
abbrev pub Plays : Option (List (List ℕ × List ℕ)) → InputPaths → List ℕ → Type 0 → Type 0 → Option Written → Option Written → Result (Option ℕ) ScriptStop → Type 0
Plays told inputs out files_rose sinks_rose old new (Ok bad) =
    (played : Played) × IsPlayed told inputs out files_rose played × AreOfSession told inputs out played × (bad ≡ played.bad) × Does (outputs_acts played.outputs) old new
Plays told inputs out files_rose sinks_rose old new (Err (script_stop.Refused why)) =
    Follows {A = Played} told (input_at inputs) files_rose (λ played. played) (session_work inputs.chosen out) (Err why) × (new ≡ old)
Plays told inputs out files_rose sinks_rose old new (Err script_stop.WriteFault) =
    (played : Played) × IsPlayed told inputs out files_rose played × IsDelivered played.outputs [] sinks_rose old new CutShort
Plays told inputs out files_rose sinks_rose old new (Err script_stop.NoMemory) =
    (played : Played) × IsPlayed told inputs out files_rose played × ((n : ℕ) × Does (take n (outputs_acts played.outputs)) old new)
