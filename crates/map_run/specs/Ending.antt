-- How a run ends: what its targets hold then, and which status it has.
use Rattle.std.specs.Prelude.{◌≡◌, ◌≢◌, ℕ, ◌⊎◌, true, List, [], ◌++◌, take, Option, None, Some, Result, Ok, Err, IfSome, string_bytes, ⊤}
use Rattle.files_door.specs.Targets.{Written}
use Rattle.files_door.specs.Acts.{Does}
use Rattle.command_run.specs.declared.output.Output.{Output}
use Rattle.command_run.specs.declared.delivery.Ending.{Ending}
use Rattle.command_run.specs.declared.delivery.Ending.TheVariants.{Whole, CutShort, OutOfMemory}
use Rattle.command_run.specs.Told.{IsRun}
use Rattle.command_run.specs.Delivered.{IsDelivered, line_acts, no_memory_line}
use Rattle.command_run.specs.Held.{line_outputs}
use Rattle.map_run.specs.declared.answer.Answer.{Answer}
use Rattle.map_run.specs.declared.answer.Reply.{Reply}
use Rattle.run_status.specs.declared.input.Input.{Input}
use Rattle.run_status.specs.declared.refusal.Refusal.{Refusal}
use Rattle.run_status.specs.declared.refusal.Refusal.TheVariants as refused
use Rattle.run_status.specs.declared.status.Status.{Status}
use Rattle.run_status.specs.declared.status.Status.TheVariants as status
use Rattle.run_status.specs.Lines.{status_line}
use Rattle.command_words.specs.Asked.{Asked}
use Rattle.asked_inputs.specs.Inputs.{input_path}
use Rattle.edit_session.specs.declared.stop.ScriptStop.{ScriptStop}
use Rattle.edit_session.specs.declared.stop.ScriptStop.TheVariants as script_stop
use Rattle.map_run.specs.Answers.{Finished, alone, answer_by, status_at}
use Rattle.map_run.specs.Commands.{is_script, work}
use Rattle.run_status.specs.Following.{ComesTo}
use Rattle.map_run.specs.Promises.{Keeps}

-- the answer that is due to what the words ask for: that of a result that the command's work comes to over the files; the help,
-- where they ask for nothing that is read
abbrev pub IsDue : Option Asked → Option (List (List ℕ × List ℕ)) → Type 0 → Answer → Type 0
IsDue None told rose answer = answer ≡ alone status.Usage
IsDue (Some asked) told rose answer =
    (result : Result Finished Refusal) × ComesTo told (input_path asked) rose (work asked) result × (answer ≡ answer_by (input_path asked) result)

-- The answer to what the words ask for: that of a result that the command's work comes to over the files, and that keeps
-- what the command promises. Where they ask for nothing that is read, it is the help.
abbrev pub IsAnswerTo : Option Asked → Option (List (List ℕ × List ℕ)) → Type 0 → Answer → Type 0
IsAnswerTo None told rose answer = answer ≡ alone status.Usage
IsAnswerTo (Some asked) told rose answer =
    (result : Result Finished Refusal) × ComesTo told (input_path asked) rose (work asked) result × Keeps told asked result
    × (answer ≡ answer_by (input_path asked) result)

-- a line that the status may print
abbrev pub IsLineOf : Status → List ℕ → Type 0
IsLineOf ended line = IfSome (status_line ended) (λ defined. line ≡ defined)

-- this answer, with a line that its status may print
abbrev pub IsReplyWith : Answer → Reply → Type 0
IsReplyWith answer reply = (reply.answer ≡ answer) × IsLineOf answer.status (string_bytes reply.line)

-- the status of a run by its answer, and by how the delivery of its outputs ended
abbrev pub status_after : Status → Ending → Status
status_after ended Whole = ended
status_after ended CutShort = status.WriteFault
status_after ended OutOfMemory = status.NoMemory

-- how an answer is written, with the line of its status
abbrev pub IsWritten : Answer → Type 0 → Option Written → Option Written → Status → Type 0
IsWritten answer rose old new ended =
    (line : List ℕ) × (ending : Ending) × IsLineOf answer.status line × IsDelivered answer.outputs line rose old new ending × (ended ≡ status_after answer.status ending)

-- memory ran out before there was anything to write: a beginning of `no memory` stands there
abbrev pub IsOutOfMemory : Option Written → Option Written → Status → Type 0
IsOutOfMemory old new ended = (n : ℕ) × (ended ≡ status.NoMemory) × Does (take n (line_acts no_memory_line)) old new

-- what a command came to is written, unless memory runs out first
abbrev pub IsEndWritten : Asked → Result Finished Refusal → Type 0 → Option Written → Option Written → Status → Type 0
IsEndWritten asked end rose old new ended =
    ((end ≢ Err refused.NoMemory) × IsWritten (answer_by (input_path asked) end) rose old new ended) ⊎ IsOutOfMemory old new ended

-- the line of a status is written behind outputs that are whole
abbrev pub IsStatusSaid : Status → Type 0 → Option Written → Option Written → Status → Type 0
IsStatusSaid why rose old new ended =
    (line : List ℕ) × (ending : Ending) × IsLineOf why line × IsDelivered [] line rose old new ending × (ended ≡ status_after why ending)

-- How a script ends whose draws were written as they were made, by how it was followed.
abbrev pub IsScriptEnded : Asked → Result (Option ℕ) ScriptStop → Type 0 → Option Written → Option Written → Status → Type 0
IsScriptEnded asked (Ok bad) rose old new ended = IsStatusSaid (status_at bad) rose old new ended ⊎ IsOutOfMemory old new ended
IsScriptEnded asked (Err (script_stop.Refused why)) rose old new ended = IsEndWritten asked (Err why) rose old new ended
IsScriptEnded asked (Err script_stop.WriteFault) rose old new ended = (ended ≡ status.WriteFault) × (new ≡ old)
IsScriptEnded asked (Err script_stop.NoMemory) rose old new ended = IsOutOfMemory old new ended

-- writing outputs as they are made is left off: it failed, and they are cut short; or memory ran out, and a beginning of `no memory`
-- follows what stands of them
abbrev pub IsLeft : List Output → Type 0 → Option Written → Option Written → Status → Type 0
IsLeft outputs rose old new ended =
    ((ended ≡ status.WriteFault) × IsDelivered outputs [] rose old new CutShort)
    ⊎ ((ended ≡ status.NoMemory) × IsDelivered outputs [] rose old new OutOfMemory)

-- a script is left off: a beginning stands of the draws that its work comes to over the files
abbrev pub IsLeftOff : Option Asked → Option (List (List ℕ × List ℕ)) → Type 0 → Type 0 → Option Written → Option Written → Status → Type 0
IsLeftOff asked told files_rose sinks_rose old new ended =
    (command : Asked) × (finished : Finished) × (asked ≡ Some command) × (is_script command ≡ true)
    × ComesTo told (input_path command) files_rose (work command) (Ok finished) × IsLeft finished.outputs sinks_rose old new ended

-- How a run ends, by what the words ask for and the files: an answer to it is written, unless a script is left off, or memory runs
-- out before there is anything to write.
abbrev pub Ends : Option Asked → Option (List (List ℕ × List ℕ)) → Type 0 → Type 0 → Option Written → Option Written → Status → Type 0
Ends asked told files_rose sinks_rose old new ended =
    ((answer : Answer) × IsAnswerTo asked told files_rose answer × IsWritten answer sinks_rose old new ended)
    ⊎ (IsLeftOff asked told files_rose sinks_rose old new ended ⊎ IsOutOfMemory old new ended)

-- what a run has to write: the outputs of the answer that is due and the line of its status; nothing, where memory runs out before
abbrev pub IsToBeWritten : Option Asked → Option (List (List ℕ × List ℕ)) → Type 0 → List Output → Type 0
IsToBeWritten asked told files_rose outputs =
    (outputs ≡ [])
    ⊎ ((answer : Answer) × (line : List ℕ) × IsDue asked told files_rose answer × IsLineOf answer.status line × (outputs ≡ answer.outputs ++ line_outputs line))

-- an input that the command comes to read over the files, and can't read
abbrev pub Reads : Option (List (List ℕ × List ℕ)) → Asked → Input → Type 0
Reads told asked input = IsRun refused.ReadFault told (input_path asked) (work asked) (Err (refused.ReadFault input))

-- a status has its cause
abbrev pub IsCaused : Option Asked → Option (List (List ℕ × List ℕ)) → Type 0 → Type 0 → Status → Type 0
-- words that are not read, and no others, end with the help
IsCaused asked told files_rose sinks_rose status.Usage = asked ≡ None
-- a fault of reading or writing comes only where its count rose, and that of reading at an input
IsCaused asked told files_rose sinks_rose (status.ReadFault path) =
    files_rose × ((command : Asked) × (input : Input) × (asked ≡ Some command) × (path ≡ input_path command input) × Reads told command input)
IsCaused asked told files_rose sinks_rose status.WriteFault = sinks_rose
-- what words end with that are not read is said by itself; want of memory is free
IsCaused asked told files_rose sinks_rose other = ⊤
