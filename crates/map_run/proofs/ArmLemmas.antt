-- The work of a command, by the command that is asked for.
use Rattle.std.proofs.Common.{◌≡◌, ℕ, ◌⊎◌, inl, inr, true, List, [], length, take, Option, Some, Result, Ok, Err, IfOk, refl, sym, ap, subst, arith}
use Rattle.std.specs.Prelude.{⊤}
use Rattle.std.proofs.Math.Seq.{take-length}
use Rattle.command_paths.specs.Paths.{Chosen}
use Rattle.files_door.specs.Targets.{Written}
use Rattle.files_door.specs.Acts.{Act, Does}
use Rattle.command_run.specs.declared.output.Output.{Output}
use Rattle.command_run.specs.declared.delivery.Ending.{Ending}
use Rattle.command_run.specs.declared.delivery.Ending.TheVariants.{Whole, CutShort, OutOfMemory}
use Rattle.command_run.specs.Delivered.{outputs_acts, IsSaid, IsDelivered}
use Rattle.command_run.specs.Work.{Work, ends}
use Rattle.command_run.proofs.ActLemmas.{delivered_whole}
use Rattle.command_run.proofs.PieceLemmas.{delivered_left}
use Rattle.command_words.specs.Asked.{Asked, stations, graph, export, imported, make, improve, check, depict, session, trial, page}
use Rattle.run_status.specs.declared.input.Input.{Input}
use Rattle.run_status.specs.declared.refusal.Refusal.{Refusal}
use Rattle.run_status.specs.declared.status.Status.{Status}
use Rattle.run_status.specs.Following.{Follows, Gives}
use Rattle.run_status.proofs.FollowLemmas.{follows_refused, follows_value, gives_follows}
use Rattle.command_inputs.specs.Inputs.{InputPaths, input_at}
use Rattle.table_commands.specs.TableWorks.{graph_work, stations_work, AreOfGraph}
use Rattle.map_commands.specs.MapWorks.{check_work, make_work}
use Rattle.export_command.specs.ExportWorks.{export_work, AreOfExport}
use Rattle.map_commands.specs.ImportWorks.{import_work, AreOfImported, SearchesImported}
use Rattle.page_command.specs.PageWorks.{page_work}
use Rattle.map_commands.specs.Promises.{AreOfMap, AreOfYes, SearchesParts}
use Rattle.map_commands.specs.ImproveWorks.{improve_work, AreOfImproved}
use Rattle.picture_command.specs.PictureWorks.{picture_work, AreOfPicture}
use Rattle.edit_session.specs.declared.stop.ScriptStop.{ScriptStop}
use Rattle.edit_session.specs.declared.stop.ScriptStop.TheVariants as script_stop
use Rattle.edit_session.specs.Playing.{IsPlayed, Plays}
use Rattle.edit_session.specs.SessionWorks.{Played, session_work}
use Rattle.edit_session.specs.Promises.{AreOfSession, TakesSessionSteps}
use Rattle.trial_command.specs.Trials.{TakesTrialSteps, trial_outcome, trial_work}
use Rattle.map_run.specs.Answers.{Finished, done, status_at, stopped, whole, whole_by}
use Rattle.map_run.specs.Commands.{is_script, to_a_stop, to_the_end, work}
use Rattle.map_run.specs.Ending.{Ends, IsEndWritten, IsLeft, IsOutOfMemory, IsScriptEnded, IsStatusSaid}
use Rattle.map_run.proofs.EndingLemmas.{Told, command_ends}
use Rattle.asked_inputs.specs.Inputs.{inputs_of, input_path}
use Rattle.map_run.specs.Promises.{Keeps, Promised, TakesSteps}

abbrev same : List Output → List Output
same outputs = outputs

abbrev at_end : Finished → Finished
at_end finished = finished

abbrev as_played : Played → Played
as_played played = played

-- a command without a script, and its end
whole_follows : (told : Told) (paths : Input → List ℕ) (rose : Type 0) (first : Work Input Refusal (List Output)) (result : Result (List Output) Refusal)
    → Follows told paths rose same first result → Follows told paths rose at_end (to_the_end first) (whole_by result)
whole_follows told paths rose first (Ok outputs) follows =
    follows_value told paths rose same at_end first (λ o. Ok (whole o)) outputs (Ok (whole outputs)) follows refl
whole_follows told paths rose first (Err why) follows =
    follows_refused told paths rose same at_end first (λ o. ends (Ok (whole o))) why (Err why) (why, refl, refl) follows

-- a script, and where it stopped
stopped_follows : (told : Told) (paths : Input → List ℕ) (rose : Type 0) (first : Work Input Refusal Played) (played : Played)
    → Follows told paths rose as_played first (Ok played) → Follows told paths rose at_end (to_a_stop first) (Ok (stopped played))
stopped_follows told paths rose first played follows =
    follows_value told paths rose as_played at_end first (λ p. Ok (stopped p)) played (Ok (stopped played)) follows refl

refused_follows : (told : Told) (paths : Input → List ℕ) (rose : Type 0) (first : Work Input Refusal Played) (why : Refusal)
    → Follows told paths rose as_played first (Err why) → Follows told paths rose at_end (to_a_stop first) (Err why)
refused_follows told paths rose first why follows =
    follows_refused told paths rose as_played at_end first (λ p. ends (Ok (stopped p))) why (Err why) (why, refl, refl) follows

-- a count that rose in a part of the time rose in all of it
widened : (outputs : List Output) (line : List ℕ) (rose_first rose : Type 0) (old new : Option Written) (ending : Ending) → (rose_first → rose) → IsDelivered outputs line rose_first old new ending → IsDelivered outputs line rose old new ending
widened outputs line rose_first rose old new Whole widen delivered = (delivered.0, λ less. widen (delivered.1 less), delivered.2)
widened outputs line rose_first rose old new CutShort widen delivered = (delivered.0, widen delivered.1, delivered.2, delivered.3)
widened outputs line rose_first rose old new OutOfMemory widen delivered = delivered

-- a line behind nothing
said_of : (line : List ℕ) (rose : Type 0) (old new : Option Written) (ending : Ending) → IsDelivered [] line rose old new ending → IsSaid line rose old new ending
said_of line rose old new Whole delivered = delivered
said_of line rose old new CutShort delivered = absurd (omega (arith, delivered.2))
said_of line rose old new OutOfMemory delivered = delivered

-- the acts that are done are all that are due, and memory runs out behind them
all_due : (outputs : List Output) (old new : Option Written) → Does (outputs_acts outputs) old new → (n : ℕ) × Does (take n (outputs_acts outputs)) old new
all_due outputs old new does = (length (outputs_acts outputs), subst (λ (a : List Act). Does a old new) (sym (take-length (outputs_acts outputs))) does)

-- what a command without a script does, by its inputs
abbrev work_by : Asked → InputPaths → Work Input Refusal (List Output)
work_by (stations feed) p = stations_work
work_by (graph feed chosen) p = graph_work p.chosen
work_by (export feed out chosen) p = export_work p.chosen out
work_by (imported json paths chosen) p = import_work p.chosen paths
work_by (make feed paths chosen) p = make_work p.chosen paths
work_by (improve feed paths moves chosen) p = improve_work p.chosen paths moves
work_by (check feed paths chosen) p = check_work p.chosen
work_by (depict kind feed certificate out chosen) p = picture_work kind p.chosen out
work_by (session feed script out chosen) p = ends (Ok [])
work_by (trial number) p = trial_work number
work_by (page shown html) p = page_work html

-- what it promises of its outputs
abbrev promised_by : Told → Asked → InputPaths → List Output → Type 0
promised_by told (graph feed chosen) p outputs = AreOfGraph told p outputs
promised_by told (export feed out chosen) p outputs = AreOfExport told p out outputs
promised_by told (imported json paths chosen) p outputs = AreOfImported told p paths outputs
promised_by told (make feed paths chosen) p outputs = AreOfMap told p paths outputs
promised_by told (improve feed paths moves chosen) p outputs = AreOfImproved told p paths moves outputs
promised_by told (check feed paths chosen) p outputs = AreOfYes told p outputs
promised_by told (depict kind feed certificate out chosen) p outputs = AreOfPicture kind told p out outputs
promised_by told command p outputs = ⊤

-- and how many steps any command takes
abbrev steps_by : Told → Asked → InputPaths → ℕ → ℕ → Type 0
steps_by told (imported json paths chosen) p before now = SearchesImported told p before now
steps_by told (make feed paths chosen) p before now = SearchesParts told p before now
steps_by told (improve feed paths moves chosen) p before now = SearchesParts told p before now
steps_by told (session feed script out chosen) p before now = TakesSessionSteps told p before now
steps_by told (trial number) p before now = TakesTrialSteps number before now
steps_by told command p before now = now ≡ before

steps_same : (told : Told) (command : Asked) (before now : ℕ)
    → steps_by told command (inputs_of command) before now → TakesSteps told (Some command) before now
steps_same told (stations feed) before now few = few
steps_same told command before now few = few

-- nothing is promised
pub no_promise : (result : Result (List Output) Refusal) → IfOk result (λ outputs. ⊤)
no_promise (Ok outputs) = tt
no_promise (Err why) = tt

module _ (told : Told) (asked : Asked) where
  -- what follows a command's work, where its inputs are these
  arm_follows : (rose : Type 0) (end : Result Finished Refusal) (command : Asked) (inputs : InputPaths) (does : InputPaths → Work Input Refusal Finished) → asked ≡ command → inputs ≡ inputs_of asked
      → does (inputs_of command) ≡ work command → Follows told (input_at inputs) rose at_end (does inputs) end → Follows told (input_path asked) rose at_end (work asked) end
  arm_follows rose end command inputs does is lie it_is follows =
      let there : Follows told (input_at (inputs_of asked)) rose at_end (does (inputs_of asked)) end = subst (λ (p : InputPaths). Follows told (input_at p) rose at_end (does p) end) lie follows in
      let here : Follows told (input_path command) rose at_end (does (inputs_of command)) end = subst (λ (a : Asked). Follows told (input_path a) rose at_end (does (inputs_of a)) end) is there in
      let worked : Follows told (input_path command) rose at_end (work command) end = subst (λ (w : Work Input Refusal Finished). Follows told (input_path command) rose at_end w end) it_is here in
      subst (λ (a : Asked). Follows told (input_path a) rose at_end (work a) end) (sym is) worked

  -- what is promised by the inputs of a command
  by_inputs : (P : InputPaths → Type 0) (command : Asked) (inputs : InputPaths) → asked ≡ command
      → inputs ≡ inputs_of asked → P inputs → P (inputs_of command)
  by_inputs P command inputs is lie promised = subst (λ (a : Asked). P (inputs_of a)) is (subst P lie promised)

  -- a command without a script, by its outputs
  pub outputs_end : (files_rose sinks_rose : Type 0) (result : Result (List Output) Refusal) (command : Asked)
      (inputs : InputPaths) (old new : Option Written) (ended : Status) → asked ≡ command → inputs ≡ inputs_of asked
      → to_the_end (work_by command (inputs_of command)) ≡ work command
      → ((o : List Output) → promised_by told command (inputs_of command) o → Promised told command (whole o))
      → Follows told (input_at inputs) files_rose same (work_by command inputs) result
      → IfOk result (promised_by told command inputs) → IsEndWritten asked (whole_by result) sinks_rose old new ended
      → Ends (Some asked) told files_rose sinks_rose old new ended
  outputs_end files_rose sinks_rose result command inputs old new ended is lie it_is keeps follows kept written =
      command_ends told asked files_rose sinks_rose (whole_by result) old new ended
      (arm_follows files_rose (whole_by result) command inputs (λ p. to_the_end (work_by command p)) is lie it_is
      (whole_follows told (input_at inputs) files_rose (work_by command inputs) result follows))
      (by_result result kept) written
    where
      by_result : (r : Result (List Output) Refusal) → IfOk r (promised_by told command inputs)
          → Keeps told asked (whole_by r)
      by_result (Ok outputs) h =
          subst (λ (a : Asked). Promised told a (whole outputs)) (sym is)
          (keeps outputs (by_inputs (λ p. promised_by told command p outputs) command inputs is lie h))
      by_result (Err why) h = tt

  -- a trial reads nothing
  pub trial_follows : (rose : Type 0) (result : Result (List Output) Refusal) (inputs : InputPaths) (number : ℕ)
      → Gives same result (trial_outcome number) → Follows told (input_at inputs) rose same (trial_work number) result
  trial_follows rose result inputs number gives =
      gives_follows told (input_at inputs) rose same (trial_outcome number) result gives

  -- a script whose draws are written as they are made
  pub session_ends : {feed script out : List ℕ} {chosen : Chosen} (files_rose first_rose last_rose sinks_rose : Type 0) (outcome : Result (Option ℕ) ScriptStop) (inputs : InputPaths) (old mid new : Option Written) (ended : Status)
      → asked ≡ session feed script out chosen → inputs ≡ inputs_of asked → (first_rose → sinks_rose) → (last_rose → sinks_rose) → Plays told inputs out files_rose first_rose old mid outcome
      → IsScriptEnded asked outcome last_rose mid new ended → Ends (Some asked) told files_rose sinks_rose old new ended
  session_ends {feed} {script} {out} {chosen} files_rose first_rose last_rose sinks_rose outcome inputs old mid new ended is lie first last plays finish = by_outcome outcome plays finish
    where
      does : InputPaths → Work Input Refusal Finished
      does p = to_a_stop (session_work p.chosen out)

      comes : (played : Played) → IsPlayed told inputs out files_rose played → Follows told (input_path asked) files_rose at_end (work asked) (Ok (stopped played))
      comes played is_played = arm_follows files_rose (Ok (stopped played)) (session feed script out chosen) inputs does is lie refl (stopped_follows told (input_at inputs) files_rose (session_work inputs.chosen out) played is_played)

      is_session : is_script asked ≡ true
      is_session = ap is_script is

      left : (played : Played) → IsPlayed told inputs out files_rose played → IsLeft played.outputs sinks_rose old new ended → Ends (Some asked) told files_rose sinks_rose old new ended
      left played is_played is_left = inr (inl (asked, stopped played, refl, is_session, comes played is_played, is_left))

      left_out : (played : Played) → IsPlayed told inputs out files_rose played → (n : ℕ) × Does (take n (outputs_acts played.outputs)) old mid → IsOutOfMemory mid new ended → Ends (Some asked) told files_rose sinks_rose old new ended
      left_out played is_played front out = left played is_played
          (inr (out.1, delivered_left (Option ℕ) played.outputs sinks_rose out.0 old mid new (front.0, λ failed. absurd (cc), front.1) out.2))

      by_end : (played : Played) → IsPlayed told inputs out files_rose played → AreOfSession told inputs out played → Does (outputs_acts played.outputs) old mid
          → IsStatusSaid (status_at played.bad) last_rose mid new ended ⊎ IsOutOfMemory mid new ended → Ends (Some asked) told files_rose sinks_rose old new ended
      by_end played is_played are all (inl said) = inl (
        done (stopped played),
        (
          Ok (stopped played),
          comes played is_played,
          subst (λ (a : Asked). Keeps told a (Ok (stopped played))) (sym is) (by_inputs (λ p. AreOfSession told p out played) (session feed script out chosen) inputs is lie are),
          refl,
        ),
        (said.0, said.1, said.2, delivered_whole played.outputs said.0 last_rose sinks_rose old mid new said.1 last all (said_of said.0 last_rose mid new said.1 said.3), said.4),
      )
      by_end played is_played are all (inr out) = left_out played is_played (all_due played.outputs old mid all) out

      by_refusal : (why : Refusal) → mid ≡ old → Follows told (input_at inputs) files_rose as_played (session_work inputs.chosen out) (Err why) → IsEndWritten asked (Err why) last_rose mid new ended → Ends (Some asked) told files_rose sinks_rose old new ended
      by_refusal why nothing follows written =
          let there : Follows told (input_path asked) files_rose at_end (work asked) (Err why) =
          arm_follows files_rose (Err why) (session feed script out chosen) inputs does is lie refl (refused_follows told (input_at inputs) files_rose (session_work inputs.chosen out) why follows) in
          command_ends told asked files_rose sinks_rose (Err why) old new ended there tt (wide (subst (λ (m : Option Written). IsEndWritten asked (Err why) last_rose m new ended) nothing written))
        where
          wide : IsEndWritten asked (Err why) last_rose old new ended → IsEndWritten asked (Err why) sinks_rose old new ended
          wide (inl (free, (line, ending, is_line, delivered, so))) = inl (free, (line, ending, is_line, widened [] line last_rose sinks_rose old new ending last delivered, so))
          wide (inr out) = inr out

      by_outcome : (o : Result (Option ℕ) ScriptStop) → Plays told inputs out files_rose first_rose old mid o → IsScriptEnded asked o last_rose mid new ended → Ends (Some asked) told files_rose sinks_rose old new ended
      by_outcome (Ok bad) (played, is_played, are, bad_is, all) finish =
          by_end played is_played are all (subst (λ (b : Option ℕ). IsStatusSaid (status_at b) last_rose mid new ended ⊎ IsOutOfMemory mid new ended) bad_is finish)
      by_outcome (Err (script_stop.Refused why)) (follows, nothing) finish = by_refusal why nothing follows finish
      by_outcome (Err script_stop.WriteFault) (played, is_played, cut) finish =
          left played is_played (inl (finish.0, widened played.outputs [] first_rose sinks_rose old new CutShort first (subst (λ (w : Option Written). IsDelivered played.outputs [] first_rose old w CutShort) (sym finish.1) cut)))
      by_outcome (Err script_stop.NoMemory) (played, is_played, front) finish = left_out played is_played front finish

  -- how many steps a command takes
  pub steps_taken : (command : Asked) (inputs : InputPaths) (before now : ℕ) → asked ≡ command
      → inputs ≡ inputs_of asked → steps_by told command inputs before now → TakesSteps told (Some asked) before now
  steps_taken command inputs before now is lie few =
      subst (λ (a : Asked). TakesSteps told (Some a) before now) (sym is) (steps_same told command before now
      (by_inputs (λ p. steps_by told command p before now) command inputs is lie few))
