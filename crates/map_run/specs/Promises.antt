-- What commands promise of their outputs and their steps. One line a command.
use Rattle.std.specs.Prelude.{◌≡◌, ℕ, List, Option, None, Some, Result, Ok, Err, ⊤}
use Rattle.command_words.specs.Asked.{Asked, stations, graph, export, imported, make, improve, check, depict, session, trial, page}
use Rattle.run_status.specs.declared.refusal.Refusal.{Refusal}
use Rattle.table_commands.specs.TableWorks.{AreOfGraph}
use Rattle.export_command.specs.ExportWorks.{AreOfExport}
use Rattle.map_commands.specs.Promises.{AreOfMap, AreOfYes, SearchesParts}
use Rattle.map_commands.specs.ImproveWorks.{AreOfImproved}
use Rattle.map_commands.specs.ImportWorks.{AreOfImported, SearchesImported}
use Rattle.picture_command.specs.PictureWorks.{AreOfPicture}
use Rattle.edit_session.specs.SessionWorks.{Played}
use Rattle.edit_session.specs.Promises.{AreOfSession, TakesSessionSteps}
use Rattle.trial_command.specs.Trials.{TakesTrialSteps}
use Rattle.map_run.specs.Answers.{Finished}
use Rattle.asked_inputs.specs.Inputs.{inputs_of}

-- a script that came so far
abbrev pub played_of : Finished → Played
played_of finished = record { outputs = finished.outputs; bad = finished.bad_line }

-- what a command promises of its end, beside that its work comes to it
abbrev pub Promised : Option (List (List ℕ × List ℕ)) → Asked → Finished → Type 0
Promised told (stations feed) finished = ⊤
Promised told (graph feed chosen) finished = AreOfGraph told (inputs_of (graph feed chosen)) finished.outputs
Promised told (export feed out chosen) finished = AreOfExport told (inputs_of (export feed out chosen)) out finished.outputs
Promised told (imported json paths chosen) finished = AreOfImported told (inputs_of (imported json paths chosen)) paths finished.outputs
Promised told (make feed paths chosen) finished = AreOfMap told (inputs_of (make feed paths chosen)) paths finished.outputs
Promised told (improve feed paths moves chosen) finished = AreOfImproved told (inputs_of (improve feed paths moves chosen)) paths moves finished.outputs
Promised told (check feed paths chosen) finished = AreOfYes told (inputs_of (check feed paths chosen)) finished.outputs
Promised told (depict kind feed certificate out chosen) finished = AreOfPicture kind told (inputs_of (depict kind feed certificate out chosen)) out finished.outputs
Promised told (session feed script out chosen) finished = AreOfSession told (inputs_of (session feed script out chosen)) out (played_of finished)
Promised told (trial number) finished = ⊤
Promised told (page shown html) finished = ⊤

-- what a result promises: a refusal nothing more
abbrev pub Keeps : Option (List (List ℕ × List ℕ)) → Asked → Result Finished Refusal → Type 0
Keeps told asked (Ok finished) = Promised told asked finished
Keeps told asked (Err why) = ⊤

-- how far the counter of steps rises: `make`, `improve`, `import`, `session` and `trial` search parts, and no other
-- command takes a step
abbrev pub TakesSteps : Option (List (List ℕ × List ℕ)) → Option Asked → ℕ → ℕ → Type 0
TakesSteps told None before now = now ≡ before
TakesSteps told (Some (stations feed)) before now = now ≡ before
TakesSteps told (Some (graph feed chosen)) before now = now ≡ before
TakesSteps told (Some (export feed out chosen)) before now = now ≡ before
TakesSteps told (Some (imported json paths chosen)) before now = SearchesImported told (inputs_of (imported json paths chosen)) before now
TakesSteps told (Some (make feed paths chosen)) before now = SearchesParts told (inputs_of (make feed paths chosen)) before now
TakesSteps told (Some (improve feed paths moves chosen)) before now = SearchesParts told (inputs_of (improve feed paths moves chosen)) before now
TakesSteps told (Some (check feed paths chosen)) before now = now ≡ before
TakesSteps told (Some (depict kind feed certificate out chosen)) before now = now ≡ before
TakesSteps told (Some (session feed script out chosen)) before now = TakesSessionSteps told (inputs_of (session feed script out chosen)) before now
TakesSteps told (Some (trial number)) before now = TakesTrialSteps number before now
TakesSteps told (Some (page shown html)) before now = now ≡ before
