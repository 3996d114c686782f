-- What each command does, as a piece of work that reads inputs. One line a command.
use Rattle.std.specs.Prelude.{Bool, true, false, List, Ok}
use Rattle.command_run.specs.declared.output.Output.{Output}
use Rattle.command_run.specs.Work.{Work, ends, ◌>>=◌}
use Rattle.command_words.specs.Asked.{Asked, stations, graph, export, imported, make, improve, check, depict, session, trial, page}
use Rattle.run_status.specs.declared.input.Input.{Input}
use Rattle.run_status.specs.declared.refusal.Refusal.{Refusal}
use Rattle.table_commands.specs.TableWorks.{graph_work, stations_work}
use Rattle.map_commands.specs.MapWorks.{check_work, make_work}
use Rattle.map_commands.specs.ImproveWorks.{improve_work}
use Rattle.picture_command.specs.PictureWorks.{picture_work}
use Rattle.edit_session.specs.SessionWorks.{Played, session_work}
use Rattle.trial_command.specs.Trials.{trial_work}
use Rattle.export_command.specs.ExportWorks.{export_work}
use Rattle.map_commands.specs.ImportWorks.{import_work}
use Rattle.page_command.specs.PageWorks.{page_work}
use Rattle.map_run.specs.Answers.{Finished, stopped, whole}

-- a command without a script
abbrev pub to_the_end : Work Input Refusal (List Output) → Work Input Refusal Finished
to_the_end first = do
  outputs ← first
  ends (Ok (whole outputs))

-- a script
abbrev pub to_a_stop : Work Input Refusal Played → Work Input Refusal Finished
to_a_stop first = do
  played ← first
  ends (Ok (stopped played))

-- what is asked for
abbrev pub work : Asked → Work Input Refusal Finished
work (stations feed) = to_the_end stations_work
work (graph feed chosen) = to_the_end (graph_work chosen)
work (export feed out chosen) = to_the_end (export_work chosen out)
work (imported json paths chosen) = to_the_end (import_work chosen paths)
work (make feed paths chosen) = to_the_end (make_work chosen paths)
work (improve feed paths moves chosen) = to_the_end (improve_work chosen paths moves)
work (check feed paths chosen) = to_the_end (check_work chosen)
work (depict kind feed certificate out chosen) = to_the_end (picture_work kind chosen out)
work (session feed script out chosen) = to_a_stop (session_work chosen out)
work (trial number) = to_the_end (trial_work number)
work (page shown html) = to_the_end (page_work html)

-- the commands whose outputs are written as they are made
abbrev pub is_script : Asked → Bool
is_script (session feed script out chosen) = true
is_script asked = false
