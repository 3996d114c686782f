-- What a run of `import` comes to over the file that a run of `export` wrote.
use Rattle.std.proofs.Common.{◌≡◌, ◌∙◌, ap, refl, sym, ℕ, Bool, true, false, cond, List, length, Option, Some, Result, Ok, Err}
use Rattle.map_base.specs.declared.limit.LimitKind.TheVariants.{File}
use Rattle.map_base.specs.Limits.{is_within, limit_of}
use Rattle.map_method.specs.declared.map_settings.MapSettings.{MapSettings}
use Rattle.files_door.specs.declared.target.Target.TheVariants.{Path}
use Rattle.files_door.specs.Files.{file_at}
use Rattle.files_door.specs.Targets.{Written, held_by}
use Rattle.command_run.specs.declared.output.Output.{Output}
use Rattle.command_run.specs.Work.{Work, ends, outcome, ◌>>=◌}
use Rattle.command_run.specs.Told.{file_of}
use Rattle.command_paths.specs.Paths.{Chosen, MapPaths}
use Rattle.command_words.specs.Asked.{export, imported, make}
use Rattle.asked_inputs.specs.Inputs.{input_path}
use Rattle.run_status.specs.declared.input.Input.{Input}
use Rattle.run_status.specs.declared.refusal.Refusal.{Refusal}
use Rattle.run_status.specs.declared.refusal.Refusal.TheVariants as refused
use Rattle.command_inputs.specs.Loading.{settings_by}
use Rattle.map_commands.specs.MapWorks.{make_work}
use Rattle.map_commands.specs.ImportWorks.{import_work}
use Rattle.export_command.specs.Exchanged.{AreAlike}
use Rattle.map_run.specs.Answers.{whole, Finished}
use Rattle.map_run.specs.Commands.{work}
use Rattle.map_run.specs.Headline.{IsExportWritten}
use Rattle.map_run.proofs.Budgets.{bound}
use Rattle.map_run.proofs.SaysYes.{loads_are}
use Rattle.run_laws.specs.Works.{no_page, unless_long}
use Rattle.run_laws.proofs.AfterExport.{imports}

-- what a command without a script comes to, by the result of its work
abbrev to_its_end : Result (List Output) Refusal → Result Finished Refusal
to_its_end (Ok outputs) = Ok (whole outputs)
to_its_end (Err why) = Err why

by_outputs : (r : Result (List Output) Refusal) (given : Input → Option (List ℕ)) → outcome (ends r >>= (λ outputs. ends (Ok (whole outputs)))) given ≡ to_its_end r
by_outputs (Ok outputs) given = refl
by_outputs (Err why) given = refl

within_or_not : (text : List ℕ) (r : Result (List Output) Refusal) → to_its_end (unless_long text r) ≡ unless_long text (to_its_end r)
within_or_not text r = by_test (is_within File (length text))
  where
    by_test : (b : Bool) → to_its_end (cond b r (Err (refused.Limit (limit_of File)))) ≡ cond b (to_its_end r) (Err (refused.Limit (limit_of File)))
    by_test true = refl
    by_test false = refl

pub import_reads : (feed out : List ℕ) (chosen importing : Chosen) (paths : MapPaths) (files later : List (List ℕ × List ℕ)) (new : Written) (all : MapSettings)
    → (written : IsExportWritten (Some files) (export feed out chosen) out new) → file_at later out ≡ held_by (Path out) new
    → outcome (settings_by importing.defaults importing.sets importing.settings) (file_of later (input_path (imported out paths importing))) ≡ Ok all
    → AreAlike written.loaded.settings all.settings → all.method ≡ written.loaded.method
    → outcome (work (imported out paths importing)) (file_of later (input_path (imported out paths importing)))
    ≡ unless_long written.text (outcome (work (make feed (no_page paths) chosen)) (file_of files (input_path (make feed (no_page paths) chosen))))
import_reads feed out chosen importing paths files later new all written lies settings alike method =
    let given = file_of files (input_path (make feed (no_page paths) chosen)) in
    let after = file_of later (input_path (imported out paths importing)) in
    let end : List Output → Work Input Refusal Finished = λ outputs. ends (Ok (whole outputs)) in
    bound (import_work importing paths) end after
    ∙ by_outputs (outcome (import_work importing paths) after) after
    ∙ ap to_its_end (imports chosen given written.loaded (loads_are files (export feed out chosen) written.loaded written.loads) written.text written.exported
    importing paths after all settings alike method (lies ∙ written.holds))
    ∙ within_or_not written.text (outcome (make_work chosen (no_page paths)) given)
    ∙ ap (unless_long written.text) (sym (bound (make_work chosen (no_page paths)) end given ∙ by_outputs (outcome (make_work chosen (no_page paths)) given) given))
