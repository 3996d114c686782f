use Rattle.std.proofs.Common.{Ok, refl}
use Rattle.std.proofs.lemmas.Result.{err_from_is_err_and}
use Rattle.files_door.specs.Fault.{Rose}
use Rattle.map_method.specs.declared.map_settings.MapSettings.{MapSettings}
use Rattle.graph_json.specs.declared.imported.Imported.{Imported}
use Rattle.command_run.specs.Work.{ends}
use Rattle.command_inputs.specs.Inputs.{input_at, inputs_by}
use Rattle.run_status.proofs.FollowLemmas.{follows_refused, follows_value}
use Rattle.map_commands.specs.ImportWorks.{graph_work}
use Rattle.map_commands.proofs.import_command.with_graph.Goals as goal

pub returns-in_err-read-clause-follows : goal.returns-in_err-read-clause-follows
returns-in_err-read-clause-follows g c =
    follows_refused (g.F.Files.told c.args.files.now) (input_at (inputs_by c.args.inputs.now))
    (Rose (g.F.Files.faults c.args.files.now) (g.F.Files.faults c.graph_file.new.files))
    (λ (r : Imported). r) (λ (b : MapSettings × Imported). b) graph_work (λ r. ends (Ok (c.args.settings, r)))
    c.in_err-read.field-0.0 c.from_residual.result
    (err_from_is_err_and c.from_residual.result c.from_residual.ensures.1) c.in_err-read.ensures.follows

pub returns-clause-follows : goal.returns-clause-follows
returns-clause-follows g c =
    follows_value (g.F.Files.told c.args.files.now) (input_at (inputs_by c.args.inputs.now))
    (Rose (g.F.Files.faults c.args.files.now) (g.F.Files.faults c.graph_file.new.files))
    (λ (r : Imported). r) (λ (b : MapSettings × Imported). b) graph_work (λ r. Ok (c.args.settings, r))
    c.in_ok-read.read (Ok (c.args.settings, c.in_ok-read.read)) c.in_ok-read.ensures.follows refl
