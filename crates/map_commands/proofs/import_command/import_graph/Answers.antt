use Rattle.std.proofs.Common.{List}
use Rattle.std.proofs.lemmas.Result.{err_from_is_err_and}
use Rattle.files_door.specs.Fault.{Rose}
use Rattle.map_method.specs.declared.map_settings.MapSettings.{MapSettings}
use Rattle.graph_json.specs.declared.imported.Imported.{Imported}
use Rattle.command_run.specs.declared.output.Output.{Output}
use Rattle.command_run.specs.Work.{ends}
use Rattle.command_paths.specs.Paths.{paths_by}
use Rattle.command_inputs.specs.Inputs.{input_at, inputs_by}
use Rattle.run_status.proofs.FollowLemmas.{follows_refused, follows_value}
use Rattle.map_commands.specs.ImportWorks.{read_work, imported_at}
use Rattle.map_commands.proofs.ImportLemmas.{are_of_imported, searches}
use Rattle.map_commands.proofs.import_command.import_graph.Goals as goal

pub returns-in_err-both-clause-follows : goal.returns-in_err-both-clause-follows
returns-in_err-both-clause-follows g c =
    let inputs = inputs_by c.args.inputs.now in
    follows_refused (g.F.Files.told c.args.files.now) (input_at inputs)
    (Rose (g.F.Files.faults c.args.files.now) (g.F.Files.faults c.read_both.new.files))
    (λ (b : MapSettings × Imported). b) (λ (o : List Output). o) (read_work inputs.chosen)
    (λ b. ends (imported_at (paths_by c.args.map_files.now) b)) c.in_err-both.field-0.0 c.from_residual.result
    (err_from_is_err_and c.from_residual.result c.from_residual.ensures.1) c.in_err-both.ensures.follows

pub returns-clause-follows : goal.returns-clause-follows
returns-clause-follows g c =
    let inputs = inputs_by c.args.inputs.now in
    follows_value (g.F.Files.told c.args.files.now) (input_at inputs)
    (Rose (g.F.Files.faults c.args.files.now) (g.F.Files.faults c.read_both.new.files))
    (λ (b : MapSettings × Imported). b) (λ (o : List Output). o) (read_work inputs.chosen)
    (λ b. imported_at (paths_by c.args.map_files.now) b) c.in_ok-both.both c.map_of.result
    c.in_ok-both.ensures.follows c.map_of.ensures.given

pub returns-clause-keeps : goal.returns-clause-keeps
returns-clause-keeps g c =
    are_of_imported (g.F.Files.told c.args.files.now) (inputs_by c.args.inputs.now)
    (Rose (g.F.Files.faults c.args.files.now) (g.F.Files.faults c.read_both.new.files))
    (paths_by c.args.map_files.now) c.in_ok-both.both c.map_of.result c.in_ok-both.ensures.follows c.map_of.ensures.made

pub returns-clause-steps : goal.returns-clause-steps
returns-clause-steps g c =
    searches (g.F.Files.told c.args.files.now) (inputs_by c.args.inputs.now)
    (Rose (g.F.Files.faults c.args.files.now) (g.F.Files.faults c.read_both.new.files))
    c.in_ok-both.both c.args.steps.now c.map_of.new.steps c.in_ok-both.ensures.follows c.map_of.ensures.steps
