use Rattle.std.proofs.Common.{subst}
use Rattle.std.proofs.lemmas.Result.{err_from_is_err_and}
use Rattle.files_door.specs.Fault.{Rose}
use Rattle.files_door.proofs.Faults.{rose_later}
use Rattle.map_method.specs.declared.map_settings.MapSettings.{MapSettings}
use Rattle.graph_json.specs.declared.imported.Imported.{Imported}
use Rattle.command_inputs.specs.Inputs.{input_at, inputs_by}
use Rattle.command_inputs.specs.Loading.{settings_by}
use Rattle.run_status.specs.Following.{Follows}
use Rattle.run_status.proofs.FollowLemmas.{Told, follows_refused, follows_then}
use Rattle.map_commands.specs.ImportWorks.{with_graph}
use Rattle.map_commands.proofs.import_command.read_both.Goals as goal

pub returns-in_err-settings-clause-follows : goal.returns-in_err-settings-clause-follows
returns-in_err-settings-clause-follows g c =
    let inputs = inputs_by c.args.inputs.now in
    follows_refused (g.F.Files.told c.args.files.now) (input_at inputs)
    (Rose (g.F.Files.faults c.args.files.now) (g.F.Files.faults c.settings_for.new.files))
    (λ (s : MapSettings). s) (λ (b : MapSettings × Imported). b)
    (settings_by inputs.chosen.defaults inputs.chosen.sets inputs.chosen.settings) with_graph
    c.in_err-settings.field-0.0 c.from_residual.result
    (err_from_is_err_and c.from_residual.result c.from_residual.ensures.1) c.in_err-settings.ensures.follows

pub returns-clause-follows : goal.returns-clause-follows
returns-clause-follows g c =
    let told = g.F.Files.told c.args.files.now in
    let inputs = inputs_by c.args.inputs.now in
    let old = g.F.Files.faults c.args.files.now in
    let read = g.F.Files.faults c.settings_for.new.files in
    let now = g.F.Files.faults c.with_graph.new.files in
    let settings = c.in_ok-settings.settings in
    let second = subst (λ (t : Told). Follows t (input_at inputs) (Rose read now) (λ (b : MapSettings × Imported). b)
    (with_graph settings) c.with_graph.result) c.in_ok-settings.ensures.kept c.with_graph.ensures.follows in
    follows_then told (input_at inputs) (Rose old read) (Rose read now) (Rose old now)
    (λ (s : MapSettings). s) (λ (b : MapSettings × Imported). b)
    (settings_by inputs.chosen.defaults inputs.chosen.sets inputs.chosen.settings) with_graph settings c.with_graph.result
    (rose_later old read now c.in_ok-settings.ensures.later c.with_graph.ensures.later) c.in_ok-settings.ensures.follows second
