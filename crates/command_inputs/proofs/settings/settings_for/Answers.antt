use Rattle.std.proofs.Common.{option_map, ap}
use Rattle.files_door.specs.Fault.{Rose}
use Rattle.command_inputs.specs.Inputs.{input_at, inputs_by}
use Rattle.command_inputs.proofs.LoadLemmas.{settings_none, settings_some}
use Rattle.command_inputs.proofs.settings.settings_for.Goals as goal

pub returns-in-Some-clause-follows : goal.returns-in-Some-clause-follows
returns-in-Some-clause-follows g c =
    let inputs = inputs_by c.args.inputs.now in
    let chosen = ap (option_map (λ path. path.now)) c.in-Some.is in
    settings_some (g.F.Files.told c.args.files.now) (input_at inputs) (Rose (g.F.Files.faults c.args.files.now) (g.F.Files.faults c.settings_file.new.files))
    inputs.chosen.defaults inputs.chosen.sets inputs.chosen.settings _ c.settings_file.result chosen c.settings_file.ensures.follows

pub returns-in-None-clause-follows : goal.returns-in-None-clause-follows
returns-in-None-clause-follows g c =
    let inputs = inputs_by c.args.inputs.now in
    let chosen = ap (option_map (λ path. path.now)) c.in-None.is in
    settings_none (g.F.Files.told c.args.files.now) (input_at inputs) (Rose (g.F.Files.faults c.args.files.now) (g.F.Files.faults c.args.files.now))
    inputs.chosen.defaults inputs.chosen.sets inputs.chosen.settings c.standard.result chosen c.standard.ensures
