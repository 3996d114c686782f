use Rattle.std.proofs.Common.{option_map, ap}
use Rattle.files_door.specs.Fault.{Rose}
use Rattle.command_inputs.specs.Inputs.{input_at, inputs_by}
use Rattle.command_inputs.proofs.LoadLemmas.{edits_none, edits_some}
use Rattle.command_inputs.proofs.edits.edited_for.Goals as goal

pub returns-in-Some-clause-follows : goal.returns-in-Some-clause-follows
returns-in-Some-clause-follows g c =
    let inputs = inputs_by c.args.inputs.now in
    let named = ap (option_map (λ path. path.now)) c.in-Some.is in
    edits_some (g.F.Files.told c.args.files.now) (input_at inputs) (Rose (g.F.Files.faults c.args.files.now) (g.F.Files.faults c.edits_file.new.files))
    inputs.chosen.edits _ c.args.loaded c.edits_file.result named c.edits_file.ensures.follows

pub returns-in-None-clause-follows : goal.returns-in-None-clause-follows
returns-in-None-clause-follows g c =
    let inputs = inputs_by c.args.inputs.now in
    let named = ap (option_map (λ path. path.now)) c.in-None.is in
    edits_none (g.F.Files.told c.args.files.now) (input_at inputs) (Rose (g.F.Files.faults c.args.files.now) (g.F.Files.faults c.args.files.now))
    inputs.chosen.edits c.args.loaded named
