use Rattle.std.proofs.Common.{ap, refl}
use Rattle.files_door.specs.Fault.{Rose}
use Rattle.files_door.proofs.Faults.{rose_earlier, rose_later}
use Rattle.command_words.specs.Asked.{asked_by}
use Rattle.command_inputs.specs.Inputs.{inputs_by}
use Rattle.map_run.proofs.ArmLemmas.{no_promise, outputs_end, session_ends, steps_taken, trial_follows}
use Rattle.map_run.proofs.running.run_command.Goals as goal

pub returns-in-Stations-clause-ends : goal.returns-in-Stations-clause-ends
returns-in-Stations-clause-ends g c =
    outputs_end (g.F.Files.told c.args.files.now) (asked_by c.args.command.now) _ _ c.print_stations-outcome.result _
    (inputs_by c.inputs_of-inputs.result) _ _ _ (ap asked_by c.in-Stations.is) c.inputs_of-inputs.ensures refl (λ o h. h)
    c.print_stations-outcome.ensures.follows (no_promise c.print_stations-outcome.result) c.write_outcome.ensures.written

pub returns-in-Graph-clause-ends : goal.returns-in-Graph-clause-ends
returns-in-Graph-clause-ends g c =
    outputs_end (g.F.Files.told c.args.files.now) (asked_by c.args.command.now) _ _ c.print_line_graph-outcome.result _
    (inputs_by c.inputs_of-inputs.result) _ _ _ (ap asked_by c.in-Graph.is) c.inputs_of-inputs.ensures refl (λ o h. h)
    c.print_line_graph-outcome.ensures.follows c.print_line_graph-outcome.ensures.keeps c.write_outcome-in-Graph.ensures.written

pub returns-in-Export-clause-ends : goal.returns-in-Export-clause-ends
returns-in-Export-clause-ends g c =
    outputs_end (g.F.Files.told c.args.files.now) (asked_by c.args.command.now) _ _ c.export_graph-outcome.result _
    (inputs_by c.inputs_of-inputs.result) _ _ _ (ap asked_by c.in-Export.is) c.inputs_of-inputs.ensures refl (λ o h. h)
    c.export_graph-outcome.ensures.follows c.export_graph-outcome.ensures.keeps c.write_outcome-in-Export.ensures.written

pub returns-in-Make-clause-ends : goal.returns-in-Make-clause-ends
returns-in-Make-clause-ends g c =
    outputs_end (g.F.Files.told c.args.files.now) (asked_by c.args.command.now) _ _ c.make_map-outcome.result _
    (inputs_by c.inputs_of-inputs.result) _ _ _ (ap asked_by c.in-Make.is) c.inputs_of-inputs.ensures refl (λ o h. h)
    c.make_map-outcome.ensures.follows c.make_map-outcome.ensures.keeps c.write_outcome-in-Make.ensures.written

pub returns-in-Import-clause-ends : goal.returns-in-Import-clause-ends
returns-in-Import-clause-ends g c =
    outputs_end (g.F.Files.told c.args.files.now) (asked_by c.args.command.now) _ _ c.import_graph-outcome.result _
    (inputs_by c.inputs_of-inputs.result) _ _ _ (ap asked_by c.in-Import.is) c.inputs_of-inputs.ensures refl (λ o h. h)
    c.import_graph-outcome.ensures.follows c.import_graph-outcome.ensures.keeps c.write_outcome-in-Import.ensures.written

pub returns-in-Improve-clause-ends : goal.returns-in-Improve-clause-ends
returns-in-Improve-clause-ends g c =
    outputs_end (g.F.Files.told c.args.files.now) (asked_by c.args.command.now) _ _ c.improve_map-outcome.result _
    (inputs_by c.inputs_of-inputs.result) _ _ _ (ap asked_by c.in-Improve.is) c.inputs_of-inputs.ensures refl (λ o h. h)
    c.improve_map-outcome.ensures.follows c.improve_map-outcome.ensures.keeps c.write_outcome-in-Improve.ensures.written

pub returns-in-Check-clause-ends : goal.returns-in-Check-clause-ends
returns-in-Check-clause-ends g c =
    outputs_end (g.F.Files.told c.args.files.now) (asked_by c.args.command.now) _ _ c.check_map-outcome.result _
    (inputs_by c.inputs_of-inputs.result) _ _ _ (ap asked_by c.in-Check.is) c.inputs_of-inputs.ensures refl (λ o h. h)
    c.check_map-outcome.ensures.follows c.check_map-outcome.ensures.keeps c.write_outcome-in-Check.ensures.written

pub returns-in-Depict-clause-ends : goal.returns-in-Depict-clause-ends
returns-in-Depict-clause-ends g c =
    outputs_end (g.F.Files.told c.args.files.now) (asked_by c.args.command.now) _ _ c.draw_picture-outcome.result _
    (inputs_by c.inputs_of-inputs.result) _ _ _ (ap asked_by c.in-Depict.is) c.inputs_of-inputs.ensures refl (λ o h. h)
    c.draw_picture-outcome.ensures.follows c.draw_picture-outcome.ensures.keeps c.write_outcome-in-Depict.ensures.written

pub returns-in-Page-clause-ends : goal.returns-in-Page-clause-ends
returns-in-Page-clause-ends g c =
    outputs_end (g.F.Files.told c.args.files.now) (asked_by c.args.command.now) _ _ c.show_map-outcome.result _
    (inputs_by c.inputs_of-inputs.result) _ _ _ (ap asked_by c.in-Page.is) c.inputs_of-inputs.ensures refl (λ o h. h)
    c.show_map-outcome.ensures.follows (no_promise c.show_map-outcome.result) c.write_outcome-in-Page.ensures.written

pub returns-in-Trial-clause-ends : goal.returns-in-Trial-clause-ends
returns-in-Trial-clause-ends g c =
    outputs_end (g.F.Files.told c.args.files.now) (asked_by c.args.command.now) (Rose (g.F.Files.faults c.args.files.now) (g.F.Files.faults c.args.files.now)) _ c.print_trial-outcome.result _
    (inputs_by c.inputs_of-inputs.result) _ _ _ (ap asked_by c.in-Trial.is) c.inputs_of-inputs.ensures refl (λ o h. h)
    (trial_follows (g.F.Files.told c.args.files.now) (asked_by c.args.command.now)
    (Rose (g.F.Files.faults c.args.files.now) (g.F.Files.faults c.args.files.now)) c.print_trial-outcome.result
    (inputs_by c.inputs_of-inputs.result) _ c.print_trial-outcome.ensures.given) (no_promise c.print_trial-outcome.result) c.write_outcome-in-Trial.ensures.written

pub returns-in-Session-clause-ends : goal.returns-in-Session-clause-ends
returns-in-Session-clause-ends g c =
    let before = g.S.Sinks.faults c.args.sinks.now in
    let mid = g.S.Sinks.faults c.play_script-outcome.new.sinks in
    let now = g.S.Sinks.faults c.end_script.new.sinks in
    session_ends (g.F.Files.told c.args.files.now) (asked_by c.args.command.now) (Rose (g.F.Files.faults c.args.files.now) (g.F.Files.faults c.play_script-outcome.new.files))
    (Rose before mid) (Rose mid now) (Rose before now) c.play_script-outcome.result (inputs_by c.inputs_of-inputs.result)
    (g.S.Sinks.written c.args.sinks.now) (g.S.Sinks.written c.play_script-outcome.new.sinks) (g.S.Sinks.written c.end_script.new.sinks) c.end_script.result
    (ap asked_by c.in-Session.is) c.inputs_of-inputs.ensures
    (λ rose. rose_earlier before mid now rose c.end_script.ensures.later) (rose_later before mid now c.play_script-outcome.ensures.later c.end_script.ensures.later)
    c.play_script-outcome.ensures.plays c.end_script.ensures.ended

pub returns-in-Stations-clause-steps : goal.returns-in-Stations-clause-steps
returns-in-Stations-clause-steps g c =
    steps_taken _ _ _ _ _ _ (ap asked_by c.in-Stations.is) c.inputs_of-inputs.ensures refl

pub returns-in-Graph-clause-steps : goal.returns-in-Graph-clause-steps
returns-in-Graph-clause-steps g c =
    steps_taken _ _ _ _ _ _ (ap asked_by c.in-Graph.is) c.inputs_of-inputs.ensures refl

pub returns-in-Export-clause-steps : goal.returns-in-Export-clause-steps
returns-in-Export-clause-steps g c =
    steps_taken _ _ _ _ _ _ (ap asked_by c.in-Export.is) c.inputs_of-inputs.ensures refl

pub returns-in-Make-clause-steps : goal.returns-in-Make-clause-steps
returns-in-Make-clause-steps g c =
    steps_taken _ _ _ _ _ _ (ap asked_by c.in-Make.is) c.inputs_of-inputs.ensures c.make_map-outcome.ensures.steps

pub returns-in-Import-clause-steps : goal.returns-in-Import-clause-steps
returns-in-Import-clause-steps g c =
    steps_taken _ _ _ _ _ _ (ap asked_by c.in-Import.is) c.inputs_of-inputs.ensures c.import_graph-outcome.ensures.steps

pub returns-in-Improve-clause-steps : goal.returns-in-Improve-clause-steps
returns-in-Improve-clause-steps g c =
    steps_taken _ _ _ _ _ _ (ap asked_by c.in-Improve.is) c.inputs_of-inputs.ensures c.improve_map-outcome.ensures.steps

pub returns-in-Check-clause-steps : goal.returns-in-Check-clause-steps
returns-in-Check-clause-steps g c =
    steps_taken _ _ _ _ _ _ (ap asked_by c.in-Check.is) c.inputs_of-inputs.ensures refl

pub returns-in-Depict-clause-steps : goal.returns-in-Depict-clause-steps
returns-in-Depict-clause-steps g c =
    steps_taken _ _ _ _ _ _ (ap asked_by c.in-Depict.is) c.inputs_of-inputs.ensures refl

pub returns-in-Session-clause-steps : goal.returns-in-Session-clause-steps
returns-in-Session-clause-steps g c =
    steps_taken _ _ _ _ _ _ (ap asked_by c.in-Session.is) c.inputs_of-inputs.ensures c.play_script-outcome.ensures.steps

pub returns-in-Page-clause-steps : goal.returns-in-Page-clause-steps
returns-in-Page-clause-steps g c =
    steps_taken _ _ _ _ _ _ (ap asked_by c.in-Page.is) c.inputs_of-inputs.ensures refl

pub returns-in-Trial-clause-steps : goal.returns-in-Trial-clause-steps
returns-in-Trial-clause-steps g c =
    steps_taken _ _ _ _ _ _ (ap asked_by c.in-Trial.is) c.inputs_of-inputs.ensures c.print_trial-outcome.ensures.steps
