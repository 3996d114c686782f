use Rattle.std.proofs.Common.{◌≤◌, take}
use Rattle.files_door.specs.Acts.{Does}
use Rattle.command_run.specs.Delivered.{outputs_acts}
use Rattle.command_run.proofs.delivery.write_outputs.Given as goal

abbrev pub invariant-loop-output : goal.invariant-loop-output
invariant-loop-output g l =
    Does (outputs_acts (take l.output-index l.outputs)) (g.S.Sinks.written l.fn.sinks) (g.S.Sinks.written l.sinks)
    × (g.S.Sinks.faults l.fn.sinks ≤ g.S.Sinks.faults l.sinks)
