use Rattle.std.proofs.Common.{ℕ, List, string_bytes, subst}
use Rattle.files_door.specs.Fault.{Rose}
use Rattle.command_run.specs.declared.output.Output.{Output}
use Rattle.command_run.specs.Delivered.{IsDelivered}
use Rattle.map_run.proofs.running.write_reply.Goals as goal

pub returns-clause-written : goal.returns-clause-written
returns-clause-written g c =
    let rose = Rose (g.S.Sinks.faults c.args.sinks.now) (g.S.Sinks.faults c.deliver.new.sinks) in
    let old = g.S.Sinks.written c.args.sinks.now in
    let new = g.S.Sinks.written c.deliver.new.sinks in
    let outputs = subst (λ (o : List Output). IsDelivered o c.as_str.result.now rose old new c.deliver.result) c.as_slice.ensures c.deliver.ensures.delivered in
    let line = subst (λ (l : List ℕ). IsDelivered c.args.reply.answer.outputs l rose old new c.deliver.result) c.as_str.ensures.value outputs in
    (string_bytes c.args.reply.line, c.deliver.result, c.requires.line, line, c.status_after.ensures)
