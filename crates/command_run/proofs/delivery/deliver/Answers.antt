use Rattle.files_door.proofs.Faults.{rose_later}
use Rattle.command_run.proofs.ActLemmas.{delivered_whole, delivered_out}
use Rattle.command_run.proofs.delivery.deliver.Goals as goal

pub returns-in-Ok-clause-delivered : goal.returns-in-Ok-clause-delivered
returns-in-Ok-clause-delivered g c =
    delivered_whole c.args.outputs.now c.args.line.now _ _ (g.S.Sinks.written c.args.sinks.now) (g.S.Sinks.written c.write_outputs.new.sinks) (g.S.Sinks.written c.finish.new.sinks) c.finish.result
    (rose_later (g.S.Sinks.faults c.args.sinks.now) (g.S.Sinks.faults c.write_outputs.new.sinks) (g.S.Sinks.faults c.finish.new.sinks) c.in-Ok.ensures.cause.later c.finish.ensures.later)
    c.in-Ok.ensures.done c.finish.ensures.said

pub returns-in-Err-NoMemory-clause-delivered : goal.returns-in-Err-NoMemory-clause-delivered
returns-in-Err-NoMemory-clause-delivered g c =
    let front = c.in-Err-NoMemory.ensures.done in
    delivered_out c.args.outputs.now c.args.line.now _ front.0 c.out_of_memory.ensures.line.0
    (g.S.Sinks.written c.args.sinks.now) (g.S.Sinks.written c.write_outputs.new.sinks) (g.S.Sinks.written c.out_of_memory.new.sinks) c.out_of_memory.result
    c.out_of_memory.ensures.ending front.1 front.2 c.out_of_memory.ensures.line.1
