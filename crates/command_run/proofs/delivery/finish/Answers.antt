use Rattle.command_run.proofs.ActLemmas.{said_whole, said_out}
use Rattle.command_run.proofs.delivery.finish.Goals as goal

pub returns-in-Ok-clause-said : goal.returns-in-Ok-clause-said
returns-in-Ok-clause-said g c =
    said_whole c.args.line.now _ (g.S.Sinks.written c.args.sinks.now) (g.S.Sinks.written c.say.new.sinks) c.in-Ok.ensures.done

pub returns-in-Err-NoMemory-clause-said : goal.returns-in-Err-NoMemory-clause-said
returns-in-Err-NoMemory-clause-said g c =
    let front = c.in-Err-NoMemory.ensures.done in
    said_out c.args.line.now _ front.0 c.out_of_memory.ensures.line.0
    (g.S.Sinks.written c.args.sinks.now) (g.S.Sinks.written c.say.new.sinks) (g.S.Sinks.written c.out_of_memory.new.sinks) c.out_of_memory.result
    c.out_of_memory.ensures.ending front.2 c.out_of_memory.ensures.line.1
