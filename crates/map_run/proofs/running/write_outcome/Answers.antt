use Rattle.std.proofs.Common.{inl, subst}
use Rattle.files_door.specs.Fault.{Rose}
use Rattle.map_run.specs.declared.answer.Answer.{Answer}
use Rattle.map_run.specs.Ending.{IsWritten}
use Rattle.map_run.proofs.running.write_outcome.Goals as goal

pub returns-in-Ok-clause-written : goal.returns-in-Ok-clause-written
returns-in-Ok-clause-written g c =
    inl (
      c.in-Ok.ensures.memory,
      subst (λ (a : Answer). IsWritten a (Rose (g.S.Sinks.faults c.args.sinks.now) (g.S.Sinks.faults c.write_reply.new.sinks)) (g.S.Sinks.written c.args.sinks.now) (g.S.Sinks.written c.write_reply.new.sinks) c.write_reply.result)
          c.in-Ok.ensures.reply.0 c.write_reply.ensures.written,
    )
