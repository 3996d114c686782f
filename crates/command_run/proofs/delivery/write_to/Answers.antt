use Rattle.command_run.proofs.ActLemmas.{target_front}
use Rattle.command_run.proofs.delivery.write_to.Goals as goal

pub returns-in-Err-Fault-clause-done : goal.returns-in-Err-Fault-clause-done
returns-in-Err-Fault-clause-done g c =
    target_front c.args.to.now (g.S.Sinks.current c.begin.new.self) c.args.bytes.now _ (g.S.Sinks.written c.args.sinks.now) (g.S.Sinks.written c.begin.new.self) (g.S.Sinks.written c.write_all.new.sinks)
    c.in_ok-begin.ensures.current c.in-Err-Fault.ensures.fewer c.in_ok-begin.ensures.begun c.in-Err-Fault.ensures.front

pub returns-in-Err-NoMemory-clause-done : goal.returns-in-Err-NoMemory-clause-done
returns-in-Err-NoMemory-clause-done g c =
    target_front c.args.to.now (g.S.Sinks.current c.begin.new.self) c.args.bytes.now _ (g.S.Sinks.written c.args.sinks.now) (g.S.Sinks.written c.begin.new.self) (g.S.Sinks.written c.write_all.new.sinks)
    c.in_ok-begin.ensures.current c.in-Err-NoMemory.ensures.fewer c.in_ok-begin.ensures.begun c.in-Err-NoMemory.ensures.front
