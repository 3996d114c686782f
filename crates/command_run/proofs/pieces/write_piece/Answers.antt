use Rattle.command_run.proofs.PieceLemmas.{piece_front}
use Rattle.command_run.proofs.pieces.write_piece.Goals as goal

pub returns-in-Err-Fault-clause-done : goal.returns-in-Err-Fault-clause-done
returns-in-Err-Fault-clause-done g c =
    piece_front (g.S.Sinks.current c.args.sinks.now) c.args.piece.now _ (g.S.Sinks.written c.args.sinks.now) (g.S.Sinks.written c.write_all.new.sinks)
    c.requires c.in-Err-Fault.ensures.fewer c.in-Err-Fault.ensures.front

pub returns-in-Err-NoMemory-clause-done : goal.returns-in-Err-NoMemory-clause-done
returns-in-Err-NoMemory-clause-done g c =
    piece_front (g.S.Sinks.current c.args.sinks.now) c.args.piece.now _ (g.S.Sinks.written c.args.sinks.now) (g.S.Sinks.written c.write_all.new.sinks)
    c.requires c.in-Err-NoMemory.ensures.fewer c.in-Err-NoMemory.ensures.front
