use Rattle.poster_graph.proofs.Flags.{flagged_more}
use Rattle.poster_graph.proofs.shown.flagged.Goals as goal

pub loop-number-preserved : goal.loop-number-preserved
loop-number-preserved c = flagged_more c.args.flags.now c.loop-number.number c.loop-number.lines.items c.put_flagged.new.lines.items c.loop-number.invariant c.in_ok-put_flagged.ensures
