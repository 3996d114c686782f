use Rattle.line_graph.specs.Text.{round_line}
use Rattle.line_graph.proofs.Ranges.{pushed_more}
use Rattle.line_graph.proofs.print.push_rounds.Goals as goal

pub loop-n-preserved : goal.loop-n-preserved
loop-n-preserved c = pushed_more (round_line c.args.graph.now) c.loop-n.n c.args.text.now.items c.loop-n.text.items c.push_round.new.text.items c.loop-n.invariant c.in_ok-push_round.ensures
