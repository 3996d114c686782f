use Rattle.line_graph.specs.Text.{join_lines}
use Rattle.line_graph.proofs.Ranges.{pushed_more}
use Rattle.line_graph.proofs.print.push_joins.Goals as goal

pub loop-n-preserved : goal.loop-n-preserved
loop-n-preserved c = pushed_more (join_lines c.args.graph.now) c.loop-n.n c.args.text.now.items c.loop-n.text.items c.push_joins_at.new.text.items c.loop-n.invariant c.in_ok-push_joins_at.ensures
