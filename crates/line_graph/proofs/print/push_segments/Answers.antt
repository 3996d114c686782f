use Rattle.line_graph.specs.Text.{segment_line}
use Rattle.line_graph.proofs.Ranges.{pushed_more}
use Rattle.line_graph.proofs.print.push_segments.Goals as goal

pub loop-s-preserved : goal.loop-s-preserved
loop-s-preserved c = pushed_more (segment_line c.args.graph.now) c.loop-s.s c.args.text.now.items c.loop-s.text.items c.push_segment.new.text.items c.loop-s.invariant c.in_ok-push_segment.ensures
