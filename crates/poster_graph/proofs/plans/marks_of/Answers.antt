use Rattle.svg_writer.specs.Picture.{kind_at}
use Rattle.poster_rules.specs.Plans.{node_mark}
use Rattle.poster_graph.proofs.Nodes.{flat_more}
use Rattle.poster_graph.proofs.plans.marks_of.Goals as goal

pub loop-n-preserved : goal.loop-n-preserved
loop-n-preserved c =
    let s = c.args.served in
    flat_more (λ n. node_mark s.names.now s.graph.now s.drawing.now.walks s.callers.now n (kind_at s.graph.now.kinds n)) c.loop-n.n c.loop-n.marks.items c.put_node.new.marks.items c.loop-n.invariant c.in_ok-put_node.ensures
