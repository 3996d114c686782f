use Rattle.poster_rules.specs.Plans.{segment_pieces}
use Rattle.poster_graph.proofs.Nodes.{flat_more}
use Rattle.poster_graph.proofs.plans.pieces_of.Goals as goal

pub loop-s-preserved : goal.loop-s-preserved
loop-s-preserved c = flat_more (segment_pieces c.args.served.graph.now c.args.served.drawing.now.walks) c.loop-s.s c.loop-s.pieces.items c.put_segment.new.pieces.items c.loop-s.invariant c.in_ok-put_segment.ensures
