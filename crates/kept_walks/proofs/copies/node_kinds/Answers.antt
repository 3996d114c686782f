use Rattle.kept_walks.proofs.Lists.{copied_more}
use Rattle.kept_walks.proofs.copies.node_kinds.Goals as goal

pub loop-n-preserved : goal.loop-n-preserved
loop-n-preserved c =
    copied_more c.args.graph.now.kinds c.loop-n.kinds.items c.push.new.self.items c.loop-n.n c.kind.result c.loop-n.invariant c.kind.ensures c.in_ok-push.ensures.items
