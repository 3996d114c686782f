use Rattle.kept_walks.proofs.Lists.{copied_more}
use Rattle.kept_walks.proofs.copies.node_places.Goals as goal

pub loop-n-preserved : goal.loop-n-preserved
loop-n-preserved c =
    copied_more c.args.graph.now.places c.loop-n.places.items c.push.new.self.items c.loop-n.n c.place.result c.loop-n.invariant c.place.ensures c.in_ok-push.ensures.items
