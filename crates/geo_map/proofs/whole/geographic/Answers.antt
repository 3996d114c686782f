use Rattle.geo_map.proofs.Reaching.{in_reach}
use Rattle.geo_map.proofs.whole.geographic.Goals as goal

pub picture_of-requires-clause-reach : goal.picture_of-requires-clause-reach
picture_of-requires-clause-reach c = in_reach c.args.graph.now c.args.lines.now c.args.orders.now.lists c.nodes-nodes.ensures.fits c.requires.courses c.requires.ordered
