use Rattle.order_terms.specs.WaysByPlace.{way_lists}
use Rattle.order_terms.proofs.NodeWays.{next_join}
use Rattle.order_terms.proofs.ways.ways_around.Goals as goal

pub loop-join-preserved : goal.loop-join-preserved
loop-join-preserved c =
    next_join c.args.round.now c.args.joins.now c.loop-join.join-index _ (way_lists c.loop-join.lists.items) (way_lists c.push_ways_by.new.lists.items)
    c.loop-join-test.true c.requires.joins c.loop-join.invariant c.in_ok-push_ways_by.ensures.lists
