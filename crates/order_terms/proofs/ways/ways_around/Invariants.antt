use Rattle.std.proofs.Common.{take}
use Rattle.order_terms.specs.WaysByPlace.{way_lists, AreWays}
use Rattle.order_terms.proofs.ways.ways_around.Given as goal

abbrev pub invariant-loop-join : goal.invariant-loop-join
invariant-loop-join l = AreWays l.round (take l.join-index l.joins) (way_lists l.lists.items)
