use Rattle.std.proofs.Common.{◌≡◌, map, take}
use Rattle.track_net.specs.Nearness.{point_at}
use Rattle.way_network.proofs.graph.places_of.Given as goal

abbrev pub invariant-loop-node : goal.invariant-loop-node
invariant-loop-node l = l.places.items ≡ map (point_at l.points) (take l.node-index l.nodes)
