use Rattle.std.proofs.Common.{◌≡◌, map, take}
use Rattle.track_net.specs.Nearness.{point_at}
use Rattle.line_graph.proofs.lines_of_segments.places_along.Given as goal

abbrev pub invariant-loop-chain : goal.invariant-loop-chain
invariant-loop-chain l = l.lines.items ≡ map (map (point_at l.points)) (take l.chain-index l.chains)
