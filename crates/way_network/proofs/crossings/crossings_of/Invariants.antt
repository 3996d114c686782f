use Rattle.std.proofs.Common.{◌≡◌, filter, map, take}
use Rattle.way_network.specs.Crossings.{crossing_of, is_passage_at}
use Rattle.way_network.proofs.crossings.crossings_of.Given as goal

abbrev pub invariant-loop-x : goal.invariant-loop-x
invariant-loop-x l = l.crossings.items ≡ map (crossing_of l.segments) (filter (is_passage_at l.nodes.nodes) (take l.x-index l.passages))
