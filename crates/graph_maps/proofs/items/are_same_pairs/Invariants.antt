use Rattle.std.proofs.Common.{◌≡◌, drop}
use Rattle.graph_maps.specs.Checking.{are_same_pairs}
use Rattle.graph_maps.proofs.items.are_same_pairs.Given as goal

abbrev pub invariant-loop-i : goal.invariant-loop-i
invariant-loop-i l = are_same_pairs (drop l.i l.some) (drop l.i l.others) ≡ are_same_pairs l.some l.others
