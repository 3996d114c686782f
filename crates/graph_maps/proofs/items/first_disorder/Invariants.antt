use Rattle.std.proofs.Common.{◌≡◌, drop}
use Rattle.graph_maps.specs.Checking.{first_disorder}
use Rattle.graph_maps.proofs.items.first_disorder.Given as goal

abbrev pub invariant-loop-s : goal.invariant-loop-s
invariant-loop-s l = first_disorder l.s (drop l.s l.graph.lines) (drop l.s l.orders) ≡ first_disorder 0 l.graph.lines l.orders
