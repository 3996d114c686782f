use Rattle.std.proofs.Common.{◌≡◌, map, take}
use Rattle.way_network.specs.declared.edge_use.EdgeUse.{EdgeUse}
use Rattle.way_network.proofs.edge_table.neighbours.Given as goal

abbrev pub invariant-loop-u : goal.invariant-loop-u
invariant-loop-u l = l.numbers.items ≡ map (λ (u : EdgeUse). u.to) (take l.u-index l.u-items)
