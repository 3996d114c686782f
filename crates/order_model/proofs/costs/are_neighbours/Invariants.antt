use Rattle.std.proofs.Common.{◌≡◌, ◌-◌, drop}
use Rattle.order_model.specs.Costs.{are_neighbours}
use Rattle.order_model.proofs.costs.are_neighbours.Given as goal

abbrev pub invariant-loop-i : goal.invariant-loop-i
invariant-loop-i l = are_neighbours l.order l.a l.b ≡ are_neighbours (drop (l.i - 1) l.order) l.a l.b
