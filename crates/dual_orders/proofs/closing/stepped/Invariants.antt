use Rattle.std.proofs.Common.{◌≡◌, ◌-◌}
use Rattle.dual_orders.specs.Closing.{joined, stepped}
use Rattle.dual_orders.proofs.closing.stepped.Given as goal

abbrev pub invariant-loop-k : goal.invariant-loop-k
invariant-loop-k l = joined l.direct l.set l.k (l.count - l.k) l.all ≡ stepped l.direct l.count l.j l.set
