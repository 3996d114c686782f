use Rattle.std.proofs.Common.{◌≡◌, ◌-◌}
use Rattle.dual_orders.specs.Closing.{stepped_by}
use Rattle.dual_orders.proofs.closing.all_ahead.Given as goal

abbrev pub invariant-loop : goal.invariant-loop
invariant-loop l = stepped_by l.direct l.count l.j (l.most - l.counter) l.set ≡ stepped_by l.direct l.count l.j l.most 0
