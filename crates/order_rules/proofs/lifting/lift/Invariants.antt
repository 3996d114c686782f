use Rattle.std.proofs.Common.{◌≡◌, ◌-◌, length, drop}
use Rattle.order_rules.specs.Lifting.{lifted_all}
use Rattle.order_rules.proofs.lifting.lift.Given as goal

abbrev pub invariant-loop-done : goal.invariant-loop-done
invariant-loop-done l = l.lists.items ≡ lifted_all (drop (length l.rules - l.done) l.rules) l.initial.lists.items
