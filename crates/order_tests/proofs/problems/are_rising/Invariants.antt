use Rattle.std.proofs.Common.{◌≡◌, ◌-◌, drop}
use Rattle.order_rules.specs.Dividing.{is_rising}
use Rattle.order_tests.proofs.problems.are_rising.Given as goal

abbrev pub invariant-loop-i : goal.invariant-loop-i
invariant-loop-i l = is_rising l.lines ≡ is_rising (drop (l.i - 1) l.lines)
