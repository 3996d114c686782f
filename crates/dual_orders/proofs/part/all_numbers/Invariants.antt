use Rattle.std.proofs.Common.{◌≡◌, take}
use Rattle.dual_orders.specs.OwnTerms.{all_numbers}
use Rattle.dual_orders.proofs.part.all_numbers.Given as goal

abbrev pub invariant-loop-k : goal.invariant-loop-k
invariant-loop-k l = l.numbers.items ≡ take l.k (all_numbers l.problem)
