use Rattle.std.proofs.Common.{◌≡◌, ◌*◌, ◌≤◌, take, unsigned_abs}
use Rattle.whole_sums.specs.Sums.{int_sum}
use Rattle.dual_ascent.specs.OwnNumbers.{all_terms}
use Rattle.dual_orders.proofs.Valuing.{value_at}
use Rattle.dual_orders.proofs.value.value_of.Given as goal

abbrev pub invariant-loop-k : goal.invariant-loop-k
invariant-loop-k l = (l.total ≡ int_sum (value_at l.prices l.orders) (take l.k (all_terms l.problem))) × (unsigned_abs l.total ≤ 256000000 * l.k)
