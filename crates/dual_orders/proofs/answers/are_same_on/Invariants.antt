use Rattle.std.proofs.Common.{◌≡◌, take, All}
use Rattle.dual_ascent.specs.OwnNumbers.{number_of}
use Rattle.dual_orders.proofs.answers.are_same_on.Given as goal

abbrev pub invariant-loop-k : goal.invariant-loop-k
invariant-loop-k l = All (λ n. number_of l.earlier n ≡ number_of l.prices n) (take l.k-index l.k-items)
