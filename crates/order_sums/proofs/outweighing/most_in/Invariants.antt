use Rattle.std.proofs.Common.{◌≡◌, take}
use Rattle.order_sums.specs.PairSums.{most_aparts}
use Rattle.order_sums.proofs.outweighing.most_in.Given as goal

abbrev pub invariant-loop-sums : goal.invariant-loop-sums
invariant-loop-sums l = l.most ≡ most_aparts (take l.sums-index l.row)
