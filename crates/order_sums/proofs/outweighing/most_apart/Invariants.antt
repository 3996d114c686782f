use Rattle.std.proofs.Common.{◌≡◌, drop, max}
use Rattle.map_base.specs.declared.ids.LineId.{LineId}
use Rattle.order_rules.specs.PairWeights.{most_over_pairs}
use Rattle.order_sums.specs.declared.pair_sums.PairSums.{PairSums}
use Rattle.order_sums.specs.PairTables.{IsTable, lists_of}
use Rattle.order_sums.proofs.outweighing.most_apart.Given as goal

abbrev pub invariant-loop-i : goal.invariant-loop-i
invariant-loop-i l =
    (w : LineId → LineId → PairSums) → IsTable w l.lines (lists_of l.table)
    → most_over_pairs (λ a b. (w a b).all_aparts) l.lines ≡ max l.most (most_over_pairs (λ a b. (w a b).all_aparts) (drop l.i l.lines))
