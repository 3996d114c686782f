use Rattle.std.proofs.Common.{◌≡◌}
use Rattle.std.specs.Prelude.{replicate}
use Rattle.order_sums.specs.PairSums.{no_sums}
use Rattle.order_sums.specs.PairTables.{lists_of}
use Rattle.order_sums.proofs.table.empty_table.Given as goal

abbrev pub invariant-loop : goal.invariant-loop
invariant-loop l = lists_of l.table.items ≡ replicate l.counter (replicate l.count no_sums)
