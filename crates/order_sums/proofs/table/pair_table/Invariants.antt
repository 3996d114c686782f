use Rattle.std.proofs.Common.{take}
use Rattle.order_sums.specs.PairSums.{pair_sums}
use Rattle.order_sums.specs.PairTables.{IsTable, lists_of}
use Rattle.order_sums.proofs.table.pair_table.Given as goal

abbrev pub invariant-loop-term : goal.invariant-loop-term
invariant-loop-term l = IsTable (pair_sums l.into l.from (take l.term-index l.terms)) l.lines (lists_of l.table.items)
