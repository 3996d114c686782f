use Rattle.std.proofs.Common.{◌≡◌, ◌==◌, ◌||◌, not, map, take}
use Rattle.map_base.specs.declared.ids.LineId.{LineId}
use Rattle.order_sums.specs.declared.pair_sums.PairSums.{PairSums}
use Rattle.order_sums.specs.PairSums.{sums_part}
use Rattle.order_sums.specs.PairTables.{IsTable, lists_of}
use Rattle.order_untangle.specs.Segments.{rows_of}
use Rattle.order_untangle.proofs.held_lines.held_rows.Given as goal

abbrev pub invariant-loop-i : goal.invariant-loop-i
invariant-loop-i l =
    (w : LineId → LineId → PairSums) → IsTable w l.lines (lists_of l.table)
    → rows_of l.rows.items ≡ map (λ b. map (λ a. a.0 == b.0 || not (sums_part l.most (w b a).against_turned (w b a).sides)) l.lines) (take l.i l.lines)
