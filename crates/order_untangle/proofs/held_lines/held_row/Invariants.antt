use Rattle.std.proofs.Common.{◌≡◌, ◌==◌, ◌||◌, not, map, take}
use Rattle.map_base.specs.declared.ids.LineId.{LineId}
use Rattle.order_sums.specs.declared.pair_sums.PairSums.{PairSums}
use Rattle.order_sums.specs.PairSums.{sums_part}
use Rattle.order_untangle.proofs.held_lines.held_row.Given as goal

abbrev pub invariant-loop-i : goal.invariant-loop-i
invariant-loop-i l =
    (f : LineId → PairSums) → l.row ≡ map f l.lines
    → l.held.items ≡ map (λ a. a.0 == l.line.0 || not (sums_part l.most (f a).against_turned (f a).sides)) (take l.i l.lines)
