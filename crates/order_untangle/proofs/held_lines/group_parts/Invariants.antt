use Rattle.std.proofs.Common.{◌≡◌, drop, map}
use Rattle.std.specs.List.{list_all}
use Rattle.map_base.specs.declared.ids.LineId.{LineId}
use Rattle.order_model.specs.Places.{has_line}
use Rattle.order_sums.specs.declared.pair_sums.PairSums.{PairSums}
use Rattle.order_sums.specs.PairSums.{each_parts}
use Rattle.order_sums.specs.PairTables.{IsTable, lists_of}
use Rattle.order_untangle.proofs.held_lines.group_parts.Given as goal

abbrev pub invariant-loop-line : goal.invariant-loop-line
invariant-loop-line l =
    (w : LineId → LineId → PairSums) → IsTable w l.lines (lists_of l.table)
    → list_all (λ a. each_parts l.most (map (has_line l.group) l.lines) (map (w a) l.lines)) l.group
    ≡ list_all (λ a. each_parts l.most (map (has_line l.group) l.lines) (map (w a) l.lines)) (drop l.line-index l.group)
