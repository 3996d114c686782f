use Rattle.std.proofs.Common.{◌≡◌, length}
use Rattle.order_sums.specs.PairSums.{each_parts}
use Rattle.order_untangle.proofs.held_lines.row_parts.Given as goal

abbrev pub invariant-loop-mark : goal.invariant-loop-mark
invariant-loop-mark l = each_parts l.most l.marks l.row ≡ each_parts l.most l.left_marks l.left_row

abbrev pub decreases-loop-mark : goal.decreases-loop-mark
decreases-loop-mark l = length l.left_marks
