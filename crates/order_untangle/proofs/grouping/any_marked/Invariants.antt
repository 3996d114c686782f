use Rattle.std.proofs.Common.{◌≡◌, length}
use Rattle.order_untangle.specs.Segments.{any_marked}
use Rattle.order_untangle.proofs.grouping.any_marked.Given as goal

abbrev pub invariant-loop-mark : goal.invariant-loop-mark
invariant-loop-mark l = any_marked l.marks l.row ≡ any_marked l.left_marks l.left_row

abbrev pub decreases-loop-mark : goal.decreases-loop-mark
decreases-loop-mark l = length l.left_marks
