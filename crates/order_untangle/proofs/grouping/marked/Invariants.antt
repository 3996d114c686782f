use Rattle.std.proofs.Common.{◌≡◌, ◌++◌, length}
use Rattle.order_untangle.specs.Segments.{marked}
use Rattle.order_untangle.proofs.grouping.marked.Given as goal

abbrev pub invariant-loop-mark : goal.invariant-loop-mark
invariant-loop-mark l = marked l.marks l.lines ≡ l.group.items ++ marked l.left_marks l.left_lines

abbrev pub decreases-loop-mark : goal.decreases-loop-mark
decreases-loop-mark l = length l.left_marks
