use Rattle.std.proofs.Common.{◌≡◌, map, take}
use Rattle.order_model.specs.Places.{has_line}
use Rattle.order_untangle.proofs.held_lines.group_marks.Given as goal

abbrev pub invariant-loop-line : goal.invariant-loop-line
invariant-loop-line l = l.marks.items ≡ map (has_line l.group) (take l.line-index l.lines)
