use Rattle.std.proofs.Common.{◌≡◌, map, take}
use Rattle.order_untangle.specs.Segments.{any_marked, rows_of}
use Rattle.order_untangle.proofs.grouping.fill_next.Given as goal

abbrev pub invariant-loop-row : goal.invariant-loop-row
invariant-loop-row l = l.next.items ≡ map (any_marked l.marks) (rows_of (take l.row-index l.rows))
