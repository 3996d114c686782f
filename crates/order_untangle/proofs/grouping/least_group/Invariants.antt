use Rattle.std.proofs.Common.{◌≡◌, ◌-◌, length}
use Rattle.order_untangle.specs.Segments.{first_at, place_group, rows_of}
use Rattle.order_untangle.proofs.grouping.least_group.Given as goal

abbrev pub invariant-loop-start : goal.invariant-loop-start
invariant-loop-start l =
    first_at (place_group (rows_of l.rows) l.lines) (length l.lines) 0 ≡ first_at (place_group (rows_of l.rows) l.lines) (length l.lines - l.start) l.start
