use Rattle.std.proofs.Common.{◌≡◌, ◌-◌, length}
use Rattle.order_untangle.specs.Segments.{grown_marks, rows_of}
use Rattle.order_untangle.proofs.grouping.grown_marks.Given as goal

abbrev pub invariant-loop : goal.invariant-loop
invariant-loop l =
    grown_marks (rows_of l.rows) (length l.rows - l.counter) l.marks.items ≡ grown_marks (rows_of l.rows) (length l.rows) l.initial.marks.items
