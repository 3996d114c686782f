use Rattle.std.proofs.Common.{◌+◌, ◌-◌, ◌≤◌, length}
use Rattle.poster_table.specs.Cells.{buckets_along}
use Rattle.poster_table.specs.Tables.{PutsIn}
use Rattle.poster_table.proofs.table.put_row.Given as goal

-- the number is in the cells so far
abbrev pub invariant-loop-column : goal.invariant-loop-column
invariant-loop-column l = record {
  far : l.column ≤ l.fn.cells.left + (l.fn.cells.right + 1 - l.fn.cells.left);
  put : PutsIn l.fn.buckets.items l.buckets.items (buckets_along (length l.fn.buckets.items) l.row l.fn.cells.left (l.column - l.fn.cells.left)) l.number;
}
