use Rattle.std.proofs.Common.{◌+◌, ◌-◌, ◌≤◌, length}
use Rattle.std.specs.List.{flat_map, range_with_len}
use Rattle.poster_table.specs.Cells.{row_buckets}
use Rattle.poster_table.specs.Tables.{PutsIn}
use Rattle.poster_table.proofs.table.put_cells.Given as goal

-- the number is in the rows so far
abbrev pub invariant-loop-row : goal.invariant-loop-row
invariant-loop-row l = record {
  far : l.row ≤ l.cells.top + (l.cells.bottom + 1 - l.cells.top);
  put : PutsIn l.fn.buckets.items l.buckets.items (flat_map (row_buckets (length l.fn.buckets.items) l.cells) (range_with_len l.cells.top (l.row - l.cells.top))) l.number;
}
