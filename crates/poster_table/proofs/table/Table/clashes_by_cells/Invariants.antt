use Rattle.std.proofs.Common.{◌≡◌, ◌+◌, ◌-◌, ◌≤◌, false, length}
use Rattle.std.specs.List.{flat_map, list_any, range_with_len}
use Rattle.poster_table.specs.Cells.{row_buckets}
use Rattle.poster_table.specs.Tables.{hits_in}
use Rattle.poster_table.proofs.table.Table.clashes_by_cells.Given as goal

-- it clashes with nothing in the rows so far
abbrev pub invariant-loop-row : goal.invariant-loop-row
invariant-loop-row l = record {
  far : l.row ≤ l.cells.top + (l.cells.bottom + 1 - l.cells.top);
  missed : list_any (hits_in l.self l.thing) (flat_map (row_buckets (length l.self.buckets.items) l.cells) (range_with_len l.cells.top (l.row - l.cells.top))) ≡ false;
}
