use Rattle.std.proofs.Common.{◌≡◌, ◌+◌, ◌-◌, ◌≤◌, false, length}
use Rattle.std.specs.List.{list_any}
use Rattle.poster_table.specs.Cells.{buckets_along}
use Rattle.poster_table.specs.Tables.{hits_in}
use Rattle.poster_table.proofs.table.Table.clashes_in_row.Given as goal

-- it clashes with nothing in the cells so far
abbrev pub invariant-loop-column : goal.invariant-loop-column
invariant-loop-column l = record {
  far : l.column ≤ l.fn.cells.left + (l.fn.cells.right + 1 - l.fn.cells.left);
  missed : list_any (hits_in l.self l.thing) (buckets_along (length l.self.buckets.items) l.row l.fn.cells.left (l.column - l.fn.cells.left)) ≡ false;
}
