use Rattle.std.proofs.Common.{◌+◌, ◌-◌, ◌≤◌}
use Rattle.label_place.specs.Grids.{cells_along, put_in, Grows}
use Rattle.label_place.proofs.grid.Grid.put_row.Given as goal

-- the thing is in the cells of the columns so far
abbrev pub invariant-loop-column : goal.invariant-loop-column
invariant-loop-column l = record {
  far : l.column ≤ l.fn.cells.left + (l.fn.cells.right + 1 - l.fn.cells.left);
  grown : Grows l.fn.self l.self (put_in (cells_along l.row l.fn.cells.left (l.column - l.fn.cells.left)) l.thing);
}
