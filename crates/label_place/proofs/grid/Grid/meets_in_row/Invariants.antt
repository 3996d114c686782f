use Rattle.std.proofs.Common.{◌≡◌, ◌+◌, ◌-◌, ◌≤◌, false}
use Rattle.std.specs.List.{list_any}
use Rattle.label_place.specs.Grids.{cells_along, meets_at}
use Rattle.label_place.proofs.grid.Grid.meets_in_row.Given as goal

-- nothing is met in the columns so far
abbrev pub invariant-loop-column : goal.invariant-loop-column
invariant-loop-column l = record {
  far : l.column ≤ l.fn.cells.left + (l.fn.cells.right + 1 - l.fn.cells.left);
  missed : list_any (meets_at l.self l.fn.bounds) (cells_along l.row l.fn.cells.left (l.column - l.fn.cells.left)) ≡ false;
}
