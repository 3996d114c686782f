use Rattle.std.proofs.Common.{◌≡◌, ◌+◌, ◌-◌, ◌≤◌, false}
use Rattle.std.specs.List.{flat_map, list_any, range_with_len}
use Rattle.label_place.specs.Grids.{meets_at, row_cells}
use Rattle.label_place.proofs.grid.Grid.meets.Given as goal

-- nothing is met in the rows so far
abbrev pub invariant-loop-row : goal.invariant-loop-row
invariant-loop-row l = record {
  far : l.row ≤ l.cells.top + (l.cells.bottom + 1 - l.cells.top);
  missed : list_any (meets_at l.self l.fn.bounds) (flat_map (row_cells l.cells) (range_with_len l.cells.top (l.row - l.cells.top))) ≡ false;
}
