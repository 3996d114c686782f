use Rattle.std.proofs.Common.{◌+◌, ◌-◌, ◌≤◌}
use Rattle.std.specs.List.{flat_map, range_with_len}
use Rattle.label_place.specs.Grids.{put_in, row_cells, Grows}
use Rattle.label_place.proofs.grid.Grid.put.Given as goal

-- the thing is in the cells of the rows so far
abbrev pub invariant-loop-row : goal.invariant-loop-row
invariant-loop-row l = record {
  far : l.row ≤ l.cells.top + (l.cells.bottom + 1 - l.cells.top);
  grown : Grows l.fn.self l.self (put_in (flat_map (row_cells l.cells) (range_with_len l.cells.top (l.row - l.cells.top))) l.thing);
}
