use Rattle.std.proofs.Common.{◌≡◌, false}
use Rattle.std.specs.List.{list_any}
use Rattle.stop_table.specs.declared.stop_columns.LocationType.TheVariants.{BoardingArea}
use Rattle.table_rows.specs.Cells.{rows_before}
use Rattle.stop_table.specs.Stops.{has_type, type_in}
use Rattle.stop_table.proofs.parents.has_boarding_area.Given as goal

abbrev pub invariant-loop-row : goal.invariant-loop-row
invariant-loop-row l = list_any (λ row. has_type BoardingArea (type_in l.columns row)) (rows_before l.row l.rows) ≡ false
