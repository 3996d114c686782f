-- The ids that a row of `stops.txt` may name as its parent, as they are kept.
use Rattle.std.specs.Prelude.{◌≡◌, true, List}
use Rattle.stop_table.specs.declared.stop_columns.StopColumns.{StopColumns}
use Rattle.stop_table.specs.declared.stop_columns.LocationType.TheVariants as kind
use Rattle.stop_table.specs.declared.parents.Parents.{Parents}
use Rattle.table_rows.specs.Ids.{AreSame}
use Rattle.table_rows.specs.Cells.{Row}
use Rattle.stop_table.specs.Stops.{ids_of_type, has_boarding_area}

-- the ids of all stations, and those of all stops where a boarding area may name one
pub record AreParents (c : StopColumns) (rows : List Row) (parents : Parents) : Type 0 where
  pub stations : AreSame parents.stations (ids_of_type kind.Station c rows)
  pub stops : has_boarding_area c rows ≡ true → AreSame parents.stops (ids_of_type kind.Stop c rows)
