-- The degrees of each station of a table are in range.
use Rattle.std.proofs.Common.{◌≡◌, ℕ, ◌≤◌, ℤ, pos, unsigned_abs, Bool, true, false, cond, nat_le, List, [], ◌∷◌, All, Option, Some, None, unwrap_or, refl, sym, subst, drop, arith}
use Rattle.std.proofs.lemmas.Bool.{leb-true}
use Rattle.std.proofs.lemmas.List.Elements.{All-nil, All-cons}
use Rattle.std.specs.List.{filter_map, cons_option}
use Rattle.transit_feed.specs.declared.station.Station.{Station}
use Rattle.stop_table.specs.declared.stop_columns.StopColumns.{StopColumns}
use Rattle.table_rows.specs.Cells.{Row, field_in}
use Rattle.transit_feed.specs.Feeds.{IsPlaced}
use Rattle.table_rows.specs.Values.{degrees_of}
use Rattle.table_rows.specs.Degrees.{within}
use Rattle.stop_table.specs.Stops.{latitude_in, longitude_in, station_of, stations_of, stop_columns, is_own_station, type_in}

-- what is read within a bound, or 0 in its place, keeps the bound
pub within-bound : (most : ℕ) (read : Option ℤ) → unsigned_abs (unwrap_or (within most read) (pos 0)) ≤ most
within-bound most None = omega arith
within-bound most (Some degrees) = by_test (nat_le (unsigned_abs degrees) most) refl
  where
    by_test : (b : Bool) → nat_le (unsigned_abs degrees) most ≡ b → unsigned_abs (unwrap_or (cond b (Some degrees) None) (pos 0)) ≤ most
    by_test true e = leb-true (unsigned_abs degrees) most e
    by_test false e = omega arith

-- a station that a row is, is placed
station-placed : (columns : StopColumns) (row : Row) (rest : List Station) → All IsPlaced rest → All IsPlaced (cons_option (station_of columns row) rest)
station-placed columns row rest others =
    let lat : ℤ = unwrap_or (latitude_in columns row) (pos 0) in
    let lon : ℤ = unwrap_or (longitude_in columns row) (pos 0) in
    let station : Station = record { id = field_in row columns.id; name = field_in row columns.name; lat = lat; lon = lon } in
    let placed : IsPlaced station = record {
      latitude = within-bound 90000000 (degrees_of (field_in row columns.lat));
      longitude = within-bound 180000000 (degrees_of (field_in row columns.lon));
    } in
    elim (is_own_station (type_in columns row) (field_in row columns.parent)) as (λ b. All IsPlaced (cons_option (cond b (Some station) None) rest))
    [ true ↦ All-cons IsPlaced station rest placed others | false ↦ others ]

-- each station of rows is placed
pub stations-placed : (columns : StopColumns) (rows : List Row) → All IsPlaced (filter_map (station_of columns) rows)
stations-placed columns [] = All-nil IsPlaced
stations-placed columns (row ∷ rows) = station-placed columns row (filter_map (station_of columns) rows) (stations-placed columns rows)

-- the stations of a table are placed
pub placed_by : (rows : List Row) (stations : List Station) → stations ≡ stations_of rows → All IsPlaced stations
placed_by rows stations same = subst (All IsPlaced) (sym same) (stations-placed (stop_columns rows) (drop 1 rows))
