-- What a folder gives as a whole: its feed, or the first refusal.
use Rattle.std.specs.Prelude.{◌≡◌, ℕ, List, Option, Result, Ok}
use Rattle.map_base.specs.declared.ids.StationId.{StationId}
use Rattle.files_door.specs.Fault.{Rose}
use Rattle.transit_feed.specs.Feeds.{Feed}
use Rattle.table_rows.specs.declared.why.Table.{Table}
use Rattle.table_rows.specs.declared.why.Table.TheVariants as tables
use Rattle.table_rows.specs.declared.fault.FeedFault.{FeedFault}
use Rattle.table_rows.specs.Cells.{Row}
use Rattle.table_rows.specs.Folder.{table_file, file_outcome, required_rows}
use Rattle.table_rows.specs.Outcome.{◌>>=◌}
use Rattle.route_tables.specs.declared.known.KnownRoutes.{KnownRoutes}
use Rattle.stop_table.specs.declared.known.KnownStops.{KnownStops}
use Rattle.route_tables.specs.declared.known.KnownTrips.{KnownTrips}
use Rattle.sequence_tables.specs.declared.known.KnownShapes.{KnownShapes}
use Rattle.route_tables.specs.declared.known.FeedRoutes.{FeedRoutes}
use Rattle.stop_table.specs.declared.known.FeedStops.{FeedStops}
use Rattle.route_tables.specs.Routes.{feed_routes}
use Rattle.stop_table.specs.Leads.{feed_stops}
use Rattle.route_tables.specs.Trips.{trips_of}
use Rattle.sequence_tables.specs.Shapes.{shapes_of_file}
use Rattle.sequence_tables.specs.StopTimes.{stop_times_of}
use Rattle.gtfs_tables.specs.Patterns.{patterns_of}

-- The files of a folder by their tables: the bytes of each, if it is there.
abbrev pub Folder : Type 0
Folder = Table → Option (List ℕ)

-- the files that a told folder has
abbrev pub told_folder : List (List ℕ × List ℕ) → List ℕ → Folder
told_folder files folder = table_file files folder

-- the rows of a table that has to be there, told its file
abbrev pub table_outcome : Table → Option (List ℕ) → Result (List Row) FeedFault
table_outcome table file = do
  bytes ← file_outcome file
  required_rows table bytes

abbrev pub rows_outcome : Table → Folder → Result (List Row) FeedFault
rows_outcome table folder = table_outcome table (folder table)

-- the first of the five steps: the routes
abbrev pub routes_outcome : List ℕ → Folder → Result FeedRoutes FeedFault
routes_outcome types folder = do
  rows ← rows_outcome tables.Routes folder
  feed_routes types rows

abbrev pub stops_table_outcome : Folder → Result FeedStops FeedFault
stops_table_outcome folder = do
  rows ← rows_outcome tables.Stops folder
  feed_stops rows

abbrev pub trips_outcome : KnownRoutes → Folder → Result KnownTrips FeedFault
trips_outcome routes folder = do
  rows ← rows_outcome tables.Trips folder
  trips_of routes rows

abbrev pub shapes_outcome : KnownTrips → Folder → Result KnownShapes FeedFault
shapes_outcome trips folder = do
  bytes ← file_outcome (folder tables.Shapes)
  shapes_of_file trips bytes

abbrev pub stop_times_outcome : KnownTrips → KnownStops → Folder → Result (List (List StationId)) FeedFault
stop_times_outcome trips stops folder = do
  rows ← rows_outcome tables.StopTimes folder
  stop_times_of trips stops rows

-- the feed of what the five tables give
abbrev pub feed_of : FeedRoutes → FeedStops → KnownTrips → KnownShapes → List (List StationId) → Feed
feed_of routes stops trips shapes stations = record {
  stations = stops.stations;
  lines = routes.lines;
  patterns = patterns_of trips.lines stations shapes.of_trips;
  shapes = shapes.shapes;
}

-- The feed of a folder, or the first refusal in the order of the five tables. Each table is read and checked whole
-- before the next is read.
abbrev pub feed_outcome : List ℕ → Folder → Result Feed FeedFault
feed_outcome types folder = do
  routes ← routes_outcome types folder
  stops ← stops_table_outcome folder
  trips ← trips_outcome routes.known folder
  shapes ← shapes_outcome trips folder
  stations ← stop_times_outcome trips stops.known folder
  Ok (feed_of routes stops trips shapes stations)

-- What is known before a table is read: nothing, or the refusal of a table before it.
abbrev pub before : List ℕ → Folder → Table → Result (Unit {0}) FeedFault
before types folder tables.Routes = Ok tt
before types folder tables.Stops = do
  routes ← routes_outcome types folder
  Ok tt
before types folder tables.Trips = do
  routes ← routes_outcome types folder
  stops ← stops_table_outcome folder
  Ok tt
before types folder tables.Shapes = do
  routes ← routes_outcome types folder
  stops ← stops_table_outcome folder
  trips ← trips_outcome routes.known folder
  Ok tt
before types folder tables.StopTimes = do
  routes ← routes_outcome types folder
  stops ← stops_table_outcome folder
  trips ← trips_outcome routes.known folder
  shapes ← shapes_outcome trips folder
  Ok tt

-- a fault of reading comes at a table that is read, and only where the count of faults rose
abbrev pub may_fail : List ℕ → Folder → ℕ → ℕ → Table → Type 0
may_fail types folder old now table = Rose old now × (before types folder table ≡ Ok tt)
