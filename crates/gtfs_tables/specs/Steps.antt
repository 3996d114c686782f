-- A folder is read table by table: what holds of it is put together step by step.
use Rattle.std.specs.Prelude.{◌≡◌, ℕ, List, Option, Some, None, Result, Ok}
use Rattle.files_door.specs.Fault.{Rose}
use Rattle.transit_feed.specs.Feeds.{Feed}
use Rattle.table_rows.specs.declared.why.Table.{Table}
use Rattle.table_rows.specs.declared.why.Table.TheVariants as tables
use Rattle.table_rows.specs.declared.fault.FeedFault.{FeedFault}
use Rattle.table_rows.specs.Folder.{table_file}
use Rattle.table_rows.specs.Outcome.{◌>>=◌}
use Rattle.route_tables.specs.declared.known.KnownTrips.{KnownTrips}
use Rattle.sequence_tables.specs.declared.known.KnownShapes.{KnownShapes}
use Rattle.route_tables.specs.declared.known.FeedRoutes.{FeedRoutes}
use Rattle.stop_table.specs.declared.known.FeedStops.{FeedStops}
use Rattle.gtfs_tables.specs.Feed.{Folder, routes_outcome, stops_table_outcome, trips_outcome, shapes_outcome, stop_times_outcome, feed_of}

-- a table's file, where all files are told
abbrev pub IsTold : Option (List (List ℕ × List ℕ)) → List ℕ → Table → Option (List ℕ) → Type 0
IsTold None path table file = Unit {0}
IsTold (Some all) path table file = file ≡ table_file all path table

-- something holds of a table's file, as far as it is told
pub record OfFile (told : Option (List (List ℕ × List ℕ))) (path : List ℕ) (table : Table) (P : Option (List ℕ) → Type 0) : Type 0 where
  pub file : Option (List ℕ)
  pub is_told : IsTold told path table file
  pub holds : P file

-- something holds of a folder, as far as its files are told
pub record OfFolder (told : Option (List (List ℕ × List ℕ))) (path : List ℕ) (P : Folder → Type 0) : Type 0 where
  pub folder : Folder
  pub is_told : (table : Table) → IsTold told path table (folder table)
  pub holds : P folder

-- a fault of reading comes where the count of faults rose, at a table before which nothing is refused
abbrev pub FailsAt : (Table → Result (Unit {0}) FeedFault) → ℕ → ℕ → Table → Type 0
FailsAt before old now table = Rose old now × (before table ≡ Ok tt)

-- what the last table gives, told what those before it gave
abbrev pub feed_after_shapes : FeedRoutes → FeedStops → KnownTrips → KnownShapes → Folder → Result Feed FeedFault
feed_after_shapes routes stops trips shapes folder = do
  stations ← stop_times_outcome trips stops.known folder
  Ok (feed_of routes stops trips shapes stations)

abbrev pub before_stop_times : Table → Result (Unit {0}) FeedFault
before_stop_times table = Ok tt

-- what the last two tables give
abbrev pub feed_after_trips : FeedRoutes → FeedStops → KnownTrips → Folder → Result Feed FeedFault
feed_after_trips routes stops trips folder = do
  shapes ← shapes_outcome trips folder
  feed_after_shapes routes stops trips shapes folder

abbrev pub before_shapes : KnownTrips → Folder → Table → Result (Unit {0}) FeedFault
before_shapes trips folder tables.Shapes = Ok tt
before_shapes trips folder table = do
  shapes ← shapes_outcome trips folder
  before_stop_times table

-- what the last three tables give
abbrev pub feed_after_stops : FeedRoutes → FeedStops → Folder → Result Feed FeedFault
feed_after_stops routes stops folder = do
  trips ← trips_outcome routes.known folder
  feed_after_trips routes stops trips folder

abbrev pub before_trips : FeedRoutes → Folder → Table → Result (Unit {0}) FeedFault
before_trips routes folder tables.Trips = Ok tt
before_trips routes folder table = do
  trips ← trips_outcome routes.known folder
  before_shapes trips folder table

-- what the last four tables give
abbrev pub feed_after_routes : FeedRoutes → Folder → Result Feed FeedFault
feed_after_routes routes folder = do
  stops ← stops_table_outcome folder
  feed_after_stops routes stops folder

abbrev pub before_stops : FeedRoutes → Folder → Table → Result (Unit {0}) FeedFault
before_stops routes folder tables.Stops = Ok tt
before_stops routes folder table = do
  stops ← stops_table_outcome folder
  before_trips routes folder table

-- what is known before a table
abbrev pub before_any : List ℕ → Folder → Table → Result (Unit {0}) FeedFault
before_any types folder tables.Routes = Ok tt
before_any types folder table = do
  routes ← routes_outcome types folder
  before_stops routes folder table
