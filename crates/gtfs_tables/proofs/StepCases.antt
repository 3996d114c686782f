-- The five tables of a folder, one after another.
use Rattle.std.proofs.Common.{◌≡◌, ℕ, List, Option, Result, Ok, Err, refl, ap, ◌∙◌}
use Rattle.table_rows.specs.declared.why.Table.{Table}
use Rattle.table_rows.specs.declared.why.Table.TheVariants as tables
use Rattle.table_rows.specs.declared.fault.FeedFault.{FeedFault}
use Rattle.table_rows.specs.Folder.{file_outcome}
use Rattle.table_rows.specs.Outcome.{◌>>=◌}
use Rattle.route_tables.specs.declared.known.KnownTrips.{KnownTrips}
use Rattle.sequence_tables.specs.declared.known.KnownShapes.{KnownShapes}
use Rattle.route_tables.specs.declared.known.FeedRoutes.{FeedRoutes}
use Rattle.stop_table.specs.declared.known.FeedStops.{FeedStops}
use Rattle.gtfs_tables.specs.Feed.{Folder, table_outcome, before}
use Rattle.gtfs_tables.specs.Steps.{before_any, before_stops, before_trips, before_shapes, before_stop_times}
use Rattle.route_tables.specs.Routes.{feed_routes}
use Rattle.stop_table.specs.Leads.{feed_stops}
use Rattle.route_tables.specs.Trips.{trips_of}
use Rattle.sequence_tables.specs.Shapes.{shapes_of_file}
use Rattle.gtfs_tables.proofs.StepLemmas.{folder_with}

-- nothing is refused before a later table, where nothing is up to this one and behind it

pub routes_later : (types : List ℕ) (file : Option (List ℕ)) (folder : Folder) (routes : FeedRoutes) (other : Table)
    → (table_outcome tables.Routes file >>= feed_routes types) ≡ Ok routes → before_stops routes folder other ≡ Ok tt → before_any types (folder_with tables.Routes file folder) other ≡ Ok tt
routes_later types file folder routes tables.Routes is rest = refl
routes_later types file folder routes other is rest = ap (λ r. r >>= (λ routes. before_stops routes folder other)) is ∙ rest

pub stops_later : (routes : FeedRoutes) (file : Option (List ℕ)) (folder : Folder) (stops : FeedStops) (other : Table)
    → (table_outcome tables.Stops file >>= feed_stops) ≡ Ok stops → before_trips routes folder other ≡ Ok tt → before_stops routes (folder_with tables.Stops file folder) other ≡ Ok tt
stops_later routes file folder stops tables.Stops is rest = refl
stops_later routes file folder stops other is rest = ap (λ r. r >>= (λ stops. before_trips routes folder other)) is ∙ rest

pub trips_later : (routes : FeedRoutes) (file : Option (List ℕ)) (folder : Folder) (trips : KnownTrips) (other : Table)
    → (table_outcome tables.Trips file >>= trips_of routes.known) ≡ Ok trips → before_shapes trips folder other ≡ Ok tt → before_trips routes (folder_with tables.Trips file folder) other ≡ Ok tt
trips_later routes file folder trips tables.Trips is rest = refl
trips_later routes file folder trips other is rest = ap (λ r. r >>= (λ trips. before_shapes trips folder other)) is ∙ rest

pub shapes_later : (trips : KnownTrips) (file : Option (List ℕ)) (folder : Folder) (shapes : KnownShapes) (other : Table)
    → (file_outcome file >>= shapes_of_file trips) ≡ Ok shapes → before_stop_times other ≡ Ok tt → before_shapes trips (folder_with tables.Shapes file folder) other ≡ Ok tt
shapes_later trips file folder shapes tables.Shapes is rest = refl
shapes_later trips file folder shapes other is rest = ap (λ r. r >>= (λ shapes. before_stop_times other)) is ∙ rest

-- three steps, one after the other
pub then_then : {A B C : Type 0} (first : Result A FeedFault) (second : A → Result B FeedFault) (third : B → Result C FeedFault)
    → ((first >>= second) >>= third) ≡ (first >>= (λ value. second value >>= third))
then_then (Ok value) second third = refl
then_then (Err fault) second third = refl

-- what is known before a table, step by step
pub before_is : (types : List ℕ) (folder : Folder) (table : Table) → before_any types folder table ≡ before types folder table
before_is types folder tables.Routes = refl
before_is types folder tables.Stops = refl
before_is types folder tables.Trips = refl
before_is types folder tables.Shapes = refl
before_is types folder tables.StopTimes = refl
