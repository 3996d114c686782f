use Rattle.std.proofs.Common.{◌≡◌, ◌≤◌, ℕ, List, Option, Result, Ok, Vec, option_map, length, refl, ap, sym, subst, arith}
use Rattle.std.specs.declared.alloc.Global.{Global}
use Rattle.std.proofs.lemmas.Result.{err_from_is_err_and}
use Rattle.map_base.specs.declared.ids.StationId.{StationId}
use Rattle.table_rows.specs.declared.why.Table.TheVariants as tables
use Rattle.table_rows.specs.Outcome.{◌>>=◌, Answers, never}
use Rattle.table_rows.specs.Folder.{file_outcome, required_rows}
use Rattle.table_rows.specs.declared.fault.FeedFault.{FeedFault}
use Rattle.route_tables.specs.declared.known.KnownTrips.{KnownTrips}
use Rattle.sequence_tables.specs.declared.known.KnownShapes.{KnownShapes}
use Rattle.route_tables.specs.declared.known.FeedRoutes.{FeedRoutes}
use Rattle.stop_table.specs.declared.known.FeedStops.{FeedStops}
use Rattle.gtfs_tables.specs.Feed.{table_outcome, feed_of}
use Rattle.gtfs_tables.specs.Steps.{FailsAt, feed_after_shapes, before_stop_times}
use Rattle.gtfs_tables.specs.Good.{AreServed}
use Rattle.sequence_tables.specs.StopTimes.{stop_times_of, stop_times_of_file}
use Rattle.gtfs_tables.proofs.StepLemmas.{step_unread, step_refused, step_went_on, of_any_folder, answers_never}
use Rattle.gtfs_tables.proofs.GoodRoutes.{numbered}
use Rattle.gtfs_tables.proofs.GoodStations.{good_stations_of_file}
use Rattle.gtfs_tables.proofs.FewRows.{few_option}
use Rattle.gtfs_tables.proofs.StepCases.{then_then}
use Rattle.gtfs_tables.proofs.whole_feed.after_shapes.Goals as goal

-- the table's file, and then its rows and what they give
whole : (routes : FeedRoutes) (stops : FeedStops) (trips : KnownTrips) (shapes : KnownShapes) (file : Option (List ℕ))
    → ((table_outcome tables.StopTimes file >>= stop_times_of trips stops.known) >>= (λ stations. Ok (feed_of routes stops trips shapes stations)))
    ≡ ((file_outcome file >>= stop_times_of_file trips stops.known) >>= (λ stations. Ok (feed_of routes stops trips shapes stations)))
whole routes stops trips shapes file =
    ap (λ (r : Result (List (List StationId)) FeedFault). r >>= (λ stations. Ok (feed_of routes stops trips shapes stations)))
    (then_then (file_outcome file) (required_rows tables.StopTimes) (stop_times_of trips stops.known))

pub returns-in_err-bytes-clause-read : goal.returns-in_err-bytes-clause-read
returns-in_err-bytes-clause-read g c =
    step_unread tables.StopTimes (file_outcome) (stop_times_of_file c.args.trips.now c.args.stops.known)
    (λ stations f. Ok (feed_of c.args.routes c.args.stops c.args.trips.now c.args.shapes stations)) (λ stations f t. Ok tt)
    (λ f. feed_after_shapes c.args.routes c.args.stops c.args.trips.now c.args.shapes f) (λ f t. before_stop_times t)
    (λ file f. whole c.args.routes c.args.stops c.args.trips.now c.args.shapes file) (λ f. refl) (λ file f stations other is rest. refl)
    (g.F.Files.told c.args.files.now) c.args.folder.now
    (g.F.Files.faults c.args.files.now) (g.F.Files.faults c.file_in.new.files) (λ tables. tables) c.in_err-bytes.field-0.0 c.from_residual.result
    (err_from_is_err_and c.from_residual.result c.from_residual.ensures.1)
    c.in_err-bytes.ensures.read

pub returns-in_err-stations-clause-read : goal.returns-in_err-stations-clause-read
returns-in_err-stations-clause-read g c =
    step_refused tables.StopTimes (file_outcome) (stop_times_of_file c.args.trips.now c.args.stops.known)
    (λ stations f. Ok (feed_of c.args.routes c.args.stops c.args.trips.now c.args.shapes stations)) (λ stations f t. Ok tt)
    (λ f. feed_after_shapes c.args.routes c.args.stops c.args.trips.now c.args.shapes f) (λ f t. before_stop_times t)
    (λ file f. whole c.args.routes c.args.stops c.args.trips.now c.args.shapes file) (λ f. refl) (λ file f stations other is rest. refl)
    (g.F.Files.told c.args.files.now) c.args.folder.now
    (g.F.Files.faults c.args.files.now) (g.F.Files.faults c.file_in.new.files) (λ tables. tables) c.in_err-stations.field-0.0 c.from_residual-in_err-stations.result
    (err_from_is_err_and c.from_residual-in_err-stations.result c.from_residual-in_err-stations.ensures.1)
    (option_map {T = Vec ℕ Global} {U = List ℕ} (λ v. v.items) c.in_ok-bytes.bytes)
    c.in_ok-bytes.ensures.read c.in_err-stations.ensures

pub stop_times_in_file-requires-clause-few : goal.stop_times_in_file-requires-clause-few
stop_times_in_file-requires-clause-few g c =
    let of = c.in_ok-bytes.ensures.read in
    few_option of.file c.in_ok-bytes.bytes of.holds

pub stop_times_in_file-requires-clause-numbered : goal.stop_times_in_file-requires-clause-numbered
stop_times_in_file-requires-clause-numbered g c = numbered (length c.args.routes.lines) c.args.trips.now c.requires.trips

pub tables_of-requires-clause-served : goal.tables_of-requires-clause-served
tables_of-requires-clause-served g c =
    subst (λ (s : List (List StationId)). AreServed (length c.args.stops.stations) c.args.trips.now s) (sym c.deref.ensures.value)
    (good_stations_of_file (length c.args.stops.stations) c.args.trips.now c.args.stops.known c.in_ok-bytes.bytes c.in_ok-stations.stations.items c.requires.stops.led
    (few_option (c.in_ok-bytes.ensures.read).file c.in_ok-bytes.bytes (c.in_ok-bytes.ensures.read).holds) c.in_ok-stations.ensures)

pub returns-clause-read : goal.returns-clause-read
returns-clause-read g c =
    let told = g.F.Files.told c.args.files.now in
    let now = g.F.Files.faults c.file_in.new.files in
    let feed = feed_of c.args.routes c.args.stops c.args.trips.now c.args.shapes c.in_ok-stations.stations.items in
    let same : now ≤ now = omega arith in
    let ended = subst (λ (s : List (List StationId)). Answers never (λ tables. tables) c.tables_of.result (Ok (feed_of c.args.routes c.args.stops c.args.trips.now c.args.shapes s))) c.deref.ensures.value c.tables_of.ensures in
    step_went_on tables.StopTimes (file_outcome) (stop_times_of_file c.args.trips.now c.args.stops.known)
    (λ stations f. Ok (feed_of c.args.routes c.args.stops c.args.trips.now c.args.shapes stations)) (λ stations f t. Ok tt)
    (λ f. feed_after_shapes c.args.routes c.args.stops c.args.trips.now c.args.shapes f) (λ f t. before_stop_times t)
    (λ file f. whole c.args.routes c.args.stops c.args.trips.now c.args.shapes file) (λ f. refl) (λ file f stations other is rest. refl)
    told c.args.folder.now
    (g.F.Files.faults c.args.files.now) now now (λ tables. tables) (option_map {T = Vec ℕ Global} {U = List ℕ} (λ v. v.items) c.in_ok-bytes.bytes) c.in_ok-stations.stations.items c.tables_of.result
    c.file_in.ensures.later same c.in_ok-bytes.ensures.read c.in_ok-stations.ensures
    (of_any_folder told c.args.folder.now (λ f. Answers (FailsAt (λ t. Ok tt) now now) (λ tables. tables) c.tables_of.result (Ok feed))
    (λ f. answers_never (FailsAt (λ t. Ok tt) now now) (λ tables. tables) c.tables_of.result (Ok feed) ended))
