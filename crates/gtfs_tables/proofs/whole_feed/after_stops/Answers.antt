use Rattle.std.proofs.Common.{refl, subst}
use Rattle.std.proofs.lemmas.Result.{err_from_is_err_and}
use Rattle.table_rows.specs.declared.why.Table.TheVariants as tables
use Rattle.table_rows.specs.Outcome.{Answers}
use Rattle.gtfs_tables.specs.Feed.{table_outcome}
use Rattle.gtfs_tables.specs.Steps.{OfFolder, FailsAt, feed_after_stops, feed_after_trips, before_trips, before_shapes}
use Rattle.route_tables.specs.Trips.{trips_of}
use Rattle.gtfs_tables.proofs.StepLemmas.{step_unread, step_refused, step_went_on}
use Rattle.gtfs_tables.proofs.StepCases.{trips_later}
use Rattle.gtfs_tables.specs.Good.{AreGoodTrips}
use Rattle.gtfs_tables.proofs.GoodRoutes.{good_trips, count_lines, few_lines}
use Rattle.gtfs_tables.proofs.whole_feed.after_stops.Goals as goal

pub returns-in_err-rows-clause-read : goal.returns-in_err-rows-clause-read
returns-in_err-rows-clause-read g c =
    step_unread tables.Trips (table_outcome tables.Trips) (trips_of c.args.routes.known)
    (λ trips f. feed_after_trips c.args.routes c.args.stops trips f) (λ trips f t. before_shapes trips f t) (λ f. feed_after_stops c.args.routes c.args.stops f) (λ f t. before_trips c.args.routes f t)
    (λ file f. refl) (λ f. refl) (trips_later c.args.routes)
    (g.F.Files.told c.args.files.now) c.args.folder.now
    (g.F.Files.faults c.args.files.now) (g.F.Files.faults c.rows_in.new.files) (λ tables. tables) c.in_err-rows.field-0.0 c.from_residual.result
    (err_from_is_err_and c.from_residual.result c.from_residual.ensures.1)
    c.in_err-rows.ensures.read

pub returns-in_err-trips-clause-read : goal.returns-in_err-trips-clause-read
returns-in_err-trips-clause-read g c =
    step_refused tables.Trips (table_outcome tables.Trips) (trips_of c.args.routes.known)
    (λ trips f. feed_after_trips c.args.routes c.args.stops trips f) (λ trips f t. before_shapes trips f t) (λ f. feed_after_stops c.args.routes c.args.stops f) (λ f t. before_trips c.args.routes f t)
    (λ file f. refl) (λ f. refl) (trips_later c.args.routes)
    (g.F.Files.told c.args.files.now) c.args.folder.now
    (g.F.Files.faults c.args.files.now) (g.F.Files.faults c.rows_in.new.files) (λ tables. tables) c.in_err-trips.field-0.0 c.from_residual-in_err-trips.result
    (err_from_is_err_and c.from_residual-in_err-trips.result c.from_residual-in_err-trips.ensures.1)
    (c.in_ok-rows.rows)
    c.in_ok-rows.ensures.read c.in_err-trips.ensures

pub trips_in-requires : goal.trips_in-requires
trips_in-requires g c = record { few = few_lines c.args.routes c.requires.routes }

pub after_trips-requires-clause-trips : goal.after_trips-requires-clause-trips
after_trips-requires-clause-trips g c =
    subst (λ n. AreGoodTrips n c.in_ok-trips.trips) (count_lines c.args.routes c.requires.routes)
    (good_trips c.args.routes.known c.in_ok-rows.rows c.in_ok-trips.trips c.in_ok-rows.ensures.few c.in_ok-trips.ensures)

pub returns-clause-read : goal.returns-clause-read
returns-clause-read g c =
    step_went_on tables.Trips (table_outcome tables.Trips) (trips_of c.args.routes.known)
    (λ trips f. feed_after_trips c.args.routes c.args.stops trips f) (λ trips f t. before_shapes trips f t) (λ f. feed_after_stops c.args.routes c.args.stops f) (λ f t. before_trips c.args.routes f t)
    (λ file f. refl) (λ f. refl) (trips_later c.args.routes)
    (g.F.Files.told c.args.files.now) c.args.folder.now
    (g.F.Files.faults c.args.files.now) (g.F.Files.faults c.rows_in.new.files) (g.F.Files.faults c.after_trips.new.files) (λ tables. tables)
    (c.in_ok-rows.rows) c.in_ok-trips.trips c.after_trips.result
    c.rows_in.ensures.later c.after_trips.ensures.later
    c.in_ok-rows.ensures.read c.in_ok-trips.ensures
    (subst (λ told. OfFolder told c.args.folder.now (λ f. Answers (FailsAt (before_shapes c.in_ok-trips.trips f) (g.F.Files.faults c.rows_in.new.files) (g.F.Files.faults c.after_trips.new.files)) (λ tables. tables) c.after_trips.result (feed_after_trips c.args.routes c.args.stops c.in_ok-trips.trips f))) c.rows_in.ensures.kept c.after_trips.ensures.read)
