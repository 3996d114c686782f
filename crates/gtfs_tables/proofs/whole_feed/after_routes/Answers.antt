use Rattle.std.proofs.Common.{refl, subst}
use Rattle.std.proofs.lemmas.Result.{err_from_is_err_and}
use Rattle.table_rows.specs.declared.why.Table.TheVariants as tables
use Rattle.table_rows.specs.Outcome.{Answers}
use Rattle.gtfs_tables.specs.Feed.{table_outcome}
use Rattle.gtfs_tables.specs.Steps.{OfFolder, FailsAt, feed_after_routes, feed_after_stops, before_stops, before_trips}
use Rattle.stop_table.specs.Leads.{feed_stops}
use Rattle.gtfs_tables.proofs.StepLemmas.{step_unread, step_refused, step_went_on}
use Rattle.gtfs_tables.proofs.StepCases.{stops_later}
use Rattle.gtfs_tables.proofs.GoodStops.{good_stops}
use Rattle.gtfs_tables.proofs.whole_feed.after_routes.Goals as goal

pub returns-in_err-rows-clause-read : goal.returns-in_err-rows-clause-read
returns-in_err-rows-clause-read g c =
    step_unread tables.Stops (table_outcome tables.Stops) (feed_stops)
    (λ stops f. feed_after_stops c.args.routes stops f) (λ stops f t. before_trips c.args.routes f t) (λ f. feed_after_routes c.args.routes f) (λ f t. before_stops c.args.routes f t)
    (λ file f. refl) (λ f. refl) (stops_later c.args.routes)
    (g.F.Files.told c.args.files.now) c.args.folder.now
    (g.F.Files.faults c.args.files.now) (g.F.Files.faults c.rows_in.new.files) (λ tables. tables) c.in_err-rows.field-0.0 c.from_residual.result
    (err_from_is_err_and c.from_residual.result c.from_residual.ensures.1)
    c.in_err-rows.ensures.read

pub returns-in_err-stops-clause-read : goal.returns-in_err-stops-clause-read
returns-in_err-stops-clause-read g c =
    step_refused tables.Stops (table_outcome tables.Stops) (feed_stops)
    (λ stops f. feed_after_stops c.args.routes stops f) (λ stops f t. before_trips c.args.routes f t) (λ f. feed_after_routes c.args.routes f) (λ f t. before_stops c.args.routes f t)
    (λ file f. refl) (λ f. refl) (stops_later c.args.routes)
    (g.F.Files.told c.args.files.now) c.args.folder.now
    (g.F.Files.faults c.args.files.now) (g.F.Files.faults c.rows_in.new.files) (λ tables. tables) c.in_err-stops.field-0.0 c.from_residual-in_err-stops.result
    (err_from_is_err_and c.from_residual-in_err-stops.result c.from_residual-in_err-stops.ensures.1)
    (c.in_ok-rows.rows)
    c.in_ok-rows.ensures.read c.in_err-stops.ensures

pub after_stops-requires-clause-stops : goal.after_stops-requires-clause-stops
after_stops-requires-clause-stops g c =
    good_stops c.in_ok-rows.rows c.in_ok-stops.stops c.in_ok-rows.ensures.few c.in_ok-stops.ensures

pub returns-clause-read : goal.returns-clause-read
returns-clause-read g c =
    step_went_on tables.Stops (table_outcome tables.Stops) (feed_stops)
    (λ stops f. feed_after_stops c.args.routes stops f) (λ stops f t. before_trips c.args.routes f t) (λ f. feed_after_routes c.args.routes f) (λ f t. before_stops c.args.routes f t)
    (λ file f. refl) (λ f. refl) (stops_later c.args.routes)
    (g.F.Files.told c.args.files.now) c.args.folder.now
    (g.F.Files.faults c.args.files.now) (g.F.Files.faults c.rows_in.new.files) (g.F.Files.faults c.after_stops.new.files) (λ tables. tables)
    (c.in_ok-rows.rows) c.in_ok-stops.stops c.after_stops.result
    c.rows_in.ensures.later c.after_stops.ensures.later
    c.in_ok-rows.ensures.read c.in_ok-stops.ensures
    (subst (λ told. OfFolder told c.args.folder.now (λ f. Answers (FailsAt (before_trips c.args.routes f) (g.F.Files.faults c.rows_in.new.files) (g.F.Files.faults c.after_stops.new.files)) (λ tables. tables) c.after_stops.result (feed_after_stops c.args.routes c.in_ok-stops.stops f))) c.rows_in.ensures.kept c.after_stops.ensures.read)
