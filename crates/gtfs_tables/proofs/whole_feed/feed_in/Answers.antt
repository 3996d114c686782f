use Rattle.std.proofs.Common.{refl, subst}
use Rattle.std.proofs.lemmas.Result.{err_from_is_err_and}
use Rattle.table_rows.specs.declared.why.Table.TheVariants as tables
use Rattle.table_rows.specs.Outcome.{Answers}
use Rattle.gtfs_tables.specs.Feed.{table_outcome, feed_outcome}
use Rattle.gtfs_tables.specs.Steps.{OfFolder, FailsAt, feed_after_routes, before_any, before_stops}
use Rattle.route_tables.specs.Routes.{feed_routes}
use Rattle.gtfs_tables.proofs.StepLemmas.{step_unread, step_refused, step_went_on}
use Rattle.gtfs_tables.proofs.StepCases.{routes_later}
use Rattle.gtfs_tables.proofs.GoodRoutes.{good_routes}
use Rattle.gtfs_tables.proofs.whole_feed.feed_in.Goals as goal

pub returns-in_err-rows-clause-read : goal.returns-in_err-rows-clause-read
returns-in_err-rows-clause-read g c =
    step_unread tables.Routes (table_outcome tables.Routes) (feed_routes c.args.types.now)
    (λ routes f. feed_after_routes routes f) (λ routes f t. before_stops routes f t) (λ f. feed_outcome c.args.types.now f) (λ f t. before_any c.args.types.now f t)
    (λ file f. refl) (λ f. refl) (routes_later c.args.types.now)
    (g.F.Files.told c.args.files.now) c.args.folder.now
    (g.F.Files.faults c.args.files.now) (g.F.Files.faults c.rows_in.new.files) (λ tables. tables) c.in_err-rows.field-0.0 c.from_residual.result
    (err_from_is_err_and c.from_residual.result c.from_residual.ensures.1)
    c.in_err-rows.ensures.read

pub returns-in_err-routes-clause-read : goal.returns-in_err-routes-clause-read
returns-in_err-routes-clause-read g c =
    step_refused tables.Routes (table_outcome tables.Routes) (feed_routes c.args.types.now)
    (λ routes f. feed_after_routes routes f) (λ routes f t. before_stops routes f t) (λ f. feed_outcome c.args.types.now f) (λ f t. before_any c.args.types.now f t)
    (λ file f. refl) (λ f. refl) (routes_later c.args.types.now)
    (g.F.Files.told c.args.files.now) c.args.folder.now
    (g.F.Files.faults c.args.files.now) (g.F.Files.faults c.rows_in.new.files) (λ tables. tables) c.in_err-routes.field-0.0 c.from_residual-in_err-routes.result
    (err_from_is_err_and c.from_residual-in_err-routes.result c.from_residual-in_err-routes.ensures.1)
    (c.in_ok-rows.rows)
    c.in_ok-rows.ensures.read c.in_err-routes.ensures

pub after_routes-requires : goal.after_routes-requires
after_routes-requires g c =
    good_routes c.args.types.now c.in_ok-rows.rows c.in_ok-routes.routes c.in_ok-rows.ensures.few c.in_ok-routes.ensures

pub returns-clause-read : goal.returns-clause-read
returns-clause-read g c =
    step_went_on tables.Routes (table_outcome tables.Routes) (feed_routes c.args.types.now)
    (λ routes f. feed_after_routes routes f) (λ routes f t. before_stops routes f t) (λ f. feed_outcome c.args.types.now f) (λ f t. before_any c.args.types.now f t)
    (λ file f. refl) (λ f. refl) (routes_later c.args.types.now)
    (g.F.Files.told c.args.files.now) c.args.folder.now
    (g.F.Files.faults c.args.files.now) (g.F.Files.faults c.rows_in.new.files) (g.F.Files.faults c.after_routes.new.files) (λ tables. tables)
    (c.in_ok-rows.rows) c.in_ok-routes.routes c.after_routes.result
    c.rows_in.ensures.later c.after_routes.ensures.later
    c.in_ok-rows.ensures.read c.in_ok-routes.ensures
    (subst (λ told. OfFolder told c.args.folder.now (λ f. Answers (FailsAt (before_stops c.in_ok-routes.routes f) (g.F.Files.faults c.rows_in.new.files) (g.F.Files.faults c.after_routes.new.files)) (λ tables. tables) c.after_routes.result (feed_after_routes c.in_ok-routes.routes f))) c.rows_in.ensures.kept c.after_routes.ensures.read)
