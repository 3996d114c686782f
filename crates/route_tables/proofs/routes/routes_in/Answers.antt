use Rattle.std.proofs.Common.{◌∙◌}
use Rattle.table_rows.proofs.ReasonLemmas.{unless_bad-good}
use Rattle.table_rows.specs.declared.why.Table.TheVariants.{Routes}
use Rattle.table_rows.specs.Reasons.{first_bad}
use Rattle.route_tables.specs.Routes.{routes_reason}
use Rattle.route_tables.proofs.RouteLemmas.{feed_routes_good}
use Rattle.route_tables.proofs.routes.routes_in.Goals as goal

pub returns : goal.returns
returns c =
    feed_routes_good c.args.types.now c.args.rows.now c.of.result c.in_ok-known.known
    (unless_bad-good Routes (first_bad (routes_reason c.args.types.now c.args.rows.now) c.args.rows.now) c.in_ok-check_routes.field-0 c.in_ok-check_routes.ensures)
    (c.of.ensures ∙ c.in_ok-lines.ensures)
    c.in_ok-known.ensures
