use Rattle.std.proofs.Common.{sym, subst}
use Rattle.table_rows.specs.NewIds.{AreNew}
use Rattle.route_tables.proofs.RouteLemmas.{routes_new}
use Rattle.route_tables.proofs.routes.known_routes.Goals as goal

pub ids_of_rows-requires-clause-new : goal.ids_of_rows-requires-clause-new
ids_of_rows-requires-clause-new c =
    subst (λ columns. AreNew columns.id c.args.rows.now) (sym c.requires.columns) (routes_new c.args.types.now c.args.rows.now c.requires.good)

pub line_ids-requires-clause-new : goal.line_ids-requires-clause-new
line_ids-requires-clause-new c =
    subst (λ columns. AreNew columns.id c.args.rows.now) (sym c.requires.columns) (routes_new c.args.types.now c.args.rows.now c.requires.good)
