use Rattle.std.proofs.Common.{sym, subst}
use Rattle.table_rows.specs.NewIds.{AreNew}
use Rattle.route_tables.proofs.TripLemmas.{trips_new}
use Rattle.route_tables.proofs.trips.known_trips.Goals as goal

pub ids_of_rows-requires-clause-new : goal.ids_of_rows-requires-clause-new
ids_of_rows-requires-clause-new c =
    subst (λ columns. AreNew columns.id c.args.rows.now) (sym c.requires.columns) (trips_new c.args.routes.now c.args.rows.now c.requires.good)
