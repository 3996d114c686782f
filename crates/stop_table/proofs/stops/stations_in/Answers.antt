use Rattle.stop_table.proofs.PlacedLemmas.{placed_by}
use Rattle.stop_table.proofs.stops.stations_in.Goals as goal

pub returns-clause-placed : goal.returns-clause-placed
returns-clause-placed c = placed_by c.args.rows.now c.in_ok-stations_of.field-0.items c.in_ok-stations_of.ensures
