use Rattle.std.proofs.Common.{◌≡◌}
use Rattle.sequence_tables.specs.StationsOfTrips.{stations_by_key}
use Rattle.sequence_tables.proofs.stop_times.stations_by_key.Given as goal

abbrev pub invariant-loop-key : goal.invariant-loop-key
invariant-loop-key l = l.all.items ≡ stations_by_key l.stations l.ordered l.key
