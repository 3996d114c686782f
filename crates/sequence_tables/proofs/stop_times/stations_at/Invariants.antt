use Rattle.std.proofs.Common.{◌≡◌, map, take}
use Rattle.sequence_tables.specs.StationsOfTrips.{station_there}
use Rattle.sequence_tables.proofs.stop_times.stations_at.Given as goal

abbrev pub invariant-loop-k : goal.invariant-loop-k
invariant-loop-k l = l.found.items ≡ map (station_there l.stations) (take l.k l.places)
