use Rattle.std.proofs.Common.{◌≡◌, map, take}
use Rattle.map_edits.specs.Effects.{station_id}
use Rattle.map_edits.proofs.feed_ids.ids_of_stations.Given as goal

-- the ids of those that were seen
abbrev pub invariant-loop-station : goal.invariant-loop-station
invariant-loop-station l = l.ids ≡ map station_id (take l.station-index l.stations)
