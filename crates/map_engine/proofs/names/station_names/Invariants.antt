use Rattle.std.proofs.Common.{◌≡◌, map, take}
use Rattle.transit_feed.specs.declared.station.Station.{Station}
use Rattle.graph_maps.proofs.names.station_names.Given as goal

-- the names so far
abbrev pub invariant-loop-station : goal.invariant-loop-station
invariant-loop-station l = l.names.items ≡ map (λ (s : Station). s.name) (take l.station-index l.stations)
