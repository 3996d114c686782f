use Rattle.std.proofs.Common.{◌≡◌, map, drop}
use Rattle.map_edits.specs.Effects.{station_id, stations_after}
use Rattle.map_edits.proofs.changed_stations.change_stations_by.Given as goal

-- the ids stay, and the edits that are left make of what there is what all of them make
abbrev pub invariant-loop-edit : goal.invariant-loop-edit
invariant-loop-edit l = record {
  same_ids : l.ids ≡ map station_id l.stations.items;
  done : stations_after (drop l.edit-index l.edits) l.stations.items ≡ stations_after l.edits l.fn.stations.items;
}
