use Rattle.std.proofs.Common.{◌≡◌, take}
use Rattle.std.specs.List.{flat_map}
use Rattle.feed_courses.specs.Places.{feed_band}
use Rattle.table_commands.specs.Stations.{station_line}
use Rattle.table_commands.proofs.stations.text_of_stations.Given as goal

abbrev pub invariant-loop-station : goal.invariant-loop-station
invariant-loop-station l = l.text.items ≡ flat_map (station_line (feed_band l.stations)) (take l.station-index l.stations)
