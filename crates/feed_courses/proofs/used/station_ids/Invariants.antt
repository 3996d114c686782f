use Rattle.std.proofs.Common.{◌≡◌, map, take}
use Rattle.feed_courses.specs.Outcome.{station_numbered}
use Rattle.feed_courses.proofs.used.station_ids.Given as goal

abbrev pub invariant-loop-number : goal.invariant-loop-number
invariant-loop-number l = l.stations.items ≡ map station_numbered (take l.number-index l.numbers)
