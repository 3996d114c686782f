use Rattle.std.proofs.Common.{◌≡◌, All, map, take}
use Rattle.feed_courses.specs.Places.{projected_station}
use Rattle.feed_courses.specs.Runs.{IsOnEarth}
use Rattle.feed_courses.proofs.plane.station_points.Given as goal

abbrev pub invariant-loop-number : goal.invariant-loop-number
invariant-loop-number l = record {
  points : l.points.items ≡ map (projected_station l.stations) (take l.number-index l.numbers);
  on_earth : All IsOnEarth l.points.items;
}
