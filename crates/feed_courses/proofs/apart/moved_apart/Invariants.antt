use Rattle.std.proofs.Common.{◌≡◌, length, take}
use Rattle.feed_courses.specs.Places.{moved_apart}
use Rattle.feed_courses.proofs.apart.moved_apart.Given as goal

abbrev pub invariant-loop-point : goal.invariant-loop-point
invariant-loop-point l = record {
  points : l.apart ≡ moved_apart (take l.point-index l.points);
  count : length l.apart ≡ l.point-index;
}
