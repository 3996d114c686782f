use Rattle.std.proofs.Common.{◌≡◌, map, take}
use Rattle.feed_courses.specs.Tables.{place_in}
use Rattle.feed_courses.proofs.used.stop_places.Given as goal

abbrev pub invariant-loop-stop : goal.invariant-loop-stop
invariant-loop-stop l = l.places.items ≡ map (place_in l.table) (take l.stop-index l.stops)
