use Rattle.std.proofs.Common.{◌≡◌, take}
use Rattle.shape_track.specs.Hops.{total_of}
use Rattle.feed_courses.proofs.hops.total.Given as goal

abbrev pub invariant-loop-hop : goal.invariant-loop-hop
invariant-loop-hop l = l.count ≡ total_of (take l.hop-index l.hops)
