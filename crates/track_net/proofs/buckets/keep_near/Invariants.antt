use Rattle.std.proofs.Common.{◌≡◌, ◌++◌, filter, take}
use Rattle.track_net.specs.Nearness.{is_nearer, point_at}
use Rattle.track_net.proofs.buckets.keep_near.Given as goal

abbrev pub invariant-loop-k : goal.invariant-loop-k
invariant-loop-k l = l.found.items ≡ l.initial.found.items ++ filter (λ k. is_nearer l.within l.at (point_at l.points k)) (take l.k-index l.numbers)
