use Rattle.std.proofs.Common.{◌≡◌, false, take}
use Rattle.track_net.specs.Nearness.{has_near}
use Rattle.track_net.proofs.nearness.near_point.Given as goal

abbrev pub invariant-loop-point : goal.invariant-loop-point
invariant-loop-point l = has_near l.distance (take l.point-index l.points) l.at ≡ false
