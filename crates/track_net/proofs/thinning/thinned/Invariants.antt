use Rattle.std.proofs.Common.{◌≡◌, ◌≤◌, take, All, Contains, vec_len}
use Rattle.std.specs.Option.{IfSome}
use Rattle.fixed_plane.specs.Plane.{IsInPlane}
use Rattle.track_net.specs.Nets.{net_points}
use Rattle.track_net.specs.Cells.{AreKept}
use Rattle.track_net.proofs.thinning.thinned.Given as goal

abbrev pub invariant-loop-sample : goal.invariant-loop-sample
invariant-loop-sample l = record {
  points : l.points.items ≡ net_points l.near l.stations (take l.sample-index l.samples);
  in_plane : All IsInPlane l.points.items;
  few : vec_len l.points ≤ 100000;
  theirs : AreKept l.near l.points.items l.cells;
  last : IfSome l.last (Contains l.points.items);
}
