use Rattle.std.proofs.Common.{◌≡◌, sym, ◌∙◌, ap, subst, ℕ, zero, suc, ◌*◌, ◌<◌, ◌≤◌, List, map, Vec, arith}
use Rattle.std.specs.Global.{Global}
use Rattle.map_base.specs.declared.point.Point.{Point}
use Rattle.track_net.specs.Nets.{AreDistinct, all_edges, net_points, net_over, net_of_samples}
use Rattle.track_net.specs.Laws.{IsPlanar, HasOwnDirections, JoinsStations}
use Rattle.track_net.proofs.Covering.{AreDistinct-net_points}
use Rattle.track_net.proofs.Joining.{net_joins_stations}
use Rattle.track_net.proofs.Meeting.{net_is_planar, net_has_own_directions}
use Rattle.track_net.proofs.building.net_of.Goals as goal

square_some : (near : ℕ) → 20 ≤ near → 0 < near * near
square_some zero low = absurd (omega arith)
square_some (suc n) low = omega arith

-- thinned points and the edges over them are the net
net_is : (near : ℕ) (stations samples ps looked : List Point) (rows : List (Vec ℕ Global)) → ps ≡ net_points near stations samples → looked ≡ ps →
    map (λ (r : Vec ℕ Global). r.items) rows ≡ all_edges near looked → net_of_samples near stations samples ≡ record { points = ps; edges = map (λ (r : Vec ℕ Global). r.items) rows }
net_is near stations samples ps looked rows points same edges =
    sym (ap (net_over near) points)
    ∙ ap (λ (es : List (List ℕ)). record { points = ps; edges = es }) (sym (edges ∙ ap (all_edges near) same))

pub invariant_of-result : goal.invariant_of-result
invariant_of-result c =
    let stations = c.args.stations.now in
    let samples = c.args.samples.now in
    let near = c.args.near in
    let points = c.in_ok-points.points.items in
    let some = square_some near c.requires.near_low in
    record {
      near = near;
      near_low = c.requires.near_low;
      near_high = c.requires.near_high;
      few = omega (arith, c.in_ok-points.ensures.few, c.in_ok-points.points.ok);
      in_plane = c.in_ok-points.ensures.in_plane;
      distinct = subst AreDistinct (sym c.in_ok-points.ensures.points) (AreDistinct-net_points near stations samples some c.requires.distinct);
      edges = c.in_ok-edges.ensures ∙ ap (all_edges near) c.deref.ensures.value;
    }

pub returns-clause-planar : goal.returns-clause-planar
returns-clause-planar c =
    subst IsPlanar
    (net_is c.args.near c.args.stations.now c.args.samples.now c.in_ok-points.points.items c.deref.result.now c.in_ok-edges.edges.items c.in_ok-points.ensures.points
    c.deref.ensures.value c.in_ok-edges.ensures)
    (net_is_planar c.args.near (net_points c.args.near c.args.stations.now c.args.samples.now))

pub returns-clause-directions : goal.returns-clause-directions
returns-clause-directions c =
    subst HasOwnDirections
    (net_is c.args.near c.args.stations.now c.args.samples.now c.in_ok-points.points.items c.deref.result.now c.in_ok-edges.edges.items c.in_ok-points.ensures.points
    c.deref.ensures.value c.in_ok-edges.ensures)
    (net_has_own_directions c.args.near (net_points c.args.near c.args.stations.now c.args.samples.now))

pub returns-clause-joined : goal.returns-clause-joined
returns-clause-joined c =
    let some = square_some c.args.near c.requires.near_low in
    subst (JoinsStations c.args.near c.args.stations.now c.args.samples.now)
    (net_is c.args.near c.args.stations.now c.args.samples.now c.in_ok-points.points.items c.deref.result.now c.in_ok-edges.edges.items c.in_ok-points.ensures.points
    c.deref.ensures.value c.in_ok-edges.ensures)
    (net_joins_stations c.args.near c.args.stations.now c.args.samples.now some
    (AreDistinct-net_points c.args.near c.args.stations.now c.args.samples.now some c.requires.distinct))
