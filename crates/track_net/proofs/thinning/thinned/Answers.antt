use Rattle.std.proofs.Common.{refl, ◌≤◌, pos, length, arith, rules}
use Rattle.map_base.specs.declared.point.Point.{Point}
use Rattle.track_net.specs.Nearness.{point_at}
use Rattle.track_net.specs.Nets.{net_points, with_sample}
use Rattle.track_net.specs.Faults.{HasCause}
use Rattle.track_net.proofs.ThinLemmas.{length-net_points, length-net_points-next, HasCause-more}
use Rattle.track_net.proofs.thinning.thinned.Goals as goal

pub returns-then-stations-gt-MOST_POINTS-clause-cause :
    goal.returns-then-stations-gt-MOST_POINTS-clause-cause
returns-then-stations-gt-MOST_POINTS-clause-cause c =
    let more : length c.args.stations.now ≤ length (net_points c.args.near c.args.stations.now c.args.samples.now) =
    length-net_points c.args.near c.args.stations.now c.args.samples.now in
    c.too_many.ensures (length (net_points c.args.near c.args.stations.now c.args.samples.now)) (omega arith)

pub returns-in_err-add_sample-clause-cause : goal.returns-in_err-add_sample-clause-cause
returns-in_err-add_sample-clause-cause c =
    let near = c.args.near in
    let i = c.loop-sample.sample-index in
    let samples = c.args.samples.now in
    let ps = c.loop-sample.points.items in
    let sample : Point = point_at samples i in
    let more : length (with_sample near ps sample) ≤ length (net_points near c.args.stations.now samples) =
    length-net_points-next near i c.args.stations.now samples ps sample (record { x = pos 0; y = pos 0 }) c.loop-sample-test.true c.loop-sample.invariant.points refl in
    let cause : HasCause (length (net_points near c.args.stations.now samples)) c.in_err-add_sample.field-0.0 =
    HasCause-more (length (with_sample near ps sample)) (length (net_points near c.args.stations.now samples)) c.in_err-add_sample.field-0.0 more c.in_err-add_sample.ensures.cause in
    search (rules, cause)
