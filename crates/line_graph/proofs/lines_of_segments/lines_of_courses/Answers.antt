use Rattle.std.proofs.Common.{◌≡◌, ◌∙◌, ◌<◌, sym, ap, subst, ℕ, List, map, length, All, Ok, Result, rules}
use Rattle.map_base.specs.declared.point.Point.{Point}
use Rattle.map_base.specs.declared.limit.Limit.{Limit}
use Rattle.map_base.specs.Faults.{HasCause}
use Rattle.track_net.specs.Nearness.{point_at}
use Rattle.graph_core.specs.declared.parts.GraphParts.{GraphParts}
use Rattle.geo_lines.specs.Courses.{IsCourse}
use Rattle.track_net.specs.Nets.{NetParts}
use Rattle.way_network.specs.Segments.{segment_chains}
use Rattle.line_graph.specs.Outcome.{graph_over_net, net_of_courses, network_of}
use Rattle.line_graph.specs.Rides.{AreKept}
use Rattle.line_graph.specs.SegmentLines.{segment_lines, lines_over_net}
use Rattle.line_graph.proofs.Outcomes.{net_fits}
use Rattle.line_graph.proofs.SegmentCourses.{are_courses, are_known, lines_over}
use Rattle.line_graph.proofs.lines_of_segments.lines_of_courses.Goals as goal

pub returns-in_err-made-clause-cause : goal.returns-in_err-made-clause-cause
returns-in_err-made-clause-cause c =
    let near = c.args.near in
    let all = c.args.courses.now in
    let is = ap (graph_over_net near c.args.lines all) (sym c.in_ok-net.ensures.net) ∙ net_fits near c.args.lines all c.in_ok-net.net c.in_ok-net.ensures.few in
    let cause : HasCause (graph_over_net near c.args.lines all (net_of_courses near all)) c.in_err-made.field-0.0 =
    subst (λ (o : Result GraphParts Limit). HasCause o c.in_err-made.field-0.0) (sym is) c.in_err-made.ensures.cause in
    search (rules, cause)

pub places_along-requires : goal.places_along-requires
places_along-requires c =
    let g = network_of c.args.near c.args.lines c.args.courses.now c.in_ok-net.net in
    subst (λ (chains : List (List ℕ)). All (All (λ p. p < length c.points.result.now)) chains) (sym (c.as_slice.ensures ∙ c.in_ok-made.ensures.chains))
    (subst (λ (points : List Point). All (All (λ p. p < length points)) (segment_chains c.in_ok-net.net.points g)) (sym c.points.ensures.points)
    (are_known c.in_ok-net.net.points g c.in_ok-made.ensures.network))

pub returns-clause-graph : goal.returns-clause-graph
returns-clause-graph c =
    let near = c.args.near in
    let all = c.args.courses.now in
    ap (graph_over_net near c.args.lines all) (sym c.in_ok-net.ensures.net) ∙ net_fits near c.args.lines all c.in_ok-net.net c.in_ok-net.ensures.few ∙ c.in_ok-made.ensures.graph

pub returns-clause-lines : goal.returns-clause-lines
returns-clause-lines c =
    let near = c.args.near in
    let all = c.args.courses.now in
    let net = c.in_ok-net.net in
    let g = network_of near c.args.lines all net in
    let ok : List (List Point) → Result (List (List Point)) Limit = λ lines. Ok lines in
    let is : c.in_ok-along.along ≡ segment_lines net.points g =
    c.in_ok-along.ensures
    ∙ ap (λ (points : List Point). map (map (point_at points)) c.as_slice.result.now) c.points.ensures.points
    ∙ ap (map (map (point_at net.points))) (c.as_slice.ensures ∙ c.in_ok-made.ensures.chains) in
    ap (lines_over_net near c.args.lines all) (sym c.in_ok-net.ensures.net)
    ∙ lines_over near c.args.lines all net c.in_ok-made.made.graph (net_fits near c.args.lines all net c.in_ok-net.ensures.few ∙ c.in_ok-made.ensures.graph)
    ∙ ap ok (sym is)

pub returns-clause-courses : goal.returns-clause-courses
returns-clause-courses c =
    let net = c.in_ok-net.net in
    let g = network_of c.args.near c.args.lines c.args.courses.now net in
    let is : c.in_ok-along.along ≡ segment_lines net.points g =
    c.in_ok-along.ensures
    ∙ ap (λ (points : List Point). map (map (point_at points)) c.as_slice.result.now) c.points.ensures.points
    ∙ ap (map (map (point_at net.points))) (c.as_slice.ensures ∙ c.in_ok-made.ensures.chains) in
    subst (λ (lines : List (List Point)). All IsCourse lines) (sym is) (are_courses net.points g c.in_ok-made.ensures.network)

pub returns-clause-kept : goal.returns-clause-kept
returns-clause-kept c =
    subst (λ (n : NetParts). AreKept c.args.near c.args.lines c.args.courses.now n) c.in_ok-net.ensures.net c.in_ok-made.ensures.kept
