-- The courses of a feed's segments over the net, or the limit that is met first.
use Rattle.std.specs.Prelude.{ℕ, List, map, length, Result, Ok, Err}
use Rattle.map_base.specs.declared.point.Point.{Point}
use Rattle.map_base.specs.declared.limit.Limit.{Limit}
use Rattle.track_net.specs.Nearness.{point_at}
use Rattle.track_net.specs.Nets.{NetParts}
use Rattle.graph_core.specs.declared.parts.GraphParts.{GraphParts}
use Rattle.transit_feed.specs.Feeds.{Feed}
use Rattle.feed_courses.specs.declared.courses.Courses.{Courses}
use Rattle.feed_courses.specs.Outcome.{courses_outcome}
use Rattle.way_network.specs.Chains.{Network}
use Rattle.way_network.specs.Segments.{segment_chains}
use Rattle.line_graph.specs.Outcome.{net_of_courses, network_of, graph_over_net}

-- the net points of the chain of each segment, from its lower to its upper end
abbrev pub segment_lines : List Point → Network → List (List Point)
segment_lines points g = map (map (point_at points)) (segment_chains points g)

-- what stands beside a graph, unless the graph is over a limit
abbrev pub beside_graph : {A : Type 0} → A → Result GraphParts Limit → Result A Limit
beside_graph a (Err limit) = Err limit
beside_graph a (Ok parts) = Ok a

-- those of courses over a net, unless the graph over it is over a limit
abbrev pub lines_over_net : ℕ → ℕ → Courses → NetParts → Result (List (List Point)) Limit
lines_over_net near lines all net = beside_graph (segment_lines net.points (network_of near lines all net)) (graph_over_net near lines all net)

abbrev pub lines_of_courses : ℕ → ℕ → Result Courses Limit → Result (List (List Point)) Limit
lines_of_courses near lines (Err limit) = Err limit
lines_of_courses near lines (Ok all) = lines_over_net near lines all (net_of_courses near all)

-- those of a feed, refused as its line graph is
abbrev pub lines_outcome : ℕ → Feed → Result (List (List Point)) Limit
lines_outcome near feed = lines_of_courses near (length feed.lines) (courses_outcome near feed)
