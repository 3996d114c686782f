-- The line graph of a feed, or the limit that is met first.
use Rattle.std.specs.Prelude.{ℕ, List, ◌++◌, length, Result, Ok, Err}
use Rattle.std.specs.List.{flat_map}
use Rattle.map_base.specs.declared.point.Point.{Point}
use Rattle.map_base.specs.declared.limit.Limit.{Limit}
use Rattle.map_base.specs.declared.limit.LimitKind.TheVariants.{NetPoints}
use Rattle.map_base.specs.Limits.{unless_above}
use Rattle.track_net.specs.Nets.{NetParts, net_of_samples}
use Rattle.graph_core.specs.declared.parts.GraphParts.{GraphParts}
use Rattle.transit_feed.specs.Feeds.{Feed}
use Rattle.feed_courses.specs.declared.courses.Course.{Course}
use Rattle.feed_courses.specs.declared.courses.Courses.{Courses}
use Rattle.feed_courses.specs.Outcome.{courses_outcome}
use Rattle.line_graph.specs.Legs.{legs_of, all_legs, path_of, ways_of}
use Rattle.line_graph.specs.Handing.{passages_between}
use Rattle.way_network.specs.declared.way.Passage.{Passage}
use Rattle.way_network.specs.Chains.{Network}
use Rattle.way_network.specs.Joins.{passages_of_way}
use Rattle.way_network.specs.Graphs.{graph_over, graph_within}

-- the samples of all courses, in order
abbrev pub all_samples : List Course → List Point
all_samples courses = flat_map (λ (c : Course). flat_map (λ (hop : List Point). hop) c.hops) courses

-- the net over the stations and samples of courses
abbrev pub net_of_courses : ℕ → Courses → NetParts
net_of_courses near all = net_of_samples near all.points (all_samples all.courses)

-- the network of courses over a net, of that many lines
abbrev pub network_of : ℕ → ℕ → Courses → NetParts → Network
network_of near lines all net = record {
  stations = length all.stations;
  points = length net.points;
  lines = lines;
  ways = ways_of near net (all_legs all.courses);
}

-- all passages: along the ways, and from each leg of a course to the next
abbrev pub all_passages : ℕ → Courses → NetParts → List Passage
all_passages near all net =
    flat_map passages_of_way (ways_of near net (all_legs all.courses))
    ++ flat_map (λ (c : Course). passages_between (path_of near net (all_legs all.courses)) (legs_of c)) all.courses

-- the graph of courses over a net, unless that has too many points
abbrev pub graph_over_net : ℕ → ℕ → Courses → NetParts → Result GraphParts Limit
graph_over_net near lines all net =
    unless_above NetPoints (length net.points)
    (graph_within (graph_over all.stations net.points (network_of near lines all net) (all_passages near all net)))

abbrev pub graph_of_courses : ℕ → ℕ → Result Courses Limit → Result GraphParts Limit
graph_of_courses near lines (Err limit) = Err limit
graph_of_courses near lines (Ok all) = graph_over_net near lines all (net_of_courses near all)

-- the line graph of a feed
abbrev pub graph_outcome : ℕ → Feed → Result GraphParts Limit
graph_outcome near feed = graph_of_courses near (length feed.lines) (courses_outcome near feed)
