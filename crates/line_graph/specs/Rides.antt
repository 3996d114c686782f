-- Where the lines of a feed run over its graph: no line is lost, joins included.
use Rattle.std.specs.Prelude.{◌≡◌, ℕ, ◌<◌, ◌⊎◌, List, [], ◌∷◌, length, min, max, All, Contains, slice_index_or, position, unwrap_or, Result, Ok, Err}
use Rattle.map_base.specs.declared.limit.Limit.{Limit}
use Rattle.graph_core.specs.declared.parts.GraphParts.{GraphParts}
use Rattle.track_net.specs.Nets.{NetParts}
use Rattle.transit_feed.specs.Feeds.{Feed}
use Rattle.feed_courses.specs.declared.courses.Course.{Course}
use Rattle.feed_courses.specs.declared.courses.Courses.{Courses}
use Rattle.feed_courses.specs.Outcome.{courses_outcome}
use Rattle.way_network.specs.declared.way.Passage.{Passage}
use Rattle.way_network.specs.Edges.{runs_over}
use Rattle.way_network.specs.Segments.{line_numbered, segment_chains}
use Rattle.way_network.specs.Joins.{join_of}
use Rattle.way_network.specs.Graphs.{graph_over}
use Rattle.line_graph.specs.Legs.{Leg, legs_of, all_legs, path_of}
use Rattle.line_graph.specs.Handing.{passages_between}
use Rattle.line_graph.specs.Outcome.{net_of_courses, network_of, all_passages}

-- the segment that runs over the edge of two net points, told the points of each segment
abbrev pub segment_over : List (List ℕ) → ℕ → ℕ → ℕ
segment_over chains p q = unwrap_or (position (runs_over p q) chains) 0

-- the segments over the edges between net points that follow each other
abbrev pub segments_along : List (List ℕ) → List ℕ → List ℕ
segments_along chains [] = []
segments_along chains (a ∷ []) = []
segments_along chains (a ∷ b ∷ rest) = segment_over chains a b ∷ segments_along chains (b ∷ rest)

-- a line is on a segment of a graph
abbrev pub IsOn : GraphParts → ℕ → ℕ → Type 0
IsOn graph line segment = (segment < length graph.lines) × Contains (slice_index_or graph.lines segment []) (line_numbered line)

-- a line goes on from one segment to another: the two are one, or a node joins them by the line
abbrev pub GoesOn : GraphParts → ℕ → ℕ → ℕ → Type 0
GoesOn graph line e f = (e ≡ f) ⊎ ((n : ℕ) × (n < length graph.joins) × Contains (slice_index_or graph.joins n []) (join_of (min e f) (max e f) line))

-- a line rides over segments: it is on each of them, and goes on from each to the next
abbrev pub Rides : GraphParts → ℕ → List ℕ → Type 0
Rides graph line [] = Unit {0}
Rides graph line (e ∷ []) = IsOn graph line e
Rides graph line (e ∷ f ∷ rest) = IsOn graph line e × GoesOn graph line e f × Rides graph line (f ∷ rest)

-- a line goes on over a passage: from the segment on which it comes to the one on which it leaves
abbrev pub Passes : GraphParts → List (List ℕ) → Passage → Type 0
Passes graph chains x = GoesOn graph x.line.0 (segment_over chains x.at x.from) (segment_over chains x.at x.to)

-- the line of a course rides over the segments along each of its legs, and goes on from each leg to the next
pub record KeepsCourse (graph : GraphParts) (chains : List (List ℕ)) (path : Leg → List ℕ) (course : Course) : Type 0 where
  pub legs : All (λ (leg : Leg). Rides graph course.line.0 (segments_along chains (path leg))) (legs_of course)
  pub handed : All (Passes graph chains) (passages_between path (legs_of course))

-- a line rides over a segment along a leg of one of its courses
pub record RidesOver (chains : List (List ℕ)) (path : Leg → List ℕ) (courses : List Course) (line segment : ℕ) : Type 0 where
  pub course : Course
  pub known : Contains courses course
  pub is_line : course.line.0 ≡ line
  pub leg : Leg
  pub has_leg : Contains (legs_of course) leg
  pub over : Contains (segments_along chains (path leg)) segment

-- the graph of courses over a net keeps each of them, and a line is on no segment that none of its courses rides over
pub record KeepsCourses (near lines : ℕ) (all : Courses) (net : NetParts) (graph : GraphParts) : Type 0 where
  pub courses : All (KeepsCourse graph (segment_chains net.points (network_of near lines all net)) (path_of near net (all_legs all.courses))) all.courses
  pub none_made_up : (line segment : ℕ) → IsOn graph line segment →
      RidesOver (segment_chains net.points (network_of near lines all net)) (path_of near net (all_legs all.courses)) all.courses line segment

-- so does that of their network, whatever its size
abbrev pub AreKept : ℕ → ℕ → Courses → NetParts → Type 0
AreKept near lines all net = KeepsCourses near lines all net (graph_over all.stations net.points (network_of near lines all net) (all_passages near all net))

abbrev pub KeepsOutcome : ℕ → ℕ → Result Courses Limit → GraphParts → Type 0
KeepsOutcome near lines (Err limit) graph = Unit {0}
KeepsOutcome near lines (Ok all) graph = KeepsCourses near lines all (net_of_courses near all) graph

-- the line graph of a feed keeps the courses of all lines that are shown
abbrev pub KeepsLines : ℕ → Feed → GraphParts → Type 0
KeepsLines near feed graph = KeepsOutcome near (length feed.lines) (courses_outcome near feed) graph
