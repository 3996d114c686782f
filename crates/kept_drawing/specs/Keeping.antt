-- What is kept: the line graph of courses.
use Rattle.std.specs.Prelude.{◌≡◌, ℕ, Ok}
use Rattle.graph_core.specs.declared.parts.GraphParts.{GraphParts}
use Rattle.feed_courses.specs.declared.courses.Courses.{Courses}
use Rattle.line_graph.specs.Outcome.{net_of_courses, graph_over_net}
use Rattle.line_graph.specs.Rides.{AreKept}

-- a graph is the line graph of courses, of that many lines, and none of these lines is lost
pub record IsGraphOf (near lines : ℕ) (all : Courses) (graph : GraphParts) : Type 0 where
  pub defined : graph_over_net near lines all (net_of_courses near all) ≡ Ok graph
  pub kept : AreKept near lines all (net_of_courses near all)
