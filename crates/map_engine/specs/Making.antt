-- The map of a feed and its certificate; or why there is none.
use Rattle.std.specs.Prelude.{Result, Ok, Err}
use Rattle.map_base.specs.declared.limit.Limit.{Limit}
use Rattle.map_base.specs.Settings.{Choices}
use Rattle.map_method.specs.Methods.{MethodChoices}
use Rattle.transit_feed.specs.Feeds.{Feed}
use Rattle.graph_core.specs.declared.parts.GraphParts.{GraphParts}
use Rattle.line_graph.specs.Outcome.{graph_outcome}
use Rattle.map_faults.specs.declared.fault.MakeFault.{MakeFault}
use Rattle.map_faults.specs.declared.fault.MakeFault.TheVariants as fault
use Rattle.graph_maps.specs.Problems.{Drawn, drawn_on}
use Rattle.graph_maps.specs.Making.{MapBytes, SolvedMap, if_solved, solved_map, solved_of}
use Rattle.map_engine.specs.Tables.{importance_by, subject_of}

-- what comes of a line graph, or the limit that it is over
abbrev pub over_graph : {A : Type 0} → (GraphParts → Result A MakeFault) → Result GraphParts Limit → Result A MakeFault
over_graph makes (Ok graph) = makes graph
over_graph makes (Err limit) = Err (fault.Limit limit)

-- The drawing of a feed's line graph and the problem of its line orders: the graph comes first, then its walks, then
-- the terms are counted.
abbrev pub drawn_outcome : Feed → Choices → MethodChoices → Result Drawn MakeFault
drawn_outcome feed choices method = over_graph (λ graph. drawn_on (importance_by feed choices) choices method graph)
    (graph_outcome choices.near feed)

-- The drawing of a feed and its line orders; or the first cause why there is none: a limit of the line graph or of
-- cells, no route, a limit of terms, or a part of the untangled problem that is over the limit of places or over the
-- budget. It never is want of memory.
abbrev pub solved_outcome : Feed → Choices → MethodChoices → Result SolvedMap MakeFault
solved_outcome feed choices method = solved_of choices method (drawn_outcome feed choices method)

-- The map of a feed and its certificate; or the first cause why there is none.
abbrev pub make_outcome : Feed → Choices → MethodChoices → Result MapBytes MakeFault
make_outcome feed choices method = if_solved (solved_map (subject_of feed choices)) (solved_outcome feed choices method)
