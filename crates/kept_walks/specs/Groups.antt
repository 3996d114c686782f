-- Groups of attempts in their order.
use Rattle.std.specs.Prelude.{◌≡◌, ◌<◌, ◌≤◌, ℕ, List, length, map, All}
use Rattle.std.specs.List.{range_with_len}
use Rattle.map_base.specs.declared.ids.NodeId.{NodeId}
use Rattle.graph_core.specs.declared.parts.GraphParts.{GraphParts}
use Rattle.line_chains.specs.declared.chain.Chain.{Chain}
use Rattle.line_chains.specs.Chains.{end_of}
use Rattle.run_laying.specs.Attempts.{Attempt}
use Rattle.run_laying.specs.Runs.{IsFitting, IsRun}
use Rattle.drawing_search.specs.declared.group.Group.{Group}
use Rattle.drawing_search.specs.Changes.{AreApart}
use Rattle.drawing_search.specs.Searched.{attempts_of}

-- so many nodes, in order
abbrev pub all_nodes : ℕ → List NodeId
all_nodes count = map (λ n. record { 0 = n }) (range_with_len 0 count)

-- runs of a graph between different nodes of it
abbrev pub AreRunsOf : GraphParts → List Chain → Type 0
AreRunsOf graph runs = All (λ (c : Chain). IsRun graph c × (c.from.0 < length graph.kinds) × ((end_of c).0 < length graph.kinds)) runs

-- a group moves no node twice, by vectors of at most four lengths
abbrev pub IsSound : Group → Type 0
IsSound g = AreApart g.nodes × (g.lengths ≤ 4)

-- groups for these attempts, all of which fit the graph
pub record AreGroupsFor (graph : GraphParts) (attempts : List Attempt) (groups : List Group) : Type 0 where
  pub attempts_are : attempts_of groups ≡ attempts
  pub fitting : All (IsFitting graph) attempts
  pub sound : All IsSound groups
