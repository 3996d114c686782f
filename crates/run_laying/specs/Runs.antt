-- Which chains may be laid anew as runs, and which attempts are of runs that fit together.
use Rattle.std.specs.Prelude.{◌≡◌, ℕ, ◌%◌, ◌<◌, ◌⊎◌, Bool, true, false, List, [], ◌∷◌, length, All, Contains, slice_index_or}
use Rattle.map_base.specs.declared.ids.NodeId.{NodeId}
use Rattle.map_base.specs.declared.ids.SegId.{SegId}
use Rattle.graph_core.specs.declared.parts.GraphParts.{GraphParts}
use Rattle.line_chains.specs.declared.chain.Chain.{Chain}
use Rattle.line_chains.specs.declared.chain.ChainStep.{ChainStep}
use Rattle.line_chains.specs.Chains.{end_of, ends_of, round_of}
use Rattle.run_laying.specs.Attempts.{has_node, inner_nodes, is_inner, is_on_runs, Attempt}

-- a segment leads from one node to another
abbrev pub LeadsTo : GraphParts → NodeId → ChainStep → Type 0
LeadsTo graph n t = (ends_of graph t.seg ≡ (n, t.to)) ⊎ (ends_of graph t.seg ≡ (t.to, n))

-- two segments alone meet at a node
abbrev pub MeetAlone : GraphParts → SegId → NodeId → SegId → Type 0
MeetAlone graph s n t = (round_of graph n ≡ s ∷ t ∷ []) ⊎ (round_of graph n ≡ t ∷ s ∷ [])

-- each step leads on from the node before it, and no third segment ends at a node between two steps
abbrev pub AreSteps : GraphParts → NodeId → List ChainStep → Type 0
AreSteps graph n [] = Unit {0}
AreSteps graph n (t ∷ []) = (t.seg.0 < length graph.ends) × LeadsTo graph n t
AreSteps graph n (t ∷ u ∷ ts) = (t.seg.0 < length graph.ends) × LeadsTo graph n t × MeetAlone graph t.seg t.to u.seg × AreSteps graph t.to (u ∷ ts)

-- no segment is on the steps twice
abbrev pub AreOnce : List ChainStep → Type 0
AreOnce [] = Unit {0}
AreOnce (t ∷ ts) = ((u : ChainStep) → Contains ts u → u.seg.0 ≡ t.seg.0 → ⊥) × AreOnce ts

-- a run leads over segments, none of them twice, between two different nodes
pub record IsRun (graph : GraphParts) (c : Chain) : Type 0 where
  pub some : 0 < length c.steps
  pub steps : AreSteps graph c.from c.steps
  pub once : AreOnce c.steps
  pub apart : c.from.0 ≡ (end_of c).0 → ⊥

-- no segment of a run is on one of these
abbrev pub IsBeside : List Chain → Chain → Type 0
IsBeside runs c = (t : ChainStep) → Contains c.steps t → is_on_runs runs t.seg.0 ≡ false

-- no two runs share a segment
abbrev pub AreBeside : List Chain → Type 0
AreBeside [] = Unit {0}
AreBeside (c ∷ cs) = IsBeside cs c × AreBeside cs

-- an attempt fits a graph: its runs are runs that share no segment; nodes that move are nodes between no two steps, and
-- all their segments are on the runs; and they move by an even number of steps
pub record IsFitting (graph : GraphParts) (a : Attempt) : Type 0 where
  pub runs : All (IsRun graph) a.runs
  pub beside : AreBeside a.runs
  pub nodes : All (λ (n : NodeId). n.0 < length graph.kinds) a.nodes
  pub ends : All (λ (n : NodeId). is_inner a.runs n.0 ≡ false) a.nodes
  pub all : All (λ (n : NodeId). All (λ (s : SegId). is_on_runs a.runs s.0 ≡ true) (round_of graph n)) a.nodes
  pub even : a.count % 2 ≡ 0
