-- The nodes of ways and chains are nodes of the graph.
use Rattle.std.proofs.Common.{◌≡◌, ℕ, zero, suc, ◌+◌, ◌<◌, ◌≤◌, Bool, true, false, cond, eqb, List, [], ◌∷◌, length, get_or, arith}
use Rattle.std.specs.List.{flat_map, All, AllByRecursion}
use Rattle.std.proofs.lemmas.List.Elements.{recursion_from_All, All-append, All-cons}
use Rattle.map_base.specs.declared.ids.NodeId.{NodeId}
use Rattle.map_base.specs.declared.ids.SegId.{SegId}
use Rattle.graph_core.specs.declared.parts.GraphParts.{GraphParts}
use Rattle.graph_core.specs.Consistent.{AreEnds, IsConsistent}
use Rattle.line_chains.specs.declared.chain.Chain.{Chain}
use Rattle.line_chains.specs.declared.chain.ChainStep.{ChainStep}
use Rattle.line_chains.specs.Chains.{chains_at, chains_by, chains_of, ends_of, far_end, is_corner, is_forward, nodes_along, other_of, round_of, steps_from, unless_ended, way_from}
use Rattle.line_chains.proofs.Flags.{AreBelow, WaysBelow}
use Rattle.line_chains.proofs.Listing.{nodes_between}
use Rattle.line_chains.proofs.Rounds.{other_below, round_below}
use Rattle.line_chains.proofs.Walking.{all_along}

-- the far end of a segment
pub far_below : (graph : GraphParts) → IsConsistent graph → (s : SegId) (n : NodeId) → s.0 < length graph.ends → (far_end graph s n).0 < length graph.kinds
far_below graph fit s n h = by_test (eqb e.0.0 n.0)
  where
    none : NodeId
    none = record { 0 = 0 }

    e : NodeId × NodeId
    e = ends_of graph s

    are : AreEnds (length graph.kinds) e
    are = fit.ends s.0 (none, none) h

    by_test : (t : Bool) → (let m : NodeId = cond t e.1 e.0 in m).0 < length graph.kinds
    by_test true = are.1
    by_test false = omega (arith, are.0, are.1)

-- the nodes of ways
abbrev pub LeadBelow : ℕ → List ChainStep → Type 0
LeadBelow m steps = All (λ (t : ChainStep). t.to.0 < m) steps

lead_nowhere : (m : ℕ) → LeadBelow m []
lead_nowhere m i d h = let none : i < 0 = h in absurd (omega arith)

lead_on : (m : ℕ) (t : Bool) (rest : List ChainStep) → LeadBelow m rest → LeadBelow m (unless_ended t rest)
lead_on m true rest all = lead_nowhere m
lead_on m false rest all = all

pub steps_below : (graph : GraphParts) → IsConsistent graph → (corners : List Bool) (most : ℕ) (n : NodeId) (s : SegId) → s.0 < length graph.ends → LeadBelow (length graph.kinds) (steps_from graph corners most n s)
steps_below graph fit corners zero n s seg = lead_nowhere (length graph.kinds)
steps_below graph fit corners (suc most) n s seg =
    All-cons (λ (t : ChainStep). t.to.0 < length graph.kinds) (record { seg = s; to = far }) (unless_ended (is_corner corners far) rest) node
    (lead_on (length graph.kinds) (is_corner corners far) rest
    (steps_below graph fit corners most far (other_of (round_of graph far) s) (other_below (length graph.ends) (round_of graph far) s (round_below graph fit far.0 node) seg)))
  where
    far : NodeId
    far = far_end graph s n

    node : far.0 < length graph.kinds
    node = far_below graph fit s n seg

    rest : List ChainStep
    rest = steps_from graph corners most far (other_of (round_of graph far) s)

pub way_below : (graph : GraphParts) → IsConsistent graph → (corners : List Bool) (n : NodeId) (s : SegId) → n.0 < length graph.kinds → s.0 < length graph.ends → AreBelow (length graph.kinds) (nodes_along (way_from graph corners n s))
way_below graph fit corners n s node seg = all_along (length graph.kinds) n (steps_from graph corners (length graph.ends) n s) node (steps_below graph fit corners (length graph.ends) n s seg)

pub ways_below : (graph : GraphParts) → IsConsistent graph → (corners : List Bool) (n : NodeId) → n.0 < length graph.kinds → WaysBelow graph corners n (round_of graph n)
ways_below graph fit corners n node i d h = way_below graph fit corners n (get_or (round_of graph n) i d) node (round_below graph fit n.0 node i d h)

-- and of chains
abbrev pub ChainsBelow : ℕ → List Chain → Type 0
ChainsBelow m chains = All (λ (c : Chain). AreBelow m (nodes_along c)) chains

no_chains : (m : ℕ) → ChainsBelow m []
no_chains m i d h = let none : i < 0 = h in absurd (omega arith)

by_below : (graph : GraphParts) → IsConsistent graph → (corners : List Bool) (n : NodeId) → n.0 < length graph.kinds → (ss : List SegId) → AllByRecursion (λ (s : SegId). s.0 < length graph.ends) ss
    → ChainsBelow (length graph.kinds) (chains_by graph corners n ss)
by_below graph fit corners n node [] segs = no_chains (length graph.kinds)
by_below graph fit corners n node (s ∷ ss) segs = by_test (by_below graph fit corners n node ss segs.1) (is_forward graph s way)
  where
    way : Chain
    way = way_from graph corners n s

    by_test : ChainsBelow (length graph.kinds) (chains_by graph corners n ss) → (t : Bool) → ChainsBelow (length graph.kinds) (cond t (way ∷ chains_by graph corners n ss) (chains_by graph corners n ss))
    by_test rest true = All-cons (λ (c : Chain). AreBelow (length graph.kinds) (nodes_along c)) way (chains_by graph corners n ss) (way_below graph fit corners n s node segs.0) rest
    by_test rest false = rest

at_below : (graph : GraphParts) → IsConsistent graph → (corners : List Bool) (n : NodeId) → n.0 < length graph.kinds → ChainsBelow (length graph.kinds) (chains_at graph corners n)
at_below graph fit corners n node = by_test (is_corner corners n)
  where
    by_test : (t : Bool) → ChainsBelow (length graph.kinds) (cond t (chains_by graph corners n (round_of graph n)) [])
    by_test true = by_below graph fit corners n node (round_of graph n) (recursion_from_All (λ (s : SegId). s.0 < length graph.ends) (round_of graph n) (round_below graph fit n.0 node))
    by_test false = no_chains (length graph.kinds)

all_below : (graph : GraphParts) → IsConsistent graph → (corners : List Bool) (i m : ℕ) → i + m ≤ length graph.kinds → ChainsBelow (length graph.kinds) (flat_map (chains_at graph corners) (nodes_between i m))
all_below graph fit corners i zero h = no_chains (length graph.kinds)
all_below graph fit corners i (suc m) h =
    All-append (λ (c : Chain). AreBelow (length graph.kinds) (nodes_along c)) (chains_at graph corners (record { 0 = i })) (flat_map (chains_at graph corners) (nodes_between (i + 1) m))
    (at_below graph fit corners (record { 0 = i }) (omega arith)) (all_below graph fit corners (i + 1) m (omega arith))

pub chains_below : (graph : GraphParts) → IsConsistent graph → (corners : List Bool) → ChainsBelow (length graph.kinds) (chains_of graph corners)
chains_below graph fit corners = all_below graph fit corners 0 (length graph.kinds) (omega arith)
