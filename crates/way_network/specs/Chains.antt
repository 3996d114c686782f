-- Chains of used edges between nodes.
use Rattle.std.specs.Prelude.{ℕ, zero, suc, Bool, ◌==◌, not, List, [], ◌∷◌, find, unwrap_or, if◌then◌else◌}
use Rattle.way_network.specs.declared.way.Way.{Way}
use Rattle.way_network.specs.Edges.{used_from, is_node}

-- the network that chains are cut from: how many stations, net points and lines there are, and the ways
pub record Network : Type 0 where
  pub stations : ℕ
  pub points : ℕ
  pub lines : ℕ
  pub ways : List Way

abbrev pub used_at : Network → ℕ → List ℕ
used_at g p = used_from g.points g.ways p

abbrev pub has_node : Network → ℕ → Bool
has_node g p = is_node g.stations g.points g.lines g.ways p

-- where a chain goes on from a point that is no node, coming from another: over its other used edge
abbrev pub onward : Network → ℕ → ℕ → ℕ
onward g from here = unwrap_or (find (λ p. not (p == from)) (used_at g here)) here

-- the points of a chain from one point over its edge to another, up to the next node, and no more than that many
abbrev pub chain_on : Network → ℕ → ℕ → ℕ → List ℕ
chain_on g zero from here = here ∷ []
chain_on g (suc more) from here = here ∷ (if has_node g here then [] else chain_on g more here (onward g from here))

-- the chain that begins with these two points, up to the next node
abbrev pub chain_from : Network → ℕ → ℕ → List ℕ
chain_from g from here = from ∷ chain_on g g.points from here
