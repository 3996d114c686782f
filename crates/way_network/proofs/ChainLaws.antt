-- Chains between nodes are pieces of ways, and can be followed from either end.
use Rattle.std.proofs.Common.{◌≡◌, ◌≢◌, refl, ℕ, ◌<◌, true, eqb, List, All}
use Rattle.std.specs.List.{IsDistinct}
use Rattle.way_network.specs.Edges.{is_used, lines_over}
use Rattle.way_network.specs.Chains.{Network, has_node, chain_from}
use Rattle.way_network.specs.Segments.{first_of, second_of, last_of, reversed}
use Rattle.way_network.specs.Premises.{IsWay}
use Rattle.way_network.specs.Pieces.{IsChain}
use Rattle.way_network.proofs.ChainPaths.{path_of_chain}
use Rattle.way_network.proofs.ChainPieces.{begun_over, second_on, chain_turned, chain_followed, chain_apart, chain_used, chain_equal_lines}

-- a chain leads from a node over each of its used edges
pub begun : (g : Network) → All (IsWay g) g.ways → (p q : ℕ) → has_node g p ≡ true → is_used g.ways p q ≡ true → IsChain g (chain_from g p q)
begun g ways p q node used = begun_over g ways p q node used

pub begun_first : (g : Network) (p q : ℕ) → first_of (chain_from g p q) ≡ p
begun_first g p q = refl

pub begun_second : (g : Network) (p q : ℕ) → second_of (chain_from g p q) ≡ q
begun_second g p q = second_on g g.points p q

-- the other way round it is a chain too
pub turned : (g : Network) (chain : List ℕ) → IsChain g chain → IsChain g (reversed chain)
turned g chain c = chain_turned g chain c

-- it is the chain over its first edge
pub followed : (g : Network) (chain : List ℕ) → All (IsWay g) g.ways → IsChain g chain → chain_from g (first_of chain) (second_of chain) ≡ chain
followed g chain ways c = chain_followed g chain ways c

-- it visits no point twice
pub distinct : (g : Network) (chain : List ℕ) → All (IsWay g) g.ways → IsChain g chain → IsDistinct eqb chain
distinct g chain ways c = (path_of_chain g chain ways c).distinct

pub apart : (g : Network) (chain : List ℕ) → All (IsWay g) g.ways → IsChain g chain → first_of chain ≢ last_of chain
apart g chain ways c = chain_apart g chain ways c

pub below : (g : Network) (chain : List ℕ) → All (IsWay g) g.ways → IsChain g chain → All (λ p. p < g.points) chain
below g chain ways c = (path_of_chain g chain ways c).known

-- its first edge is used
pub used_first : (g : Network) (chain : List ℕ) → All (IsWay g) g.ways → IsChain g chain → is_used g.ways (first_of chain) (second_of chain) ≡ true
used_first g chain ways c = chain_used g chain ways c

-- the lines of its first edge are those of its last one
pub equal_lines : (g : Network) (chain : List ℕ) → All (IsWay g) g.ways → IsChain g chain →
    lines_over g.lines g.ways (first_of chain) (second_of chain) ≡ lines_over g.lines g.ways (first_of (reversed chain)) (second_of (reversed chain))
equal_lines g chain ways c = chain_equal_lines g chain ways c
