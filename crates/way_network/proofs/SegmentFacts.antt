-- Each used edge of a node is one over which a segment leaves it.
use Rattle.std.proofs.Common.{◌≡◌, ℕ, ◌<◌, true, List, length}
use Rattle.map_base.specs.declared.point.Point.{Point}
use Rattle.way_network.specs.Edges.{is_used}
use Rattle.way_network.specs.Chains.{Network, has_node}
use Rattle.way_network.specs.Segments.{segment_chains, segment_at}
use Rattle.way_network.specs.Premises.{IsNetwork}
use Rattle.way_network.proofs.ConsistencySegments.{at_leaving}

pub segment_within : (points : List Point) (g : Network) → IsNetwork points g → (p q : ℕ) → has_node g p ≡ true → is_used g.ways p q ≡ true →
    segment_at (segment_chains points g) p q < length (segment_chains points g)
segment_within points g network p q node used = (at_leaving points g network p q node used).0
