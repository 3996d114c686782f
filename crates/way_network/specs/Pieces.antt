-- Chains as pieces of ways from node to node.
use Rattle.std.specs.Prelude.{◌≡◌, ℕ, suc, ◌<◌, ◌≤◌, ◌⊎◌, true, false, List, ◌++◌, length, Contains, slice_index_or}
use Rattle.way_network.specs.declared.way.Way.{Way}
use Rattle.way_network.specs.Chains.{Network, has_node}
use Rattle.way_network.specs.Segments.{first_of, last_of, reversed}

-- a list of numbers stands somewhere in another
pub record StandsIn (part whole : List ℕ) : Type 0 where
  pub before : List ℕ
  pub after : List ℕ
  pub is : whole ≡ before ++ (part ++ after)

-- a chain from node to node: a piece of a way, in the one or the other direction, with nodes at its ends and none
-- between
pub record IsChain (g : Network) (chain : List ℕ) : Type 0 where
  pub long : 2 ≤ length chain
  pub begins : has_node g (first_of chain) ≡ true
  pub ends : has_node g (last_of chain) ≡ true
  pub between : (k : ℕ) → 0 < k → suc k < length chain → has_node g (slice_index_or chain k 0) ≡ false
  pub way : Way
  pub known : Contains g.ways way
  pub runs : StandsIn chain way.points ⊎ StandsIn (reversed chain) way.points
