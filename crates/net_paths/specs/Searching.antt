-- The search for least costs: what is known, what waits, and what is left to be followed.
use Rattle.std.specs.Prelude.{◌≡◌, ℕ, ◌+◌, ◌*◌, ◌<◌, ◌≤◌, ◌⊎◌, nat_eq, List, ◌∷◌, Option, Some, None, length, map, Contains, IsPermutation, slice_index_or, slice_set, sum_by}
use Rattle.std.specs.declared.cmp.Ordering.{Ordering}
use Rattle.std.specs.declared.cmp.Reverse.{Reverse}
use Rattle.std.specs.List.{range_with_len}
use Rattle.std.specs.declared.hash.FoldHasher.{FoldHasher}
use Rattle.std.specs.declared.hash.BuildHasherDefault.{BuildHasherDefault}
use Rattle.std.specs.HashMap.{get, HashMap}
use Rattle.std.specs.Ordering.{nat_cmp, ordering_then}
use Rattle.map_base.specs.declared.point.Point.{Point}
use Rattle.least_path.specs.Orders.{AtMost}
use Rattle.least_path.specs.Paths.{Path, AreLeastCosts}
use Rattle.track_net.specs.Nearness.{point_at}
use Rattle.track_net.specs.Nets.{NetParts}
use Rattle.net_paths.specs.Corridors.{edge_cost, CorridorParts}
use Rattle.net_paths.specs.Stretches.{IsStep}

-- the cost of the edge between two points along a corridor
abbrev pub cost_along : CorridorParts → List Point → ℕ → ℕ → ℕ
cost_along corridor ps a b = edge_cost corridor.near corridor.samples (point_at ps a) (point_at ps b)

-- the steps over the edges of a net along a corridor
abbrev pub StepAlong : CorridorParts → NetParts → ℕ → ℕ → ℕ → ℕ → Type 0
StepAlong corridor net = IsStep corridor.near corridor.samples net

-- the known cost of a point
abbrev pub known_at : List (Option ℕ) → ℕ → Option ℕ
known_at table s = slice_index_or table s None

-- what is known of the points below a number, by a map
abbrev pub costs_below : HashMap ℕ ℕ (BuildHasherDefault FoldHasher) → ℕ → List (Option ℕ)
costs_below costs n = map (λ s. get nat_eq costs s) (range_with_len 0 n)

-- the cost of a point is known
abbrev pub with_known : List (Option ℕ) → ℕ → ℕ → List (Option ℕ)
with_known table at cost = slice_set table at (Some cost)

-- a cost and a point, as they wait
abbrev pub entry : ℕ → ℕ → Reverse (ℕ × ℕ)
entry k s = record { 0 = (k, s) }

-- a point waits with a cost
abbrev pub Waits : List (Reverse (ℕ × ℕ)) → ℕ → ℕ → Type 0
Waits queue s k = Contains queue (entry k s)

-- the order of the queue: the least cost first, then the least point
abbrev pub queue_cmp : Reverse (ℕ × ℕ) → Reverse (ℕ × ℕ) → Ordering
queue_cmp x y = ordering_then (nat_cmp y.0.0 x.0.0) (nat_cmp y.0.1 x.0.1)

-- there is a limit, and a cost is above it
abbrev pub IsBeyond : Option ℕ → ℕ → Type 0
IsBeyond None k = ⊥
IsBeyond (Some d) k = d < k

-- a cost of a point was looked at: nothing changes where as low a one is known; else it is known, and the point
-- waits with it
abbrev pub IsLowered : List (Option ℕ) → List (Option ℕ) → List (Reverse (ℕ × ℕ)) → List (Reverse (ℕ × ℕ)) → ℕ → ℕ → Type 0
IsLowered old new queue longer at cost =
    (AtMost (known_at old at) cost × (new ≡ old) × (longer ≡ queue))
    ⊎ ((AtMost (known_at old at) cost → ⊥) × (new ≡ slice_set old at (Some cost)) × IsPermutation (entry cost at ∷ queue) longer)

-- no edge costs more
abbrev pub dearest : ℕ
dearest = 8 * 720000000000000000

-- how many points have no known cost
abbrev pub unknown_of : Option ℕ → ℕ
unknown_of None = 1
unknown_of (Some k) = 0

abbrev pub unknowns_of : List (Option ℕ) → ℕ
unknowns_of table = sum_by unknown_of table

-- what is left to be lowered: the sum of the known costs, and a number above every cost for each point without one
abbrev pub height_at : ℕ → Option ℕ → ℕ
height_at top None = top
height_at top (Some k) = k

abbrev pub height_of : ℕ → List (Option ℕ) → ℕ
height_of top table = sum_by (height_at top) table

-- each step that leads to a point of this cost is followed by a known cost of the point that it comes from
abbrev pub IsFollowed : CorridorParts → NetParts → List (Option ℕ) → ℕ → ℕ → Type 0
IsFollowed corridor net table s k = (a l c : ℕ) → StepAlong corridor net a l s c → AtMost (known_at table a) (c + k)

-- the state of a search for the least costs to a point
pub record IsSearch (corridor : CorridorParts) (net : NetParts) (to : ℕ) (table : List (Option ℕ)) (queue : List (Reverse (ℕ × ℕ))) (excepted : ℕ → ℕ → Type 0) : Type 0 where
  pub each : length table ≡ length net.points
  pub attained : (s k : ℕ) → known_at table s ≡ Some k → (labels : List ℕ) × Path (StepAlong corridor net) s to labels k
  pub target : AtMost (known_at table to) 0
  pub bounded : (s k : ℕ) → known_at table s ≡ Some k → k + dearest * unknowns_of table ≤ dearest * length table
  pub in_range : (s k : ℕ) → Waits queue s k → s < length table
  pub settled : (s k : ℕ) → known_at table s ≡ Some k → Waits queue s k ⊎ (IsFollowed corridor net table s k ⊎ excepted s k)

-- what is left to do: twice what can be lowered, and what waits
abbrev pub left_of : List (Option ℕ) → List (Reverse (ℕ × ℕ)) → ℕ
left_of table queue = 2 * height_of (dearest * length table + 1) table + length queue

-- one point with one cost is excepted
abbrev pub is_point_at : ℕ → ℕ → ℕ → ℕ → Type 0
is_point_at at cost s k = (s ≡ at) × (k ≡ cost)

-- nothing is excepted
abbrev pub nothing : ℕ → ℕ → Type 0
nothing s k = ⊥

-- the search is over: the cost of one point is known, and within it what is known are the least costs
pub record IsSearched (corridor : CorridorParts) (net : NetParts) (from to : ℕ) (table : List (Option ℕ)) : Type 0 where
  pub cost : ℕ
  pub known : known_at table from ≡ Some cost
  pub each : length table ≡ length net.points
  pub least : AreLeastCosts (StepAlong corridor net) to cost (known_at table)

-- the edges of a point with its known cost were followed: a search in whose state only this was left out goes on,
-- with no more left to do
abbrev pub IsSpread : CorridorParts → NetParts → ℕ → ℕ → List (Option ℕ) → List (Reverse (ℕ × ℕ)) → List (Option ℕ) → List (Reverse (ℕ × ℕ)) → Type 0
IsSpread corridor net at cost table queue new longer =
    (to : ℕ) → IsSearch corridor net to table queue (is_point_at at cost) → IsSearch corridor net to new longer nothing × (left_of new longer ≤ left_of table queue)
