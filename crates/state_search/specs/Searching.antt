-- A search for least costs to goals: what is known, what waits, and what is left to be followed.
use Rattle.std.specs.Prelude.{◌≡◌, ℕ, ◌+◌, ◌*◌, ◌<◌, ◌≤◌, ◌⊎◌, List, [], ◌∷◌, ◌++◌, map, Option, Some, None, length, min, Contains, IsPermutation, slice_index_or, slice_set, sum_by}
use Rattle.std.specs.declared.cmp.Ordering.{Ordering}
use Rattle.std.specs.declared.cmp.Reverse.{Reverse}
use Rattle.std.specs.Ordering.{nat_cmp, ordering_then}
use Rattle.least_path.specs.Orders.{AtMost}
use Rattle.state_search.specs.Goals.{Space, PathTo, AreLeastCostsTo}

-- the known cost of a state
abbrev pub known_at : List (Option ℕ) → ℕ → Option ℕ
known_at table s = slice_index_or table s None

-- the cost of a state is known
abbrev pub with_known : List (Option ℕ) → ℕ → ℕ → List (Option ℕ)
with_known table at cost = slice_set table at (Some cost)

-- an estimate of a whole path, and a state on it, as they wait
abbrev pub entry : ℕ → ℕ → Reverse (ℕ × ℕ)
entry k s = record { 0 = (k, s) }

-- a state waits with an estimate
abbrev pub Waits : List (Reverse (ℕ × ℕ)) → ℕ → ℕ → Type 0
Waits queue s k = Contains queue (entry k s)

-- the order of entries: the least estimate first, then the least state
abbrev pub queue_cmp : Reverse (ℕ × ℕ) → Reverse (ℕ × ℕ) → Ordering
queue_cmp x y = ordering_then (nat_cmp y.0.0 x.0.0) (nat_cmp y.0.1 x.0.1)

-- all that waits: states at a level, and entries apart from them
abbrev pub all_waiting : ℕ → List ℕ → List (Reverse (ℕ × ℕ)) → List (Reverse (ℕ × ℕ))
all_waiting level here apart = map (entry level) here ++ apart

-- a state waits with an estimate below a level
abbrev pub HasBelow : ℕ → List (Reverse (ℕ × ℕ)) → Type 0
HasBelow level queue = (s : ℕ) × (k : ℕ) × Waits queue s k × (k < level)

-- there is a limit, and an estimate is above it
abbrev pub IsBeyond : Option ℕ → ℕ → Type 0
IsBeyond None k = ⊥
IsBeyond (Some d) k = d < k

-- a cost of a state was looked at: nothing changes where as low a one is known; else it is known, and the state waits
-- with the estimate that the cost and a bound make
abbrev pub IsLowered : ℕ → List (Option ℕ) → List (Option ℕ) → List (Reverse (ℕ × ℕ)) → List (Reverse (ℕ × ℕ)) → ℕ → ℕ → Type 0
IsLowered ahead old new queue longer at cost =
    (AtMost (known_at old at) cost × (new ≡ old) × (longer ≡ queue))
    ⊎ ((AtMost (known_at old at) cost → ⊥) × (new ≡ slice_set old at (Some cost)) × IsPermutation (entry (cost + ahead) at ∷ queue) longer)

-- costs of states were looked at, one after another
abbrev pub AreLowered : (ℕ → ℕ) → List (Option ℕ) → List (Option ℕ) → List (Reverse (ℕ × ℕ)) → List (Reverse (ℕ × ℕ)) → List (ℕ × ℕ) → Type 0
AreLowered ahead old new queue longer [] = (new ≡ old) × (longer ≡ queue)
AreLowered ahead old new queue longer (offer ∷ offers) =
    (mid : List (Option ℕ)) × (more : List (Reverse (ℕ × ℕ))) × IsLowered (ahead offer.0) old mid queue more offer.0 offer.1 × AreLowered ahead mid new more longer offers

-- what is offered to states: to each that is a goal at most the cost of ending there
pub record OfferGoals (w : Space) (offers : List (ℕ × ℕ)) : Type 0 where
  pub true_cost : (offer : ℕ × ℕ) → Contains offers offer → w.goal offer.0 ≡ Some offer.1
  pub each : (a k : ℕ) → w.goal a ≡ Some k → Contains offers (a, k)

-- what is offered to states, by a state of a known cost: to each from which a step leads there, what it costs by that step
pub record OfferSteps (w : Space) (at cost : ℕ) (offers : List (ℕ × ℕ)) : Type 0 where
  pub true_cost : (offer : ℕ × ℕ) → Contains offers offer → (l : ℕ) × (c : ℕ) × w.step offer.0 l at c × (offer.1 ≡ cost + c)
  pub each : (a l c : ℕ) → w.step a l at c → Contains offers (a, cost + c)

-- how many states have no known cost
abbrev pub unknown_of : Option ℕ → ℕ
unknown_of None = 1
unknown_of (Some k) = 0

abbrev pub unknowns_of : List (Option ℕ) → ℕ
unknowns_of table = sum_by unknown_of table

-- what is left to be lowered: the sum of the known costs, and a number above every cost for each state without one
abbrev pub height_at : ℕ → Option ℕ → ℕ
height_at top None = top
height_at top (Some k) = k

abbrev pub height_of : ℕ → List (Option ℕ) → ℕ
height_of top table = sum_by (height_at top) table

-- each step that leads to a state of this cost is followed by a known cost of the state that it comes from
abbrev pub IsFollowed : Space → List (Option ℕ) → ℕ → ℕ → Type 0
IsFollowed w table s k = (a l c : ℕ) → w.step a l s c → AtMost (known_at table a) (c + k)

-- the state of a search for the least costs to goals
pub record IsSearch (w : Space) (table : List (Option ℕ)) (queue : List (Reverse (ℕ × ℕ))) (excepted : ℕ → ℕ → Type 0) : Type 0 where
  pub each : length table ≡ w.count
  pub attained : (s k : ℕ) → known_at table s ≡ Some k → (labels : List ℕ) × PathTo w s labels k
  pub bounded : (s k : ℕ) → known_at table s ≡ Some k → k + w.dearest * unknowns_of table ≤ w.dearest * length table
  pub in_range : (s k : ℕ) → Waits queue s k → s < length table
  pub settled : (s k : ℕ) → known_at table s ≡ Some k → Waits queue s (k + w.ahead s) ⊎ (IsFollowed w table s k ⊎ excepted s k)

-- each goal has a known cost, no more than it costs to end there
abbrev pub HasGoals : Space → List (Option ℕ) → Type 0
HasGoals w table = (a k : ℕ) → w.goal a ≡ Some k → AtMost (known_at table a) k

-- what is left to do: twice what can be lowered, and what waits
abbrev pub left_of : ℕ → List (Option ℕ) → List (Reverse (ℕ × ℕ)) → ℕ
left_of dearest table queue = 2 * height_of (dearest * length table + 1) table + length queue

-- one state with one cost is excepted
abbrev pub is_state_at : ℕ → ℕ → ℕ → ℕ → Type 0
is_state_at at cost s k = (s ≡ at) × (k ≡ cost)

-- nothing is excepted
abbrev pub nothing : ℕ → ℕ → Type 0
nothing s k = ⊥

-- the cost of one state is known, and within it what is known are the least costs; or no path leads from it to a goal
abbrev pub IsFound : Space → ℕ → List (Option ℕ) → Option ℕ → Type 0
IsFound w from table None = (labels : List ℕ) (k : ℕ) → PathTo w from labels k → ⊥
IsFound w from table (Some cost) = AreLeastCostsTo w cost (known_at table)

-- the search from a state is over
abbrev pub IsSearched : Space → ℕ → List (Option ℕ) → Type 0
IsSearched w from table = (length table ≡ w.count) × IsFound w from table (known_at table from)

-- ---- searches up to a limit

-- the lesser of two limits, as far as there are any
abbrev pub lesser_limit : Option ℕ → Option ℕ → Option ℕ
lesser_limit None b = b
lesser_limit (Some a) None = Some a
lesser_limit (Some a) (Some b) = Some (min a b)

-- a cost is known, and within a limit, if there is one
abbrev pub IsKnownWithin : Option ℕ → Option ℕ → Type 0
IsKnownWithin None limit = ⊥
IsKnownWithin (Some d) None = Unit {0}
IsKnownWithin (Some d) (Some limit) = d ≤ limit

-- the search from a state is over up to a limit: it is over where the cost of the state is known within the limit; else
-- no path from it is
pub record IsSearchedUpTo (limit : Option ℕ) (w : Space) (from : ℕ) (table : List (Option ℕ)) : Type 0 where
  pub within : IsKnownWithin (known_at table from) limit → IsSearched w from table
  pub beyond : (IsKnownWithin (known_at table from) limit → ⊥) → (labels : List ℕ) (k : ℕ) → PathTo w from labels k → IsBeyond limit k
