-- What a search finds, and why it finds nothing.
use Rattle.std.specs.Prelude.{◌≡◌, ℕ, zero, suc, ◌+◌, ◌-◌, ◌*◌, ◌<◌, ◌≤◌, List, [], ◌∷◌, length, sum_by, slice_set}
use Rattle.map_base.specs.declared.ids.SegId.{SegId}
use Rattle.map_base.specs.declared.ids.LineId.{LineId}
use Rattle.map_base.specs.declared.limit.Limit.{Limit}
use Rattle.map_base.specs.declared.limit.LimitKind.TheVariants.{Places}
use Rattle.map_base.specs.Limits.{limit_of}
use Rattle.order_model.specs.Problems.{lines_on, choices}
use Rattle.order_model.specs.Costs.{AreOrders}
use Rattle.order_search.specs.declared.found.SearchFault.{SearchFault}
use Rattle.order_search.specs.declared.found.SearchFault.TheVariants as fault
use Rattle.order_search.specs.declared.found.Found.{Found}
use Rattle.order_search.specs.LiveTrees.{BoundedPart, Best}

-- the places of a part: lines minus 1, summed over its segments
abbrev pub places_of : List (List LineId) → List SegId → ℕ
places_of segs part = sum_by (λ s. choices (lines_on segs s)) part

-- how many a part may have
abbrev pub most_places : ℕ
most_places = 2048

-- what is reported above that
abbrev pub places_limit : Limit
places_limit = limit_of Places

-- the fault is the limit, exactly above it; or else that the tree has more branch nodes than the budget; or want of
-- memory
abbrev pub IsSearchFault : ℕ → ℕ → ℕ → SearchFault → Type 0
IsSearchFault places branches budget (fault.TooDeep l) = (most_places < places) × (l ≡ places_limit)
IsSearchFault places branches budget (fault.Spent n) = (places ≤ most_places) × (budget < branches) × (n ≡ budget + 1)
IsSearchFault places branches budget fault.NoMemory = Unit {0}

-- a search that is given so much is not spent
abbrev pub IsNotSpent : SearchFault → Type 0
IsNotSpent (fault.TooDeep l) = Unit {0}
IsNotSpent (fault.Spent n) = ⊥
IsNotSpent fault.NoMemory = Unit {0}

-- the orders that were found, with what they cost
abbrev pub best_found : Found → Best
best_found f = record { cost = f.target; lists = f.orders.lists }

-- no orders of the segments cost less on the part
abbrev pub IsLeast : BoundedPart → ℕ → Type 0
IsLeast q cost = (orders : List (List LineId)) → AreOrders q.segs orders → cost ≤ q.cost orders

-- orders in which the segments of the part have these lists
abbrev pub with_lists : List SegId → List (List LineId) → List (List LineId) → List (List LineId)
with_lists [] lists orders = orders
with_lists (s ∷ part) [] orders = orders
with_lists (s ∷ part) (order ∷ lists) orders = slice_set (with_lists part lists orders) s.0 order

-- with these lists on the part, and rising lines on the other segments, there are orders that cost so much on the part
pub record AreAttained (q : BoundedPart) (lists : List (List LineId)) (cost : ℕ) : Type 0 where
  pub each : length lists ≡ length q.part
  pub orders : AreOrders q.segs (with_lists q.part lists q.segs)
  pub costs : q.cost (with_lists q.part lists q.segs) ≡ cost

-- how many orders so many lines have
abbrev pub orders_of : ℕ → ℕ
orders_of zero = 1
orders_of (suc n) = suc n * orders_of n

-- how many prefixes so many lines have: none of them is placed, or one of them is placed first; the last line is placed
-- with the one before it
abbrev pub prefixes_of : ℕ → ℕ
prefixes_of zero = 1
prefixes_of (suc zero) = 1
prefixes_of (suc (suc n)) = 1 + suc (suc n) * prefixes_of (suc n)

-- the product over the segments of a part
abbrev pub product : (SegId → ℕ) → List SegId → ℕ
product f [] = 1
product f (s ∷ part) = f s * product f part

-- how many prefixes of a part are not complete: those with some lines placed on each segment, but for those with all
abbrev pub incomplete_in : List (List LineId) → List SegId → ℕ
incomplete_in segs part =
    product (λ s. prefixes_of (length (lines_on segs s))) part - product (λ s. orders_of (length (lines_on segs s))) part
