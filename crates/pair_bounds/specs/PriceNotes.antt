-- Prices noted by the number of their Link.
use Rattle.std.specs.Prelude.{ℕ, ◌==◌, ℤ, pos, List, [], ◌∷◌, ◌++◌, if◌then◌else◌, slice_index_or}
use Rattle.order_bound.specs.declared.pairs.OpenLink.{OpenLink}
use Rattle.order_bound.specs.declared.pairs.ChildLink.{ChildLink}
use Rattle.order_bound.specs.CanonicalPrices.{price_for, listed}
use Rattle.pair_bounds.specs.declared.slots.Slot.{Slot}
use Rattle.pair_bounds.specs.Slots.{rise_in, with_children}

-- the price that is noted for a number, 0 where there is none
abbrev pub price_noted : List ℤ → ℕ → ℤ
price_noted prices k = slice_index_or prices k (pos 0)

-- the price of the first of these Links that has this number; another price where none has it
abbrev pub price_over : List (OpenLink × ℤ) → ℤ → ℕ → ℤ
price_over [] y k = y
price_over (q ∷ priced) y k = if q.0.number == k then q.1 else price_over priced y k

-- the Links to children with their prices, set from the last child to the first, by the slots before
abbrev pub priced_in : List ChildLink → List Slot → List (OpenLink × ℤ)
priced_in [] slots = []
priced_in (c ∷ later) slots = (c.link, price_for c (rise_in (with_children later slots) c.child)) ∷ priced_in later slots

-- the prices of these numbers but for those that are 0
abbrev pub listed_all : (ℕ → ℤ) → List ℕ → List (ℕ × ℤ)
listed_all price [] = []
listed_all price (n ∷ numbers) = listed n (price n) ++ listed_all price numbers
