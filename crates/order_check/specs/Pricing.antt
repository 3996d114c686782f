-- What the terms of a part come to under prices.
use Rattle.std.specs.Prelude.{◌≡◌, ℕ, ◌<◌, ◌≤◌, ◌==◌, Bool, true, List, length, map, take, find, slice_index_or, Option, Some, None}
use Rattle.std.specs.Prelude.{ℤ, pos, ◌+ℤ◌, unsigned_abs}
use Rattle.map_base.specs.declared.ids.LineId.{LineId}
use Rattle.order_bound.specs.Values.{are_allowed}
use Rattle.order_values.specs.PriceLists.{price_at}
use Rattle.order_check.specs.declared.slot.PartTerm.{PartTerm}
use Rattle.order_check.specs.declared.slot.Charges.{Charges}
use Rattle.order_check.specs.Slots.{plain_term, charge_on}
use Rattle.order_check.specs.Charges.{price_charges}
use Rattle.whole_sums.specs.Sums.{int_sum}
use Rattle.order_check.specs.Charging.{no_part_term, charged}
use Rattle.order_check.specs.Counting.{added_by}

-- what an open Link adds to a slot under its price
abbrev pub priced_by : ℕ → Bool → PartTerm → ℤ → ℤ
priced_by k x t price = let c : Charges = price_charges t.term t.here t.there price in charge_on c.here k x +ℤ charge_on c.there k x

-- these prices are allowed, and the table tells the price of each term
pub record AreSpread (placed : List (List LineId)) (table : List PartTerm) (qs : List (ℕ × ℤ)) (prices : List ℤ) : Type 0 where
  pub each : length prices ≡ length table
  pub allowed : are_allowed placed (map plain_term table) qs ≡ true
  pub told : (i : ℕ) → i < length table → slice_index_or prices i (pos 0) ≡ price_at qs (slice_index_or table i no_part_term).number
  pub small : (i : ℕ) → i < length table → unsigned_abs (slice_index_or prices i (pos 0)) ≤ 256000

-- the term of a number, if it is one of these
abbrev pub term_of : List PartTerm → ℕ → Option PartTerm
term_of table n = find (λ (t : PartTerm). t.number == n) table

abbrev pub priced_if : ℕ → Bool → Option PartTerm → ℤ → ℤ
priced_if k x None price = pos 0
priced_if k x (Some t) price = priced_by k x t price

-- what a price adds to a slot, at the term of its number
abbrev pub price_on : List PartTerm → ℕ → Bool → (ℕ × ℤ) → ℤ
price_on table k x q = priced_if k x (term_of table q.0) q.1

-- these prices are allowed, each at the term of its number, and what they add is what the terms add under them beside what
-- they add with none
pub record ArePriced (segs placed : List (List LineId)) (table : List PartTerm) (qs : List (ℕ × ℤ)) : Type 0 where
  pub prices : List ℤ
  pub spread : AreSpread placed table qs prices
  pub slots : (k : ℕ) (x : Bool)
      → charged segs placed table prices (length table) k x ≡ int_sum (added_by segs placed k x) table +ℤ int_sum (price_on table k x) qs

-- the first of these prices are small, and so is what they add
pub record AreSmallPrices (table : List PartTerm) (qs : List (ℕ × ℤ)) (j : ℕ) : Type 0 where
  pub each : (i : ℕ) → i < j → unsigned_abs (slice_index_or qs i (0, pos 0)).1 ≤ 256000
  pub sums : (i : ℕ) → i ≤ j → (k : ℕ) (x : Bool) → unsigned_abs (int_sum (price_on table k x) (take i qs)) ≤ 2048000000000
