-- Prices of the terms of a part, found by number.
use Rattle.std.specs.Prelude.{◌≡◌, ◌≢◌, ℕ, ◌<◌, nat_le, Bool, false, ◌&&◌, ◌||◌, not, List, length, map, slice_index_or, Option, Some, None}
use Rattle.std.specs.Prelude.{ℤ, unsigned_abs}
use Rattle.map_base.specs.declared.ids.LineId.{LineId}
use Rattle.order_model.specs.declared.term.Term.{Term}
use Rattle.order_model.specs.declared.term.Term.TheVariants.{Side, Link, Apart}
use Rattle.order_model.specs.Looks.{is_decided}
use Rattle.order_check.specs.declared.slot.PartTerm.{PartTerm}

-- the term is an open Link, and the price is at most its weight either way
abbrev pub may_have : List (List LineId) → Term → ℤ → Bool
may_have placed (Side seg first second w) y = false
may_have placed (Link seg other flip a b w) y = not (is_decided placed seg a b || is_decided placed other a b) && nat_le (unsigned_abs y) w
may_have placed (Apart seg other a b w) y = false

-- the numbers rise strictly
abbrev pub AreRisingNumbers : List ℕ → Type 0
AreRisingNumbers numbers = (i j : ℕ) → i < j → j < length numbers → slice_index_or numbers i 0 < slice_index_or numbers j 0

-- the numbers are those of these terms, and rise strictly
pub record AreNumbersOf (table : List PartTerm) (numbers : List ℕ) : Type 0 where
  pub listed : map (λ (t : PartTerm). t.number) table ≡ numbers
  pub rising : AreRisingNumbers numbers

-- the number stands there, or is none of them
abbrev pub IsPlaceOf : List ℕ → ℕ → Option ℕ → Type 0
IsPlaceOf numbers n (Some i) = (i < length numbers) × (slice_index_or numbers i 0 ≡ n)
IsPlaceOf numbers n None = (i : ℕ) → i < length numbers → slice_index_or numbers i 0 ≢ n
