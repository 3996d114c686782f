-- Listed prices rise by their terms, and none is 0.
use Rattle.std.proofs.Common.{◌≡◌, ℕ, ◌+◌, ◌≤◌, ◌==◌, Bool, true, false, cond, List, [], ◌∷◌, refl, sym, ◌∙◌, ap, arith, true≢false}
use Rattle.std.specs.Prelude.{◌≢◌, ℤ, pos, unsigned_abs}
use Rattle.std.specs.List.{AllByRecursion}
use Rattle.order_values.specs.PriceLists.{AreRisingPrices}
use Rattle.order_values.specs.DualTrees.{stop}
use Rattle.dual_ascent.specs.OwnNumbers.{listed_from, listed}
use Rattle.dual_ascent.specs.Shown.{IsListed}

-- the first of them, if there is one, is not below this number
abbrev BeginsAt : ℕ → List (ℕ × ℤ) → Type 0
BeginsAt k [] = Unit {0}
BeginsAt k (q ∷ prices) = k ≤ q.0

earlier : (k : ℕ) (prices : List (ℕ × ℤ)) → BeginsAt (k + 1) prices → BeginsAt k prices
earlier k [] h = tt
earlier k (q ∷ prices) h = omega (arith, h)

one_more : (k : ℕ) (y : ℤ) (prices : List (ℕ × ℤ)) → BeginsAt (k + 1) prices → AreRisingPrices prices → AreRisingPrices ((k, y) ∷ prices)
one_more k y [] h rise = tt
one_more k y (q ∷ prices) h rise = (omega (arith, h), rise)

-- such a list
record IsList (k : ℕ) (prices : List (ℕ × ℤ)) : Type 0 where
  begins : BeginsAt k prices
  rise : AreRisingPrices prices
  some : AllByRecursion (λ (q : ℕ × ℤ). q.1 ≢ pos 0) prices

are_list : (k : ℕ) (ys : List ℤ) → IsList k (listed_from k ys)
are_list k [] = record { begins = tt; rise = tt; some = tt }
are_list k (y ∷ ys) = by_test (unsigned_abs y == 0) refl (are_list (k + 1) ys)
  where
    not_none : (unsigned_abs y == 0) ≡ false → y ≢ pos 0
    not_none h e = true≢false (sym (ap (λ u. unsigned_abs u == 0) e) ∙ h)

    by_test : (t : Bool) → (unsigned_abs y == 0) ≡ t → IsList (k + 1) (listed_from (k + 1) ys) → IsList k (cond t (listed_from (k + 1) ys) ((k, y) ∷ listed_from (k + 1) ys))
    by_test true e rest = record { begins = earlier k (listed_from (k + 1) ys) rest.begins; rise = rest.rise; some = rest.some }
    by_test false e rest = record {
      begins = omega (arith);
      rise = one_more k y (listed_from (k + 1) ys) rest.begins rest.rise;
      some = (not_none e, rest.some);
    }

pub listed_stop : (prices : List ℤ) → IsListed (stop (listed prices))
listed_stop prices = let list = are_list 0 prices in (list.rise, list.some)
