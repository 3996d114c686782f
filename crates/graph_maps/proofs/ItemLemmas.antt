-- The items of a check, by loops.
use Rattle.std.proofs.Common.{◌≡◌, ◌≢◌, ap, sym, subst, refl, ℕ, zero, suc, ◌+◌, ◌<◌, ◌≤◌, ◌==◌, nat_lt, ◌&&◌, ◌||◌, ◌⊎◌, inl, inr, Bool, true, false, true≢false, min, List, [], ◌∷◌, length, drop, get_or, Some, arith, eqb-true, eq-eqb, ltb-true, ltb-false}
use Rattle.std.proofs.lemmas.List.{get_or_default}
use Rattle.map_base.specs.declared.ids.LineId.{LineId}
use Rattle.graph_core.specs.Consistent.{AreRising}
use Rattle.order_model.specs.Places.{has_line}
use Rattle.graph_maps.specs.Checking.{are_same_pairs, first_difference}

-- lists of different lengths are not the same
pub other_lengths : (some others : List (LineId × ℕ)) → (length some ≡ length others → ⊥) → are_same_pairs some others ≡ false
other_lengths [] [] h = absurd (h refl)
other_lengths (p ∷ some) (q ∷ others) h = by_rest (p.0.0 == q.0.0 && p.1 == q.1) (other_lengths some others (λ e. h (ap suc e)))
  where
    by_rest : (b : Bool) → are_same_pairs some others ≡ false → (b && are_same_pairs some others) ≡ false
    by_rest true e = e
    by_rest false e = refl
other_lengths some others h = refl

-- a line that stands somewhere is there
pub has_at : (lines : List LineId) (k : ℕ) (a : LineId) → k < length lines → (get_or lines k a).0 ≡ a.0 → has_line lines a ≡ true
has_at [] k a below is = absurd (omega (arith, below))
has_at (b ∷ lines) zero a below is = by_test (b.0 == a.0) (eq-eqb b.0 a.0 is)
  where
    by_test : (t : Bool) → t ≡ true → (t || has_line lines a) ≡ true
    by_test true e = refl
    by_test false e = absurd (true≢false (sym e))
has_at (b ∷ lines) (suc k) a below is = by_test (b.0 == a.0) (has_at lines k a (omega (arith, below)) is)
  where
    by_test : (t : Bool) → has_line lines a ≡ true → (t || has_line lines a) ≡ true
    by_test true e = refl
    by_test false e = e

-- a line that stands nowhere is not there
pub has_none : (lines : List LineId) (a : LineId) → ((k : ℕ) → k < length lines → (get_or lines k a).0 ≢ a.0) → has_line lines a ≡ false
has_none [] a other = refl
has_none (b ∷ lines) a other = by_test (b.0 == a.0) refl (has_none lines a (λ k below. other (suc k) (omega (arith, below))))
  where
    by_test : (t : Bool) → (b.0 == a.0) ≡ t → has_line lines a ≡ false → (t || has_line lines a) ≡ false
    by_test true e rest = absurd (other 0 (omega arith) (eqb-true b.0 a.0 e))
    by_test false e rest = rest

first_below : (a : LineId) (lines : List LineId) (d : LineId) → AreRising (a ∷ lines) → (k : ℕ) → k < length lines → a.0 < (get_or lines k d).0
first_below a [] d h k below = absurd (omega (arith, below))
first_below a (b ∷ lines) d h zero below = h.0
first_below a (b ∷ lines) d h (suc k) below = omega (arith, h.0, first_below b lines d h.1 k (omega (arith, below)))

rising_tail : (a : LineId) (lines : List LineId) → AreRising (a ∷ lines) → AreRising lines
rising_tail a [] h = tt
rising_tail a (b ∷ lines) h = h.1

-- rising lines rise from place to place
pub rising_at : (lines : List LineId) (d : LineId) (i j : ℕ) → AreRising lines → i < j → j < length lines → (get_or lines i d).0 < (get_or lines j d).0
rising_at [] d i j h less below = absurd (omega (arith, below))
rising_at (a ∷ lines) d zero zero h less below = absurd (omega (arith, less))
rising_at (a ∷ lines) d zero (suc j) h less below = first_below a lines d h j (omega (arith, below))
rising_at (a ∷ lines) d (suc i) zero h less below = absurd (omega (arith, less))
rising_at (a ∷ lines) d (suc i) (suc j) h less below = rising_at lines d i j (rising_tail a lines h) (omega (arith, less)) (omega (arith, below))

-- a place that is below neither end of a range lies within it
pub line_nowhere : (lines : List LineId) (a : LineId) (low high : ℕ) → high ≤ low → ((k : ℕ) → k < low → (get_or lines k a).0 < a.0)
    → ((k : ℕ) → high ≤ k → k < length lines → a.0 < (get_or lines k a).0) → has_line lines a ≡ false
line_nowhere lines a low high met below above = has_none lines a (λ k within is. by_test k within is (nat_lt k low) refl)
  where
    by_test : (k : ℕ) → k < length lines → (get_or lines k a).0 ≡ a.0 → (t : Bool) → nat_lt k low ≡ t → ⊥
    by_test k within is true e = let less : (get_or lines k a).0 < a.0 = below k (ltb-true k low e) in omega (arith, less, is)
    by_test k within is false e = let less : a.0 < (get_or lines k a).0 = above k (let up : low ≤ k = ltb-false k low e in omega (arith, up, met)) within in omega (arith, less, is)

number_at : (lines : List LineId) (k : ℕ) (d e : LineId) → k < length lines → (get_or lines k d).0 ≡ (get_or lines k e).0
number_at lines k d e below = ap (λ (x : LineId). x.0) (get_or_default lines k d e below)

-- of rising lines all up to one below a line are below it, and all from one above it on are above it
pub up_to : (lines : List LineId) (a d : LineId) (m : ℕ) → AreRising lines → m < length lines → (get_or lines m d).0 < a.0 → (k : ℕ) → k < m + 1 → (get_or lines k a).0 < a.0
up_to lines a d m rising within less k below = by_test (nat_lt k m) refl
  where
    here : (get_or lines m a).0 < a.0
    here = omega (arith, number_at lines m d a within, less)

    by_test : (t : Bool) → nat_lt k m ≡ t → (get_or lines k a).0 < a.0
    by_test true e = omega (arith, rising_at lines a k m rising (ltb-true k m e) within, here)
    by_test false e = let same : k ≡ m = (let up : m ≤ k = ltb-false k m e in omega (arith, up, below)) in subst (λ (n : ℕ). (get_or lines n a).0 < a.0) (sym same) here

pub from_on : (lines : List LineId) (a d : LineId) (m : ℕ) → AreRising lines → m < length lines → (get_or lines m d).0 ≢ a.0 → a.0 ≤ (get_or lines m d).0
    → (k : ℕ) → m ≤ k → k < length lines → a.0 < (get_or lines k a).0
from_on lines a d m rising in_lines differ no_less k up within = by_test (nat_lt m k) refl
  where
    here : a.0 < (get_or lines m a).0
    here = omega (arith, number_at lines m d a in_lines, differ, no_less)

    by_test : (t : Bool) → nat_lt m k ≡ t → a.0 < (get_or lines k a).0
    by_test true e = omega (arith, rising_at lines a m k rising (ltb-true m k e) within, here)
    by_test false e = let same : k ≡ m = (let down : k ≤ m = ltb-false m k e in omega (arith, up, down)) in subst (λ (n : ℕ). a.0 < (get_or lines n a).0) (sym same) here

-- behind the shorter of two texts the other goes on
pub ends_apart : (picture svg : List ℕ) (i : ℕ) → (i ≡ length picture) ⊎ (i ≡ length svg) → (i ≤ length picture) × (i ≤ length svg) → (length picture ≢ length svg)
    → first_difference (drop i picture) (drop i svg) ≡ Some 0
ends_apart [] [] zero which within differ = absurd (differ refl)
ends_apart [] (y ∷ svg) zero which within differ = refl
ends_apart (x ∷ picture) [] zero which within differ = refl
ends_apart (x ∷ picture) (y ∷ svg) zero which within differ = elim which [ inl e ↦ absurd (omega (arith, e)) | inr e ↦ absurd (omega (arith, e)) ]
ends_apart [] svg (suc i) which within differ = absurd (omega (arith, within.0))
ends_apart (x ∷ picture) [] (suc i) which within differ = absurd (omega (arith, within.1))
ends_apart (x ∷ picture) (y ∷ svg) (suc i) which within differ =
    ends_apart picture svg i (elim which [ inl e ↦ inl (omega (arith, e)) | inr e ↦ inr (omega (arith, e)) ]) (omega (arith, within.0), omega (arith, within.1)) (λ e. differ (ap suc e))

pub min_is : (i a b : ℕ) → i ≡ min a b → (i ≡ a) ⊎ (i ≡ b)
min_is i a b is = by_test (nat_lt a b) refl
  where
    by_test : (t : Bool) → nat_lt a b ≡ t → (i ≡ a) ⊎ (i ≡ b)
    by_test true e = let less : a < b = ltb-true a b e in inl (omega (arith, is, less))
    by_test false e = let more : b ≤ a = ltb-false a b e in inr (omega (arith, is, more))
