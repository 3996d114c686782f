-- Sets of lines as numbers.
use Rattle.std.proofs.Common.{◌≡◌, ◌≢◌, ℕ, zero, suc, ◌+◌, ◌^◌, ◌<◌, ◌≤◌, ◌==◌, Bool, true, false, not, cond, ◌||◌, List, [], ◌∷◌, length, map, refl, sym, ◌∙◌, ap, subst, arith, ◌⊎◌, inl, inr, true≢false, eq-eqb, eqb-true, min, max}
use Rattle.std.specs.Prelude.{bit_and, bit_or, slice_index}
use Rattle.std.specs.Int.{bit_at}
use Rattle.std.specs.List.{AllByRecursion, list_any}
use Rattle.std.proofs.lemmas.Bool.{cases_eq, eqb-false, ne_eqb, not-true}
use Rattle.std.proofs.lemmas.Nat.{and_le_l}
use Rattle.std.proofs.lemmas.Nat.Bits.{bit_at_or, bit_at_and, bit_at-pow_same, bit_at-pow_other, bit_at-lt, same_from_bits_below}
use Rattle.map_base.specs.declared.ids.LineId.{LineId}
use Rattle.least_orders.specs.Arrangements.{picks}
use Rattle.least_orders.specs.Rows.{Rows, AreRows, line_at, is_ahead}
use Rattle.least_orders.specs.Subsets.{has_place, with_place, left_from, left, is_ready}
use Rattle.least_orders.proofs.Lists.{same_test}
use Rattle.least_orders.proofs.Arranging.{Pick}

pub with_same : (set k : ℕ) → has_place (with_place set k) k ≡ true
with_same set k = eq-eqb (bit_at (with_place set k) k) 1 (omega (arith, bit_at_or set (2 ^ k) k, bit_at-pow_same k, bit_at-lt set k))

pub with_other : (set k i : ℕ) → i ≢ k → has_place (with_place set k) i ≡ has_place set i
with_other set k i apart = ap (λ n. n == 1) (omega (arith, bit_at_or set (2 ^ k) i, bit_at-pow_other k i apart))

-- the lines that are left are told by the bits of their places
left_same : (set other k n : ℕ) → ((i : ℕ) → k ≤ i → has_place set i ≡ has_place other i) → left_from set k n ≡ left_from other k n
left_same set other k zero h = refl
left_same set other k (suc n) h =
    ap (λ b. cond b (left_from set (k + 1) n) (line_at k ∷ left_from set (k + 1) n)) (h k (omega arith))
    ∙ ap (λ l. cond (has_place other k) l (line_at k ∷ l)) (left_same set other (k + 1) n (λ i above. h i (omega (arith, above))))

-- the set has no line more behind place k where that one is added
behind_same : (set k n : ℕ) → left_from (with_place set k) (k + 1) n ≡ left_from set (k + 1) n
behind_same set k n = left_same (with_place set k) set (k + 1) n (λ i above. with_other set k i (omega (arith, above)))

-- so many lines from place k on that the set has not, each with the others of all of them
abbrev pub free_picks : ℕ → ℕ → ℕ → ℕ → ℕ → List Pick
free_picks set start count k zero = []
free_picks set start count k (suc n) =
    cond (has_place set k) (free_picks set start count (k + 1) n) ((line_at k, left_from (with_place set k) start count) ∷ free_picks set start count (k + 1) n)

-- with one place more before all of them
wider_free : (set start count k n : ℕ) → start < k → has_place set start ≡ false
    → map (λ (p : Pick). (p.0, line_at start ∷ p.1)) (free_picks set (start + 1) count k n) ≡ free_picks set start (suc count) k n
wider_free set start count k zero below free = refl
wider_free set start count k (suc n) below free = by_test (has_place set k) (wider_free set start count (k + 1) n (omega (arith, below)) free)
  where
    longer : left_from (with_place set k) start (suc count) ≡ line_at start ∷ left_from (with_place set k) (start + 1) count
    longer = ap (λ b. cond b (left_from (with_place set k) (start + 1) count) (line_at start ∷ left_from (with_place set k) (start + 1) count)) (with_other set k start (omega (arith, below)) ∙ free)

    by_test : (b : Bool) → map (λ (p : Pick). (p.0, line_at start ∷ p.1)) (free_picks set (start + 1) count (k + 1) n) ≡ free_picks set start (suc count) (k + 1) n
        → map (λ (p : Pick). (p.0, line_at start ∷ p.1)) (cond b (free_picks set (start + 1) count (k + 1) n) ((line_at k, left_from (with_place set k) (start + 1) count) ∷ free_picks set (start + 1) count (k + 1) n))
        ≡ cond b (free_picks set start (suc count) (k + 1) n) ((line_at k, left_from (with_place set k) start (suc count)) ∷ free_picks set start (suc count) (k + 1) n)
    by_test true rest = rest
    by_test false rest = ap (λ l. (line_at k, line_at start ∷ left_from (with_place set k) (start + 1) count) ∷ l) rest ∙ ap (λ l. (line_at k, l) ∷ free_picks set start (suc count) (k + 1) n) (sym longer)

wider_taken : (set start count k n : ℕ) → start < k → has_place set start ≡ true → free_picks set (start + 1) count k n ≡ free_picks set start (suc count) k n
wider_taken set start count k zero below taken = refl
wider_taken set start count k (suc n) below taken = by_test (has_place set k) (wider_taken set start count (k + 1) n (omega (arith, below)) taken)
  where
    longer : left_from (with_place set k) start (suc count) ≡ left_from (with_place set k) (start + 1) count
    longer = ap (λ b. cond b (left_from (with_place set k) (start + 1) count) (line_at start ∷ left_from (with_place set k) (start + 1) count)) (with_other set k start (omega (arith, below)) ∙ taken)

    by_test : (b : Bool) → free_picks set (start + 1) count (k + 1) n ≡ free_picks set start (suc count) (k + 1) n
        → cond b (free_picks set (start + 1) count (k + 1) n) ((line_at k, left_from (with_place set k) (start + 1) count) ∷ free_picks set (start + 1) count (k + 1) n)
        ≡ cond b (free_picks set start (suc count) (k + 1) n) ((line_at k, left_from (with_place set k) start (suc count)) ∷ free_picks set start (suc count) (k + 1) n)
    by_test true rest = rest
    by_test false rest = ap (λ l. (line_at k, left_from (with_place set k) (start + 1) count) ∷ l) rest ∙ ap (λ l. (line_at k, l) ∷ free_picks set start (suc count) (k + 1) n) (sym longer)

-- the picks of the lines that are left
pub picks_of_left : (set k n : ℕ) → picks (left_from set k n) ≡ free_picks set k n k n
picks_of_left set k zero = refl
picks_of_left set k (suc n) = by_test (has_place set k) refl (picks_of_left set (k + 1) n)
  where
    behind : (b : Bool) → has_place set k ≡ b → left_from (with_place set k) k (suc n) ≡ left_from set (k + 1) n
    behind b e = ap (λ c. cond c (left_from (with_place set k) (k + 1) n) (line_at k ∷ left_from (with_place set k) (k + 1) n)) (with_same set k) ∙ behind_same set k n

    by_test : (b : Bool) → has_place set k ≡ b → picks (left_from set (k + 1) n) ≡ free_picks set (k + 1) n (k + 1) n
        → picks (cond b (left_from set (k + 1) n) (line_at k ∷ left_from set (k + 1) n))
        ≡ cond b (free_picks set k (suc n) (k + 1) n) ((line_at k, left_from (with_place set k) k (suc n)) ∷ free_picks set k (suc n) (k + 1) n)
    by_test true e rest = rest ∙ wider_taken set k n (k + 1) n (omega arith) e
    by_test false e rest =
        ap (λ l. (line_at k, left_from set (k + 1) n) ∷ map (λ (p : Pick). (p.0, line_at k ∷ p.1)) l) rest
        ∙ (ap (λ l. (line_at k, left_from set (k + 1) n) ∷ l) (wider_free set k n (k + 1) n (omega arith) e)
        ∙ ap (λ l. (line_at k, l) ∷ free_picks set k (suc n) (k + 1) n) (sym (behind false e)))

-- What any of the lines that are left is.

none_left_passes : (p : LineId → Bool) (set k n : ℕ) → list_any p (left_from set k n) ≡ false → (i : ℕ) → k ≤ i → i < k + n → has_place set i ≡ false → p (line_at i) ≡ false
none_left_passes p set k zero h i above below free = absurd (omega (arith, above, below))
none_left_passes p set k (suc n) h i above below free = by_test (has_place set k) refl h (λ g over. none_left_passes p set (k + 1) n g i over (omega (arith, below)) free)
  where
    first : (a b : Bool) → (a || b) ≡ false → (a ≡ false) × (b ≡ false)
    first true b e = absurd (true≢false e)
    first false b e = (refl, e)

    by_test : (b : Bool) → has_place set k ≡ b → list_any p (cond b (left_from set (k + 1) n) (line_at k ∷ left_from set (k + 1) n)) ≡ false
        → (list_any p (left_from set (k + 1) n) ≡ false → k + 1 ≤ i → p (line_at i) ≡ false) → p (line_at i) ≡ false
    by_test true e g rest = elim (cases_eq i k) [
      | inl here ↦ absurd (true≢false (sym e ∙ (ap (λ j. has_place set j) (sym here) ∙ free)))
      | inr apart ↦ rest g (omega (arith, above, apart))
    ]
    by_test false e g rest =
        let parts = first (p (line_at k)) (list_any p (left_from set (k + 1) n)) g in
        elim (cases_eq i k) [
          | inl here ↦ ap (λ j. p (line_at j)) here ∙ parts.0
          | inr apart ↦ rest parts.1 (omega (arith, above, apart))
        ]

no_left_passes : (p : LineId → Bool) (set k n : ℕ) → ((i : ℕ) → k ≤ i → i < k + n → has_place set i ≡ false → p (line_at i) ≡ false) → list_any p (left_from set k n) ≡ false
no_left_passes p set k zero h = refl
no_left_passes p set k (suc n) h = by_test (has_place set k) refl (no_left_passes p set (k + 1) n (λ i above below free. h i (omega (arith, above)) (omega (arith, below)) free))
  where
    by_test : (b : Bool) → has_place set k ≡ b → list_any p (left_from set (k + 1) n) ≡ false → list_any p (cond b (left_from set (k + 1) n) (line_at k ∷ left_from set (k + 1) n)) ≡ false
    by_test true e rest = rest
    by_test false e rest = ap (λ c. c || list_any p (left_from set (k + 1) n)) (h k (omega arith) (omega arith) e) ∙ rest

-- a bit that is not raised is 0
pub not_raised : (n i : ℕ) → (bit_at n i == 1) ≡ false → bit_at n i ≡ 0
not_raised n i h = let apart = eqb-false (bit_at n i) 1 h in let low = bit_at-lt n i in omega (arith, apart, low)

-- a line is ready where none that is left otherwise has to stand before it
pub ready_exactly : (r : Rows) (set k : ℕ) → AreRows r → is_ready r set k ≡ not (list_any (λ (b : LineId). is_ahead r b (line_at k)) (left r (with_place set k)))
ready_exactly r set k fits = same_test (is_ready r set k) (not (list_any (λ (b : LineId). is_ahead r b (line_at k)) (left r (with_place set k)))) forward backward
  where
    bits : (i : ℕ) → bit_at (bit_and (slice_index r.ahead k) set) i ≡ min (bit_at (slice_index r.ahead k) i) (bit_at set i)
    bits i = bit_at_and (slice_index r.ahead k) set i

    free_before : (i : ℕ) → has_place (with_place set k) i ≡ false → (i ≢ k) × (bit_at set i ≡ 0)
    free_before i free = elim (cases_eq i k) [
      | inl here ↦ absurd (true≢false (sym (with_same set k) ∙ (ap (λ j. has_place (with_place set k) j) (sym here) ∙ free)))
      | inr apart ↦ (apart, not_raised set i (sym (with_other set k i apart) ∙ free))
    ]

    forward : is_ready r set k ≡ true → not (list_any (λ (b : LineId). is_ahead r b (line_at k)) (left r (with_place set k))) ≡ true
    forward ready =
        let same : bit_and (slice_index r.ahead k) set ≡ slice_index r.ahead k = eqb-true (bit_and (slice_index r.ahead k) set) (slice_index r.ahead k) ready in
        ap not (no_left_passes (λ (b : LineId). is_ahead r b (line_at k)) (with_place set k) 0 r.count
        (λ i above below free.
        let off = (free_before i free).1 in
        let both = bits i in
        let one : bit_at (slice_index r.ahead k) i ≡ bit_at (bit_and (slice_index r.ahead k) set) i = ap (λ n. bit_at n i) (sym same) in
        ne_eqb (bit_at (slice_index r.ahead k) i) 1 (λ e. absurd (omega (arith, off, both, one, e)))))

    backward : not (list_any (λ (b : LineId). is_ahead r b (line_at k)) (left r (with_place set k))) ≡ true → is_ready r set k ≡ true
    backward h =
        let none : list_any (λ (b : LineId). is_ahead r b (line_at k)) (left r (with_place set k)) ≡ false = not-true (list_any (λ (b : LineId). is_ahead r b (line_at k)) (left r (with_place set k))) h in
        let small : slice_index r.ahead k < 2 ^ r.count = fits.ahead_known k in
        let less = and_le_l (slice_index r.ahead k) set in
        eq-eqb (bit_and (slice_index r.ahead k) set) (slice_index r.ahead k)
        (same_from_bits_below r.count (bit_and (slice_index r.ahead k) set) (slice_index r.ahead k) (omega (arith, small, less)) small
        (λ i below. by_place i below none (has_place (with_place set k) i) refl))
      where
        by_place : (i : ℕ) → i < r.count → list_any (λ (b : LineId). is_ahead r b (line_at k)) (left r (with_place set k)) ≡ false
            → (b : Bool) → has_place (with_place set k) i ≡ b → bit_at (bit_and (slice_index r.ahead k) set) i ≡ bit_at (slice_index r.ahead k) i
        by_place i below none false e =
            let off = not_raised (slice_index r.ahead k) i (none_left_passes (λ (b : LineId). is_ahead r b (line_at k)) (with_place set k) 0 r.count none i (omega arith) (omega (arith, below)) e) in
            let both = bits i in
            omega (arith, off, both)
        by_place i below none true e = elim (cases_eq i k) [
          | inl here ↦ by_own (ap (λ j. bit_at (slice_index r.ahead k) j) here ∙ fits.apart k)
          | inr apart ↦ by_set (eqb-true (bit_at set i) 1 (sym (with_other set k i apart) ∙ e))
        ]
          where
            by_own : bit_at (slice_index r.ahead k) i ≡ 0 → bit_at (bit_and (slice_index r.ahead k) set) i ≡ bit_at (slice_index r.ahead k) i
            by_own off = let both = bits i in omega (arith, off, both)

            by_set : bit_at set i ≡ 1 → bit_at (bit_and (slice_index r.ahead k) set) i ≡ bit_at (slice_index r.ahead k) i
            by_set on = let both = bits i in let low = bit_at-lt (slice_index r.ahead k) i in omega (arith, on, both, low)
