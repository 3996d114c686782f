-- Numbers that rise, and their places.
use Rattle.std.proofs.Common.{◌≡◌, ℕ, zero, suc, ◌+◌, ◌<◌, ◌≤◌, ◌==◌, ◌||◌, nat_lt, Bool, true, false, cond, List, [], ◌∷◌, length, map, filter, get_or, refl, sym, ◌∙◌, ap, arith, true≢false, eqb-true, eq-eqb}
use Rattle.std.specs.List.{AllByRecursion, list_any}
use Rattle.std.proofs.lemmas.Bool.{lt-ltb, le-ltb, ltb-true, ltb-false}
use Rattle.map_base.specs.declared.ids.SegId.{SegId}
use Rattle.order_model.specs.declared.term.Term.{Term}
use Rattle.order_model.specs.Parts.{IsRisingPart}
use Rattle.order_model.specs.PartTerms.{numbered_from}
use Rattle.order_search.specs.ByItself.{place_among, seg_numbers}

-- numbers rise strictly, and none is below k
abbrev pub RisesFrom : ℕ → List ℕ → Type 0
RisesFrom k [] = Unit {0}
RisesFrom k (n ∷ ns) = (k ≤ n) × RisesFrom (n + 1) ns

pub rises_earlier : (j k : ℕ) (ns : List ℕ) → j ≤ k → RisesFrom k ns → RisesFrom j ns
rises_earlier j k [] less h = tt
rises_earlier j k (n ∷ ns) less h = (omega (arith, less, h.0), h.1)

pub not_below : (k : ℕ) (ns : List ℕ) (i : ℕ) → RisesFrom k ns → i < length ns → k ≤ get_or ns i 0
not_below k [] i h below = absurd (omega (arith, below))
not_below k (n ∷ ns) zero h below = h.0
not_below k (n ∷ ns) (suc i) h below = omega (arith, h.0, not_below (n + 1) ns i h.1 (omega (arith, below)))

-- the same number has the same place
pub same_place : (k : ℕ) (ns : List ℕ) (i j : ℕ) → RisesFrom k ns → i < length ns → j < length ns → get_or ns i 0 ≡ get_or ns j 0 → i ≡ j
same_place k [] i j h i_below j_below e = absurd (omega (arith, i_below))
same_place k (n ∷ ns) zero zero h i_below j_below e = refl
same_place k (n ∷ ns) zero (suc j) h i_below j_below e = absurd (omega (arith, e, not_below (n + 1) ns j h.1 (omega (arith, j_below))))
same_place k (n ∷ ns) (suc i) zero h i_below j_below e = absurd (omega (arith, e, not_below (n + 1) ns i h.1 (omega (arith, i_below))))
same_place k (n ∷ ns) (suc i) (suc j) h i_below j_below e = ap suc (same_place (n + 1) ns i j h.1 (omega (arith, i_below)) (omega (arith, j_below)) e)

-- Numbers by their places, and from a number above them on past their end: different places have different numbers.

abbrev pub number_past : List ℕ → ℕ → ℕ → ℕ
number_past ns most i = cond (nat_lt i (length ns)) (get_or ns i 0) (i + most)

pub number_within : (ns : List ℕ) (most i : ℕ) → i < length ns → number_past ns most i ≡ get_or ns i 0
number_within ns most i below = ap (λ b. cond b (get_or ns i 0) (i + most)) (lt-ltb i (length ns) below)

pub number_beyond : (ns : List ℕ) (most i : ℕ) → length ns ≤ i → number_past ns most i ≡ i + most
number_beyond ns most i above = ap (λ b. cond b (get_or ns i 0) (i + most)) (le-ltb i (length ns) above)

pub at_place : (P : ℕ → Type 0) (ns : List ℕ) (i : ℕ) → AllByRecursion P ns → i < length ns → P (get_or ns i 0)
at_place P [] i h below = absurd (omega (arith, below))
at_place P (n ∷ ns) zero h below = h.0
at_place P (n ∷ ns) (suc i) h below = at_place P ns i h.1 (omega (arith, below))

pub same_tests : (a b c d : ℕ) → (a ≡ b → c ≡ d) → (c ≡ d → a ≡ b) → (a == b) ≡ (c == d)
same_tests a b c d there back = by_tests (a == b) (c == d) refl refl
  where
    by_tests : (x y : Bool) → (a == b) ≡ x → (c == d) ≡ y → x ≡ y
    by_tests true true e f = refl
    by_tests true false e f = absurd (true≢false (sym (eq-eqb c d (there (eqb-true a b e))) ∙ f))
    by_tests false true e f = absurd (true≢false (sym (eq-eqb a b (back (eqb-true c d f))) ∙ e))
    by_tests false false e f = refl

pub numbers_apart : (ns : List ℕ) (most : ℕ) → RisesFrom 0 ns → AllByRecursion (λ n. n < most) ns → (i j : ℕ)
    → (number_past ns most i == number_past ns most j) ≡ (i == j)
numbers_apart ns most rises below i j = same_tests (number_past ns most i) (number_past ns most j) i j (by_tests (nat_lt i (length ns)) (nat_lt j (length ns)) refl refl) (ap (number_past ns most))
  where
    by_tests : (x y : Bool) → nat_lt i (length ns) ≡ x → nat_lt j (length ns) ≡ y → number_past ns most i ≡ number_past ns most j → i ≡ j
    by_tests true true e f same =
        same_place 0 ns i j rises (ltb-true i (length ns) e) (ltb-true j (length ns) f)
        (sym (number_within ns most i (ltb-true i (length ns) e)) ∙ same ∙ number_within ns most j (ltb-true j (length ns) f))
    by_tests true false e f same =
        absurd (omega (
          arith,
          same,
          number_within ns most i (ltb-true i (length ns) e),
          number_beyond ns most j (ltb-false j (length ns) f),
          at_place (λ n. n < most) ns i below (ltb-true i (length ns) e),
        ))
    by_tests false true e f same =
        absurd (omega (
          arith,
          same,
          number_within ns most j (ltb-true j (length ns) f),
          number_beyond ns most i (ltb-false i (length ns) e),
          at_place (λ n. n < most) ns j below (ltb-true j (length ns) f),
        ))
    by_tests false false e f same =
        omega (arith, same, number_beyond ns most i (ltb-false i (length ns) e), number_beyond ns most j (ltb-false j (length ns) f))

-- Places of numbers.

-- the number is one of these
abbrev pub is_number : List ℕ → ℕ → Bool
is_number ns n = list_any (λ m. m == n) ns

pub placed_within : (ns : List ℕ) (n : ℕ) → is_number ns n ≡ true → place_among ns n < length ns
placed_within [] n h = absurd (true≢false (sym h))
placed_within (m ∷ ns) n h = by_test (m == n) h (placed_within ns n)
  where
    by_test : (b : Bool) → (b || is_number ns n) ≡ true → (is_number ns n ≡ true → place_among ns n < length ns)
        → cond b 0 (1 + place_among ns n) < suc (length ns)
    by_test true h later = omega arith
    by_test false h later = omega (arith, later h)

pub placed_at : (ns : List ℕ) (n : ℕ) → is_number ns n ≡ true → get_or ns (place_among ns n) 0 ≡ n
placed_at [] n h = absurd (true≢false (sym h))
placed_at (m ∷ ns) n h = by_test (m == n) refl h (placed_at ns n)
  where
    by_test : (b : Bool) → (m == n) ≡ b → (b || is_number ns n) ≡ true → (is_number ns n ≡ true → get_or ns (place_among ns n) 0 ≡ n)
        → get_or (m ∷ ns) (cond b 0 (1 + place_among ns n)) 0 ≡ n
    by_test true e h later = eqb-true m n e
    by_test false e h later =
        let next : 1 + place_among ns n ≡ suc (place_among ns n) = omega arith in ap (λ i. get_or (m ∷ ns) i 0) next ∙ later h

pub is_at : (ns : List ℕ) (i : ℕ) → i < length ns → is_number ns (get_or ns i 0) ≡ true
is_at [] i below = absurd (omega (arith, below))
is_at (n ∷ ns) zero below = ap (λ b. b || is_number ns n) (eq-eqb n n refl)
is_at (n ∷ ns) (suc i) below = later (n == get_or ns i 0) (is_number ns (get_or ns i 0)) (is_at ns i (omega (arith, below)))
  where
    later : (a b : Bool) → b ≡ true → (a || b) ≡ true
    later true b h = refl
    later false b h = h

-- the place of the number at a place
pub place_back : (ns : List ℕ) (i : ℕ) → RisesFrom 0 ns → i < length ns → place_among ns (get_or ns i 0) ≡ i
place_back ns i rises below =
    let n : ℕ = get_or ns i 0 in
    same_place 0 ns (place_among ns n) i rises (placed_within ns n (is_at ns i below)) below (placed_at ns n (is_at ns i below))

-- The numbers of a part's segments, and those of its terms.

pub segs_rise : (part : List SegId) → IsRisingPart part → RisesFrom 0 (seg_numbers part)
segs_rise [] h = tt
segs_rise (s ∷ part) h = (omega arith, after s part h)
  where
    after : (s : SegId) (part : List SegId) → IsRisingPart (s ∷ part) → RisesFrom (s.0 + 1) (seg_numbers part)
    after s [] h = tt
    after s (t ∷ part) h = (omega (arith, h.0), after t part h.1)

abbrev number : ℕ × Term → ℕ
number q = q.0

pub terms_rise : (p : ℕ × Term → Bool) (k : ℕ) (terms : List Term) → RisesFrom k (map number (filter p (numbered_from k terms)))
terms_rise p k [] = tt
terms_rise p k (t ∷ terms) = by_test (p (k, t)) (terms_rise p (k + 1) terms)
  where
    rest : List (ℕ × Term)
    rest = filter p (numbered_from (k + 1) terms)

    by_test : (b : Bool) → RisesFrom (k + 1) (map number rest) → RisesFrom k (map number (cond b ((k, t) ∷ rest) rest))
    by_test true later = (omega arith, later)
    by_test false later = rises_earlier k (k + 1) (map number rest) (omega arith) later
