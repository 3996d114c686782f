-- A rising list of numbers is told by which numbers it has.
use Rattle.std.proofs.Common.{◌≡◌, ℕ, zero, suc, ◌+◌, ◌<◌, ◌≤◌, ◌⊎◌, inl, inr, Bool, true, false, cond, eqb, ltb, ◌||◌, ◌&&◌, List, [], ◌∷◌, get_or, filter, refl, sym, ◌∙◌, ap, subst, arith}
use Rattle.std.specs.List.{range_with_len, dedup}
use Rattle.std.specs.List.Sorted.{IsStrictlyIncreasing, IsSorted}
use Rattle.std.specs.Ordering.{nat_cmp}
use Rattle.std.proofs.lemmas.Cmp.{nat_eq_equiv}
use Rattle.std.proofs.lemmas.Bool.Decides.{nat_tests}
use Rattle.std.proofs.lemmas.Bool.{cases_lt, eq-eqb, eqb-true, true≢false, false≢true}
use Rattle.std.proofs.lemmas.List.Kept.{Contains-dedup_nat, Contains-from_dedup, IsStrictlyIncreasing-filter}
use Rattle.std.proofs.lemmas.List.FromFn.{get_or-range_with_len, length-range_with_len}
use Rattle.std.proofs.lemmas.Map.Views.{Contains-from_any, list_any-from_Contains}
use Rattle.std.proofs.lemmas.Map.Keys.{IsStrictlyIncreasing-dedup}
use Rattle.way_network.specs.Uses.{has_number, AreThose}

pub eqb_apart : (a b : ℕ) → (a < b) ⊎ (b < a) → eqb a b ≡ false
eqb_apart a b (inl h) = grind (arith, nat_tests)
eqb_apart a b (inr h) = grind (arith, nat_tests)

rising_tail : (x : ℕ) (xs : List ℕ) → IsStrictlyIncreasing (x ∷ xs) → IsStrictlyIncreasing xs
rising_tail x xs up k l =
    let e : suc k + 1 ≡ suc (k + 1) = omega arith in
    subst (λ (m : ℕ). get_or xs k 0 < get_or (x ∷ xs) m 0) e (up (suc k) (omega (arith, l)))

-- the rest of a rising list has no number up to the first
none_up_to_first : (k x : ℕ) (xs : List ℕ) → k ≤ x → IsStrictlyIncreasing (x ∷ xs) → has_number xs k ≡ false
none_up_to_first k x [] l up = refl
none_up_to_first k x (y ∷ ys) l up =
    let above : x < y = up 0 (omega arith) in
    ap (λ (b : Bool). b || has_number ys k) (eqb_apart k y (inl (omega (arith, above, l)))) ∙ none_up_to_first k y ys (omega (arith, above, l)) (rising_tail x (y ∷ ys) up)

-- two rising lists that have the same numbers are one
pub same_where_rising : (xs ys : List ℕ) → IsStrictlyIncreasing xs → IsStrictlyIncreasing ys → ((k : ℕ) → has_number xs k ≡ has_number ys k) → xs ≡ ys
same_where_rising [] [] up_x up_y same = refl
same_where_rising [] (y ∷ ys) up_x up_y same = absurd (false≢true (same y ∙ ap (λ (b : Bool). b || has_number ys y) (eq-eqb y y refl)))
same_where_rising (x ∷ xs) [] up_x up_y same = absurd (true≢false (sym (ap (λ (b : Bool). b || has_number xs x) (eq-eqb x x refl)) ∙ same x))
same_where_rising (x ∷ xs) (y ∷ ys) up_x up_y same = by_first (λ up_1 up_2 h. same_where_rising xs ys up_1 up_2 h) (cases_lt x y) (cases_lt y x)
  where
    not_lower : (a b : ℕ) (xs ys : List ℕ) → IsStrictlyIncreasing (b ∷ ys) → ((k : ℕ) → has_number (a ∷ xs) k ≡ has_number (b ∷ ys) k) → a < b → ⊥
    not_lower a b xs ys up h l =
        true≢false
        (sym (ap (λ (t : Bool). t || has_number xs a) (eq-eqb a a refl)) ∙ h a ∙ ap (λ (t : Bool). t || has_number ys a) (eqb_apart a b (inl l))
        ∙ none_up_to_first a b ys (omega (arith, l)) up)

    rest_same : (z : ℕ) (xs ys : List ℕ) → IsStrictlyIncreasing (z ∷ xs) → IsStrictlyIncreasing (z ∷ ys) → ((k : ℕ) → has_number (z ∷ xs) k ≡ has_number (z ∷ ys) k)
        → (k : ℕ) → has_number xs k ≡ has_number ys k
    rest_same z xs ys up_a up_b h k = by_test (eqb k z) refl
      where
        by_test : (t : Bool) → eqb k z ≡ t → has_number xs k ≡ has_number ys k
        by_test true e =
            let low : k ≤ z = omega (arith, eqb-true k z e) in
            none_up_to_first k z xs low up_a ∙ sym (none_up_to_first k z ys low up_b)
        by_test false e = sym (ap (λ (t : Bool). t || has_number xs k) e) ∙ h k ∙ ap (λ (t : Bool). t || has_number ys k) e

    by_first : (IsStrictlyIncreasing xs → IsStrictlyIncreasing ys → ((k : ℕ) → has_number xs k ≡ has_number ys k) → xs ≡ ys) → (x < y) ⊎ (y ≤ x) → (y < x) ⊎ (x ≤ y) → x ∷ xs ≡ y ∷ ys
    by_first again (inl l) other = absurd (not_lower x y xs ys up_y same l)
    by_first again (inr l) (inl m) = absurd (not_lower y x ys xs up_x (λ k. sym (same k)) m)
    by_first again (inr l) (inr m) =
        let first : x ≡ y = omega (arith, l, m) in
        let up : IsStrictlyIncreasing (y ∷ xs) = subst (λ (z : ℕ). IsStrictlyIncreasing (z ∷ xs)) first up_x in
        let h : (k : ℕ) → has_number (y ∷ xs) k ≡ has_number (y ∷ ys) k = λ k. ap (λ (z : ℕ). has_number (z ∷ xs) k) (sym first) ∙ same k in
        ap (λ (z : ℕ). z ∷ xs) first ∙ ap (λ (zs : List ℕ). y ∷ zs) (again (rising_tail y xs up) (rising_tail y ys up_y) (rest_same y xs ys up up_y h))

-- a test and one more
pub has_filtered : (f : ℕ → Bool) (k : ℕ) (xs : List ℕ) → has_number (filter f xs) k ≡ (has_number xs k && f k)
has_filtered f k [] = refl
has_filtered f k (x ∷ xs) = by_number (has_filtered f k xs) (eqb k x) refl
  where
    kept : (b t : Bool) → has_number (cond b (x ∷ filter f xs) (filter f xs)) k ≡ ((b && eqb k x) || has_number (filter f xs) k)
    kept true t = refl
    kept false t = refl

    drop_false : (b r : Bool) → ((b && false) || r) ≡ r
    drop_false true r = refl
    drop_false false r = refl

    take_true : (b h : Bool) → ((b && true) || (h && b)) ≡ b
    take_true true h = refl
    take_true false true = refl
    take_true false false = refl

    by_number : has_number (filter f xs) k ≡ (has_number xs k && f k) → (t : Bool) → eqb k x ≡ t → has_number (cond (f x) (x ∷ filter f xs) (filter f xs)) k ≡ ((eqb k x || has_number xs k) && f k)
    by_number rest true e =
        let same : f x ≡ f k = ap f (sym (eqb-true k x e)) in
        kept (f x) true
        ∙ ap (λ (b : Bool). (f x && b) || has_number (filter f xs) k) e
        ∙ ap (λ (b : Bool). (f x && true) || b) rest
        ∙ ap (λ (b : Bool). (b && true) || (has_number xs k && f k)) same
        ∙ take_true (f k) (has_number xs k)
        ∙ sym (ap (λ (b : Bool). (b || has_number xs k) && f k) e)
    by_number rest false e =
        kept (f x) true
        ∙ ap (λ (b : Bool). (f x && b) || has_number (filter f xs) k) e
        ∙ drop_false (f x) (has_number (filter f xs) k)
        ∙ rest
        ∙ sym (ap (λ (b : Bool). (b || has_number xs k) && f k) e)

has_range : (k a n : ℕ) → has_number (range_with_len a n) k ≡ (ltb k (a + n) && ltb a (suc k))
has_range k a zero = by k a
  where
    by : (k a : ℕ) → false ≡ (ltb k (a + 0) && ltb a (suc k))
    by k a = grind (arith, nat_tests)
has_range k a (suc n) = ap (λ (b : Bool). eqb k a || b) (has_range k (a + 1) n) ∙ by k a n
  where
    by : (k a n : ℕ) → (eqb k a || (ltb k (a + 1 + n) && ltb (a + 1) (suc k))) ≡ (ltb k (a + suc n) && ltb a (suc k))
    by k a n = grind (arith, nat_tests)

pub has_below : (k n : ℕ) → has_number (range_with_len 0 n) k ≡ ltb k n
has_below k n = has_range k 0 n ∙ by k n
  where
    by : (k n : ℕ) → (ltb k (0 + n) && ltb 0 (suc k)) ≡ ltb k n
    by k n = grind (arith, nat_tests)

pub range_rises : (n : ℕ) → IsStrictlyIncreasing (range_with_len 0 n)
range_rises n k below =
    let within : k + 1 < n = omega (arith, below, length-range_with_len 0 n) in
    omega (arith, get_or-range_with_len 0 n k 0 (omega (arith, within)), get_or-range_with_len 0 n (k + 1) 0 within)

-- a rising list whose numbers are those below a bound that pass a test
pub rising_is_filter : (f : ℕ → Bool) (n : ℕ) (xs : List ℕ) → IsStrictlyIncreasing xs → ((k : ℕ) → has_number xs k ≡ (ltb k n && f k)) → xs ≡ filter f (range_with_len 0 n)
rising_is_filter f n xs up has =
    same_where_rising xs (filter f (range_with_len 0 n)) up (IsStrictlyIncreasing-filter f (range_with_len 0 n) (range_rises n))
    (λ k. has k ∙ ap (λ (b : Bool). b && f k) (sym (has_below k n)) ∙ sym (has_filtered f k (range_with_len 0 n)))

-- the same where no number from the bound on passes
pub those_are_filter : (f : ℕ → Bool) (n : ℕ) (xs : List ℕ) → AreThose f xs → ((k : ℕ) → n ≤ k → f k ≡ false) → xs ≡ filter f (range_with_len 0 n)
those_are_filter f n xs those high = rising_is_filter f n xs those.rises (λ k. those.each k ∙ bounded k (cases_lt k n))
  where
    low_test : (k : ℕ) → k < n → ltb k n ≡ true
    low_test k l = grind (arith, nat_tests)

    high_test : (k : ℕ) → n ≤ k → ltb k n ≡ false
    high_test k l = grind (arith, nat_tests)

    bounded : (k : ℕ) → (k < n) ⊎ (n ≤ k) → f k ≡ (ltb k n && f k)
    bounded k (inl l) = sym (ap (λ (b : Bool). b && f k) (low_test k l))
    bounded k (inr l) = high k l ∙ sym (ap (λ (b : Bool). b && f k) (high_test k l))

-- once repeats are dropped the same numbers are there
has_dedup : (xs : List ℕ) (k : ℕ) → has_number (dedup eqb xs) k ≡ has_number xs k
has_dedup xs k = by_tests (has_number (dedup eqb xs) k) (has_number xs k) there back
  where
    there : has_number (dedup eqb xs) k ≡ true → has_number xs k ≡ true
    there e = list_any-from_Contains nat_eq_equiv k xs (Contains-from_dedup eqb xs k (Contains-from_any (λ (a b : ℕ) (h : eqb a b ≡ true). eqb-true a b h) k (dedup eqb xs) e))

    back : has_number xs k ≡ true → has_number (dedup eqb xs) k ≡ true
    back e = list_any-from_Contains nat_eq_equiv k (dedup eqb xs) (Contains-dedup_nat xs k (Contains-from_any (λ (a b : ℕ) (h : eqb a b ≡ true). eqb-true a b h) k xs e))

    by_tests : (a b : Bool) → (a ≡ true → b ≡ true) → (b ≡ true → a ≡ true) → a ≡ b
    by_tests true b there back = sym (there refl)
    by_tests false true there back = back refl
    by_tests false false there back = refl

-- numbers that rise, once their repeats are dropped
pub those_once : (f : ℕ → Bool) (xs ys : List ℕ) → IsSorted nat_cmp xs → ((k : ℕ) → has_number xs k ≡ f k) → ys ≡ dedup eqb xs → AreThose f ys
those_once f xs ys sorted has is =
    record { rises = subst IsStrictlyIncreasing (sym is) (IsStrictlyIncreasing-dedup xs sorted); each = λ k. ap (λ (zs : List ℕ). has_number zs k) is ∙ has_dedup xs k ∙ has k }
