-- Parts of lists: what passes a test, and lists by the numbers of their elements.
use Rattle.std.proofs.Common.{◌≡◌, ℕ, zero, suc, ◌+◌, ◌-◌, ◌<◌, ◌≤◌, ◌⊎◌, inl, inr, Bool, true, false, cond, eqb, ltb, ◌&&◌, ◌||◌, List, [], ◌∷◌, ◌++◌, length, get_or, map, filter, take, drop, refl, sym, ◌∙◌, ap, arith, append-nil}
use Rattle.std.specs.List.{All, flat_map, list_any, range_with_len}
use Rattle.std.specs.List.Sorted.{IsNonDecreasingBy}
use Rattle.std.proofs.lemmas.Bool.{cases_lt}
use Rattle.std.proofs.lemmas.Bool.Decides.{nat_tests}
use Rattle.std.proofs.lemmas.List.{map-append}
use Rattle.std.proofs.lemmas.List.Elements.{All-head, All-tail}
use Rattle.std.proofs.lemmas.List.Concat.{flat_map-append}
use Rattle.track_net.proofs.Lists.{range_more}

-- What passes, where it stands in one part.

pub filter_between : {X : Type 0} (f : X → Bool) (xs : List X) (from to : ℕ) → from ≤ to → to ≤ length xs
    → ((k : ℕ) (d : X) → k < from → f (get_or xs k d) ≡ false)
    → ((k : ℕ) (d : X) → from ≤ k → k < to → f (get_or xs k d) ≡ true)
    → ((k : ℕ) (d : X) → to ≤ k → k < length xs → f (get_or xs k d) ≡ false)
    → take (to - from) (drop from xs) ≡ filter f xs
filter_between f [] from to le l before within after =
    let n : to - from ≡ 0 = omega (arith, l) in
    ap (λ (m : ℕ). take m (drop from [])) n
filter_between f (x ∷ xs) zero zero le l before within after =
    filter_between f xs 0 0 (omega arith) (omega arith) (λ k d h. absurd (omega (arith, h))) (λ k d g h. absurd (omega (arith, h))) (λ k d g h. after (suc k) d (omega arith) (omega (arith, h)))
    ∙ sym (ap (λ (b : Bool). cond b (x ∷ filter f xs) (filter f xs)) (after 0 x (omega arith) (omega arith)))
filter_between f (x ∷ xs) zero (suc to) le l before within after =
    let n : suc to - 0 ≡ suc (to - 0) = omega arith in
    ap (λ (m : ℕ). take m (x ∷ xs)) n
    ∙ ap (λ ys. x ∷ ys)
    (filter_between f xs 0 to (omega arith) (omega (arith, l)) (λ k d h. absurd (omega (arith, h))) (λ k d g h. within (suc k) d (omega arith) (omega (arith, h)))
    (λ k d g h. after (suc k) d (omega (arith, g)) (omega (arith, h))))
    ∙ sym (ap (λ (b : Bool). cond b (x ∷ filter f xs) (filter f xs)) (within 0 x (omega arith) (omega arith)))
filter_between f (x ∷ xs) (suc from) zero le l before within after = absurd (omega (arith, le))
filter_between f (x ∷ xs) (suc from) (suc to) le l before within after =
    let same : suc to - suc from ≡ to - from = omega arith in
    ap (λ (m : ℕ). take m (drop from xs)) same
    ∙ filter_between f xs from to (omega (arith, le)) (omega (arith, l)) (λ k d h. before (suc k) d (omega (arith, h))) (λ k d g h. within (suc k) d (omega (arith, g)) (omega (arith, h)))
    (λ k d g h. after (suc k) d (omega (arith, g)) (omega (arith, h)))
    ∙ sym (ap (λ (b : Bool). cond b (x ∷ filter f xs) (filter f xs)) (before 0 x (omega arith)))

-- Two tests, one after the other.

pub list_any-filtered : {X : Type 0} (t q : X → Bool) (xs : List X) → list_any t (filter q xs) ≡ list_any (λ x. q x && t x) xs
list_any-filtered t q [] = refl
list_any-filtered t q (x ∷ xs) =
    elim (q x) as (λ b. list_any t (cond b (x ∷ filter q xs) (filter q xs)) ≡ ((b && t x) || list_any (λ y. q y && t y) xs)) [
      | true ↦ ap (λ (b : Bool). t x || b) (list_any-filtered t q xs)
      | false ↦ list_any-filtered t q xs
    ]

pub list_any-agree : {X : Type 0} (t u : X → Bool) → ((x : X) → t x ≡ u x) → (xs : List X) → list_any t xs ≡ list_any u xs
list_any-agree t u same [] = refl
list_any-agree t u same (x ∷ xs) = ap (λ (b : Bool). b || list_any t xs) (same x) ∙ ap (λ (b : Bool). u x || b) (list_any-agree t u same xs)

pub list_any-mapped : {X Y : Type 0} (t : Y → Bool) (h : X → Y) (xs : List X) → list_any t (map h xs) ≡ list_any (λ x. t (h x)) xs
list_any-mapped t h [] = refl
list_any-mapped t h (x ∷ xs) = ap (λ (b : Bool). t (h x) || b) (list_any-mapped t h xs)

-- Lists one after another.

pub map-flat_map : {X Y A : Type 0} (h : X → Y) (f : A → List X) (items : List A) → map h (flat_map f items) ≡ flat_map (λ a. map h (f a)) items
map-flat_map h f [] = refl
map-flat_map h f (a ∷ rest) = map-append h (f a) (flat_map f rest) ∙ ap (λ xs. map h (f a) ++ xs) (map-flat_map h f rest)

pub flat_map-agree : {X A : Type 0} (f g : A → List X) → ((a : A) → f a ≡ g a) → (items : List A) → flat_map f items ≡ flat_map g items
flat_map-agree f g same [] = refl
flat_map-agree f g same (a ∷ rest) = ap (λ xs. xs ++ flat_map f rest) (same a) ∙ ap (λ xs. g a ++ xs) (flat_map-agree f g same rest)

-- A list whose elements stand by rising numbers is its parts of one number, one after the other.

module _ {X : Type 0} (number : X → ℕ) where
  abbrev has : ℕ → X → Bool
  has k x = eqb (number x) k

  abbrev is_under : ℕ → X → Bool
  is_under n x = ltb (number x) n

  rest_rises : (x : X) (xs : List X) → IsNonDecreasingBy number (x ∷ xs) → IsNonDecreasingBy number xs
  rest_rises x xs up i j d le l = up (suc i) (suc j) d (omega (arith, le)) (omega (arith, l))

  above_first : (x : X) (xs : List X) → IsNonDecreasingBy number (x ∷ xs) → All (λ y. number x ≤ number y) xs
  above_first x xs up k d l = up 0 (suc k) d (omega arith) (omega (arith, l))

  none_under : (n : ℕ) (xs : List X) → All (λ y. n ≤ number y) xs → filter (is_under n) xs ≡ []
  none_under n [] all = refl
  none_under n (x ∷ xs) all =
      ap (λ (b : Bool). cond b (x ∷ filter (is_under n) xs) (filter (is_under n) xs)) (high (number x) n (All-head (λ y. n ≤ number y) x xs all))
      ∙ none_under n xs (All-tail (λ y. n ≤ number y) x xs all)
    where
      high : (a n : ℕ) → n ≤ a → ltb a n ≡ false
      high a n l = grind (arith, nat_tests)

  all_under : (n : ℕ) (xs : List X) → All (λ y. number y < n) xs → filter (is_under n) xs ≡ xs
  all_under n [] all = refl
  all_under n (x ∷ xs) all =
      ap (λ (b : Bool). cond b (x ∷ filter (is_under n) xs) (filter (is_under n) xs)) (low (number x) n (All-head (λ y. number y < n) x xs all))
      ∙ ap (λ ys. x ∷ ys) (all_under n xs (All-tail (λ y. number y < n) x xs all))
    where
      low : (a n : ℕ) → a < n → ltb a n ≡ true
      low a n l = grind (arith, nat_tests)

  one_more : (n : ℕ) (xs : List X) → IsNonDecreasingBy number xs → filter (is_under n) xs ++ filter (has n) xs ≡ filter (is_under (n + 1)) xs
  one_more n [] up = refl
  one_more n (x ∷ xs) up = by (one_more n xs (rest_rises x xs up)) (cases_lt (number x) n) (cases_lt n (number x))
    where
      tests_low : (a n : ℕ) → a < n → (ltb a n ≡ true) × (ltb a (n + 1) ≡ true) × (eqb a n ≡ false)
      tests_low a n l = (one a n l, two a n l, three a n l)
        where
          one : (a n : ℕ) → a < n → ltb a n ≡ true
          one a n l = grind (arith, nat_tests)

          two : (a n : ℕ) → a < n → ltb a (n + 1) ≡ true
          two a n l = grind (arith, nat_tests)

          three : (a n : ℕ) → a < n → eqb a n ≡ false
          three a n l = grind (arith, nat_tests)

      tests_high : (a n : ℕ) → n < a → (ltb a n ≡ false) × (ltb a (n + 1) ≡ false) × (eqb a n ≡ false)
      tests_high a n l = (one a n l, two a n l, three a n l)
        where
          one : (a n : ℕ) → n < a → ltb a n ≡ false
          one a n l = grind (arith, nat_tests)

          two : (a n : ℕ) → n < a → ltb a (n + 1) ≡ false
          two a n l = grind (arith, nat_tests)

          three : (a n : ℕ) → n < a → eqb a n ≡ false
          three a n l = grind (arith, nat_tests)

      tests_same : (a n : ℕ) → a ≤ n → n ≤ a → (ltb a n ≡ false) × (ltb a (n + 1) ≡ true) × (eqb a n ≡ true)
      tests_same a n l m = (one a n l m, two a n l m, three a n l m)
        where
          one : (a n : ℕ) → a ≤ n → n ≤ a → ltb a n ≡ false
          one a n l m = grind (arith, nat_tests)

          two : (a n : ℕ) → a ≤ n → n ≤ a → ltb a (n + 1) ≡ true
          two a n l m = grind (arith, nat_tests)

          three : (a n : ℕ) → a ≤ n → n ≤ a → eqb a n ≡ true
          three a n l m = grind (arith, nat_tests)

      kept : {p q : Bool} → (p ≡ q) → cond p (x ∷ filter (is_under n) xs) (filter (is_under n) xs) ≡ cond q (x ∷ filter (is_under n) xs) (filter (is_under n) xs)
      kept e = ap (λ (b : Bool). cond b (x ∷ filter (is_under n) xs) (filter (is_under n) xs)) e

      here : {p q : Bool} → (p ≡ q) → cond p (x ∷ filter (has n) xs) (filter (has n) xs) ≡ cond q (x ∷ filter (has n) xs) (filter (has n) xs)
      here e = ap (λ (b : Bool). cond b (x ∷ filter (has n) xs) (filter (has n) xs)) e

      next : {p q : Bool} → (p ≡ q) → cond p (x ∷ filter (is_under (n + 1)) xs) (filter (is_under (n + 1)) xs) ≡ cond q (x ∷ filter (is_under (n + 1)) xs) (filter (is_under (n + 1)) xs)
      next e = ap (λ (b : Bool). cond b (x ∷ filter (is_under (n + 1)) xs) (filter (is_under (n + 1)) xs)) e

      by : filter (is_under n) xs ++ filter (has n) xs ≡ filter (is_under (n + 1)) xs → (number x < n) ⊎ (n ≤ number x) → (n < number x) ⊎ (number x ≤ n)
          → filter (is_under n) (x ∷ xs) ++ filter (has n) (x ∷ xs) ≡ filter (is_under (n + 1)) (x ∷ xs)
      by rest (inl l) other =
          let t = tests_low (number x) n l in
          ap (λ (ys : List X). ys ++ filter (has n) (x ∷ xs)) (kept t.0) ∙ ap (λ (ys : List X). (x ∷ filter (is_under n) xs) ++ ys) (here t.2) ∙ ap (λ (ys : List X). x ∷ ys) rest ∙ sym (next t.1)
      by rest (inr l) (inl m) =
          let t = tests_high (number x) n m in
          ap (λ (ys : List X). ys ++ filter (has n) (x ∷ xs)) (kept t.0) ∙ ap (λ (ys : List X). filter (is_under n) xs ++ ys) (here t.2) ∙ rest ∙ sym (next t.1)
      by rest (inr l) (inr m) =
          let t = tests_same (number x) n m l in
          let empty : filter (is_under n) xs ≡ [] = none_under n xs (λ k d h. omega (arith, above_first x xs up k d h, l)) in
          ap (λ (ys : List X). ys ++ filter (has n) (x ∷ xs)) (kept t.0 ∙ empty) ∙ here t.2
          ∙ ap (λ (ys : List X). x ∷ ys) (ap (λ (ys : List X). ys ++ filter (has n) xs) (sym empty) ∙ rest)
          ∙ sym (next t.1)

  parts_under : (xs : List X) → IsNonDecreasingBy number xs → (n : ℕ) → flat_map (λ k. filter (has k) xs) (range_with_len 0 n) ≡ filter (is_under n) xs
  parts_under xs up zero = sym (none_under 0 xs (λ k d l. omega arith))
  parts_under xs up (suc n) =
      let e : suc n ≡ n + 1 = omega arith in
      ap (λ (m : ℕ). flat_map (λ k. filter (has k) xs) (range_with_len 0 m)) e
      ∙ ap (flat_map (λ k. filter (has k) xs)) (range_more n)
      ∙ flat_map-append (λ k. filter (has k) xs) (range_with_len 0 n) (n ∷ [])
      ∙ ap (λ (ys : List X). ys ++ (filter (has n) xs ++ [])) (parts_under xs up n)
      ∙ ap (λ (ys : List X). filter (is_under n) xs ++ ys) (append-nil (filter (has n) xs))
      ∙ one_more n xs up
      ∙ ap (λ (m : ℕ). filter (is_under m) xs) (sym e)

  pub by_parts : (xs : List X) (n : ℕ) → IsNonDecreasingBy number xs → All (λ y. number y < n) xs → xs ≡ flat_map (λ k. filter (has k) xs) (range_with_len 0 n)
  by_parts xs n up all = sym (parts_under xs up n ∙ all_under n xs all)
