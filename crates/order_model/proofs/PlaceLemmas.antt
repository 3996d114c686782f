-- The places of lines in orders.
use Rattle.std.proofs.Common.{◌≡◌, ◌≢◌, ℕ, zero, suc, ◌+◌, ◌<◌, ◌≤◌, ◌==◌, ◌-◌, ◌||◌, nat_lt, Bool, true, false, cond, List, [], ◌∷◌, length, get_or, refl, sym, ◌∙◌, ap, arith, inl, inr, ◌⊎◌, eqb-true}
use Rattle.std.specs.Prelude.{IsPermutation}
use Rattle.std.specs.List.{Contains, sum_by}
use Rattle.std.proofs.lemmas.Bool.{eqb-false}
use Rattle.std.proofs.lemmas.Bool.Decides.{nat_tests}
use Rattle.std.proofs.lemmas.List.Sums.{sum_by-cons}
use Rattle.std.proofs.lemmas.List.Sorted.{sum_by-IsPermutation}
use Rattle.map_base.specs.declared.ids.LineId.{LineId}
use Rattle.graph_core.specs.Consistent.{AreRising}
use Rattle.order_model.specs.Costs.{comes_before, are_these, are_neighbours}
use Rattle.order_model.specs.Places.{place_of, are_adjacent}
use Rattle.order_model.proofs.RisingLines.{contains_cases, rising_tail, rising_above}

abbrev pub no_line : LineId
no_line = record { 0 = 0 }

-- Lists in which no line stands twice.

-- how often a line is this one
abbrev pub once : LineId → LineId → ℕ
once a x = cond (x.0 == a.0) 1 0

abbrev pub times : LineId → List LineId → ℕ
times a xs = sum_by (once a) xs

abbrev pub AreOnce : List LineId → Type 0
AreOnce xs = (a : LineId) → times a xs ≤ 1

pub times_here : (a x : LineId) (xs : List LineId) → x.0 ≡ a.0 → times a (x ∷ xs) ≡ 1 + times a xs
times_here a x xs e = let one : once a x ≡ 1 = grind (arith, nat_tests) in omega (arith, sum_by-cons (once a) x xs, one)

pub times_not_here : (a x : LineId) (xs : List LineId) → x.0 ≢ a.0 → times a (x ∷ xs) ≡ times a xs
times_not_here a x xs e = let none : once a x ≡ 0 = grind (arith, nat_tests) in omega (arith, sum_by-cons (once a) x xs, none)

pub same_or_not : (m n : ℕ) → (m ≡ n) ⊎ (m ≢ n)
same_or_not m n = by_test (m == n) refl
  where
    by_test : (b : Bool) → (m == n) ≡ b → (m ≡ n) ⊎ (m ≢ n)
    by_test true e = inl (eqb-true m n e)
    by_test false e = inr (eqb-false m n e)

none_above : (a x : LineId) (xs : List LineId) → a.0 ≤ x.0 → AreRising (x ∷ xs) → times a xs ≡ 0
none_above a x [] below rising = refl
none_above a x (y ∷ xs) below rising =
    let differ : y.0 ≢ a.0 = omega (arith, rising.0) in
    times_not_here a y xs differ ∙ none_above a y xs (omega (arith, rising.0)) rising.1

pub rising_once : (xs : List LineId) → AreRising xs → AreOnce xs
rising_once [] rising a = omega arith
rising_once (x ∷ xs) rising a = elim (same_or_not x.0 a.0) [
  | inl e ↦ omega (arith, times_here a x xs e, none_above a x xs (omega (arith, e)) rising)
  | inr n ↦ omega (arith, times_not_here a x xs n, rising_once xs (rising_tail x xs rising) a)
]

pub order_once : (lines order : List LineId) → AreRising lines → IsPermutation lines order → AreOnce order
order_once lines order rising perm a = omega (arith, sum_by-IsPermutation (once a) lines order perm, rising_once lines rising a)

pub once_head : (x : LineId) (xs : List LineId) → AreOnce (x ∷ xs) → times x xs ≡ 0
once_head x xs h = omega (arith, h x, times_here x x xs refl)

pub once_tail : (x : LineId) (xs : List LineId) → AreOnce (x ∷ xs) → AreOnce xs
once_tail x xs h a = elim (same_or_not x.0 a.0) [
  | inl e ↦ omega (arith, h a, times_here a x xs e)
  | inr n ↦ omega (arith, h a, times_not_here a x xs n)
]

none_at : (a : LineId) (xs : List LineId) (k : ℕ) → times a xs ≡ 0 → k < length xs → (get_or xs k no_line).0 ≢ a.0
none_at a [] k h below = absurd (omega (arith, below))
none_at a (x ∷ xs) zero h below = λ e. omega (arith, times_here a x xs e, h)
none_at a (x ∷ xs) (suc k) h below = elim (same_or_not x.0 a.0) [
  | inl e ↦ absurd (omega (arith, times_here a x xs e, h))
  | inr n ↦ none_at a xs k (omega (arith, times_not_here a x xs n, h)) (omega (arith, below))
]

-- Where a line stands.

pub place_here : (x a : LineId) (xs : List LineId) → x.0 ≡ a.0 → place_of (x ∷ xs) a ≡ 0
place_here x a xs e = grind (arith, nat_tests)

pub place_later : (x a : LineId) (xs : List LineId) → x.0 ≢ a.0 → place_of (x ∷ xs) a ≡ 1 + place_of xs a
place_later x a xs n = grind (arith, nat_tests)

pub line_is : (a b : LineId) → a.0 ≡ b.0 → a ≡ b
line_is a b e = ap (λ (n : ℕ). let l : LineId = record { 0 = n } in l) e

-- a line of a list that is not its first is one of the others
later_one : (x a : LineId) (xs : List LineId) → x.0 ≢ a.0 → Contains (x ∷ xs) a → Contains xs a
later_one x a xs n h = elim (contains_cases x a xs h) [ inl e ↦ absurd (n (ap (λ (l : LineId). l.0) e)) | inr later ↦ later ]

pub place_below : (xs : List LineId) (a : LineId) → Contains xs a → place_of xs a < length xs
place_below [] a h = absurd (omega (arith, h.1))
place_below (x ∷ xs) a h = elim (same_or_not x.0 a.0) [
  | inl e ↦ omega (arith, place_here x a xs e)
  | inr n ↦ omega (arith, place_later x a xs n, place_below xs a (later_one x a xs n h))
]

pub line_at_place : (xs : List LineId) (a : LineId) → Contains xs a → get_or xs (place_of xs a) no_line ≡ a
line_at_place [] a h = absurd (omega (arith, h.1))
line_at_place (x ∷ xs) a h = elim (same_or_not x.0 a.0) [
  | inl e ↦ rw (place_here x a xs e) (line_is x a e)
  | inr n ↦ ap (λ k. get_or (x ∷ xs) k no_line) (place_later x a xs n ∙ suc_of (place_of xs a)) ∙ line_at_place xs a (later_one x a xs n h)
]
  where
    suc_of : (k : ℕ) → 1 + k ≡ suc k
    suc_of k = omega arith

pub place_of_line : (xs : List LineId) (k : ℕ) → AreOnce xs → k < length xs → place_of xs (get_or xs k no_line) ≡ k
place_of_line [] k h below = absurd (omega (arith, below))
place_of_line (x ∷ xs) zero h below = place_here x x xs refl
place_of_line (x ∷ xs) (suc k) h below =
    let later : k < length xs = omega (arith, below) in
    let at : LineId = get_or xs k no_line in
    let differ : x.0 ≢ at.0 = λ e. none_at x xs k (once_head x xs h) later (sym e) in
    omega (arith, place_later x at xs differ, place_of_line xs k (once_tail x xs h) later)

-- Which of two lines comes first.

pub before_is : (xs : List LineId) (a b : LineId) → a.0 ≢ b.0 → comes_before xs a b ≡ nat_lt (place_of xs a) (place_of xs b)
before_is [] a b n = refl
before_is (x ∷ xs) a b n = elim (same_or_not x.0 a.0) [
  | inl e ↦ grind (arith, nat_tests)
  | inr no_a ↦ elim (same_or_not x.0 b.0) [
    | inl e ↦ grind (arith, nat_tests)
    | inr no_b ↦ (let rest = before_is xs a b n in grind (arith, nat_tests))
  ]
]

-- Whether two lines stand next to each other.

these_not : (x y a b : LineId) → x.0 ≢ a.0 → y.0 ≢ a.0 → are_these x y a b ≡ false
these_not x y a b m n = grind (arith, nat_tests)

these_not_second : (x y a b : LineId) → x.0 ≢ b.0 → y.0 ≢ b.0 → are_these x y a b ≡ false
these_not_second x y a b m n = grind (arith, nat_tests)

these_not_first : (x y a b : LineId) → x.0 ≢ a.0 → x.0 ≢ b.0 → are_these x y a b ≡ false
these_not_first x y a b m n = grind (arith, nat_tests)

pub not_beside : (xs : List LineId) (a b : LineId) → times a xs ≡ 0 → are_neighbours xs a b ≡ false
not_beside [] a b h = refl
not_beside (x ∷ []) a b h = refl
not_beside (x ∷ y ∷ xs) a b h =
    let no_x : x.0 ≢ a.0 = none_at a (x ∷ y ∷ xs) 0 h (omega arith) in
    let no_y : y.0 ≢ a.0 = none_at a (x ∷ y ∷ xs) 1 h (omega arith) in
    let later : times a (y ∷ xs) ≡ 0 = sym (times_not_here a x (y ∷ xs) no_x) ∙ h in
    rw (these_not x y a b no_x no_y) (not_beside (y ∷ xs) a b later)

pub not_beside_second : (xs : List LineId) (a b : LineId) → times b xs ≡ 0 → are_neighbours xs a b ≡ false
not_beside_second [] a b h = refl
not_beside_second (x ∷ []) a b h = refl
not_beside_second (x ∷ y ∷ xs) a b h =
    let no_x : x.0 ≢ b.0 = none_at b (x ∷ y ∷ xs) 0 h (omega arith) in
    let no_y : y.0 ≢ b.0 = none_at b (x ∷ y ∷ xs) 1 h (omega arith) in
    let later : times b (y ∷ xs) ≡ 0 = sym (times_not_here b x (y ∷ xs) no_x) ∙ h in
    rw (these_not_second x y a b no_x no_y) (not_beside_second (y ∷ xs) a b later)

adjacent_later : (i j : ℕ) → are_adjacent (1 + i) (1 + j) ≡ are_adjacent i j
adjacent_later i j = grind (arith, nat_tests)

-- the first of the two lines stands first of all
beside_first : (x y a b : LineId) (xs : List LineId) → x.0 ≡ a.0 → a.0 ≢ b.0
    → (are_these x y a b || false) ≡ are_adjacent (place_of (x ∷ y ∷ xs) a) (place_of (x ∷ y ∷ xs) b)
beside_first x y a b xs e n = elim (same_or_not y.0 b.0) [ inl h ↦ grind (arith, nat_tests) | inr h ↦ grind (arith, nat_tests) ]

beside_second : (x y a b : LineId) (xs : List LineId) → x.0 ≡ b.0 → a.0 ≢ b.0
    → (are_these x y a b || false) ≡ are_adjacent (place_of (x ∷ y ∷ xs) a) (place_of (x ∷ y ∷ xs) b)
beside_second x y a b xs e n = elim (same_or_not y.0 a.0) [ inl h ↦ grind (arith, nat_tests) | inr h ↦ grind (arith, nat_tests) ]

pub beside_is : (xs : List LineId) (a b : LineId) → AreOnce xs → a.0 ≢ b.0 → Contains xs a → Contains xs b
    → are_neighbours xs a b ≡ are_adjacent (place_of xs a) (place_of xs b)
beside_is [] a b h n on_a on_b = absurd (omega (arith, on_a.1))
beside_is (x ∷ []) a b h n on_a on_b = absurd (n (both_one (contains_cases x a [] on_a) (contains_cases x b [] on_b)))
  where
    both_one : (x ≡ a) ⊎ Contains [] a → (x ≡ b) ⊎ Contains [] b → a.0 ≡ b.0
    both_one (inl e) (inl f) = ap (λ (l : LineId). l.0) (sym e ∙ f)
    both_one (inl e) (inr f) = absurd (omega (arith, f.1))
    both_one (inr e) f = absurd (omega (arith, e.1))
beside_is (x ∷ y ∷ xs) a b h n on_a on_b = elim (same_or_not x.0 a.0) [
  | inl e ↦ (let none : times a (y ∷ xs) ≡ 0 = omega (arith, h a, times_here a x (y ∷ xs) e) in
      rw (not_beside (y ∷ xs) a b none) (beside_first x y a b xs e n))
  | inr no_a ↦ elim (same_or_not x.0 b.0) [
    | inl e ↦ (let none : times b (y ∷ xs) ≡ 0 = omega (arith, h b, times_here b x (y ∷ xs) e) in
        rw (not_beside_second (y ∷ xs) a b none) (beside_second x y a b xs e n))
    | inr no_b ↦ (let rest = beside_is (y ∷ xs) a b (once_tail x (y ∷ xs) h) n (later_one x a (y ∷ xs) no_a on_a) (later_one x b (y ∷ xs) no_b on_b) in
        rw (these_not_first x y a b no_a no_b, place_later x a (y ∷ xs) no_a, place_later x b (y ∷ xs) no_b)
        (rest ∙ sym (adjacent_later (place_of (y ∷ xs) a) (place_of (y ∷ xs) b))))
  ]
]

-- Halving.

at_most_later : (x a : LineId) (xs : List LineId) (m : ℕ) → AreRising (x ∷ xs) → m < length xs → x.0 < (get_or xs m no_line).0
at_most_later x a xs m rising below = rising_above x xs rising m no_line below

-- from one line to a later one the numbers rise by at least one each
pub rising_by : (xs : List LineId) (k j : ℕ) → AreRising xs → k ≤ j → j < length xs → (get_or xs k no_line).0 + (j - k) ≤ (get_or xs j no_line).0
rising_by [] k j rising h below = absurd (omega (arith, below))
rising_by (x ∷ xs) zero zero rising h below = omega arith
rising_by (x ∷ []) zero (suc j) rising h below = absurd (omega (arith, below))
rising_by (x ∷ y ∷ xs) zero (suc j) rising h below =
    let rest = rising_by (y ∷ xs) zero j rising.1 (omega arith) (omega (arith, below)) in omega (arith, rest, rising.0)
rising_by (x ∷ xs) (suc k) zero rising h below = absurd (omega (arith, h))
rising_by (x ∷ xs) (suc k) (suc j) rising h below =
    let rest = rising_by xs k j (rising_tail x xs rising) (omega (arith, h)) (omega (arith, below)) in omega (arith, rest)

-- the place of a line is bounded by how far its number is from the first
pub place_at_most : (xs : List LineId) (a : LineId) → AreRising xs → Contains xs a → (get_or xs 0 no_line).0 + place_of xs a ≤ a.0
place_at_most xs a rising on =
    let by = rising_by xs 0 (place_of xs a) rising (omega arith) (place_below xs a on) in
    omega (arith, by, ap (λ (l : LineId). l.0) (line_at_place xs a on))

-- and by how far it is from the last
pub place_at_least : (xs : List LineId) (a : LineId) (last : ℕ) → AreRising xs → Contains xs a → last + 1 ≡ length xs
    → a.0 + (last - place_of xs a) ≤ (get_or xs last no_line).0
place_at_least xs a last rising on e =
    let by = rising_by xs (place_of xs a) last rising (omega (arith, e, place_below xs a on)) (omega (arith, e)) in
    omega (arith, by, ap (λ (l : LineId). l.0) (line_at_place xs a on))

-- the line stands at or after a lesser line, or itself
pub rank_from : (xs : List LineId) (a : LineId) (m : ℕ) → AreRising xs → Contains xs a → m < length xs → (get_or xs m no_line).0 ≤ a.0 → m ≤ place_of xs a
rank_from [] a m rising on below h = absurd (omega (arith, below))
rank_from (x ∷ xs) a zero rising on below h = omega arith
rank_from (x ∷ xs) a (suc m) rising on below h = elim (same_or_not x.0 a.0) [
  | inl e ↦ absurd (omega (arith, rising_above x xs rising m no_line (omega (arith, below)), h, e))
  | inr n ↦ omega (arith, place_later x a xs n, rank_from xs a m (rising_tail x xs rising) (later_one x a xs n on) (omega (arith, below)) h)
]

-- the line stands before a greater line
pub rank_before : (xs : List LineId) (a : LineId) (m : ℕ) → AreRising xs → Contains xs a → m < length xs → a.0 < (get_or xs m no_line).0 → place_of xs a < m
rank_before [] a m rising on below h = absurd (omega (arith, below))
rank_before (x ∷ xs) a zero rising on below h = elim (contains_cases x a xs on) [
  | inl e ↦ absurd (omega (arith, h, ap (λ (l : LineId). l.0) e))
  | inr later ↦ absurd (omega (arith, h, rising_above x xs rising later.0 a later.1, ap (λ (l : LineId). l.0) later.2))
]
rank_before (x ∷ xs) a (suc m) rising on below h = elim (same_or_not x.0 a.0) [
  | inl e ↦ omega (arith, place_here x a xs e)
  | inr n ↦ omega (arith, place_later x a xs n, rank_before xs a m (rising_tail x xs rising) (later_one x a xs n on) (omega (arith, below)) h)
]
