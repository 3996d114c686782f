-- Lists of lines: tests of membership, and orders that begin with placed lines.
use Rattle.std.proofs.Common.{◌≡◌, ℕ, ◌+◌, ◌<◌, ◌==◌, ◌||◌, ◌&&◌, not, Bool, true, false, cond, List, [], ◌∷◌, ◌++◌, length, refl, sym, ◌∙◌, ap, subst, arith, inl, inr, ◌⊎◌, true≢false, eqb-true, eq-eqb, length-append, append_assoc, Some, None, Option}
use Rattle.std.specs.Prelude.{IsPermutation}
use Rattle.std.specs.List.{list_all, find, IsDistinct, AllByRecursion}
use Rattle.std.specs.Option.{option_to_list}
use Rattle.std.proofs.lemmas.Bool.Decides.{nat_tests}
use Rattle.std.proofs.lemmas.List.{append-nil}
use Rattle.std.proofs.lemmas.List.Folds.{list_any-append}
use Rattle.std.proofs.lemmas.List.Sorted.{list_any-IsPermutation, length_permutation}
use Rattle.std.proofs.lemmas.Map.Keys.{IsDistinct-IsPermutation}
use Rattle.map_base.specs.declared.ids.LineId.{LineId}
use Rattle.graph_core.specs.Consistent.{AreRising}
use Rattle.order_model.specs.Prefixes.{is_placed, is_unplaced, with_line}
use Rattle.order_model.specs.Completions.{BeginsWith}

pub both_true : (a b : Bool) → (a && b) ≡ true → (a ≡ true) × (b ≡ true)
both_true true b h = (refl, h)
both_true false b h = absurd (true≢false (sym h))

pub either_true : (a b : Bool) → (a || b) ≡ true → (a ≡ true) ⊎ (b ≡ true)
either_true true b h = inl refl
either_true false b h = inr h

pub not_true : (a : Bool) → not a ≡ true → a ≡ false
not_true true h = absurd (true≢false (sym h))
not_true false h = refl

pub neither : (a b : Bool) → (a || b) ≡ false → (a ≡ false) × (b ≡ false)
neither true b h = absurd (true≢false h)
neither false b h = (refl, h)

turned : (a b : ℕ) → (a == b) ≡ false → (b == a) ≡ false
turned a b h = grind (arith, nat_tests)

itself : (a : ℕ) → (a == a) ≡ true
itself a = eq-eqb a a refl

pub same_line : (a b : LineId) → (a.0 == b.0) ≡ true → a ≡ b
same_line a b h = let P : ℕ → LineId = λ n. record { 0 = n } in ap P (eqb-true a.0 b.0 h)

-- what all of a list pass, each of it passes
pub all_has : (p : LineId → Bool) (xs : List LineId) (a : LineId) → list_all p xs ≡ true → is_placed xs a ≡ true → p a ≡ true
all_has p [] a all has = absurd (true≢false (sym has))
all_has p (x ∷ xs) a all has =
    let both = both_true (p x) (list_all p xs) all in
    elim (either_true (x.0 == a.0) (is_placed xs a) has) [
      | inl here ↦ subst (λ b. p b ≡ true) (same_line x a here) both.0
      | inr later ↦ all_has p xs a both.1 later
    ]

pub has_append : (xs ys : List LineId) (a : LineId) → is_placed (xs ++ ys) a ≡ (is_placed xs a || is_placed ys a)
has_append xs ys a = list_any-append (λ (b : LineId). b.0 == a.0) xs ys

pub has_permutation : (xs ys : List LineId) (a : LineId) → IsPermutation xs ys → is_placed xs a ≡ is_placed ys a
has_permutation xs ys a h = list_any-IsPermutation (λ (b : LineId). b.0 == a.0) xs ys h

-- Lines of a segment stand once in each of its orders.

abbrev same : LineId → LineId → Bool
same a b = a.0 == b.0

abbrev apart_from : LineId → LineId → Type 0
apart_from x y = same x y ≡ false

rising_above : (m : LineId) (x : LineId) (xs : List LineId) → AreRising (x ∷ xs) → m.0 < x.0 → AllByRecursion (apart_from m) (x ∷ xs)
rising_above m x [] h below = (grind (arith, nat_tests), tt)
rising_above m x (y ∷ xs) h below = (grind (arith, nat_tests), rising_above m y xs h.1 (omega (arith, below, h.0)))

rising_distinct : (xs : List LineId) → AreRising xs → IsDistinct same xs
unfolding IsDistinct
rising_distinct [] h = tt
rising_distinct (x ∷ []) h = (tt, tt)
rising_distinct (x ∷ y ∷ xs) h = (rising_above x y xs h.1 h.0, rising_distinct (y ∷ xs) h.1)

pub order_distinct : (lines order : List LineId) → AreRising lines → IsPermutation lines order → IsDistinct same order
order_distinct lines order rising h = IsDistinct-IsPermutation same (λ x y. flips x y) lines order h (rising_distinct lines rising)
  where
    flips : (x y : LineId) → same x y ≡ same y x
    flips x y = grind (arith, nat_tests)

-- a line that comes after others is none of them
apart_before : (x : LineId) (xs rest : List LineId) (a : LineId) → AllByRecursion (apart_from x) (xs ++ a ∷ rest) → (x.0 == a.0) ≡ false
apart_before x [] rest a h = h.0
apart_before x (y ∷ xs) rest a h = apart_before x xs rest a h.1

pub not_before : (placed rest : List LineId) (a : LineId) → IsDistinct same (placed ++ a ∷ rest) → is_placed placed a ≡ false
unfolding IsDistinct
not_before [] rest a h = refl
not_before (x ∷ placed) rest a h = rw (apart_before x placed rest a h.0) (not_before placed rest a h.1)

-- Where a line is placed.

found : (p : LineId → Bool) (xs : List LineId) (b : LineId) → find p xs ≡ Some b → (p b ≡ true) × (is_placed xs b ≡ true)
found p [] b h = cc
found p (x ∷ xs) b h = by_test (p x) refl h (found p xs b)
  where
    some_same : (x b : LineId) → Some x ≡ Some b → x ≡ b
    some_same x b e = cc

    has_later : (s t : Bool) → t ≡ true → (s || t) ≡ true
    has_later true t h = refl
    has_later false t h = h

    by_test : (t : Bool) → p x ≡ t → cond t (Some x) (find p xs) ≡ Some b
        → (find p xs ≡ Some b → (p b ≡ true) × (is_placed xs b ≡ true)) → (p b ≡ true) × (((x.0 == b.0) || is_placed xs b) ≡ true)
    by_test true e is rest =
        let one : x ≡ b = some_same x b is in
        (subst (λ c. p c ≡ true) one e, rw (eq-eqb x.0 b.0 (ap (λ (l : LineId). l.0) one)) refl)
    by_test false e is rest = let later = rest is in (later.0, has_later (x.0 == b.0) (is_placed xs b) later.1)

one_left : (rest : List LineId) → length rest ≡ 1 → (b : LineId) × (rest ≡ b ∷ [])
one_left [] h = absurd (omega (arith, h))
one_left (b ∷ []) h = (b, refl)
one_left (b ∷ c ∷ rest) h = absurd (omega (arith, h))

pub begins_with_line : (lines placed rest : List LineId) (a : LineId) → AreRising lines → IsPermutation lines (placed ++ a ∷ rest)
    → BeginsWith (with_line lines placed a) (placed ++ a ∷ rest)
begins_with_line lines placed rest a rising perm = by_test (length now + 1 == length lines) refl
  where
    now : List LineId
    now = placed ++ a ∷ []

    order : List LineId
    order = placed ++ a ∷ rest

    is : placed ++ a ∷ rest ≡ (placed ++ a ∷ []) ++ rest
    is = sym (append_assoc placed (a ∷ []) rest)

    by_test : (t : Bool) → (length (placed ++ a ∷ []) + 1 == length lines) ≡ t
        → BeginsWith (cond t ((placed ++ a ∷ []) ++ option_to_list (find (is_unplaced (placed ++ a ∷ [])) lines)) (placed ++ a ∷ [])) (placed ++ a ∷ rest)
    by_test false e = (rest, is)
    by_test true e = by_find (find (is_unplaced (placed ++ a ∷ [])) lines) refl
      where
        by_find : (f : Option LineId) → find (is_unplaced (placed ++ a ∷ [])) lines ≡ f → BeginsWith ((placed ++ a ∷ []) ++ option_to_list f) (placed ++ a ∷ rest)
        by_find None g = (rest, rw (append-nil (placed ++ a ∷ [])) is)
        by_find (Some b) g =
            let lengths : length (placed ++ a ∷ rest) ≡ length lines = length_permutation lines (placed ++ a ∷ rest) perm in
            let sum : length ((placed ++ a ∷ []) ++ rest) ≡ length (placed ++ a ∷ []) + length rest = length-append (placed ++ a ∷ []) rest in
            let few : length (placed ++ a ∷ []) + 1 ≡ length lines = eqb-true (length (placed ++ a ∷ []) + 1) (length lines) e in
            let last = one_left rest (omega (arith, lengths, sum, few, ap length is)) in
            let of = found (is_unplaced (placed ++ a ∷ [])) lines b g in
            let in_order : is_placed ((placed ++ a ∷ []) ++ rest) b ≡ true = ap (λ l. is_placed l b) (sym is) ∙ sym (has_permutation lines (placed ++ a ∷ rest) b perm) ∙ of.1 in
            let split : (is_placed (placed ++ a ∷ []) b || is_placed rest b) ≡ true = sym (has_append (placed ++ a ∷ []) rest b) ∙ in_order in
            let not_now : is_placed (placed ++ a ∷ []) b ≡ false = not_true (is_placed (placed ++ a ∷ []) b) of.0 in
            let in_rest : is_placed rest b ≡ true = last_of (is_placed (placed ++ a ∷ []) b) (is_placed rest b) split not_now in
            ([], is ∙ ap (λ r. (placed ++ a ∷ []) ++ r) (last.1 ∙ ap (λ c. c ∷ []) (only last.0 b (ap (λ r. is_placed r b) (sym last.1) ∙ in_rest))) ∙ sym (append-nil ((placed ++ a ∷ []) ++ b ∷ [])))
          where
            last_of : (s t : Bool) → (s || t) ≡ true → s ≡ false → t ≡ true
            last_of true t h e = absurd (true≢false e)
            last_of false t h e = h

            only : (c b : LineId) → is_placed (c ∷ []) b ≡ true → c ≡ b
            only c b h = elim (either_true (c.0 == b.0) false h) [ inl one ↦ same_line c b one | inr never ↦ absurd (true≢false (sym never)) ]
