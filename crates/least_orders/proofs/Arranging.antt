-- The orders of some lines are their permutations.
use Rattle.std.proofs.Common.{◌≡◌, ℕ, zero, suc, ◌+◌, ◌==◌, ◌||◌, Bool, true, false, List, [], ◌∷◌, ◌++◌, length, map, refl, sym, ◌∙◌, ap, subst, arith, ◌⊎◌, inl, inr, true≢false, eq-eqb, eqb-true}
use Rattle.std.specs.Prelude.{IsPermutation, ℤ, ◌+ℤ◌}
use Rattle.std.specs.List.{AllByRecursion, IsDistinct, flat_map}
use Rattle.std.proofs.lemmas.Bool.Decides.{nat_tests}
use Rattle.std.proofs.lemmas.Int.{ints}
use Rattle.std.proofs.lemmas.List.{map-append}
use Rattle.std.proofs.lemmas.List.Folds.{flat_map-map}
use Rattle.std.proofs.lemmas.List.Sorted.{IsPermutation-refl, IsPermutation-sym, IsPermutation-trans, IsPermutation-cons, IsPermutation-middle, length_permutation}
use Rattle.map_base.specs.declared.ids.LineId.{LineId}
use Rattle.graph_core.specs.Consistent.{AreRising}
use Rattle.order_model.specs.Prefixes.{is_placed}
use Rattle.order_model.proofs.Lines.{either_true, same_line, has_permutation, order_distinct}
use Rattle.whole_sums.specs.Sums.{int_sum}
use Rattle.least_orders.specs.Arrangements.{picks, orders_of, all_orders}
use Rattle.least_orders.proofs.Lists.{Among, each_at, each_among, each_map, each_flat_map, each_weaker, among_map, among_flat_map}

-- A line that is picked, and the others.

abbrev pub Pick : Type 0
Pick = LineId × List LineId

abbrev with_first : LineId → Pick → Pick
with_first a p = (p.0, a ∷ p.1)

pub pick_lengths : (xs : List LineId) → AllByRecursion (λ (p : Pick). suc (length p.1) ≡ length xs) (picks xs)
pick_lengths [] = tt
pick_lengths (a ∷ xs) = (
  refl,
  each_map (λ (p : Pick). suc (length p.1) ≡ length (a ∷ xs)) (with_first a) (picks xs)
      (each_weaker (λ (p : Pick). suc (length p.1) ≡ length xs) (λ (p : Pick). suc (suc (length p.1)) ≡ suc (length xs)) (picks xs) (λ p e. ap suc e) (pick_lengths xs)),
)

pick_permutations : (xs : List LineId) → AllByRecursion (λ (p : Pick). IsPermutation xs (p.0 ∷ p.1)) (picks xs)
pick_permutations [] = tt
pick_permutations (a ∷ xs) = (
  IsPermutation-refl (a ∷ xs),
  each_map (λ (p : Pick). IsPermutation (a ∷ xs) (p.0 ∷ p.1)) (with_first a) (picks xs)
      (each_weaker (λ (p : Pick). IsPermutation xs (p.0 ∷ p.1)) (λ (p : Pick). IsPermutation (a ∷ xs) (p.0 ∷ a ∷ p.1)) (picks xs) (λ p h. second a p.0 xs p.1 h) (pick_permutations xs)),
)
  where
    second : (a b : LineId) (xs ys : List LineId) → IsPermutation xs (b ∷ ys) → IsPermutation (a ∷ xs) (b ∷ a ∷ ys)
    second a b xs ys h = IsPermutation-trans (a ∷ xs) (a ∷ b ∷ ys) (b ∷ a ∷ ys) (IsPermutation-cons a xs (b ∷ ys) h) (IsPermutation-middle (a ∷ []) b ys)

-- the orders of as many lines as there are: each is a permutation
pub orders_are_permutations : (n : ℕ) (xs : List LineId) → length xs ≡ n → AllByRecursion (λ o. IsPermutation xs o) (orders_of n xs)
orders_are_permutations zero [] e = (IsPermutation-refl [], tt)
orders_are_permutations zero (a ∷ xs) e = absurd (omega (arith, e))
orders_are_permutations (suc n) xs e =
    each_flat_map (λ o. IsPermutation xs o) (λ (p : Pick). map (λ o. p.0 ∷ o) (orders_of n p.1)) (picks xs)
    (each_among (λ (p : Pick). AllByRecursion (λ o. IsPermutation xs o) (map (λ o. p.0 ∷ o) (orders_of n p.1))) (picks xs)
    (λ p among.
    let few : length p.1 ≡ n = omega (arith, e, each_at (λ (p : Pick). suc (length p.1) ≡ length xs) (picks xs) p (pick_lengths xs) among) in
    let moved : IsPermutation xs (p.0 ∷ p.1) = each_at (λ (p : Pick). IsPermutation xs (p.0 ∷ p.1)) (picks xs) p (pick_permutations xs) among in
    each_map (λ o. IsPermutation xs o) (λ o. p.0 ∷ o) (orders_of n p.1)
    (each_weaker (λ o. IsPermutation p.1 o) (λ o. IsPermutation xs (p.0 ∷ o)) (orders_of n p.1)
    (λ o h. IsPermutation-trans xs (p.0 ∷ p.1) (p.0 ∷ o) moved (IsPermutation-cons p.0 p.1 o h)) (orders_are_permutations n p.1 few))))

-- only permutations stand among all orders
pub order_is_permutation : (lines order : List LineId) → Among order (all_orders lines) → IsPermutation lines order
order_is_permutation lines order h = each_at (λ o. IsPermutation lines o) (all_orders lines) order (orders_are_permutations (length lines) lines refl) h

-- Each permutation stands among them, where no line stands twice.

abbrev same : LineId → LineId → Bool
same a b = a.0 == b.0

-- so many different ones of these lines
record IsOrderOf (xs order : List LineId) : Type 0 where
  pub each : length order ≡ length xs
  pub distinct : IsDistinct same order
  pub known : AllByRecursion (λ a. is_placed xs a ≡ true) order

either_from : (a b : Bool) → (a ≡ true) ⊎ (b ≡ true) → (a || b) ≡ true
either_from true b h = refl
either_from false b (inl h) = absurd (true≢false (sym h))
either_from false b (inr h) = h

-- the pick of a line, and that it leaves the others
pick_of : (xs : List LineId) (a : LineId) → is_placed xs a ≡ true
    → (rest : List LineId) × Among (a, rest) (picks xs) × ((b : LineId) → is_placed xs b ≡ true → (a.0 == b.0) ≡ false → is_placed rest b ≡ true)
pick_of [] a h = absurd (true≢false (sym h))
pick_of (x ∷ xs) a h = by_place (either_true (x.0 == a.0) (is_placed xs a) h) (λ k. pick_of xs a k)
  where
    Found : List LineId → Type 0
    Found ys = (rest : List LineId) × Among (a, rest) (picks ys) × ((b : LineId) → is_placed ys b ≡ true → (a.0 == b.0) ≡ false → is_placed rest b ≡ true)

    by_place : ((x.0 == a.0) ≡ true) ⊎ (is_placed xs a ≡ true)
        → (is_placed xs a ≡ true → (rest : List LineId) × Among (a, rest) (picks xs) × ((b : LineId) → is_placed xs b ≡ true → (a.0 == b.0) ≡ false → is_placed rest b ≡ true))
        → (rest : List LineId) × Among (a, rest) (picks (x ∷ xs)) × ((b : LineId) → is_placed (x ∷ xs) b ≡ true → (a.0 == b.0) ≡ false → is_placed rest b ≡ true)
    by_place (inl here) later = (xs, inl (ap (λ (u : LineId). (u, xs)) (sym (same_line x a here))), λ b has apart. others b (either_true (x.0 == b.0) (is_placed xs b) has) apart)
      where
        others : (b : LineId) → ((x.0 == b.0) ≡ true) ⊎ (is_placed xs b ≡ true) → (a.0 == b.0) ≡ false → is_placed xs b ≡ true
        others b (inl one) apart = absurd (true≢false (sym one ∙ (ap (λ (u : LineId). u.0 == b.0) (same_line x a here) ∙ apart)))
        others b (inr has) apart = has
    by_place (inr there) later = by_found (later there)
      where
        by_found : (rest : List LineId) × Among (a, rest) (picks xs) × ((b : LineId) → is_placed xs b ≡ true → (a.0 == b.0) ≡ false → is_placed rest b ≡ true)
            → (rest : List LineId) × Among (a, rest) (picks (x ∷ xs)) × ((b : LineId) → is_placed (x ∷ xs) b ≡ true → (a.0 == b.0) ≡ false → is_placed rest b ≡ true)
        by_found f = (x ∷ f.0, inr (among_map (with_first x) (a, f.0) (picks xs) f.1), λ b has apart. either_from (x.0 == b.0) (is_placed f.0 b) (others b (either_true (x.0 == b.0) (is_placed xs b) has) apart))
          where
            others : (b : LineId) → ((x.0 == b.0) ≡ true) ⊎ (is_placed xs b ≡ true) → (a.0 == b.0) ≡ false → ((x.0 == b.0) ≡ true) ⊎ (is_placed f.0 b ≡ true)
            others b (inl one) apart = inl one
            others b (inr has) apart = inr (f.2 b has apart)

both_known : (xs rest : List LineId) (a : LineId) (order : List LineId) → ((b : LineId) → is_placed xs b ≡ true → (a.0 == b.0) ≡ false → is_placed rest b ≡ true)
    → AllByRecursion (λ b. same a b ≡ false) order → AllByRecursion (λ b. is_placed xs b ≡ true) order → AllByRecursion (λ b. is_placed rest b ≡ true) order
both_known xs rest a [] f apart known = tt
both_known xs rest a (b ∷ order) f apart known = (f b known.0 apart.0, both_known xs rest a order f apart.1 known.1)

all_stand : (n : ℕ) (xs order : List LineId) → length xs ≡ n → IsOrderOf xs order → Among order (orders_of n xs)
unfolding IsDistinct
all_stand zero xs [] e h = inl refl
all_stand zero xs (a ∷ order) e h = let each = h.each in absurd (omega (arith, e, each))
all_stand (suc n) xs [] e h = let each = h.each in absurd (omega (arith, e, each))
all_stand (suc n) xs (a ∷ order) e h =
    let found = pick_of xs a h.known.0 in
    let few : suc (length found.0) ≡ length xs = each_at (λ (p : Pick). suc (length p.1) ≡ length xs) (picks xs) (a, found.0) (pick_lengths xs) found.1 in
    let each = h.each in
    let less : IsOrderOf found.0 order = record {
      each = omega (arith, few, each);
      distinct = h.distinct.1;
      known = both_known xs found.0 a order found.2 h.distinct.0 h.known.1;
    } in
    among_flat_map (λ (p : Pick). map (λ o. p.0 ∷ o) (orders_of n p.1)) (a, found.0) (a ∷ order) (picks xs) found.1
    (among_map (λ o. a ∷ o) order (orders_of n found.0) (all_stand n found.0 order (omega (arith, few, e)) less))

itself : (a : LineId) (xs : List LineId) → is_placed (a ∷ xs) a ≡ true
itself a xs = rw (eq-eqb a.0 a.0 refl) refl

own_lines : (xs : List LineId) → AllByRecursion (λ a. is_placed xs a ≡ true) xs
own_lines [] = tt
own_lines (x ∷ xs) = (itself x xs, each_weaker (λ a. is_placed xs a ≡ true) (λ a. is_placed (x ∷ xs) a ≡ true) xs (λ a h. either_from (x.0 == a.0) (is_placed xs a) (inr h)) (own_lines xs))

-- each permutation of rising lines stands among all orders
pub permutation_is_order : (lines order : List LineId) → AreRising lines → IsPermutation lines order → Among order (all_orders lines)
permutation_is_order lines order rising moved = all_stand (length lines) lines order refl (record {
  each = length_permutation lines order moved;
  distinct = order_distinct lines order rising moved;
  known = each_weaker (λ a. is_placed order a ≡ true) (λ a. is_placed lines a ≡ true) order (λ a h. has_permutation lines order a moved ∙ h) (own_lines order);
})

-- Sums over an order are those over its lines.

pick_sums : (f : LineId → ℤ) (xs : List LineId) → AllByRecursion (λ (p : Pick). f p.0 +ℤ int_sum f p.1 ≡ int_sum f xs) (picks xs)
pick_sums f [] = tt
pick_sums f (a ∷ xs) = (
  refl,
  each_map (λ (p : Pick). f p.0 +ℤ int_sum f p.1 ≡ int_sum f (a ∷ xs)) (with_first a) (picks xs)
      (each_weaker (λ (p : Pick). f p.0 +ℤ int_sum f p.1 ≡ int_sum f xs) (λ (p : Pick). f p.0 +ℤ (f a +ℤ int_sum f p.1) ≡ f a +ℤ int_sum f xs) (picks xs)
      (λ p e. moved (f p.0) (f a) (int_sum f p.1) (int_sum f xs) e) (pick_sums f xs)),
)
  where
    moved : (b a s t : ℤ) → b +ℤ s ≡ t → b +ℤ (a +ℤ s) ≡ a +ℤ t
    moved b a s t e = omega (arith, ints, e)

pub orders_have_sum : (f : LineId → ℤ) (n : ℕ) (xs : List LineId) → length xs ≡ n → AllByRecursion (λ o. int_sum f o ≡ int_sum f xs) (orders_of n xs)
orders_have_sum f zero [] e = (refl, tt)
orders_have_sum f zero (a ∷ xs) e = absurd (omega (arith, e))
orders_have_sum f (suc n) xs e =
    each_flat_map (λ o. int_sum f o ≡ int_sum f xs) (λ (p : Pick). map (λ o. p.0 ∷ o) (orders_of n p.1)) (picks xs)
    (each_among (λ (p : Pick). AllByRecursion (λ o. int_sum f o ≡ int_sum f xs) (map (λ o. p.0 ∷ o) (orders_of n p.1))) (picks xs)
    (λ p among.
    let few : length p.1 ≡ n = omega (arith, e, each_at (λ (p : Pick). suc (length p.1) ≡ length xs) (picks xs) p (pick_lengths xs) among) in
    let parts : f p.0 +ℤ int_sum f p.1 ≡ int_sum f xs = each_at (λ (p : Pick). f p.0 +ℤ int_sum f p.1 ≡ int_sum f xs) (picks xs) p (pick_sums f xs) among in
    each_map (λ o. int_sum f o ≡ int_sum f xs) (λ o. p.0 ∷ o) (orders_of n p.1)
    (each_weaker (λ o. int_sum f o ≡ int_sum f p.1) (λ o. f p.0 +ℤ int_sum f o ≡ int_sum f xs) (orders_of n p.1)
    (λ o h. ap (λ s. f p.0 +ℤ s) h ∙ parts) (orders_have_sum f n p.1 few))))

-- Orders of lines that go by other names.

pub picks_map : (f : LineId → LineId) (xs : List LineId) → picks (map f xs) ≡ map (λ (p : Pick). (f p.0, map f p.1)) (picks xs)
picks_map f [] = refl
picks_map f (a ∷ xs) = ap (λ l. (f a, map f xs) ∷ map (with_first (f a)) l) (picks_map f xs) ∙ ap (λ l. (f a, map f xs) ∷ l) (both (picks xs))
  where
    both : (ps : List Pick) → map (with_first (f a)) (map (λ (p : Pick). (f p.0, map f p.1)) ps) ≡ map (λ (p : Pick). (f p.0, map f p.1)) (map (with_first a) ps)
    both [] = refl
    both (p ∷ ps) = ap (λ l. (f p.0, f a ∷ map f p.1) ∷ l) (both ps)

map_cons : (f : LineId → LineId) (a : LineId) (os : List (List LineId)) → map (λ o. f a ∷ o) (map (map f) os) ≡ map (map f) (map (λ o. a ∷ o) os)
map_cons f a [] = refl
map_cons f a (o ∷ os) = ap (λ l. (f a ∷ map f o) ∷ l) (map_cons f a os)

pub orders_map : (f : LineId → LineId) (n : ℕ) (xs : List LineId) → orders_of n (map f xs) ≡ map (map f) (orders_of n xs)
orders_map f zero xs = refl
orders_map f (suc n) xs =
    ap (λ ps. flat_map (λ (p : Pick). map (λ o. p.0 ∷ o) (orders_of n p.1)) ps) (picks_map f xs)
    ∙ (flat_map-map (λ (p : Pick). map (λ o. p.0 ∷ o) (orders_of n p.1)) (λ (p : Pick). (f p.0, map f p.1)) (picks xs) ∙ each (picks xs) (λ ys. orders_map f n ys))
  where
    each : (ps : List Pick) → ((ys : List LineId) → orders_of n (map f ys) ≡ map (map f) (orders_of n ys))
        → flat_map (λ (p : Pick). map (λ o. f p.0 ∷ o) (orders_of n (map f p.1))) ps ≡ map (map f) (flat_map (λ (p : Pick). map (λ o. p.0 ∷ o) (orders_of n p.1)) ps)
    each [] rest = refl
    each (p ∷ ps) rest =
        ap (λ l. map (λ o. f p.0 ∷ o) l ++ flat_map (λ (p : Pick). map (λ o. f p.0 ∷ o) (orders_of n (map f p.1))) ps) (rest p.1)
        ∙ (ap (λ l. l ++ flat_map (λ (p : Pick). map (λ o. f p.0 ∷ o) (orders_of n (map f p.1))) ps) (map_cons f p.0 (orders_of n p.1))
        ∙ (ap (λ l. map (map f) (map (λ o. p.0 ∷ o) (orders_of n p.1)) ++ l) (each ps rest)
        ∙ sym (map-append (map f) (map (λ o. p.0 ∷ o) (orders_of n p.1)) (flat_map (λ (p : Pick). map (λ o. p.0 ∷ o) (orders_of n p.1)) ps))))
