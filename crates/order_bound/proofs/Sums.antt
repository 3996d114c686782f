-- Sums of numbers.
use Rattle.std.proofs.Common.{◌≡◌, ℕ, ◌+◌, ◌≤◌, ◌==◌, Bool, true, false, List, [], ◌∷◌, map, refl, sym, ap, subst, ◌∙◌, arith, eqb-true, eq-eqb, true≢false}
use Rattle.std.specs.List.{sum_by, AllByRecursion}
use Rattle.std.proofs.lemmas.Bool.{or_parts}
use Rattle.std.proofs.lemmas.List.Sums.{sum_by-cons}
use Rattle.map_base.specs.declared.ids.SegId.{SegId}
use Rattle.order_model.specs.PartTerms.{is_in}
use Rattle.order_bound.proofs.Lists.{each_of}
use Rattle.order_bound.proofs.Worth.{AreApartSegments}

pub sum_same : {A : Type 0} (f g : A → ℕ) (xs : List A) → ((x : A) → f x ≡ g x) → sum_by f xs ≡ sum_by g xs
sum_same f g [] h = refl
sum_same f g (x ∷ xs) h = let rest = sum_same f g xs h in omega (arith, rest, h x, sum_by-cons f x xs, sum_by-cons g x xs)

pub sum_both : {A : Type 0} (f g : A → ℕ) (xs : List A) → sum_by (λ x. f x + g x) xs ≡ sum_by f xs + sum_by g xs
sum_both f g [] = refl
sum_both f g (x ∷ xs) = let rest = sum_both f g xs in omega (arith, rest, sum_by-cons (λ x. f x + g x) x xs, sum_by-cons f x xs, sum_by-cons g x xs)

pub sum_zero : {A : Type 0} (f : A → ℕ) (xs : List A) → AllByRecursion (λ x. f x ≡ 0) xs → sum_by f xs ≡ 0
sum_zero f [] h = refl
sum_zero f (x ∷ xs) h = let rest = sum_zero f xs h.1 in omega (arith, rest, h.0, sum_by-cons f x xs)

pub sum_swap : {A B : Type 0} (f : A → B → ℕ) (xs : List A) (ys : List B) → sum_by (λ x. sum_by (f x) ys) xs ≡ sum_by (λ y. sum_by (λ x. f x y) xs) ys
sum_swap f [] ys = sym (sum_zero (λ y. 0) ys (each_of (λ y. 0 ≡ 0) ys (λ y. refl)))
sum_swap f (x ∷ xs) ys =
    let rest = sum_swap f xs ys in
    let both = sum_both (f x) (λ y. sum_by (λ x. f x y) xs) ys in
    let split = sum_same (λ y. sum_by (λ x. f x y) (x ∷ xs)) (λ y. f x y + sum_by (λ x. f x y) xs) ys (λ y. sum_by-cons (λ x. f x y) x xs) in
    sum_by-cons (λ x. sum_by (f x) ys) x xs ∙ (ap (λ k. sum_by (f x) ys + k) rest ∙ (sym both ∙ sym split))

pub sum_less : {A : Type 0} (f g : A → ℕ) (xs : List A) → AllByRecursion (λ x. f x ≤ g x) xs → sum_by f xs ≤ sum_by g xs
sum_less f g [] h = omega arith
sum_less f g (x ∷ xs) h = let rest = sum_less f g xs h.1 in omega (arith, rest, h.0, sum_by-cons f x xs, sum_by-cons g x xs)

pub sum_map : {A B : Type 0} (f : B → ℕ) (g : A → B) (xs : List A) → sum_by f (map g xs) ≡ sum_by (λ x. f (g x)) xs
sum_map f g [] = refl
sum_map f g (x ∷ xs) = let rest = sum_map f g xs in omega (arith, rest, sum_by-cons f (g x) (map g xs), sum_by-cons (λ x. f (g x)) x xs)

-- a sum over segments of which one alone counts
none_there : (k : SegId) (f : SegId → ℕ) (slots : List SegId) → is_in slots k ≡ false → ((s : SegId) → (k.0 == s.0) ≡ false → f s ≡ 0) → sum_by f slots ≡ 0
none_there k f [] h zero = refl
none_there k f (s ∷ slots) h zero =
    let parts = or_parts (s.0 == k.0) (is_in slots k) h in
    omega (arith, none_there k f slots parts.1 zero, zero s (turned s.0 k.0 parts.0), sum_by-cons f s slots)
  where
    turned : (a b : ℕ) → (a == b) ≡ false → (b == a) ≡ false
    turned a b h = by_test (b == a) refl
      where
        by_test : (c : Bool) → (b == a) ≡ c → c ≡ false
        by_test true e = absurd (true≢false (sym (eq-eqb a b (sym (eqb-true b a e))) ∙ h))
        by_test false e = refl

pub one_segment : (k : SegId) (f : SegId → ℕ) (m : ℕ) (slots : List SegId) → AreApartSegments slots → ((s : SegId) → (k.0 == s.0) ≡ false → f s ≡ 0) → f k ≤ m → sum_by f slots ≤ m
one_segment k f m [] apart zero most = omega arith
one_segment k f m (s ∷ slots) apart zero most = by_test (k.0 == s.0) refl (one_segment k f m slots apart.1 zero most)
  where
    by_test : (b : Bool) → (k.0 == s.0) ≡ b → sum_by f slots ≤ m → sum_by f (s ∷ slots) ≤ m
    by_test true e rest =
        let P : ℕ → SegId = λ n. record { 0 = n } in
        let same : k ≡ s = ap P (eqb-true k.0 s.0 e) in
        let none : sum_by f slots ≡ 0 = none_there k f slots (subst (λ u. is_in slots u ≡ false) (sym same) apart.0) zero in
        omega (arith, none, most, ap f same, sum_by-cons f s slots)
    by_test false e rest = omega (arith, rest, zero s e, sum_by-cons f s slots)
