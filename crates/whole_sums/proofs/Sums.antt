-- Laws of sums of whole numbers.
use Rattle.std.proofs.Common.{◌≡◌, ℕ, Bool, true, false, not, cond, List, [], ◌∷◌, ◌++◌, map, filter, refl, sym, ap, ◌∙◌, arith}
use Rattle.std.specs.Prelude.{ℤ, pos, ◌+ℤ◌}
use Rattle.std.specs.List.{sum_by, AllByRecursion}
use Rattle.std.proofs.lemmas.Int.{ints}
use Rattle.std.proofs.lemmas.List.Sums.{sum_by-cons}
use lib.Signed.{◌≤ℤ◌}
use Rattle.whole_sums.specs.Sums.{int_sum}

pub int_sum-append : {A : Type 0} (f : A → ℤ) (xs ys : List A) → int_sum f (xs ++ ys) ≡ int_sum f xs +ℤ int_sum f ys
int_sum-append f [] ys = omega (arith, ints)
int_sum-append f (x ∷ xs) ys = let rest = int_sum-append f xs ys in omega (arith, ints, rest)

pub int_sum-map : {A B : Type 0} (f : B → ℤ) (g : A → B) (xs : List A) → int_sum f (map g xs) ≡ int_sum (λ x. f (g x)) xs
int_sum-map f g [] = refl
int_sum-map f g (x ∷ xs) = ap (λ n. f (g x) +ℤ n) (int_sum-map f g xs)

pub int_sum_same : {A : Type 0} (f g : A → ℤ) (xs : List A) → AllByRecursion (λ x. f x ≡ g x) xs → int_sum f xs ≡ int_sum g xs
int_sum_same f g [] h = refl
int_sum_same f g (x ∷ xs) h = let rest = int_sum_same f g xs h.1 in omega (arith, ints, rest, h.0)

pub int_sum_equal : {A : Type 0} (f g : A → ℤ) (xs : List A) → ((x : A) → f x ≡ g x) → int_sum f xs ≡ int_sum g xs
int_sum_equal f g [] h = refl
int_sum_equal f g (x ∷ xs) h = let rest = int_sum_equal f g xs h in omega (arith, ints, rest, h x)

pub int_sum_less : {A : Type 0} (f g : A → ℤ) (xs : List A) → AllByRecursion (λ x. f x ≤ℤ g x) xs → int_sum f xs ≤ℤ int_sum g xs
int_sum_less f g [] h = omega (arith, ints)
int_sum_less f g (x ∷ xs) h = let rest = int_sum_less f g xs h.1 in omega (arith, ints, rest, h.0)

pub int_sum_below : {A : Type 0} (f g : A → ℤ) (xs : List A) → ((x : A) → f x ≤ℤ g x) → int_sum f xs ≤ℤ int_sum g xs
int_sum_below f g [] h = omega (arith, ints)
int_sum_below f g (x ∷ xs) h = let rest = int_sum_below f g xs h in omega (arith, ints, rest, h x)

pub int_sum_both : {A : Type 0} (f g : A → ℤ) (xs : List A) → int_sum (λ x. f x +ℤ g x) xs ≡ int_sum f xs +ℤ int_sum g xs
int_sum_both f g [] = omega (arith, ints)
int_sum_both f g (x ∷ xs) = let rest = int_sum_both f g xs in omega (arith, ints, rest)

pub int_sum_zero : {A : Type 0} (xs : List A) → int_sum (λ x. pos 0) xs ≡ pos 0
int_sum_zero [] = refl
int_sum_zero (x ∷ xs) = let rest = int_sum_zero xs in omega (arith, ints, rest)

-- two sums change places
pub int_sum_swap : {A B : Type 0} (f : A → B → ℤ) (xs : List A) (ys : List B) → int_sum (λ x. int_sum (f x) ys) xs ≡ int_sum (λ y. int_sum (λ x. f x y) xs) ys
int_sum_swap f [] ys = sym (int_sum_zero ys)
int_sum_swap f (x ∷ xs) ys =
    let rest = int_sum_swap f xs ys in
    let both = int_sum_both (f x) (λ y. int_sum (λ x. f x y) xs) ys in
    ap (λ n. int_sum (f x) ys +ℤ n) rest ∙ sym both

pub int_sum_pos : {A : Type 0} (f : A → ℕ) (xs : List A) → int_sum (λ x. pos (f x)) xs ≡ pos (sum_by f xs)
int_sum_pos f [] = refl
int_sum_pos f (x ∷ xs) = let rest = int_sum_pos f xs in ap (λ n. pos (f x) +ℤ n) rest ∙ ap pos (sym (sum_by-cons f x xs))

pub int_sum_parted : {A : Type 0} (f : A → ℤ) (p : A → Bool) (xs : List A) → int_sum f (filter p xs) +ℤ int_sum f (filter (λ x. not (p x)) xs) ≡ int_sum f xs
int_sum_parted f p [] = refl
int_sum_parted f p (x ∷ xs) = by_test (p x) (int_sum_parted f p xs)
  where
    by_test : (b : Bool) → int_sum f (filter p xs) +ℤ int_sum f (filter (λ x. not (p x)) xs) ≡ int_sum f xs → int_sum f (cond b (x ∷ filter p xs) (filter p xs)) +ℤ int_sum f (cond (not b) (x ∷ filter (λ x. not (p x)) xs) (filter (λ x. not (p x)) xs)) ≡ f x +ℤ int_sum f xs
    by_test true rest = omega (arith, ints)
    by_test false rest = omega (arith, ints)
