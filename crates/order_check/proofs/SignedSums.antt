-- Absolute values of sums, and sums over lists that agree place by place.
use Rattle.std.proofs.Common.{◌≡◌, ℕ, zero, suc, ◌+◌, ◌*◌, ◌<◌, ◌≤◌, List, [], ◌∷◌, length, take, set, get_or, refl, ◌∙◌, ap, arith}
use Rattle.std.specs.Prelude.{ℤ, pos, ◌+ℤ◌, ◌-ℤ◌, unsigned_abs}
use Rattle.std.proofs.Common.{w64, to_z, of_z}
use Rattle.std.proofs.lemmas.Int.{ints, to_z-of_z, fits_signed_from_abs}
use Rattle.std.proofs.lemmas.List.{take_more}
use Rattle.whole_sums.specs.Sums.{int_sum}
use Rattle.whole_sums.proofs.Sums.{int_sum-append}

pub abs_sum : (a b : ℤ) (m n : ℕ) → unsigned_abs a ≤ m → unsigned_abs b ≤ n → unsigned_abs (a +ℤ b) ≤ m + n
abs_sum a b m n p q = omega (arith, ints, p, q)

pub sum_more : {A : Type 0} (f : A → ℤ) (xs : List A) (i : ℕ) (d : A) → i < length xs → int_sum f (take (i + 1) xs) ≡ int_sum f (take i xs) +ℤ f (get_or xs i d)
sum_more f xs i d below =
    ap (int_sum f) (take_more xs i d below) ∙ int_sum-append f (take i xs) (get_or xs i d ∷ []) ∙ last (int_sum f (take i xs)) (f (get_or xs i d))
  where
    last : (a b : ℤ) → a +ℤ (b +ℤ pos 0) ≡ a +ℤ b
    last a b = omega (arith, ints)

-- a small number is read as it is
pub read_small : (y : ℤ) → unsigned_abs y ≤ 256000 → to_z w64 (of_z w64 y) ≡ y
read_small y h = to_z-of_z w64 y (fits_signed_from_abs w64 y (omega (arith, h)))

-- two lists of one length give one sum where they agree at each place
pub sums_by_place : {A B : Type 0} (f : A → ℤ) (g : B → ℤ) (xs : List A) (ys : List B) (d : A) (e : B) → length xs ≡ length ys
    → ((i : ℕ) → i < length xs → f (get_or xs i d) ≡ g (get_or ys i e)) → int_sum f xs ≡ int_sum g ys
sums_by_place f g [] [] d e each same = refl
sums_by_place f g [] (y ∷ ys) d e each same = absurd (omega (arith, each))
sums_by_place f g (x ∷ xs) [] d e each same = absurd (omega (arith, each))
sums_by_place f g (x ∷ xs) (y ∷ ys) d e each same =
    let here : f x ≡ g y = same 0 (omega arith) in
    let rest : int_sum f xs ≡ int_sum g ys = sums_by_place f g xs ys d e (omega (arith, each)) (λ i h. same (suc i) (omega (arith, h))) in
    ap (λ v. v +ℤ int_sum f xs) here ∙ ap (λ v. g y +ℤ v) rest

-- one element is another
pub sum_set : {A : Type 0} (f : A → ℤ) (xs : List A) (k : ℕ) (y d : A) → k < length xs → int_sum f (set xs k y) ≡ (int_sum f xs -ℤ f (get_or xs k d)) +ℤ f y
sum_set f [] k y d below = absurd (omega (arith, below))
sum_set f (x ∷ xs) zero y d below = one (f x) (f y) (int_sum f xs)
  where
    one : (a b s : ℤ) → b +ℤ s ≡ ((a +ℤ s) -ℤ a) +ℤ b
    one a b s = omega (arith, ints)
sum_set f (x ∷ xs) (suc k) y d below = more (f x) (int_sum f (set xs k y)) (int_sum f xs) (f (get_or xs k d)) (f y) (sum_set f xs k y d (omega (arith, below)))
  where
    more : (a s t u v : ℤ) → s ≡ (t -ℤ u) +ℤ v → a +ℤ s ≡ ((a +ℤ t) -ℤ u) +ℤ v
    more a s t u v h = omega (arith, ints, h)

-- a sum of numbers up to 2 ^ 61
pub sum_bound : {A : Type 0} (f : A → ℤ) (xs : List A) (d : A) → ((k : ℕ) → k < length xs → unsigned_abs (f (get_or xs k d)) ≤ 2305843009213693952) → unsigned_abs (int_sum f xs) ≤ 2305843009213693952 * length xs
sum_bound f [] d small = omega (arith, ints)
sum_bound f (x ∷ xs) d small =
    let rest = sum_bound f xs d (λ k h. small (suc k) (omega (arith, h))) in
    let one : unsigned_abs (f x) ≤ 2305843009213693952 = small 0 (omega arith) in
    let sum = abs_sum (f x) (int_sum f xs) 2305843009213693952 (2305843009213693952 * length xs) one rest in
    omega (arith, sum)
