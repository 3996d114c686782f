-- Counts and sums of a list, one element after another.
use Rattle.std.proofs.Common.{◌≡◌, ℕ, zero, suc, ◌+◌, ◌<◌, ◌≤◌, ◌⊎◌, inl, inr, Bool, true, false, cond, max, List, [], ◌∷◌, Result, Ok, Err, IfErr, filter, fold, get_or, length, take, sum_by, refl, ap, sym, ◌∙◌, arith}
use Rattle.std.proofs.lemmas.Bool.{cases_lt}
use Rattle.std.proofs.lemmas.List.Filters.{length-filter_more}
use Rattle.std.proofs.lemmas.List.Sums.{sum_by_more}

-- one element more, counted where it passes a test
pub count_more : {A : Type 0} (p : A → Bool) (xs : List A) (i : ℕ) (d : A) (before after : ℕ) (b : Bool) → i < length xs → b ≡ p (get_or xs i d) → before ≡ length (filter p (take i xs))
    → after ≡ cond b (before + 1) before → after ≡ length (filter p (take (i + 1) xs))
count_more p xs i d before after b low is all next =
    next ∙ by_test b
    ∙ ap (λ (t : Bool). before + cond t 1 0) is
    ∙ ap (λ (n : ℕ). n + cond (p (get_or xs i d)) 1 0) all
    ∙ sym (length-filter_more p xs i d low)
  where
    by_test : (t : Bool) → cond t (before + 1) before ≡ before + cond t 1 0
    by_test true = refl
    by_test false = omega arith

pub count_small : (before after i : ℕ) (b : Bool) → after ≡ cond b (before + 1) before → before ≤ i → after ≤ i + 1
count_small before after i true next low = omega (arith, next)
count_small before after i false next low = omega (arith, next)

-- one element more of a sum
pub sum_more : {A : Type 0} (f : A → ℕ) (xs : List A) (i : ℕ) (d : A) (base before more after : ℕ) → i < length xs → more ≡ f (get_or xs i d) → before ≡ base + sum_by f (take i xs) → after ≡ before + more
    → after ≡ base + sum_by f (take (i + 1) xs)
sum_more f xs i d base before more after low is all next = omega (arith, sum_by_more f xs i d low, is, all, next)

-- the greatest so far is no greater than the greatest of all
max_grows : {A : Type 0} (f : A → ℕ) (most : ℕ) (xs : List A) → most ≤ fold (λ (m : ℕ) (x : A). max m (f x)) most xs
max_grows f most [] = omega arith
max_grows f most (x ∷ xs) = omega (arith, max_grows f (max most (f x)) xs)

-- and none is
pub max_at : {A : Type 0} (f : A → ℕ) (most : ℕ) (xs : List A) (i : ℕ) (d : A) → i < length xs → f (get_or xs i d) ≤ fold (λ (m : ℕ) (x : A). max m (f x)) most xs
max_at f most [] i d low = absurd (omega (arith, low))
max_at f most (x ∷ xs) zero d low = omega (arith, max_grows f (max most (f x)) xs)
max_at f most (x ∷ xs) (suc i) d low = max_at f (max most (f x)) xs i d (omega (arith, low))

-- a number that is not at most another is above it
pub no_more_below : (a b : ℕ) → (a ≤ b → ⊥) → b < a
no_more_below a b none = of_case (cases_lt b a)
  where
    of_case : (b < a) ⊎ (a ≤ b) → b < a
    of_case (inl above) = above
    of_case (inr below) = absurd (none below)

-- what holds holds of each fault
pub of_fault : {T E : Type 0} (r : Result T E) (P : Type 0) → P → IfErr r (λ (fault : E). P)
of_fault (Ok x) P holds = tt
of_fault (Err fault) P holds = holds
