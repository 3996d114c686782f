-- Elements of lists, and tests that some element passes.
use Rattle.std.proofs.Common.{◌≡◌, ℕ, zero, suc, ◌+◌, ◌<◌, ◌≤◌, Bool, true, false, ◌||◌, List, [], ◌∷◌, ◌++◌, length, map, get_or, refl, ap, ◌∙◌, sym, subst, inl, inr, arith}
use Rattle.std.specs.Prelude.{Contains}
use Rattle.std.specs.List.{flat_map, list_any, range_with_len}
use Rattle.std.proofs.lemmas.Bool.{cases_lt}
use Rattle.std.proofs.lemmas.List.Folds.{list_any_at}

-- ---- elements

pub here : {A : Type 0} (x : A) (xs : List A) → Contains (x ∷ xs) x
here x xs = (0, omega arith, refl)

pub later : {A : Type 0} (x y : A) (xs : List A) → Contains xs y → Contains (x ∷ xs) y
later x y xs at = (suc at.0, omega (arith, at.1), at.2)

pub in_first : {A : Type 0} (xs ys : List A) (x : A) → Contains xs x → Contains (xs ++ ys) x
in_first [] ys x at = absurd (omega (arith, at.1))
in_first (y ∷ xs) ys x at = by_place (in_first xs ys x) at.0 at.1 at.2
  where
    by_place : (Contains xs x → Contains (xs ++ ys) x) → (k : ℕ) → k < length (y ∷ xs) → get_or (y ∷ xs) k x ≡ x → Contains (y ∷ (xs ++ ys)) x
    by_place rest zero low e = (0, omega arith, e)
    by_place rest (suc k) low e = later y x (xs ++ ys) (rest (k, omega (arith, low), e))

pub in_second : {A : Type 0} (xs ys : List A) (x : A) → Contains ys x → Contains (xs ++ ys) x
in_second [] ys x at = at
in_second (y ∷ xs) ys x at = later y x (xs ++ ys) (in_second xs ys x at)

pub in_map : {A B : Type 0} (f : A → B) (xs : List A) (x : A) → Contains xs x → Contains (map f xs) (f x)
in_map f [] x at = absurd (omega (arith, at.1))
in_map f (y ∷ xs) x at = by_place (in_map f xs x) at.0 at.1 at.2
  where
    by_place : (Contains xs x → Contains (map f xs) (f x)) → (k : ℕ) → k < length (y ∷ xs) → get_or (y ∷ xs) k x ≡ x → Contains (f y ∷ map f xs) (f x)
    by_place rest zero low e = (0, omega arith, ap f e)
    by_place rest (suc k) low e = later (f y) (f x) (map f xs) (rest (k, omega (arith, low), e))

pub in_flat : {A B : Type 0} (f : A → List B) (xs : List A) (x : A) (b : B) → Contains xs x → Contains (f x) b → Contains (flat_map f xs) b
in_flat f [] x b at is = absurd (omega (arith, at.1))
in_flat f (y ∷ xs) x b at is = by_place (λ there. in_flat f xs x b there is) at.0 at.1 at.2
  where
    by_place : (Contains xs x → Contains (flat_map f xs) b) → (k : ℕ) → k < length (y ∷ xs) → get_or (y ∷ xs) k x ≡ x → Contains (f y ++ flat_map f xs) b
    by_place rest zero low e = in_first (f y) (flat_map f xs) b (subst (λ z. Contains (f z) b) (sym e) is)
    by_place rest (suc k) low e = in_second (f y) (flat_map f xs) b (rest (k, omega (arith, low), e))

pub in_range : (from count z : ℕ) → from ≤ z → z < from + count → Contains (range_with_len from count) z
in_range from zero z low high = absurd (omega arith)
in_range from (suc count) z low high =
    elim (cases_lt from z) [
      | inl h ↦ later from z (range_with_len (from + 1) count) (in_range (from + 1) count z (omega arith) (omega arith))
      | inr h ↦ (let same : from ≡ z = omega arith in subst (λ (n : ℕ). Contains (from ∷ range_with_len (from + 1) count) n) same (here from (range_with_len (from + 1) count)))
    ]

-- ---- tests

pub any_from : {A : Type 0} (p : A → Bool) (xs : List A) (x : A) → Contains xs x → p x ≡ true → list_any p xs ≡ true
any_from p xs x at h = list_any_at p xs at.0 x at.1 (ap p at.2 ∙ h)

-- an element that passes
pub record Passes {A : Type 0} (p : A → Bool) (xs : List A) : Type 0 where
  pub one : A
  pub known : Contains xs one
  pub passes : p one ≡ true

pub any_some : {A : Type 0} (p : A → Bool) (xs : List A) → list_any p xs ≡ true → Passes p xs
any_some p [] e = absurd cc
any_some {A} p (x ∷ xs) e = by_test (any_some p xs) (p x) refl e
  where
    by_test : (list_any p xs ≡ true → Passes p xs) → (b : Bool) → p x ≡ b → (b || list_any p xs) ≡ true → Passes p (x ∷ xs)
    by_test others true is f = record { one = x; known = here x xs; passes = is }
    by_test others false is f = let rest = others f in record { one = rest.one; known = later x rest.one xs rest.known; passes = rest.passes }
