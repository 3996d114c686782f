-- Tests of some element of a list.
use Rattle.std.proofs.Common.{◌≡◌, ℕ, zero, suc, ◌+◌, ◌<◌, ◌≤◌, Bool, true, false, ◌&&◌, ◌||◌, List, [], ◌∷◌, map, refl, ap, sym, ◌∙◌, inl, inr, arith}
use Rattle.std.specs.List.{list_any, flat_map, range_with_len}
use Rattle.std.proofs.Math.Bool.{and-or_distrib_right}
use Rattle.std.proofs.lemmas.Bool.{or_left, or_right, or_from, or_cases, cases_lt}
use Rattle.std.proofs.lemmas.List.Folds.{list_any-append}

or_mixed : (a b c d : Bool) → ((a || b) || (c || d)) ≡ ((a || c) || (b || d))
or_mixed true b c d = refl
or_mixed false true true d = refl
or_mixed a b c d = refl

pub and_same : (a b c d : Bool) → a ≡ c → b ≡ d → (a && b) ≡ (c && d)
and_same a b c d e f = ap (λ (x : Bool). x && b) e ∙ ap (λ (x : Bool). c && x) f

pub or_same : (a b c d : Bool) → a ≡ c → b ≡ d → (a || b) ≡ (c || d)
or_same a b c d e f = ap (λ (x : Bool). x || b) e ∙ ap (λ (x : Bool). c || x) f

pub any_same : {X : Type 0} (f g : X → Bool) (xs : List X) → ((x : X) → f x ≡ g x) → list_any f xs ≡ list_any g xs
any_same f g [] e = refl
any_same f g (x ∷ xs) e = or_same (f x) (list_any f xs) (g x) (list_any g xs) (e x) (any_same f g xs e)

pub any_or : {X : Type 0} (f g : X → Bool) (xs : List X) → list_any (λ (x : X). f x || g x) xs ≡ (list_any f xs || list_any g xs)
any_or f g [] = refl
any_or f g (x ∷ xs) = ap (λ (b : Bool). (f x || g x) || b) (any_or f g xs) ∙ or_mixed (f x) (g x) (list_any f xs) (list_any g xs)

pub any_never : {X : Type 0} (xs : List X) → list_any (λ (x : X). false) xs ≡ false
any_never [] = refl
any_never (x ∷ xs) = any_never xs

pub any_and : {X : Type 0} (f : X → Bool) (b : Bool) (xs : List X) → list_any (λ (x : X). f x && b) xs ≡ (list_any f xs && b)
any_and f b [] = refl
any_and f b (x ∷ xs) = ap (λ (c : Bool). (f x && b) || c) (any_and f b xs) ∙ sym (and-or_distrib_right (f x) (list_any f xs) b)

pub any_map : {X Y : Type 0} (f : Y → Bool) (g : X → Y) (xs : List X) → list_any f (map g xs) ≡ list_any (λ (x : X). f (g x)) xs
any_map f g [] = refl
any_map f g (x ∷ xs) = ap (λ (b : Bool). f (g x) || b) (any_map f g xs)

pub any_flat : {X Y : Type 0} (f : Y → Bool) (g : X → List Y) (xs : List X) → list_any f (flat_map g xs) ≡ list_any (λ (x : X). list_any f (g x)) xs
any_flat f g [] = refl
any_flat f g (x ∷ xs) = list_any-append f (g x) (flat_map g xs) ∙ ap (λ (b : Bool). list_any f (g x) || b) (any_flat f g xs)

-- a number of a range passes
pub any_in_range : (f : ℕ → Bool) (a n t : ℕ) → a ≤ t → t < a + n → f t ≡ true → list_any f (range_with_len a n) ≡ true
any_in_range f a zero t low high e = absurd (omega arith)
any_in_range f a (suc n) t low high e = elim (cases_lt a t) [
  | inl h ↦ or_right (f a) _ (any_in_range f (a + 1) n t (omega arith) (omega arith) e)
  | inr h ↦ (let same : a ≡ t = omega arith in or_left (f a) _ (ap f same ∙ e))
]

-- no number of a range passes
pub none_in_range : (f : ℕ → Bool) (a n : ℕ) → ((t : ℕ) → a ≤ t → t < a + n → f t ≡ false) → list_any f (range_with_len a n) ≡ false
none_in_range f a zero h = refl
none_in_range f a (suc n) h = or_from (f a) _ (h a (omega arith) (omega arith)) (none_in_range f (a + 1) n (λ t low high. h t (omega arith) (omega arith)))

-- a range has a number that passes
pub some_of_range : (f : ℕ → Bool) (a n : ℕ) → list_any f (range_with_len a n) ≡ true → (t : ℕ) × (t < a + n) × (f t ≡ true)
some_of_range f a zero e = cc
some_of_range f a (suc n) e = elim (or_cases (f a) _ e) [
  | inl h ↦ (a, omega arith, h)
  | inr h ↦ (let r = some_of_range f (a + 1) n h in (r.0, omega (arith, r.1), r.2))
]

-- two tests that agree on a range
pub same_in_range : (f g : ℕ → Bool) (a n : ℕ) → ((t : ℕ) → t < a + n → f t ≡ g t) → list_any f (range_with_len a n) ≡ list_any g (range_with_len a n)
same_in_range f g a zero h = refl
same_in_range f g a (suc n) h = or_same (f a) _ (g a) _ (h a (omega arith)) (same_in_range f g (a + 1) n (λ t high. h t (omega arith)))
