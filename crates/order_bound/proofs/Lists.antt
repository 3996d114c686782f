-- What each element of a list passes.
use Rattle.std.proofs.Common.{◌≡◌, Bool, true, false, not, cond, ◌||◌, List, [], ◌∷◌, ◌++◌, map, filter, refl, sym, ◌∙◌, ◌⊎◌, inl, inr, true≢false}
use Rattle.std.specs.List.{AllByRecursion, list_any}
use Rattle.std.proofs.lemmas.Bool.{or_left, or_right, or_cases}

pub each_weaker : {A : Type 0} (P Q : A → Type 0) (xs : List A) → ((x : A) → P x → Q x) → AllByRecursion P xs → AllByRecursion Q xs
each_weaker P Q [] f h = tt
each_weaker P Q (x ∷ xs) f h = (f x h.0, each_weaker P Q xs f h.1)

pub each_append : {A : Type 0} (P : A → Type 0) (xs ys : List A) → AllByRecursion P xs → AllByRecursion P ys → AllByRecursion P (xs ++ ys)
each_append P [] ys h k = k
each_append P (x ∷ xs) ys h k = (h.0, each_append P xs ys h.1 k)

pub each_both : {A : Type 0} (P Q : A → Type 0) (xs : List A) → AllByRecursion P xs → AllByRecursion Q xs → AllByRecursion (λ x. P x × Q x) xs
each_both P Q [] h k = tt
each_both P Q (x ∷ xs) h k = ((h.0, k.0), each_both P Q xs h.1 k.1)

pub each_map : {A B : Type 0} (P : B → Type 0) (f : A → B) (xs : List A) → AllByRecursion (λ x. P (f x)) xs → AllByRecursion P (map f xs)
each_map P f [] h = tt
each_map P f (x ∷ xs) h = (h.0, each_map P f xs h.1)

pub each_of : {A : Type 0} (P : A → Type 0) (xs : List A) → ((x : A) → P x) → AllByRecursion P xs
each_of P [] f = tt
each_of P (x ∷ xs) f = (f x, each_of P xs f)

pub filter_passes : {A : Type 0} (p : A → Bool) (xs : List A) → AllByRecursion (λ x. p x ≡ true) (filter p xs)
filter_passes p [] = tt
filter_passes p (x ∷ xs) = by_test (p x) refl (filter_passes p xs)
  where
    by_test : (b : Bool) → p x ≡ b → AllByRecursion (λ x. p x ≡ true) (filter p xs) → AllByRecursion (λ x. p x ≡ true) (cond b (x ∷ filter p xs) (filter p xs))
    by_test true e rest = (e, rest)
    by_test false e rest = rest

pub each_filter : {A : Type 0} (P : A → Type 0) (p : A → Bool) (xs : List A) → AllByRecursion P xs → AllByRecursion P (filter p xs)
each_filter P p [] h = tt
each_filter P p (x ∷ xs) h = by_test (p x) (each_filter P p xs h.1)
  where
    by_test : (b : Bool) → AllByRecursion P (filter p xs) → AllByRecursion P (cond b (x ∷ filter p xs) (filter p xs))
    by_test true rest = (h.0, rest)
    by_test false rest = rest

-- what one of those that are kept passes, one of all passes
pub any_filter : {A : Type 0} (p q : A → Bool) (xs : List A) → list_any q (filter p xs) ≡ true → list_any q xs ≡ true
any_filter p q [] h = h
any_filter p q (x ∷ xs) h = by_test (p x) h (λ k. any_filter p q xs k)
  where
    by_test : (b : Bool) → list_any q (cond b (x ∷ filter p xs) (filter p xs)) ≡ true → (list_any q (filter p xs) ≡ true → list_any q xs ≡ true) → (q x || list_any q xs) ≡ true
    by_test true h rest = elim (or_cases (q x) (list_any q (filter p xs)) h) [ inl here ↦ or_left (q x) (list_any q xs) here | inr later ↦ or_right (q x) (list_any q xs) (rest later) ]
    by_test false h rest = or_right (q x) (list_any q xs) (rest h)

-- a test that no element passes
pub none_pass : {A : Type 0} (p : A → Bool) (xs : List A) → AllByRecursion (λ x. p x ≡ false) xs → list_any p xs ≡ true → ⊥
none_pass p [] h e = true≢false (sym e)
none_pass p (x ∷ xs) h e = elim (or_cases (p x) (list_any p xs) e) [ inl here ↦ true≢false (sym here ∙ h.0) | inr later ↦ none_pass p xs h.1 later ]

pub not_passes : (b : Bool) → not b ≡ true → b ≡ false
not_passes true h = sym h
not_passes false h = refl

pub is_false : (b : Bool) → (b ≡ true → ⊥) → b ≡ false
is_false true h = absurd (h refl)
is_false false h = refl

-- x is one of these
abbrev pub Among : {A : Type 0} → A → List A → Type 0
Among x [] = ⊥
Among x (y ∷ ys) = (x ≡ y) ⊎ Among x ys

pub each_among : {A : Type 0} (P : A → Type 0) (xs : List A) → ((x : A) → Among x xs → P x) → AllByRecursion P xs
each_among P [] f = tt
each_among P (x ∷ xs) f = (f x (inl refl), each_among P xs (λ y h. f y (inr h)))
