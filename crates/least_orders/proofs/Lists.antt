-- What lists have, and what each of their elements passes.
use Rattle.std.proofs.Common.{◌≡◌, Bool, true, false, ◌&&◌, cond, List, [], ◌∷◌, ◌++◌, map, filter, refl, sym, ◌∙◌, ap, subst, ◌⊎◌, inl, inr, true≢false}
use Rattle.std.specs.List.{AllByRecursion, flat_map, list_all}
use Rattle.std.proofs.lemmas.Bool.{and_parts, and_from}

-- x is one of these
abbrev pub Among : {A : Type 0} → A → List A → Type 0
Among x [] = ⊥
Among x (y ∷ ys) = (x ≡ y) ⊎ Among x ys

pub each_at : {A : Type 0} (P : A → Type 0) (xs : List A) (x : A) → AllByRecursion P xs → Among x xs → P x
each_at P [] x h k = absurd k
each_at P (y ∷ xs) x h (inl is) = subst P (sym is) h.0
each_at P (y ∷ xs) x h (inr later) = each_at P xs x h.1 later

pub each_among : {A : Type 0} (P : A → Type 0) (xs : List A) → ((x : A) → Among x xs → P x) → AllByRecursion P xs
each_among P [] f = tt
each_among P (x ∷ xs) f = (f x (inl refl), each_among P xs (λ y h. f y (inr h)))

pub each_weaker : {A : Type 0} (P Q : A → Type 0) (xs : List A) → ((x : A) → P x → Q x) → AllByRecursion P xs → AllByRecursion Q xs
each_weaker P Q [] f h = tt
each_weaker P Q (x ∷ xs) f h = (f x h.0, each_weaker P Q xs f h.1)

pub each_append : {A : Type 0} (P : A → Type 0) (xs ys : List A) → AllByRecursion P xs → AllByRecursion P ys → AllByRecursion P (xs ++ ys)
each_append P [] ys h k = k
each_append P (x ∷ xs) ys h k = (h.0, each_append P xs ys h.1 k)

pub each_map : {A B : Type 0} (P : B → Type 0) (f : A → B) (xs : List A) → AllByRecursion (λ x. P (f x)) xs → AllByRecursion P (map f xs)
each_map P f [] h = tt
each_map P f (x ∷ xs) h = (h.0, each_map P f xs h.1)

pub each_flat_map : {A B : Type 0} (P : B → Type 0) (g : A → List B) (xs : List A) → AllByRecursion (λ x. AllByRecursion P (g x)) xs → AllByRecursion P (flat_map g xs)
each_flat_map P g [] h = tt
each_flat_map P g (x ∷ xs) h = each_append P (g x) (flat_map g xs) h.0 (each_flat_map P g xs h.1)

pub each_filter : {A : Type 0} (P : A → Type 0) (p : A → Bool) (xs : List A) → AllByRecursion P xs → AllByRecursion P (filter p xs)
each_filter P p [] h = tt
each_filter P p (x ∷ xs) h = by_test (p x) (each_filter P p xs h.1)
  where
    by_test : (b : Bool) → AllByRecursion P (filter p xs) → AllByRecursion P (cond b (x ∷ filter p xs) (filter p xs))
    by_test true rest = (h.0, rest)
    by_test false rest = rest

pub among_append_left : {A : Type 0} (x : A) (xs ys : List A) → Among x xs → Among x (xs ++ ys)
among_append_left x [] ys h = absurd h
among_append_left x (y ∷ xs) ys (inl is) = inl is
among_append_left x (y ∷ xs) ys (inr later) = inr (among_append_left x xs ys later)

pub among_append_right : {A : Type 0} (x : A) (xs ys : List A) → Among x ys → Among x (xs ++ ys)
among_append_right x [] ys h = h
among_append_right x (y ∷ xs) ys h = inr (among_append_right x xs ys h)

pub among_map : {A B : Type 0} (f : A → B) (x : A) (xs : List A) → Among x xs → Among (f x) (map f xs)
among_map f x [] h = absurd h
among_map f x (y ∷ xs) (inl is) = inl (ap f is)
among_map f x (y ∷ xs) (inr later) = inr (among_map f x xs later)

pub among_flat_map : {A B : Type 0} (g : A → List B) (x : A) (y : B) (xs : List A) → Among x xs → Among y (g x) → Among y (flat_map g xs)
among_flat_map g x y [] h k = absurd h
among_flat_map g x y (z ∷ xs) (inl is) k = among_append_left y (g z) (flat_map g xs) (subst (λ u. Among y (g u)) is k)
among_flat_map g x y (z ∷ xs) (inr later) k = among_append_right y (g z) (flat_map g xs) (among_flat_map g x y xs later k)

pub among_filter : {A : Type 0} (p : A → Bool) (x : A) (xs : List A) → Among x xs → p x ≡ true → Among x (filter p xs)
among_filter p x [] h k = absurd h
among_filter p x (y ∷ xs) h k = by_test (p y) refl h (λ later. among_filter p x xs later k)
  where
    by_test : (b : Bool) → p y ≡ b → (x ≡ y) ⊎ Among x xs → (Among x xs → Among x (filter p xs)) → Among x (cond b (y ∷ filter p xs) (filter p xs))
    by_test true e (inl is) rest = inl is
    by_test true e (inr later) rest = inr (rest later)
    by_test false e (inl is) rest = absurd (true≢false (sym k ∙ (ap p is ∙ e)))
    by_test false e (inr later) rest = rest later

-- filters by tests that agree on each element
pub filter_same : {A : Type 0} (p q : A → Bool) (xs : List A) → AllByRecursion (λ x. p x ≡ q x) xs → filter p xs ≡ filter q xs
filter_same p q [] h = refl
filter_same p q (x ∷ xs) h = ap (λ b. cond b (x ∷ filter p xs) (filter p xs)) h.0 ∙ ap (λ l. cond (q x) (x ∷ l) l) (filter_same p q xs h.1)

pub all_at : {A : Type 0} (p : A → Bool) (xs : List A) (x : A) → list_all p xs ≡ true → Among x xs → p x ≡ true
all_at p [] x h k = absurd k
all_at p (y ∷ xs) x h (inl is) = ap p is ∙ (and_parts (p y) (list_all p xs) h).0
all_at p (y ∷ xs) x h (inr later) = all_at p xs x (and_parts (p y) (list_all p xs) h).1 later

pub all_from : {A : Type 0} (p : A → Bool) (xs : List A) → ((x : A) → Among x xs → p x ≡ true) → list_all p xs ≡ true
all_from p [] f = refl
all_from p (x ∷ xs) f = and_from (p x) (list_all p xs) (f x (inl refl)) (all_from p xs (λ y h. f y (inr h)))

-- tests that pass together
pub same_test : (a b : Bool) → (a ≡ true → b ≡ true) → (b ≡ true → a ≡ true) → a ≡ b
same_test true b f g = sym (f refl)
same_test false true f g = g refl
same_test false false f g = refl
