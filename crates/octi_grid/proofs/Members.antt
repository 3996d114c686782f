-- What is in lists, and tests of all or some of it.
use Rattle.std.proofs.Common.{◌≡◌, Bool, true, false, List, [], ◌∷◌, ◌++◌, sym, refl, ap, subst, ◌∙◌, ◌⊎◌, inl, inr}
use Rattle.std.proofs.lemmas.Bool.{and_parts, and_from, or_cases, or_left, or_right, false≢true, false_from_ne_true}
use Rattle.std.proofs.lemmas.Bool.Decides.{Decides-int_eq}
use Rattle.std.specs.List.{list_all, list_any, flat_map}
use Rattle.std.specs.Ordering.{int_eq}
use Rattle.octi_grid.specs.declared.point.GridPoint.{GridPoint}
use Rattle.octi_grid.specs.Ways.{are_one}
use Rattle.octi_grid.specs.Legal.{is_among}
use Rattle.octi_grid.proofs.WayLemmas.{same_point}

-- it is in the list
abbrev pub In : {X : Type 0} → X → List X → Type 0
In x [] = ⊥
In x (y ∷ ys) = (x ≡ y) ⊎ In x ys

pub all_at : {X : Type 0} (p : X → Bool) (xs : List X) (x : X) → list_all p xs ≡ true → In x xs → p x ≡ true
all_at p [] x e m = absurd m
all_at p (y ∷ ys) x e (inl h) = ap p h ∙ (and_parts _ _ e).0
all_at p (y ∷ ys) x e (inr m) = all_at p ys x (and_parts _ _ e).1 m

pub all_from : {X : Type 0} (p : X → Bool) (xs : List X) → ((x : X) → In x xs → p x ≡ true) → list_all p xs ≡ true
all_from p [] h = refl
all_from p (y ∷ ys) h = and_from _ _ (h y (inl refl)) (all_from p ys (λ x m. h x (inr m)))

pub any_from : {X : Type 0} (p : X → Bool) (xs : List X) (x : X) → In x xs → p x ≡ true → list_any p xs ≡ true
any_from p [] x m e = absurd m
any_from p (y ∷ ys) x (inl h) e = or_left _ _ (ap p (sym h) ∙ e)
any_from p (y ∷ ys) x (inr m) e = or_right _ _ (any_from p ys x m e)

pub any_at : {X : Type 0} (p : X → Bool) (xs : List X) → list_any p xs ≡ true → (x : X) × In x xs × (p x ≡ true)
any_at p [] e = absurd (false≢true e)
any_at {X} p (y ∷ ys) e = elim (or_cases _ _ e) [
  | inl h ↦ (y, inl refl, h)
  | inr h ↦ (let found = any_at p ys h in (found.0, inr found.1, found.2))
]

pub in_left : {X : Type 0} (x : X) (xs ys : List X) → In x xs → In x (xs ++ ys)
in_left x [] ys m = absurd m
in_left x (y ∷ xs) ys (inl h) = inl h
in_left x (y ∷ xs) ys (inr m) = inr (in_left x xs ys m)

pub in_right : {X : Type 0} (x : X) (xs ys : List X) → In x ys → In x (xs ++ ys)
in_right x [] ys m = m
in_right x (y ∷ xs) ys m = inr (in_right x xs ys m)

pub in_append : {X : Type 0} (x : X) (xs ys : List X) → In x (xs ++ ys) → In x xs ⊎ In x ys
in_append x [] ys m = inr m
in_append x (y ∷ xs) ys (inl h) = inl (inl h)
in_append x (y ∷ xs) ys (inr m) = elim (in_append x xs ys m) [ inl k ↦ inl (inr k) | inr k ↦ inr k ]

pub in_flat_map : {X Y : Type 0} (f : X → List Y) (xs : List X) (x : X) (y : Y) → In x xs → In y (f x) → In y (flat_map f xs)
in_flat_map f [] x y m n = absurd m
in_flat_map f (z ∷ xs) x y (inl h) n = in_left y (f z) (flat_map f xs) (subst (λ v. In y (f v)) h n)
in_flat_map f (z ∷ xs) x y (inr m) n = in_right y (f z) (flat_map f xs) (in_flat_map f xs x y m n)

pub from_flat_map : {X Y : Type 0} (f : X → List Y) (xs : List X) (y : Y) → In y (flat_map f xs) → (x : X) × In x xs × In y (f x)
from_flat_map f [] y m = absurd m
from_flat_map {X} f (z ∷ xs) y m = elim (in_append y (f z) (flat_map f xs) m) [
  | inl k ↦ (z, inl refl, k)
  | inr k ↦ (let found = from_flat_map f xs y k in (found.0, inr found.1, found.2))
]

-- two tests that hold in the same cases are one
pub same_test : (a b : Bool) → (a ≡ true → b ≡ true) → (b ≡ true → a ≡ true) → a ≡ b
same_test true b f g = sym (f refl)
same_test false true f g = g refl
same_test false false f g = refl

pub false_from : (a : Bool) → (a ≡ true → ⊥) → a ≡ false
false_from a f = false_from_ne_true a f

-- points of one place are one
pub one_point : (p q : GridPoint) → are_one p q ≡ true → p ≡ q
one_point p q e =
    let parts = and_parts (int_eq p.x q.x) (int_eq p.y q.y) e in
    same_point ((Decides-int_eq p.x q.x).0 parts.0) ((Decides-int_eq p.y q.y).0 parts.1)

pub are_one-refl : (p : GridPoint) → are_one p p ≡ true
are_one-refl p = and_from (int_eq p.x p.x) (int_eq p.y p.y) ((Decides-int_eq p.x p.x).1 refl) ((Decides-int_eq p.y p.y).1 refl)

pub are_one_from : (p q : GridPoint) → p ≡ q → are_one p q ≡ true
are_one_from p q e = ap (are_one p) (sym e) ∙ are_one-refl p

pub are_one_sym : (p q : GridPoint) → are_one p q ≡ are_one q p
are_one_sym p q = same_test _ _ (λ e. are_one_from q p (sym (one_point p q e))) (λ e. are_one_from p q (sym (one_point q p e)))

pub among_at : (ps : List GridPoint) (p : GridPoint) → is_among ps p ≡ true → In p ps
among_at [] p e = absurd (false≢true e)
among_at (q ∷ ps) p e = elim (or_cases _ _ e) [ inl h ↦ inl (one_point p q h) | inr h ↦ inr (among_at ps p h) ]

pub among_from : (ps : List GridPoint) (p : GridPoint) → In p ps → is_among ps p ≡ true
among_from ps p m = any_from (are_one p) ps p m (are_one-refl p)

pub not_among : (ps : List GridPoint) (p : GridPoint) → (In p ps → ⊥) → is_among ps p ≡ false
not_among ps p f = false_from _ (λ e. f (among_at ps p e))

pub not_in : (ps : List GridPoint) (p : GridPoint) → is_among ps p ≡ false → In p ps → ⊥
not_in ps p e m = false≢true (sym e ∙ among_from ps p m)

-- lists with the same points
pub same_among : (ps qs : List GridPoint) (p : GridPoint) → (In p ps → In p qs) → (In p qs → In p ps) → is_among ps p ≡ is_among qs p
same_among ps qs p f g = same_test _ _ (λ e. among_from qs p (f (among_at ps p e))) (λ e. among_from ps p (g (among_at qs p e)))
