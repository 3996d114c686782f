-- A list that is mapped in place, one element after another.
use Rattle.std.proofs.Common.{◌≡◌, ℕ, zero, suc, ◌+◌, ◌<◌, ◌≤◌, List, [], ◌∷◌, ◌++◌, length, map, take, drop, get_or, refl, sym, ap, subst, ◌∙◌, arith, add-one}
use Rattle.std.proofs.Math.ListN.{set}
use Rattle.std.specs.List.{All}
use Rattle.std.proofs.lemmas.List.Elements.{All-head, All-tail}

-- the elements before i are mapped
abbrev pub mapped_to : {A : Type 0} → (A → A) → List A → ℕ → List A
mapped_to f xs i = map f (take i xs) ++ drop i xs

pub mapped_next : {A : Type 0} (f : A → A) (xs : List A) (i : ℕ) (d : A) → i < length xs → get_or (mapped_to f xs i) i d ≡ get_or xs i d
mapped_next f [] i d h = absurd (omega (arith, h))
mapped_next f (x ∷ xs) zero d h = refl
mapped_next f (x ∷ xs) (suc i) d h = mapped_next f xs i d (omega (arith, h))

pub mapped_all : {A : Type 0} (f : A → A) (xs : List A) (i : ℕ) → length xs ≤ i → mapped_to f xs i ≡ map f xs
mapped_all f [] zero h = refl
mapped_all f [] (suc i) h = refl
mapped_all f (x ∷ xs) zero h = absurd (omega (arith, h))
mapped_all f (x ∷ xs) (suc i) h = ap (λ ys. f x ∷ ys) (mapped_all f xs i (omega (arith, h)))

pub length_mapped : {A : Type 0} (f : A → A) (xs : List A) (i : ℕ) → length (mapped_to f xs i) ≡ length xs
length_mapped f [] zero = refl
length_mapped f [] (suc i) = refl
length_mapped f (x ∷ xs) zero = refl
length_mapped f (x ∷ xs) (suc i) = ap suc (length_mapped f xs i)

pub mapped_set : {A : Type 0} (f : A → A) (xs : List A) (i : ℕ) (d : A) → i < length xs → set (mapped_to f xs i) i (f (get_or xs i d)) ≡ mapped_to f xs (i + 1)
mapped_set f [] i d h = absurd (omega (arith, h))
mapped_set f (x ∷ xs) zero d h = refl
mapped_set f (x ∷ xs) (suc i) d h = rw (add-one (suc i)) (ap (λ ys. f x ∷ ys) (mapped_set f xs i d (omega (arith, h)) ∙ rw (add-one i) refl))

pub all_at : {A : Type 0} (P : A → Type 0) (xs : List A) (i : ℕ) (d : A) → All P xs → i < length xs → P (get_or xs i d)
all_at P [] i d all h = absurd (omega (arith, h))
all_at P (x ∷ xs) zero d all h = All-head P x xs all
all_at P (x ∷ xs) (suc i) d all h = all_at P xs i d (All-tail P x xs all) (omega (arith, h))

-- one step of a loop that maps in place
pub mapped_step : {A : Type 0} (f : A → A) (xs ys : List A) (i : ℕ) (r d : A) → i < length xs → ys ≡ mapped_to f xs i → r ≡ f (get_or ys i d) → set ys i r ≡ mapped_to f xs (i + 1)
mapped_step f xs ys i r d h e g =
    ap (λ y. set ys i y) (g ∙ ap f (ap (λ zs. get_or zs i d) e ∙ mapped_next f xs i d h)) ∙ (ap (λ zs. set zs i (f (get_or xs i d))) e ∙ mapped_set f xs i d h)

-- what all elements are, the next one is
pub mapped_fact : {A : Type 0} (P : A → Type 0) (f : A → A) (xs ys : List A) (i : ℕ) (d : A) → i < length xs → ys ≡ mapped_to f xs i → All P xs → P (get_or ys i d)
mapped_fact P f xs ys i d h e all = subst P (sym (ap (λ zs. get_or zs i d) e ∙ mapped_next f xs i d h)) (all_at P xs i d all h)
