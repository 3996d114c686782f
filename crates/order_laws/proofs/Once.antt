-- Lists without repeats, made from others, and how long they are.
use Rattle.std.proofs.Common.{◌≡◌, refl, sym, ◌∙◌, ap, subst, ℕ, suc, ◌+◌, ◌*◌, ◌⊎◌, inl, inr, Bool, true, false, cond, not, List, [], ◌∷◌, ◌++◌, length, length-append, map, filter, count_by, flat_map, arith}
use Rattle.std.proofs.lemmas.Bool.{true≢false}
use Rattle.std.proofs.lemmas.List.Sums.{sum_by-append, sum_by-cons}
use Rattle.std.proofs.Math.Nat.{suc-mul}
use Rattle.order_laws.specs.Counts.{AreOnce, IsIn}

-- ---- what is in a list

pub in_left : {X : Type 0} (x : X) (xs ys : List X) → IsIn x xs → IsIn x (xs ++ ys)
in_left x [] ys m = absurd m
in_left x (y ∷ xs) ys (inl e) = inl e
in_left x (y ∷ xs) ys (inr m) = inr (in_left x xs ys m)

pub in_right : {X : Type 0} (x : X) (xs ys : List X) → IsIn x ys → IsIn x (xs ++ ys)
in_right x [] ys m = m
in_right x (y ∷ xs) ys m = inr (in_right x xs ys m)

in_append : {X : Type 0} (x : X) (xs ys : List X) → IsIn x (xs ++ ys) → IsIn x xs ⊎ IsIn x ys
in_append x [] ys m = inr m
in_append x (y ∷ xs) ys (inl e) = inl (inl e)
in_append x (y ∷ xs) ys (inr m) = elim (in_append x xs ys m) [
  | inl h ↦ inl (inr h)
  | inr h ↦ inr h
]

pub in_map : {X Y : Type 0} (f : X → Y) (xs : List X) (x : X) → IsIn x xs → IsIn (f x) (map f xs)
in_map f [] x m = absurd m
in_map f (y ∷ xs) x (inl e) = inl (ap f e)
in_map f (y ∷ xs) x (inr m) = inr (in_map f xs x m)

pub from_map : {X Y : Type 0} (f : X → Y) (xs : List X) (y : Y) → IsIn y (map f xs) → (x : X) × IsIn x xs × (y ≡ f x)
from_map f [] y m = absurd m
from_map f (x ∷ xs) y (inl e) = (x, inl refl, e)
from_map f (x ∷ xs) y (inr m) = let rest = from_map f xs y m in (rest.0, inr rest.1, rest.2)

pub in_flat : {X Y : Type 0} (f : X → List Y) (xs : List X) (x : X) (y : Y) → IsIn x xs → IsIn y (f x) → IsIn y (flat_map f xs)
in_flat f [] x y m n = absurd m
in_flat f (z ∷ xs) x y (inl e) n = in_left y (f z) (flat_map f xs) (subst (λ v. IsIn y (f v)) e n)
in_flat f (z ∷ xs) x y (inr m) n = in_right y (f z) (flat_map f xs) (in_flat f xs x y m n)

pub from_flat : {X Y : Type 0} (f : X → List Y) (xs : List X) (y : Y) → IsIn y (flat_map f xs) → (x : X) × IsIn x xs × IsIn y (f x)
from_flat f [] y m = absurd m
from_flat f (x ∷ xs) y m = elim (in_append y (f x) (flat_map f xs) m) [
  | inl h ↦ (x, inl refl, h)
  | inr h ↦ (let rest = from_flat f xs y h in (rest.0, inr rest.1, rest.2))
]

pub in_kept : {X : Type 0} (p : X → Bool) (xs : List X) (x : X) → IsIn x xs → p x ≡ true → IsIn x (filter p xs)
in_kept p [] x m h = absurd m
in_kept {X} p (y ∷ xs) x m h = by (p y) refl m (λ later. in_kept p xs x later h)
  where
    by : (b : Bool) → p y ≡ b → (x ≡ y) ⊎ IsIn x xs → (IsIn x xs → IsIn x (filter p xs)) → IsIn x (cond b (y ∷ filter p xs) (filter p xs))
    by true e (inl here) rest = inl here
    by true e (inr later) rest = inr (rest later)
    by false e (inl here) rest = absurd (true≢false (sym h ∙ ap p here ∙ e))
    by false e (inr later) rest = rest later

pub from_kept : {X : Type 0} (p : X → Bool) (xs : List X) (x : X) → IsIn x (filter p xs) → IsIn x xs × (p x ≡ true)
from_kept p [] x m = absurd m
from_kept {X} p (y ∷ xs) x m = by (p y) refl m (λ n. let rest = from_kept p xs x n in (inr rest.0, rest.1))
  where
    by : (b : Bool) → p y ≡ b → IsIn x (cond b (y ∷ filter p xs) (filter p xs)) → (IsIn x (filter p xs) → IsIn x (y ∷ xs) × (p x ≡ true)) → IsIn x (y ∷ xs) × (p x ≡ true)
    by true e (inl here) later = (inl here, ap p here ∙ e)
    by true e (inr n) later = later n
    by false e n later = later n

-- ---- nothing twice

once_append : {X : Type 0} (xs ys : List X) → AreOnce xs → AreOnce ys → ((x : X) → IsIn x xs → IsIn x ys → ⊥) → AreOnce (xs ++ ys)
once_append [] ys a b apart = b
once_append (x ∷ xs) ys a b apart = (
  (λ m. elim (in_append x xs ys m) [
    | inl h ↦ a.0 h
    | inr h ↦ apart x (inl refl) h
  ]),
  once_append xs ys a.1 b (λ y m n. apart y (inr m) n),
)

pub once_map : {X Y : Type 0} (f : X → Y) (xs : List X) → ((x z : X) → f x ≡ f z → x ≡ z) → AreOnce xs → AreOnce (map f xs)
once_map f [] tells a = tt
once_map {X} f (x ∷ xs) tells a =
    ((λ m. let other = from_map f xs (f x) m in a.0 (subst (λ (v : X). IsIn v xs) (sym (tells x other.0 other.2)) other.1)), once_map f xs tells a.1)

pub once_flat : {X Y : Type 0} (f : X → List Y) (xs : List X) → AreOnce xs → ((x : X) → IsIn x xs → AreOnce (f x))
    → ((x z : X) (y : Y) → IsIn y (f x) → IsIn y (f z) → x ≡ z) → AreOnce (flat_map f xs)
once_flat f [] a each tells = tt
once_flat {X} f (x ∷ xs) a each tells =
    once_append (f x) (flat_map f xs) (each x (inl refl)) (once_flat f xs a.1 (λ z m. each z (inr m)) tells)
    (λ y m n. let other = from_flat f xs y n in a.0 (subst (λ (v : X). IsIn v xs) (sym (tells x other.0 y m other.2)) other.1))

pub once_kept : {X : Type 0} (p : X → Bool) (xs : List X) → AreOnce xs → AreOnce (filter p xs)
once_kept p [] a = tt
once_kept {X} p (x ∷ xs) a = by (p x) (once_kept p xs a.1)
  where
    by : (b : Bool) → AreOnce (filter p xs) → AreOnce (cond b (x ∷ filter p xs) (filter p xs))
    by true rest = ((λ m. a.0 (from_kept p xs x m).0), rest)
    by false rest = rest

-- ---- how many

pub length_flat : {X Y : Type 0} (f : X → List Y) (c : ℕ) (xs : List X) → ((x : X) → IsIn x xs → length (f x) ≡ c) → length (flat_map f xs) ≡ length xs * c
length_flat f c [] each = omega arith
length_flat f c (x ∷ xs) each =
    let rest : length (flat_map f xs) ≡ length xs * c = length_flat f c xs (λ z m. each z (inr m)) in
    let whole = length-append (f x) (flat_map f xs) in
    let here : length (f x) ≡ c = each x (inl refl) in
    let more = suc-mul (length xs) c in
    omega (arith, whole, rest, here, more)

pub count_flat : {X Y : Type 0} (p : Y → Bool) (f : X → List Y) (c : ℕ) (xs : List X) → ((x : X) → IsIn x xs → count_by p (f x) ≡ c) → count_by p (flat_map f xs) ≡ length xs * c
count_flat p f c [] each = omega arith
count_flat p f c (x ∷ xs) each =
    let rest : count_by p (flat_map f xs) ≡ length xs * c = count_flat p f c xs (λ z m. each z (inr m)) in
    let whole : count_by p (f x ++ flat_map f xs) ≡ count_by p (f x) + count_by p (flat_map f xs) = sum_by-append (λ y. cond (p y) 1 0) (f x) (flat_map f xs) in
    let here : count_by p (f x) ≡ c = each x (inl refl) in
    let more = suc-mul (length xs) c in
    omega (arith, whole, rest, here, more)

pub count_cons : {X : Type 0} (p : X → Bool) (x : X) (xs : List X) → count_by p (x ∷ xs) ≡ cond (p x) 1 0 + count_by p xs
count_cons p x xs = sum_by-cons (λ y. cond (p y) 1 0) x xs

pub count_map : {X Y : Type 0} (p : Y → Bool) (f : X → Y) (xs : List X) → count_by p (map f xs) ≡ count_by (λ x. p (f x)) xs
count_map p f [] = refl
count_map p f (x ∷ xs) = omega (arith, count_cons p (f x) (map f xs), count_cons (λ y. p (f y)) x xs, count_map p f xs)

-- tests that are the same count as many
pub count_same : {X : Type 0} (p q : X → Bool) (xs : List X) → ((x : X) → p x ≡ q x) → count_by p xs ≡ count_by q xs
count_same p q [] same = refl
count_same p q (x ∷ xs) same =
    let one : ◌≡◌ {A = ℕ} (cond (p x) 1 0) (cond (q x) 1 0) = ap (λ (b : Bool). cond {A = ℕ} b 1 0) (same x) in
    omega (arith, count_cons p x xs, count_cons q x xs, one, count_same p q xs same)

-- what a test doesn't keep
pub length_rest : {X : Type 0} (p : X → Bool) (xs : List X) → length (filter (λ x. not (p x)) xs) + count_by p xs ≡ length xs
length_rest p [] = refl
length_rest {X} p (x ∷ xs) = by (p x) (count_cons p x xs) (length_rest p xs)
  where
    by : (b : Bool) → count_by p (x ∷ xs) ≡ cond b 1 0 + count_by p xs → length (filter (λ y. not (p y)) xs) + count_by p xs ≡ length xs
        → length (cond (not b) (x ∷ filter (λ y. not (p y)) xs) (filter (λ y. not (p y)) xs)) + count_by p (x ∷ xs) ≡ suc (length xs)
    by true whole rest = omega (arith, rest, whole)
    by false whole rest = omega (arith, rest, whole)
