-- Members of lists, and lists in which a relation leads from each element to all later ones.
use Rattle.std.proofs.Common.{◌≡◌, ◌≢◌, refl, sym, ◌∙◌, ap, subst, ℕ, zero, suc, ◌+◌, ◌<◌, ◌≤◌, ◌⊎◌, inl, inr, Bool, true, false, cond, not, ltb, ◌||◌, List, [], ◌∷◌, ◌++◌, length, get_or, map, filter, Some, None, unwrap_or, arith}
use Rattle.std.specs.List.{All, Contains, flat_map, list_any, position, position_or_len, range_with_len}
use Rattle.std.specs.List.Sorted.{IsPermutation}
use Rattle.std.proofs.Math.Numerals.{one-add}
use Rattle.std.proofs.lemmas.Bool.{cases_lt}
use Rattle.std.proofs.lemmas.Bool.Decides.{nat_tests}
use Rattle.std.proofs.lemmas.List.Elements.{All-nil, All-cons, All-head, All-tail}
use Rattle.std.proofs.lemmas.List.Sorted.{IsPermutation-refl, IsPermutation-cons, IsPermutation-middle, IsPermutation-sym, IsPermutation-trans}

-- the value stands in the list
abbrev pub In : {X : Type 0} → X → List X → Type 0
In x [] = ⊥
In x (y ∷ ys) = (y ≡ x) ⊎ In x ys

pub in_left : {X : Type 0} (x : X) (xs ys : List X) → In x xs → In x (xs ++ ys)
in_left x [] ys m = absurd m
in_left x (a ∷ xs) ys (inl e) = inl e
in_left x (a ∷ xs) ys (inr m) = inr (in_left x xs ys m)

pub in_right : {X : Type 0} (x : X) (xs ys : List X) → In x ys → In x (xs ++ ys)
in_right x [] ys m = m
in_right x (a ∷ xs) ys m = inr (in_right x xs ys m)

pub from_append : {X : Type 0} (x : X) (xs ys : List X) → In x (xs ++ ys) → In x xs ⊎ In x ys
from_append x [] ys m = inr m
from_append x (a ∷ xs) ys (inl e) = inl (inl e)
from_append {X} x (a ∷ xs) ys (inr m) = by (from_append x xs ys m)
  where
    by : In x xs ⊎ In x ys → ((a ≡ x) ⊎ In x xs) ⊎ In x ys
    by (inl k) = inl (inr k)
    by (inr k) = inr k

pub in_map : {X Y : Type 0} (f : X → Y) (x : X) (xs : List X) → In x xs → In (f x) (map f xs)
in_map f x [] m = absurd m
in_map f x (a ∷ xs) (inl e) = inl (ap f e)
in_map f x (a ∷ xs) (inr m) = inr (in_map f x xs m)

pub from_map : {X Y : Type 0} (f : X → Y) (y : Y) (xs : List X) → In y (map f xs) → (x : X) × In x xs × (f x ≡ y)
from_map f y [] m = absurd m
from_map f y (a ∷ xs) (inl e) = (a, inl refl, e)
from_map f y (a ∷ xs) (inr m) =
    let r = from_map f y xs m in
    (r.0, inr r.1, r.2)

pub in_filter : {X : Type 0} (p : X → Bool) (x : X) (xs : List X) → In x xs → p x ≡ true → In x (filter p xs)
in_filter p x [] m t = absurd m
in_filter p x (a ∷ xs) (inl e) t = subst (λ (b : Bool). In x (cond b (a ∷ filter p xs) (filter p xs))) (sym (ap p e ∙ t)) (inl e)
in_filter {X} p x (a ∷ xs) (inr m) t = kept (p a) (in_filter p x xs m t)
  where
    kept : (b : Bool) → In x (filter p xs) → In x (cond b (a ∷ filter p xs) (filter p xs))
    kept true k = inr k
    kept false k = k

pub from_filter : {X : Type 0} (p : X → Bool) (x : X) (xs : List X) → In x (filter p xs) → In x xs × (p x ≡ true)
from_filter p x [] m = absurd m
from_filter {X} p x (a ∷ xs) m = by (p a) refl (λ k. from_filter p x xs k) m
  where
    by : (b : Bool) → p a ≡ b → (In x (filter p xs) → In x xs × (p x ≡ true)) → In x (cond b (a ∷ filter p xs) (filter p xs)) → ((a ≡ x) ⊎ In x xs) × (p x ≡ true)
    by true e again (inl s) = (inl s, ap p (sym s) ∙ e)
    by true e again (inr k) = (inr (again k).0, (again k).1)
    by false e again k = (inr (again k).0, (again k).1)

pub in_flat_map : {X Y : Type 0} (f : X → List Y) (x : X) (y : Y) (xs : List X) → In x xs → In y (f x) → In y (flat_map f xs)
in_flat_map f x y [] m k = absurd m
in_flat_map f x y (a ∷ xs) (inl e) k = in_left y (f a) (flat_map f xs) (subst (λ z. In y (f z)) (sym e) k)
in_flat_map f x y (a ∷ xs) (inr m) k = in_right y (f a) (flat_map f xs) (in_flat_map f x y xs m k)

pub from_flat_map : {X Y : Type 0} (f : X → List Y) (y : Y) (xs : List X) → In y (flat_map f xs) → (x : X) × In x xs × In y (f x)
from_flat_map f y [] m = absurd m
from_flat_map {X} {Y} f y (a ∷ xs) m = by (λ k. from_flat_map f y xs k) (from_append y (f a) (flat_map f xs) m)
  where
    by : (In y (flat_map f xs) → (x : X) × In x xs × In y (f x)) → In y (f a) ⊎ In y (flat_map f xs) → (x : X) × ((a ≡ x) ⊎ In x xs) × In y (f x)
    by again (inl k) = (a, inl refl, k)
    by again (inr k) =
        let r = again k in
        (r.0, inr r.1, r.2)

pub in_range : (k a n : ℕ) → a ≤ k → k < a + n → In k (range_with_len a n)
in_range k a zero l h = absurd (omega arith)
in_range k a (suc n) l h = by (cases_lt a k) (λ g. in_range k (a + 1) n g (omega arith))
  where
    by : (a < k) ⊎ (k ≤ a) → (a + 1 ≤ k → In k (range_with_len (a + 1) n)) → (a ≡ k) ⊎ In k (range_with_len (a + 1) n)
    by (inl g) again = inr (again (omega arith))
    by (inr g) again = inl (omega arith)

pub from_range : (k a n : ℕ) → In k (range_with_len a n) → (a ≤ k) × (k < a + n)
from_range k a zero m = absurd m
from_range k a (suc n) (inl e) = (omega arith, omega arith)
from_range k a (suc n) (inr m) =
    let r : (a + 1 ≤ k) × (k < a + 1 + n) = from_range k (a + 1) n m in
    (omega arith, omega arith)

-- Between members and places.

pub in_at : {X : Type 0} (xs : List X) (k : ℕ) (d : X) → k < length xs → In (get_or xs k d) xs
in_at [] k d l = absurd (omega arith)
in_at (x ∷ xs) zero d l = inl refl
in_at (x ∷ xs) (suc k) d l = inr (in_at xs k d (omega arith))

pub place_of : {X : Type 0} (x : X) (xs : List X) → In x xs → (k : ℕ) × (k < length xs) × ((d : X) → get_or xs k d ≡ x)
place_of x [] m = absurd m
place_of x (a ∷ xs) (inl e) = (0, omega arith, λ d. e)
place_of x (a ∷ xs) (inr m) =
    let r = place_of x xs m in
    let l : r.0 < length xs = r.1 in
    (suc r.0, omega arith, r.2)

pub to_contains : {X : Type 0} (x : X) (xs : List X) → In x xs → Contains xs x
to_contains x xs m =
    let r = place_of x xs m in
    (r.0, r.1, r.2 x)

pub all_in : {X : Type 0} (P : X → Type 0) (xs : List X) → ((x : X) → In x xs → P x) → All P xs
all_in P [] each = All-nil P
all_in P (a ∷ xs) each = All-cons P a xs (each a (inl refl)) (all_in P xs (λ x m. each x (inr m)))

pub all_at : {X : Type 0} (P : X → Type 0) (x : X) (xs : List X) → All P xs → In x xs → P x
all_at P x [] all m = absurd m
all_at P x (a ∷ xs) all (inl e) = subst P e (All-head P a xs all)
all_at P x (a ∷ xs) all (inr m) = all_at P x xs (All-tail P a xs all) m

-- what passes a test
pub any_in : {X : Type 0} (p : X → Bool) (x : X) (xs : List X) → In x xs → p x ≡ true → list_any p xs ≡ true
any_in p x [] m t = absurd m
any_in p x (a ∷ xs) (inl e) t = by (p a) (ap p e ∙ t)
  where
    by : (b : Bool) → b ≡ true → (b || list_any p xs) ≡ true
    by true e = refl
    by false e = absurd cc
any_in {X} p x (a ∷ xs) (inr m) t = by (p a) (any_in p x xs m t)
  where
    by : (b : Bool) → list_any p xs ≡ true → (b || list_any p xs) ≡ true
    by true e = refl
    by false e = e

pub from_any : {X : Type 0} (p : X → Bool) (xs : List X) → list_any p xs ≡ true → (x : X) × In x xs × (p x ≡ true)
from_any p [] t = absurd cc
from_any {X} p (a ∷ xs) t = by (p a) refl (λ k. from_any p xs k) t
  where
    by : (b : Bool) → p a ≡ b → (list_any p xs ≡ true → (x : X) × In x xs × (p x ≡ true)) → (b || list_any p xs) ≡ true → (x : X) × ((a ≡ x) ⊎ In x xs) × (p x ≡ true)
    by true e again k = (a, inl refl, e)
    by false e again k =
        let r = again k in
        (r.0, inr r.1, r.2)

-- The first that passes a test.

abbrev pub first_place : {X : Type 0} → (X → Bool) → List X → ℕ
first_place p xs = unwrap_or (position p xs) 0

found : {X : Type 0} (p : X → Bool) (x : X) (xs : List X) → In x xs → p x ≡ true → (position_or_len p xs < length xs) × ((d : X) → p (get_or xs (position_or_len p xs) d) ≡ true)
found p x [] m t = absurd m
found {X} p x (a ∷ xs) m t = by (p a) refl m (λ k. found p x xs k t)
  where
    by : (b : Bool) → p a ≡ b → (a ≡ x) ⊎ In x xs → (In x xs → (position_or_len p xs < length xs) × ((d : X) → p (get_or xs (position_or_len p xs) d) ≡ true))
        → (cond (not b) (1 + position_or_len p xs) 0 < suc (length xs)) × ((d : X) → p (get_or (a ∷ xs) (cond (not b) (1 + position_or_len p xs) 0) d) ≡ true)
    by true e k again = (omega arith, λ d. e)
    by false e (inl s) again = absurd (clash (sym e ∙ ap p s ∙ t))
      where
        clash : false ≡ true → ⊥
        clash e = cc
    by false e (inr k) again =
        let r = again k in
        let l : position_or_len p xs < length xs = r.0 in
        (omega arith, λ d. subst (λ (n : ℕ). p (get_or (a ∷ xs) n d) ≡ true) (sym (one-add (position_or_len p xs))) (r.1 d))

pub first_found : {X : Type 0} (p : X → Bool) (x : X) (xs : List X) → In x xs → p x ≡ true → (first_place p xs < length xs) × ((d : X) → p (get_or xs (first_place p xs) d) ≡ true)
first_found {X} p x xs m t =
    let r = found p x xs m t in
    let same : first_place p xs ≡ position_or_len p xs = place_of_first (position_or_len p xs) (length xs) r.0 in
    (subst (λ (n : ℕ). n < length xs) (sym same) r.0, λ d. subst (λ (n : ℕ). p (get_or xs n d) ≡ true) (sym same) (r.1 d))
  where
    place_of_first : (k n : ℕ) → k < n → unwrap_or (cond (ltb k n) (Some k) None) 0 ≡ k
    place_of_first k n l = ap (λ (t : Bool). unwrap_or (cond t (Some k) None) 0) (low k n l)
      where
        low : (k n : ℕ) → k < n → ltb k n ≡ true
        low k n l = grind (arith, nat_tests)

-- A relation from each element to all later ones.

abbrev pub Follow : {X : Type 0} → (X → X → Type 0) → List X → Type 0
Follow R [] = Unit {0}
Follow {X} R (a ∷ xs) = ((x : X) → In x xs → R a x) × Follow R xs

pub follow_append : {X : Type 0} (R : X → X → Type 0) (xs ys : List X) → Follow R xs → Follow R ys → ((x y : X) → In x xs → In y ys → R x y) → Follow R (xs ++ ys)
follow_append R [] ys u v across = v
follow_append {X} R (a ∷ xs) ys u v across = (λ y m. by y (from_append y xs ys m), follow_append R xs ys u.1 v (λ x y m k. across x y (inr m) k))
  where
    by : (y : X) → In y xs ⊎ In y ys → R a y
    by y (inl k) = u.0 y k
    by y (inr k) = across a y (inl refl) k

pub follow_filter : {X : Type 0} (R : X → X → Type 0) (p : X → Bool) (xs : List X) → Follow R xs → Follow R (filter p xs)
follow_filter R p [] u = tt
follow_filter {X} R p (a ∷ xs) u = by (p a) (follow_filter R p xs u.1)
  where
    by : (b : Bool) → Follow R (filter p xs) → Follow R (cond b (a ∷ filter p xs) (filter p xs))
    by true v = (λ x m. u.0 x (from_filter p x xs m).0, v)
    by false v = v

pub follow_map : {X Y : Type 0} (R : X → X → Type 0) (S : Y → Y → Type 0) (f : X → Y) (xs : List X) → Follow R xs → ((x y : X) → In x xs → In y xs → R x y → S (f x) (f y)) → Follow S (map f xs)
follow_map R S f [] u keep = tt
follow_map {X} {Y} R S f (a ∷ xs) u keep = (λ y m. by y (from_map f y xs m), follow_map R S f xs u.1 (λ x y m k. keep x y (inr m) (inr k)))
  where
    by : (y : Y) → (x : X) × In x xs × (f x ≡ y) → S (f a) y
    by y r = subst (λ z. S (f a) z) r.2 (keep a r.0 (inl refl) (inr r.1) (u.0 r.0 r.1))

pub follow_flat_map : {X Y : Type 0} (R : X → X → Type 0) (S : Y → Y → Type 0) (f : X → List Y) (xs : List X) → Follow R xs → ((x : X) → In x xs → Follow S (f x))
    → ((x y : X) → R x y → (a b : Y) → In a (f x) → In b (f y) → S a b) → Follow S (flat_map f xs)
follow_flat_map R S f [] u each across = tt
follow_flat_map {X} {Y} R S f (c ∷ xs) u each across =
    follow_append S (f c) (flat_map f xs) (each c (inl refl)) (follow_flat_map R S f xs u.1 (λ x m. each x (inr m)) across) (λ a b m k. by a b m (from_flat_map f b xs k))
  where
    by : (a b : Y) → In a (f c) → (x : X) × In x xs × In b (f x) → S a b
    by a b m r = across c r.0 (u.0 r.0 r.1) a b m r.2

pub follow_range : (a n : ℕ) → Follow (λ x y. x < y) (range_with_len a n)
follow_range a zero = tt
follow_range a (suc n) = (λ k m. above k (from_range k (a + 1) n m), follow_range (a + 1) n)
  where
    above : (k : ℕ) → (a + 1 ≤ k) × (k < a + 1 + n) → a < k
    above k r = omega arith

pub follow_weaker : {X : Type 0} (R S : X → X → Type 0) (xs : List X) → ((x y : X) → R x y → S x y) → Follow R xs → Follow S xs
follow_weaker R S [] weaker u = tt
follow_weaker R S (a ∷ xs) weaker u = (λ x m. weaker a x (u.0 x m), follow_weaker R S xs weaker u.1)

pub follow_at : {X : Type 0} (R : X → X → Type 0) (xs : List X) → Follow R xs → (i j : ℕ) (d : X) → i < j → j < length xs → R (get_or xs i d) (get_or xs j d)
follow_at R [] u i j d l h = absurd (omega arith)
follow_at R (a ∷ xs) u i zero d l h = absurd (omega arith)
follow_at R (a ∷ xs) u zero (suc j) d l h = u.0 (get_or xs j d) (in_at xs j d (omega arith))
follow_at R (a ∷ xs) u (suc i) (suc j) d l h = follow_at R xs u.1 i j d (omega arith) (omega arith)

-- No element stands twice.

abbrev pub Apart : {X : Type 0} → List X → Type 0
Apart {X} xs = Follow (λ (x y : X). x ≢ y) xs

pub same_place : {X : Type 0} (xs : List X) → Apart xs → (i j : ℕ) (d : X) → i < length xs → j < length xs → get_or xs i d ≡ get_or xs j d → i ≡ j
same_place {X} xs u i j d l h e = by (cases_lt i j) (cases_lt j i)
  where
    by : (i < j) ⊎ (j ≤ i) → (j < i) ⊎ (i ≤ j) → i ≡ j
    by (inl g) other = absurd (follow_at (λ (x y : X). x ≢ y) xs u i j d g h e)
    by (inr g) (inl k) = absurd (follow_at (λ (x y : X). x ≢ y) xs u j i d k l (sym e))
    by (inr g) (inr k) = omega (arith, g, k)

-- a list is parted at a member
parted : {X : Type 0} (x : X) (ys : List X) → In x ys → (before : List X) × (after : List X) × (ys ≡ before ++ x ∷ after)
parted x [] m = absurd m
parted x (a ∷ ys) (inl e) = ([], ys, ap (λ z. z ∷ ys) e)
parted x (a ∷ ys) (inr m) =
    let r = parted x ys m in
    (a ∷ r.0, r.1, ap (λ zs. a ∷ zs) r.2)

-- without that member it has no element twice either, and the member no more
without : {X : Type 0} (x : X) (before after : List X) → Apart (before ++ x ∷ after) → Apart (before ++ after) × (In x (before ++ after) → ⊥)
without x [] after u = (u.1, λ m. u.0 x m refl)
without {X} x (a ∷ before) after u =
    let r = without x before after u.1 in
    ((λ y m. u.0 y (more y (from_append y before after m)), r.0), λ m. never r.1 m)
  where
    more : (y : X) → In y before ⊎ In y after → In y (before ++ x ∷ after)
    more y (inl k) = in_left y before (x ∷ after) k
    more y (inr k) = in_right y before (x ∷ after) (inr k)

    never : (In x (before ++ after) → ⊥) → (a ≡ x) ⊎ In x (before ++ after) → ⊥
    never none (inl e) = u.0 x (in_right x before (x ∷ after) (inl refl)) e
    never none (inr k) = none k

-- lists of the same elements, each once
pub same_members : {X : Type 0} (xs ys : List X) → Apart xs → Apart ys → ((x : X) → In x xs → In x ys) → ((x : X) → In x ys → In x xs) → IsPermutation xs ys
same_members [] [] u v there back = IsPermutation-refl []
same_members [] (y ∷ ys) u v there back = absurd (back y (inl refl))
same_members {X} (x ∷ xs) ys u v there back =
    let r = parted x ys (there x (inl refl)) in
    let w : Apart (r.0 ++ x ∷ r.1) = subst (λ zs. Apart zs) r.2 v in
    let rest : IsPermutation xs (r.0 ++ r.1) =
    same_members xs (r.0 ++ r.1) u.1 (without x r.0 r.1 w).0
    (λ z m. on_there r.0 r.1 z m (from_append z r.0 (x ∷ r.1) (subst (λ zs. In z zs) r.2 (there z (inr m)))))
    (λ z m. on_back z (λ e. (without x r.0 r.1 w).1 (subst (λ k. In k (r.0 ++ r.1)) (sym e) m)) (back z (subst (λ zs. In z zs) (sym r.2) (wider r.0 r.1 z (from_append z r.0 r.1 m))))) in
    subst (λ zs. IsPermutation (x ∷ xs) zs) (sym r.2)
    (IsPermutation-trans (x ∷ xs) (x ∷ (r.0 ++ r.1)) (r.0 ++ x ∷ r.1) (IsPermutation-cons x xs (r.0 ++ r.1) rest)
    (IsPermutation-sym (r.0 ++ x ∷ r.1) (x ∷ (r.0 ++ r.1)) (IsPermutation-middle r.0 x r.1)))
  where
    on_there : (before after : List X) (z : X) → In z xs → In z before ⊎ ((x ≡ z) ⊎ In z after) → In z (before ++ after)
    on_there before after z m (inl k) = in_left z before after k
    on_there before after z m (inr (inl e)) = absurd (u.0 z m e)
    on_there before after z m (inr (inr k)) = in_right z before after k

    on_back : (z : X) → (x ≡ z → ⊥) → (x ≡ z) ⊎ In z xs → In z xs
    on_back z other (inl e) = absurd (other e)
    on_back z other (inr k) = k

    wider : (before after : List X) (z : X) → In z before ⊎ In z after → In z (before ++ x ∷ after)
    wider before after z (inl k) = in_left z before (x ∷ after) k
    wider before after z (inr k) = in_right z before (x ∷ after) (inr k)
