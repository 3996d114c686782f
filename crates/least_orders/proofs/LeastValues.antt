-- Laws of the least value and of the first that has it.
use Rattle.std.proofs.Common.{◌≡◌, Bool, true, false, cond, List, [], ◌∷◌, ◌++◌, map, refl, sym, ◌∙◌, ap, subst, arith, ◌⊎◌, inl, inr, Option, Some, None}
use Rattle.std.specs.Prelude.{ℤ, ◌+ℤ◌, ◌≤ℤ◌, int_lt}
use Rattle.std.specs.Int.{int_min}
use Rattle.std.specs.List.{AllByRecursion}
use Rattle.std.specs.Option.{option_map}
use Rattle.std.proofs.lemmas.Int.{ints}
use Rattle.least_orders.specs.LeastOrders.{lesser_of, least_value, first_of, first_least}
use Rattle.least_orders.proofs.Lists.{Among, each_at}

some_same : {A : Type 0} (a b : A) → Some a ≡ Some b → a ≡ b
some_same a b e = cc

none_some : {A : Type 0} (a : A) → None ≡ Some a → ⊥
none_some a e = cc

min_left : (a b : ℤ) → int_min a b ≤ℤ a
min_left a b = grind (arith, ints)

min_right : (a b : ℤ) → int_min a b ≤ℤ b
min_right a b = grind (arith, ints)

-- among some there is a least
pub some_least : {A : Type 0} (value : A → ℤ) (xs : List A) (x : A) → Among x xs → least_value value xs ≡ None → ⊥
some_least value [] x h e = h
some_least value (y ∷ xs) x h e = none_some (lesser_of (value y) (least_value value xs)) (sym e)

-- the least value is at most each
pub least_below : {A : Type 0} (value : A → ℤ) (xs : List A) (x : A) (v : ℤ) → Among x xs → least_value value xs ≡ Some v → v ≤ℤ value x
least_below value [] x v h e = absurd h
least_below value (y ∷ xs) x v h e = by_rest (least_value value xs) refl h (λ w later is. least_below value xs x w later is) (some_same (lesser_of (value y) (least_value value xs)) v e)
  where
    by_rest : (w : Option ℤ) → least_value value xs ≡ w → (x ≡ y) ⊎ Among x xs → ((w : ℤ) → Among x xs → least_value value xs ≡ Some w → w ≤ℤ value x)
        → lesser_of (value y) w ≡ v → v ≤ℤ value x
    by_rest None is (inl one) rest k = let same = ap value one in omega (arith, ints, k, same)
    by_rest None is (inr later) rest k = absurd (some_least value xs x later is)
    by_rest (Some w) is (inl one) rest k = let same = ap value one in let below = min_left (value y) w in omega (arith, ints, k, same, below)
    by_rest (Some w) is (inr later) rest k = let below = min_right (value y) w in let lower = rest w later is in omega (arith, ints, k, below, lower)

-- it is what the first that has it comes to
pub least_of_first : {A : Type 0} (value : A → ℤ) (xs : List A) → least_value value xs ≡ option_map value (first_least value xs)
least_of_first value [] = refl
least_of_first {A = A} value (x ∷ xs) = ap (λ w. Some (lesser_of (value x) w)) (least_of_first value xs) ∙ by_rest (first_least value xs)
  where
    by_rest : (o : Option A) → Some (lesser_of (value x) (option_map value o)) ≡ Some (value (first_of value x o))
    by_rest None = refl
    by_rest (Some y) = by_test (int_lt (value y) (value x))
      where
        by_test : (b : Bool) → Some (cond b (value y) (value x)) ≡ Some (value (cond b y x))
        by_test true = refl
        by_test false = refl

-- the first that has it is one of them
pub first_among : {A : Type 0} (value : A → ℤ) (xs : List A) (x : A) → first_least value xs ≡ Some x → Among x xs
first_among value [] x e = none_some x e
first_among {A = A} value (y ∷ xs) x e = by_rest (first_least value xs) refl (λ z is. first_among value xs z is) (some_same (first_of value y (first_least value xs)) x e)
  where
    by_rest : (o : Option A) → first_least value xs ≡ o → ((z : A) → first_least value xs ≡ Some z → Among z xs) → first_of value y o ≡ x → (x ≡ y) ⊎ Among x xs
    by_rest None is rest k = inl (sym k)
    by_rest (Some z) is rest k = by_test (int_lt (value z) (value y)) k
      where
        by_test : (b : Bool) → cond b z y ≡ x → (x ≡ y) ⊎ Among x xs
        by_test true h = inr (subst (λ u. Among u xs) h (rest z is))
        by_test false h = inl (sym h)

-- the better of two, of equals the first
abbrev pub better : {A : Type 0} → (A → ℤ) → Option A → Option A → Option A
better value None other = other
better value (Some x) other = Some (first_of value x other)

better_assoc : {A : Type 0} (value : A → ℤ) (x : A) (a b : Option A) → Some (first_of value x (better value a b)) ≡ better value (Some (first_of value x a)) b
better_assoc value x None b = refl
better_assoc value x (Some y) None = refl
better_assoc value x (Some y) (Some z) = by_tests (int_lt (value z) (value y)) refl (int_lt (value y) (value x)) refl
  where
    lower : (u v w : ℤ) → int_lt w v ≡ true → int_lt v u ≡ true → int_lt w u ≡ true
    lower u v w h k = grind (arith, ints)

    higher : (u v w : ℤ) → int_lt w v ≡ false → int_lt v u ≡ false → int_lt w u ≡ false
    higher u v w h k = grind (arith, ints)

    by_tests : (s : Bool) → int_lt (value z) (value y) ≡ s → (t : Bool) → int_lt (value y) (value x) ≡ t
        → Some (first_of value x (Some (cond s z y))) ≡ Some (first_of value (cond t y x) (Some z))
    by_tests true e true k = ap (λ b. Some (cond b z x)) (lower (value x) (value y) (value z) e k) ∙ sym (ap (λ b. Some (cond b z y)) e)
    by_tests true e false k = refl
    by_tests false e true k = ap (λ b. Some (cond b y x)) k ∙ sym (ap (λ b. Some (cond b z y)) e)
    by_tests false e false k = ap (λ b. Some (cond b y x)) k ∙ sym (ap (λ b. Some (cond b z x)) (higher (value x) (value y) (value z) e k))

pub first_least-append : {A : Type 0} (value : A → ℤ) (xs ys : List A) → first_least value (xs ++ ys) ≡ better value (first_least value xs) (first_least value ys)
first_least-append value [] ys = refl
first_least-append value (x ∷ xs) ys = ap (λ o. Some (first_of value x o)) (first_least-append value xs ys) ∙ better_assoc value x (first_least value xs) (first_least value ys)

pub first_of_map : {A B : Type 0} (value : B → ℤ) (g : A → B) (x : A) (o : Option A) → first_of value (g x) (option_map g o) ≡ g (first_of (λ u. value (g u)) x o)
first_of_map value g x None = refl
first_of_map value g x (Some y) = by_test (int_lt (value (g y)) (value (g x)))
  where
    by_test : (b : Bool) → cond b (g y) (g x) ≡ g (cond b y x)
    by_test true = refl
    by_test false = refl

pub first_least-map : {A B : Type 0} (value : B → ℤ) (g : A → B) (xs : List A) → first_least value (map g xs) ≡ option_map g (first_least (λ x. value (g x)) xs)
first_least-map value g [] = refl
first_least-map value g (x ∷ xs) =
    ap (λ o. Some (first_of value (g x) o)) (first_least-map value g xs) ∙ ap Some (first_of_map value g x (first_least (λ u. value (g u)) xs))

-- values that differ by one number have their first least at one place
pub first_of_more : {A : Type 0} (more : ℤ) (value other : A → ℤ) (x y : A) → value x ≡ more +ℤ other x → value y ≡ more +ℤ other y
    → first_of value x (Some y) ≡ first_of other x (Some y)
first_of_more more value other x y e f = ap (λ b. cond b y x) (same (value x) (value y) (other x) (other y) e f)
  where
    same : (a b c d : ℤ) → a ≡ more +ℤ c → b ≡ more +ℤ d → int_lt b a ≡ int_lt d c
    same a b c d e f = grind (arith, ints)

pub first_least_more : {A : Type 0} (more : ℤ) (value other : A → ℤ) (xs : List A) → AllByRecursion (λ x. value x ≡ more +ℤ other x) xs
    → first_least value xs ≡ first_least other xs
first_least_more more value other [] h = refl
first_least_more {A = A} more value other (x ∷ xs) h = ap (λ o. Some (first_of value x o)) (first_least_more more value other xs h.1) ∙ by_rest (first_least other xs) refl
  where
    by_rest : (o : Option A) → first_least other xs ≡ o → Some (first_of value x o) ≡ Some (first_of other x o)
    by_rest None is = refl
    by_rest (Some y) is = ap Some (first_of_more more value other x y h.0 (each_at (λ x. value x ≡ more +ℤ other x) xs y h.1 (first_among other xs y is)))

pub first_least_same : {A : Type 0} (value other : A → ℤ) (xs : List A) → AllByRecursion (λ x. value x ≡ other x) xs → first_least value xs ≡ first_least other xs
first_least_same value other [] h = refl
first_least_same {A = A} value other (x ∷ xs) h = ap (λ o. Some (first_of value x o)) (first_least_same value other xs h.1) ∙ by_rest (first_least other xs) refl
  where
    by_rest : (o : Option A) → first_least other xs ≡ o → Some (first_of value x o) ≡ Some (first_of other x o)
    by_rest None is = refl
    by_rest (Some y) is = ap (λ b. Some (cond b y x)) (ap (λ v. int_lt v (value x)) (each_at (λ x. value x ≡ other x) xs y h.1 (first_among other xs y is)) ∙ ap (λ v. int_lt (other y) v) h.0)

-- the lesser of two values, where there are any
abbrev pub lesser : Option ℤ → Option ℤ → Option ℤ
lesser None other = other
lesser (Some v) other = Some (lesser_of v other)

pub better_value : {A : Type 0} (value : A → ℤ) (a b : Option A) → option_map value (better value a b) ≡ lesser (option_map value a) (option_map value b)
better_value value None b = refl
better_value value (Some x) None = refl
better_value value (Some x) (Some y) = by_test (int_lt (value y) (value x))
  where
    by_test : (b : Bool) → Some (value (cond b y x)) ≡ Some (cond b (value y) (value x))
    by_test true = refl
    by_test false = refl

pub least_value_same : {A : Type 0} (value other : A → ℤ) (xs : List A) → AllByRecursion (λ x. value x ≡ other x) xs → least_value value xs ≡ least_value other xs
least_value_same value other [] h = refl
least_value_same value other (x ∷ xs) h =
    ap (λ w. Some (lesser_of (value x) w)) (least_value_same value other xs h.1) ∙ ap (λ v. Some (lesser_of v (least_value other xs))) h.0
