-- Sums over the numbers from 0 on that grow at some of them.
use Rattle.std.proofs.Common.{◌≡◌, refl, sym, ◌∙◌, ap, ap₂, ℕ, zero, suc, ◌+◌, ◌<◌, ◌≤◌, Bool, true, false, cond, eqb, ◌||◌, List, [], ◌∷◌, map, ◌⊎◌, inl, inr, arith}
use Rattle.drawing_search.proofs.Common.{cases_eq, eq-eqb, list_any, ne_eqb, range_with_len, sum_by, sum_by-cons, In}

pub same_sum : {X : Type 0} (f g : X → ℕ) (xs : List X) → ((x : X) → In x xs → f x ≡ g x) → sum_by f xs ≡ sum_by g xs
same_sum f g [] same = refl
same_sum f g (x ∷ xs) same = sum_by-cons f x xs ∙ ap₂ (λ a b. a + b) (same x (inl refl)) (same_sum f g xs (λ y m. same y (inr m))) ∙ sym (sum_by-cons g x xs)

pub sum_map : {X Y : Type 0} (f : Y → ℕ) (g : X → Y) (xs : List X) → sum_by f (map g xs) ≡ sum_by (λ x. f (g x)) xs
sum_map f g [] = refl
sum_map f g (x ∷ xs) = sum_by-cons f (g x) (map g xs) ∙ ap (λ n. f (g x) + n) (sum_map f g xs) ∙ sym (sum_by-cons (λ y. f (g y)) x xs)

pub sum_both : {X : Type 0} (f g : X → ℕ) (xs : List X) → sum_by (λ x. f x + g x) xs ≡ sum_by f xs + sum_by g xs
sum_both f g [] = refl
sum_both f g (x ∷ xs) =
    let rest = sum_both f g xs in
    let all = sum_by-cons (λ y. f y + g y) x xs in
    let one = sum_by-cons f x xs in
    let other = sum_by-cons g x xs in
    omega (arith, rest, all, one, other)

-- the numbers of a range
pub in_range : (a n x : ℕ) → In x (range_with_len a n) → x < a + n
in_range a zero x i = absurd i
in_range a (suc n) x (inl e) = omega (arith, e)
in_range a (suc n) x (inr i) = omega (arith, in_range (a + 1) n x i)

-- ---- at one number

abbrev pub one_more : (ℕ → ℕ) → ℕ → ℕ → ℕ → ℕ
one_more f x a i = f i + cond (eqb i x) a 0

past_it : (f : ℕ → ℕ) (x a lo n : ℕ) → x < lo → sum_by (one_more f x a) (range_with_len lo n) ≡ sum_by f (range_with_len lo n)
past_it f x a lo zero h = refl
past_it f x a lo (suc n) h =
    let rest = past_it f x a (lo + 1) n (omega arith) in
    let none : cond (eqb lo x) a 0 ≡ 0 = ap (λ b. cond b a 0) (ne_eqb lo x (λ e. absurd (omega (arith, e)))) in
    let with_more = sum_by-cons (one_more f x a) lo (range_with_len (lo + 1) n) in
    let without = sum_by-cons f lo (range_with_len (lo + 1) n) in
    omega (arith, rest, none, with_more, without)

pub at_one : (f : ℕ → ℕ) (x a lo n : ℕ) → lo ≤ x → x < lo + n → sum_by (one_more f x a) (range_with_len lo n) ≡ sum_by f (range_with_len lo n) + a
at_one f x a lo zero low high = absurd (omega (arith, low, high))
at_one f x a lo (suc n) low high = by_first (λ order. at_one f x a (lo + 1) n order (omega (arith, high))) (cases_eq lo x)
  where
    with_more : sum_by (one_more f x a) (range_with_len lo (suc n)) ≡ f lo + cond (eqb lo x) a 0 + sum_by (one_more f x a) (range_with_len (lo + 1) n)
    with_more = sum_by-cons (one_more f x a) lo (range_with_len (lo + 1) n)

    without : sum_by f (range_with_len lo (suc n)) ≡ f lo + sum_by f (range_with_len (lo + 1) n)
    without = sum_by-cons f lo (range_with_len (lo + 1) n)

    by_first : (lo + 1 ≤ x → sum_by (one_more f x a) (range_with_len (lo + 1) n) ≡ sum_by f (range_with_len (lo + 1) n) + a) → (lo ≡ x) ⊎ (lo ≡ x → ⊥)
        → sum_by (one_more f x a) (range_with_len lo (suc n)) ≡ sum_by f (range_with_len lo (suc n)) + a
    by_first next (inl e) =
        let here : cond (eqb lo x) a 0 ≡ a = ap (λ b. cond b a 0) (eq-eqb lo x e) in
        let rest = past_it f x a (lo + 1) n (omega (arith, e)) in
        omega (arith, here, rest, with_more, without)
    by_first next (inr differ) =
        let here : cond (eqb lo x) a 0 ≡ 0 = ap (λ b. cond b a 0) (ne_eqb lo x differ) in
        let rest = next (order (cases_eq lo x)) in
        omega (arith, here, rest, with_more, without)
      where
        order : (lo ≡ x) ⊎ (lo ≡ x → ⊥) → lo + 1 ≤ x
        order (inl e) = absurd (differ e)
        order (inr f) = grind (arith, low, f)

-- a number is one of these
abbrev pub is_one_of : List ℕ → ℕ → Bool
is_one_of xs i = list_any (eqb i) xs

-- none of them is there twice
abbrev pub AreDifferent : List ℕ → Type 0
AreDifferent [] = Unit {0}
AreDifferent (x ∷ xs) = (is_one_of xs x ≡ false) × AreDifferent xs

abbrev pub grown : (ℕ → ℕ) → (ℕ → ℕ) → List ℕ → ℕ → ℕ
grown f h xs i = f i + cond (is_one_of xs i) (h i) 0

pub sum_grows : (f h : ℕ → ℕ) (n : ℕ) (xs : List ℕ) → AreDifferent xs → ((x : ℕ) → In x xs → x < n) → sum_by (grown f h xs) (range_with_len 0 n) ≡ sum_by f (range_with_len 0 n) + sum_by h xs
sum_grows f h n [] differ below =
    let same = same_sum (grown f h []) f (range_with_len 0 n) (λ i m. omega arith) in omega (arith, same)
sum_grows f h n (x ∷ xs) differ below =
    let rest = sum_grows f h n xs differ.1 (λ y m. below y (inr m)) in
    let same = same_sum (grown f h (x ∷ xs)) (one_more (grown f h xs) x (h x)) (range_with_len 0 n) (λ i m. each i (cases_eq i x)) in
    let one = at_one (grown f h xs) x (h x) 0 n (omega arith) (omega (arith, below x (inl refl))) in
    let all = sum_by-cons h x xs in
    omega (arith, rest, same, one, all)
  where
    each : (i : ℕ) → (i ≡ x) ⊎ (i ≡ x → ⊥) → grown f h (x ∷ xs) i ≡ one_more (grown f h xs) x (h x) i
    each i (inl e) =
        let test : eqb i x ≡ true = eq-eqb i x e in
        let here : cond (eqb i x || is_one_of xs i) (h i) 0 ≡ h i = ap (λ b. cond (b || is_one_of xs i) (h i) 0) test in
        let off : cond (is_one_of xs i) (h i) 0 ≡ 0 = ap (λ b. cond b (h i) 0) (ap (is_one_of xs) e ∙ differ.0) in
        let once : cond (eqb i x) (h x) 0 ≡ h x = ap (λ b. cond b (h x) 0) test in
        let equal : h i ≡ h x = ap h e in
        omega (arith, here, off, once, equal)
    each i (inr other) =
        let test : eqb i x ≡ false = ne_eqb i x other in
        let here : cond (eqb i x || is_one_of xs i) (h i) 0 ≡ cond (is_one_of xs i) (h i) 0 = ap (λ b. cond (b || is_one_of xs i) (h i) 0) test in
        let once : cond (eqb i x) (h x) 0 ≡ 0 = ap (λ b. cond b (h x) 0) test in
        omega (arith, here, once)
