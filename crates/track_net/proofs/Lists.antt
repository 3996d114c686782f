-- Numbers in a row, and elements that pass tests.
use Rattle.std.proofs.Common.{◌≡◌, refl, sym, ◌∙◌, ap, ℕ, zero, suc, ◌+◌, ◌<◌, Bool, true, false, cond, ◌||◌, List, [], ◌∷◌, ◌++◌, length, get_or, filter, All, Contains, append-nil, arith}
use Rattle.std.specs.List.{list_any, range_with_len}
use Rattle.std.specs.List.Sorted.{IsStrictlyIncreasing}
use Rattle.std.proofs.lemmas.List.{map-id}
use Rattle.std.proofs.lemmas.List.Elements.{All-contains, All-contains_itself, All-filter, filter-append}
use Rattle.std.proofs.lemmas.List.FromFn.{map-range_with_len_more, get_or-range_with_len, length-range_with_len}
use Rattle.std.proofs.lemmas.List.Folds.{list_any-append, list_any_at}
use Rattle.std.proofs.lemmas.Bool.{false≢true, false_from_ne_true}

-- the numbers below n + 1 are those below n, and n
pub range_more : (n : ℕ) → range_with_len 0 (n + 1) ≡ range_with_len 0 n ++ n ∷ []
range_more n =
    let same : 0 + n ≡ n = omega arith in
    sym (map-id (range_with_len 0 (n + 1))) ∙ map-range_with_len_more (λ k. k) 0 n n same ∙ ap (λ xs. xs ++ n ∷ []) (map-id (range_with_len 0 n))

-- they are below n
pub range_below : (n : ℕ) → All (λ k. k < n) (range_with_len 0 n)
range_below n k d h =
    let below : k < n = omega (arith, length-range_with_len 0 n) in
    let here : get_or (range_with_len 0 n) k d ≡ 0 + k = get_or-range_with_len 0 n k d below in
    omega arith

any_step : {X : Type 0} (p q : X → Bool) (x : X) (xs kept : List X) → (p x ≡ true → q x ≡ true) → list_any p kept ≡ list_any p xs → (b : Bool) → q x ≡ b →
    list_any p (cond b (x ∷ kept) kept) ≡ (p x || list_any p xs)
any_step p q x xs kept only same true e = ap (λ b. p x || b) same
any_step p q x xs kept only same false e =
    same ∙ sym (ap (λ b. b || list_any p xs) (false_from_ne_true (p x) (λ t. false≢true (sym e ∙ only t))))

-- where a test is passed only by what another lets through, it is passed by one of those or by none
pub list_any-filter : {X : Type 0} (p q : X → Bool) → ((x : X) → p x ≡ true → q x ≡ true) → (xs : List X) → list_any p (filter q xs) ≡ list_any p xs
list_any-filter p q only [] = refl
list_any-filter p q only (x ∷ xs) = any_step p q x xs (filter q xs) (only x) (list_any-filter p q only xs) (q x) refl

two_step : {X : Type 0} (r s q : X → Bool) (x : X) (xs kept : List X) → (q x ≡ true → r x ≡ s x) → (q x ≡ false → r x ≡ false) → filter s kept ≡ filter r xs →
    (b : Bool) → q x ≡ b → filter s (cond b (x ∷ kept) kept) ≡ cond (r x) (x ∷ filter r xs) (filter r xs)
two_step r s q x xs kept passed stopped same true e =
    ap (λ b. cond b (x ∷ filter s kept) (filter s kept)) (sym (passed e)) ∙ ap (λ ys. cond (r x) (x ∷ ys) ys) same
two_step r s q x xs kept passed stopped same false e = same ∙ sym (ap (λ b. cond b (x ∷ filter r xs) (filter r xs)) (stopped e))

-- a filter in two steps
pub filter_in_two : {X : Type 0} (r s q : X → Bool) → ((x : X) → q x ≡ true → r x ≡ s x) → ((x : X) → q x ≡ false → r x ≡ false) → (xs : List X) →
    filter s (filter q xs) ≡ filter r xs
filter_in_two r s q passed stopped [] = refl
filter_in_two r s q passed stopped (x ∷ xs) =
    two_step r s q x xs (filter q xs) (passed x) (stopped x) (filter_in_two r s q passed stopped xs) (q x) refl

-- the numbers below n + 1 that pass a test are those below n, and n where it passes
pub filter-range_more : (p : ℕ → Bool) (n : ℕ) → filter p (range_with_len 0 (n + 1)) ≡ filter p (range_with_len 0 n) ++ cond (p n) (n ∷ []) []
filter-range_more p n = ap (filter p) (range_more n) ∙ filter-append p (range_with_len 0 n) (n ∷ [])

-- one more number is looked at, and taken where it passes
pub taken_more : (p : ℕ → Bool) (n : ℕ) (ns ms : List ℕ) → ns ≡ filter p (range_with_len 0 n) → p n ≡ true → ms ≡ ns ++ n ∷ [] → ms ≡ filter p (range_with_len 0 (n + 1))
taken_more p n ns ms before passes is =
    is ∙ ap (λ xs. xs ++ n ∷ []) before ∙ sym (filter-range_more p n ∙ ap (λ b. filter p (range_with_len 0 n) ++ cond b (n ∷ []) []) passes)

pub left_more : (p : ℕ → Bool) (n : ℕ) (ns ms : List ℕ) → ns ≡ filter p (range_with_len 0 n) → p n ≡ false → ms ≡ ns → ms ≡ filter p (range_with_len 0 (n + 1))
left_more p n ns ms before fails is =
    is ∙ before ∙ sym (filter-range_more p n ∙ ap (λ b. filter p (range_with_len 0 n) ++ cond b (n ∷ []) []) fails ∙ append-nil (filter p (range_with_len 0 n)))

-- numbers in a row rise
pub range_rises : (n : ℕ) → IsStrictlyIncreasing (range_with_len 0 n)
range_rises n k below =
    let within : k + 1 < n = omega (arith, length-range_with_len 0 n) in
    let here : get_or (range_with_len 0 n) k 0 ≡ 0 + k = get_or-range_with_len 0 n k 0 (omega arith) in
    let next : get_or (range_with_len 0 n) (k + 1) 0 ≡ 0 + (k + 1) = get_or-range_with_len 0 n (k + 1) 0 within in
    omega arith

-- no number below n + 1 passes a test where none below n does, nor n
pub any_not_yet : (p : ℕ → Bool) (n : ℕ) → list_any p (range_with_len 0 n) ≡ false → p n ≡ false → list_any p (range_with_len 0 (n + 1)) ≡ false
any_not_yet p n before fails =
    ap (list_any p) (range_more n) ∙ list_any-append p (range_with_len 0 n) (n ∷ []) ∙ ap (λ b. b || (p n || false)) before ∙ ap (λ b. b || false) fails

-- some number below m passes a test where n, below m, does
pub any_found : (p : ℕ → Bool) (n m : ℕ) → n < m → p n ≡ true → list_any p (range_with_len 0 m) ≡ true
any_found p n m below passes =
    let here : get_or (range_with_len 0 m) n 0 ≡ 0 + n = get_or-range_with_len 0 m n 0 below in
    let same : 0 + n ≡ n = omega arith in
    list_any_at p (range_with_len 0 m) n 0 (omega (arith, length-range_with_len 0 m)) (ap p (here ∙ same) ∙ passes)

or_right : (a b : Bool) → b ≡ true → (a || b) ≡ true
or_right true b e = refl
or_right false b e = e

-- what passes a test among those that pass another passes it among all
pub any_in_filter : {X : Type 0} (p q : X → Bool) (xs : List X) → list_any p (filter q xs) ≡ true → list_any p xs ≡ true
any_in_filter p q [] e = e
any_in_filter p q (x ∷ xs) e = of_test (q x) e (any_in_filter p q xs)
  where
    shown : (t a b : Bool) → (t || a) ≡ true → (a ≡ true → b ≡ true) → (t || b) ≡ true
    shown true a b e later = refl
    shown false a b e later = later e

    of_test : (b : Bool) → list_any p (cond b (x ∷ filter q xs) (filter q xs)) ≡ true → (list_any p (filter q xs) ≡ true → list_any p xs ≡ true) → (p x || list_any p xs) ≡ true
    of_test true e later = shown (p x) (list_any p (filter q xs)) (list_any p xs) e later
    of_test false e later = or_right (p x) (list_any p xs) (later e)

-- an element that passes both tests passes the one among those that pass the other
pub any_kept : {X : Type 0} (p q : X → Bool) (xs : List X) (i : ℕ) (d : X) → i < length xs → p (get_or xs i d) ≡ true → q (get_or xs i d) ≡ true → list_any p (filter q xs) ≡ true
any_kept p q [] i d below passes kept = absurd (omega arith)
any_kept p q (x ∷ xs) zero d below passes kept =
    ap (λ b. list_any p (cond b (x ∷ filter q xs) (filter q xs))) kept ∙ ap (λ b. b || list_any p (filter q xs)) passes
any_kept p q (x ∷ xs) (suc i) d below passes kept = of_test (q x) (any_kept p q xs i d (omega arith) passes kept)
  where
    of_test : (b : Bool) → list_any p (filter q xs) ≡ true → list_any p (cond b (x ∷ filter q xs) (filter q xs)) ≡ true
    of_test true e = or_right (p x) (list_any p (filter q xs)) e
    of_test false e = e

-- what stands among those that pass a test stands among all
pub Contains-from_filter : {X : Type 0} (p : X → Bool) (xs : List X) (x : X) → Contains (filter p xs) x → Contains xs x
Contains-from_filter p xs x h = All-contains (Contains xs) (filter p xs) x (All-filter p (Contains xs) xs (All-contains_itself xs)) h

-- two tests that pass together are one
pub same_tests : (a b : Bool) → (a ≡ true → b ≡ true) → (b ≡ true → a ≡ true) → a ≡ b
same_tests true b there back = sym (there refl)
same_tests false true there back = back refl
same_tests false false there back = refl
