-- Lists that loops make: filters, maps and numbers in a row.
use Rattle.std.proofs.Common.{◌≡◌, sym, ◌∙◌, ap, ℕ, ◌+◌, ◌<◌, Bool, true, false, cond, List, [], ◌∷◌, ◌++◌, map, take, length, get_or, filter, All, append-nil, arith}
use Rattle.std.specs.List.{range_with_len}
use Rattle.std.proofs.lemmas.List.{map-append, map-id, take_more}
use Rattle.std.proofs.lemmas.List.Elements.{filter-append, filter_more}
use Rattle.std.proofs.lemmas.List.FromFn.{map-range_with_len_more, get_or-range_with_len, length-range_with_len}

-- one more element that is kept as it passes
pub kept_more : {A B : Type 0} (f : A → B) (p : B → Bool) (xs : List B) (i : ℕ) (kept more : List A) (a : A) → i < length xs → map f kept ≡ filter p (take i xs) → f a ≡ get_or xs i (f a) →
    p (f a) ≡ true → more ≡ kept ++ a ∷ [] → map f more ≡ filter p (take (i + 1) xs)
kept_more f p xs i kept more a below before is passes pushed =
    ap (map f) pushed ∙ map-append f kept (a ∷ []) ∙ ap (λ ys. ys ++ f a ∷ []) before
    ∙ sym (filter_more p xs i (f a) below ∙ ap (λ x. filter p (take i xs) ++ cond (p x) (x ∷ []) []) (sym is) ∙ ap (λ b. filter p (take i xs) ++ cond b (f a ∷ []) []) passes)

-- one more element that is left out
pub left_more : {B : Type 0} (p : B → Bool) (xs : List B) (i : ℕ) (x : B) (ys : List B) → i < length xs → ys ≡ filter p (take i xs) → x ≡ get_or xs i x →
    p x ≡ false → ys ≡ filter p (take (i + 1) xs)
left_more p xs i x ys below before is fails =
    before
    ∙ sym (filter_more p xs i x below ∙ ap (λ y. filter p (take i xs) ++ cond (p y) (y ∷ []) []) (sym is) ∙ ap (λ b. filter p (take i xs) ++ cond b (x ∷ []) []) fails
    ∙ append-nil (filter p (take i xs)))

-- one more element, each as a function says
pub mapped_more : {A B : Type 0} (f : A → B) (xs : List A) (i : ℕ) (x : A) (ys more : List B) (y : B) → i < length xs → ys ≡ map f (take i xs) → x ≡ get_or xs i x → y ≡ f x →
    more ≡ ys ++ y ∷ [] → more ≡ map f (take (i + 1) xs)
mapped_more f xs i x ys more y below before is value pushed =
    pushed ∙ ap (λ zs. zs ++ y ∷ []) before ∙ ap (λ z. map f (take i xs) ++ z ∷ []) value ∙ sym (map-append f (take i xs) (x ∷ []))
    ∙ ap (λ z. map f (take i xs ++ z ∷ [])) is ∙ sym (ap (map f) (take_more xs i x below))

-- the numbers below n + 1 are those below n, and n
pub range_more : (n : ℕ) → range_with_len 0 (n + 1) ≡ range_with_len 0 n ++ n ∷ []
range_more n =
    let same : 0 + n ≡ n = omega arith in
    sym (map-id (range_with_len 0 (n + 1))) ∙ map-range_with_len_more (λ k. k) 0 n n same ∙ ap (λ xs. xs ++ n ∷ []) (map-id (range_with_len 0 n))

-- they are below n
pub range_below : (n : ℕ) → All (λ k. k < n) (range_with_len 0 n)
range_below n k d h =
    let below : k < n = omega (arith, length-range_with_len 0 n) in
    let here : get_or (range_with_len 0 n) k d ≡ 0 + k = get_or-range_with_len 0 n k d below in
    omega arith

-- the numbers below n + 1 that pass a test are those below n, and n where it passes
pub filter-range_more : (p : ℕ → Bool) (n : ℕ) → filter p (range_with_len 0 (n + 1)) ≡ filter p (range_with_len 0 n) ++ cond (p n) (n ∷ []) []
filter-range_more p n = ap (filter p) (range_more n) ∙ filter-append p (range_with_len 0 n) (n ∷ [])

pub number_kept : (p : ℕ → Bool) (n : ℕ) (ns ms : List ℕ) → ns ≡ filter p (range_with_len 0 n) → p n ≡ true → ms ≡ ns ++ n ∷ [] → ms ≡ filter p (range_with_len 0 (n + 1))
number_kept p n ns ms before passes is =
    is ∙ ap (λ xs. xs ++ n ∷ []) before ∙ sym (filter-range_more p n ∙ ap (λ b. filter p (range_with_len 0 n) ++ cond b (n ∷ []) []) passes)

pub number_left : (p : ℕ → Bool) (n : ℕ) (ns : List ℕ) → ns ≡ filter p (range_with_len 0 n) → p n ≡ false → ns ≡ filter p (range_with_len 0 (n + 1))
number_left p n ns before fails =
    before ∙ sym (filter-range_more p n ∙ ap (λ b. filter p (range_with_len 0 n) ++ cond b (n ∷ []) []) fails ∙ append-nil (filter p (range_with_len 0 n)))
