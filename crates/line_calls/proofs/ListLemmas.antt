-- Lists of numbers.
use Rattle.std.proofs.Common.{◌≡◌, ℕ, zero, suc, ◌+◌, ◌<◌, ◌≤◌, Bool, true, false, cond, ◌&&◌, ◌||◌, List, [], ◌∷◌, ◌++◌, length, filter, get_or, set, refl, ap, sym, ◌∙◌, arith, length-append}
use Rattle.std.specs.Prelude.{All, Vec}
use Rattle.std.specs.Global.{Global}
use Rattle.std.specs.List.{list_any, range_with_len}
use Rattle.std.proofs.lemmas.List.{get_or-map, length-map, map-append, map-set}
use Rattle.std.proofs.lemmas.List.Elements.{filter-append}
use Rattle.std.proofs.lemmas.List.FromFn.{get_or-range_with_len, length-range_with_len}
use Rattle.line_calls.specs.Tables.{lists_in, AreEmpty}

-- ---- vectors of vectors

-- a number more in one of the lists
pub list_grown : (lists : List (Vec ℕ Global)) (k : ℕ) (g e : Vec ℕ Global) (n : ℕ) → k < length lists → g ≡ get_or lists k g → e.items ≡ g.items ++ n ∷ []
    → lists_in (set lists k e) ≡ set (lists_in lists) k (get_or (lists_in lists) k [] ++ n ∷ [])
list_grown lists k g e n below here more =
    let at : get_or (lists_in lists) k [] ≡ g.items = get_or-map (λ (v : Vec ℕ Global). v.items) lists k g [] below ∙ ap (λ (v : Vec ℕ Global). v.items) (sym here) in
    map-set (λ (v : Vec ℕ Global). v.items) lists k e ∙ ap (set (lists_in lists) k) (more ∙ ap (λ (ns : List ℕ). ns ++ n ∷ []) (sym at))

-- the list of a vector
pub list_is : (lists : List (Vec ℕ Global)) (k : ℕ) (d : Vec ℕ Global) → k < length lists → get_or (lists_in lists) k [] ≡ (get_or lists k d).items
list_is lists k d below = get_or-map (λ (v : Vec ℕ Global). v.items) lists k d [] below

pub lists_count : (lists : List (Vec ℕ Global)) → length (lists_in lists) ≡ length lists
lists_count lists = length-map lists (λ (v : Vec ℕ Global). v.items)

none_push : (lists : List (List ℕ)) → ((i : ℕ) → get_or lists i [] ≡ []) → (i : ℕ) → get_or (lists ++ [] ∷ []) i [] ≡ []
none_push [] none zero = refl
none_push [] none (suc i) = refl
none_push (ns ∷ lists) none zero = none 0
none_push (ns ∷ lists) none (suc i) = none_push lists (λ j. none (suc j)) i

-- one list more without a number
pub one_more_empty : (old new : List (Vec ℕ Global)) (v : Vec ℕ Global) (count : ℕ) → AreEmpty count (lists_in old) → v.items ≡ [] → new ≡ old ++ v ∷ [] → AreEmpty (count + 1) (lists_in new)
one_more_empty old new v count h none e =
    let grown : lists_in new ≡ lists_in old ++ [] ∷ [] = ap lists_in e ∙ map-append (λ (w : Vec ℕ Global). w.items) old (v ∷ []) ∙ ap (λ (ns : List ℕ). lists_in old ++ ns ∷ []) none in
    record {
      each = ap length grown ∙ length-append (lists_in old) ([] ∷ []) ∙ ap (λ (n : ℕ). n + 1) h.each;
      none = λ i. ap (λ (lists : List (List ℕ)). get_or lists i []) grown ∙ none_push (lists_in old) h.none i;
    }

-- ---- ranges

pub range_more : (a n j : ℕ) → a + n ≡ j → range_with_len a (n + 1) ≡ range_with_len a n ++ j ∷ []
range_more a zero j e = let is : a ≡ j = omega (arith, e) in ap (λ (k : ℕ). k ∷ []) is
range_more a (suc n) j e =
    let more : suc n + 1 ≡ suc (n + 1) = omega arith in
    ap (range_with_len a) more ∙ ap (λ (ks : List ℕ). a ∷ ks) (range_more (a + 1) n j (omega (arith, e)))

one_kept : (f : ℕ → Bool) (k : ℕ) (b : Bool) → f k ≡ b → filter f (k ∷ []) ≡ cond b (k ∷ []) []
one_kept f k b e = ap (λ (t : Bool). cond t (k ∷ []) []) e

-- the numbers below one more that pass
pub filter_more : (f : ℕ → Bool) (n : ℕ) (b : Bool) → f n ≡ b → filter f (range_with_len 0 (n + 1)) ≡ filter f (range_with_len 0 n) ++ cond b (n ∷ []) []
filter_more f n b e =
    ap (filter f) (range_more 0 n n (omega arith)) ∙ filter-append f (range_with_len 0 n) (n ∷ []) ∙ ap (λ (ks : List ℕ). filter f (range_with_len 0 n) ++ ks) (one_kept f n b e)

pub filter_same : (f g : ℕ → Bool) (a n : ℕ) → ((k : ℕ) → a ≤ k → k < a + n → f k ≡ g k) → filter f (range_with_len a n) ≡ filter g (range_with_len a n)
filter_same f g a zero same = refl
filter_same f g a (suc n) same =
    ap (λ (b : Bool). cond b (a ∷ filter f (range_with_len (a + 1) n)) (filter f (range_with_len (a + 1) n))) (same a (omega arith) (omega arith))
    ∙ ap (λ (ks : List ℕ). cond (g a) (a ∷ ks) ks) (filter_same f g (a + 1) n (λ k low high. same k (omega (arith, low)) (omega (arith, high))))

pub filter_none : (f : ℕ → Bool) (a n : ℕ) → ((k : ℕ) → f k ≡ false) → filter f (range_with_len a n) ≡ []
filter_none f a zero none = refl
filter_none f a (suc n) none = ap (λ (b : Bool). cond b (a ∷ filter f (range_with_len (a + 1) n)) (filter f (range_with_len (a + 1) n))) (none a) ∙ filter_none f (a + 1) n none

pub range_below : (n : ℕ) → All (λ (k : ℕ). k < n) (range_with_len 0 n)
range_below n k d low =
    let within : k < n = omega (arith, low, length-range_with_len 0 n) in
    omega (arith, within, get_or-range_with_len 0 n k d within)

-- ---- tests that some element passes

pub any_none : {A : Type 0} (p : A → Bool) (d : A) (xs : List A) → ((k : ℕ) → k < length xs → p (get_or xs k d) ≡ false) → list_any p xs ≡ false
any_none p d [] none = refl
any_none p d (x ∷ xs) none = ap (λ (b : Bool). b || list_any p xs) (none 0 (omega arith)) ∙ any_none p d xs (λ k low. none (suc k) (omega (arith, low)))

-- of those that pass another test
pub any_filter : {A : Type 0} (p f : A → Bool) (xs : List A) → list_any p (filter f xs) ≡ list_any (λ x. f x && p x) xs
any_filter p f [] = refl
any_filter {A} p f (x ∷ xs) = by_test (f x) (any_filter p f xs)
  where
    by_test : (b : Bool) → list_any p (filter f xs) ≡ list_any (λ y. f y && p y) xs → list_any p (cond b (x ∷ filter f xs) (filter f xs)) ≡ ((b && p x) || list_any (λ y. f y && p y) xs)
    by_test true e = ap (λ (t : Bool). p x || t) e
    by_test false e = e

-- by the places of a list
pub any_numbered : {A : Type 0} (p : A → Bool) (q : ℕ → Bool) (d : A) (xs : List A) (a : ℕ) → ((i : ℕ) → i < length xs → q (a + i) ≡ p (get_or xs i d)) → list_any q (range_with_len a (length xs)) ≡ list_any p xs
any_numbered p q d [] a same = refl
any_numbered p q d (x ∷ xs) a same =
    let at : a ≡ a + 0 = omega arith in
    let here : q a ≡ p x = ap q at ∙ same 0 (omega arith) in
    let rest : list_any q (range_with_len (a + 1) (length xs)) ≡ list_any p xs =
    any_numbered p q d xs (a + 1) (λ i low. let next : (a + 1) + i ≡ a + suc i = omega arith in ap q next ∙ same (suc i) (omega (arith, low))) in
    ap (λ (b : Bool). b || list_any q (range_with_len (a + 1) (length xs))) here ∙ ap (λ (b : Bool). p x || b) rest
