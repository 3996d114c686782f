-- One element more of a list that is gone through.
use Rattle.std.proofs.Common.{◌≡◌, sym, ◌∙◌, ap, ℕ, ◌+◌, ◌<◌, ◌≤◌, List, [], ◌∷◌, ◌++◌, map, take, drop, length, get_or, Contains, arith}
use Rattle.std.specs.List.{sum_by}
use Rattle.std.proofs.lemmas.List.{length-map, get_or-map, map-append, take_more, take-append-drop}
use Rattle.std.proofs.lemmas.List.Sums.{sum_by-append}

-- what is read of a list is among what the elements stand for
pub read-among : {A P : Type 0} (now : A → P) (shown : List A) (all : List P) (i : ℕ) (x : A) → map now shown ≡ all → i < length shown → x ≡ get_or shown i x → Contains all (now x)
read-among now shown all i x same below is = (
  i,
  omega (arith, sym (length-map shown now) ∙ ap length same),
  ap (λ xs. get_or xs i (now x)) (sym same) ∙ get_or-map now shown i x (now x) below ∙ ap now (sym is),
)

pub mapped-more : {A P : Type 0} (now : A → P) (shown : List A) (i : ℕ) (x : A) → i < length shown → x ≡ get_or shown i x → map now (take (i + 1) shown) ≡ map now (take i shown) ++ now x ∷ []
mapped-more now shown i x below is = ap (map now) (take_more shown i x below) ∙ map-append now (take i shown) (get_or shown i x ∷ []) ∙ ap (λ y. map now (take i shown) ++ now y ∷ []) (sym is)

pub summed-more : {A P : Type 0} (now : A → P) (f : P → ℕ) (shown : List A) (i : ℕ) (x : A) → i < length shown → x ≡ get_or shown i x →
    sum_by f (map now (take (i + 1) shown)) ≡ sum_by f (map now (take i shown)) + f (now x)
summed-more now f shown i x below is =
    ap (sum_by f) (mapped-more now shown i x below is) ∙ sum_by-append f (map now (take i shown)) (now x ∷ []) ∙ alone (sum_by f (map now (take i shown))) (f (now x))
  where
    alone : (t n : ℕ) → t + (0 + n) ≡ t + n
    alone t n = omega arith

pub summed-within : {A P : Type 0} (now : A → P) (f : P → ℕ) (shown : List A) (all : List P) (i : ℕ) (x : A) → map now shown ≡ all → i < length shown → x ≡ get_or shown i x →
    sum_by f (map now (take i shown)) + f (now x) ≤ sum_by f all
summed-within now f shown all i x same below is =
    let parts : sum_by f all ≡ sum_by f (map now (take (i + 1) shown)) + sum_by f (map now (drop (i + 1) shown)) =
    ap (sum_by f) (sym same ∙ sym (ap (map now) (take-append-drop (i + 1) shown)) ∙ map-append now (take (i + 1) shown) (drop (i + 1) shown))
    ∙ sum_by-append f (map now (take (i + 1) shown)) (map now (drop (i + 1) shown)) in
    let more = summed-more now f shown i x below is in
    omega (arith, parts, more)

pub sum_by-below : {A B : Type 0} (f : A → ℕ) (g : B → ℕ) (h : A → B) → ((a : A) → g (h a) ≤ f a) → (xs : List A) → sum_by g (map h xs) ≤ sum_by f xs
sum_by-below f g h less [] = omega arith
sum_by-below f g h less (x ∷ xs) =
    let here = less x in
    let rest = sum_by-below f g h less xs in
    omega (arith, here, rest, sum_by-append g (h x ∷ []) (map h xs), sum_by-append f (x ∷ []) xs)
