-- A range with a number more.
use Rattle.std.proofs.Common.{◌≡◌, refl, ◌∙◌, ap, ℕ, zero, suc, ◌+◌, Bool, cond, List, [], ◌∷◌, ◌++◌, append-nil, true, false, filter, arith}
use Rattle.std.proofs.lemmas.List.Elements.{filter-append}
use Rattle.std.specs.List.{range_with_len}

pub range_more : (a n : ℕ) → range_with_len a (n + 1) ≡ range_with_len a n ++ (a + n) ∷ []
range_more a zero = ap (λ k. (let v : List ℕ = k ∷ [] in v)) (omega arith)
range_more a (suc n) =
    let next : suc n + 1 ≡ suc (n + 1) = omega arith in
    let last : a + 1 + n ≡ a + suc n = omega arith in
    ap (range_with_len a) next ∙ ap (λ (v : List ℕ). a ∷ v) (range_more (a + 1) n ∙ ap (λ k. range_with_len (a + 1) n ++ k ∷ []) last)

pub filter_more : (f : ℕ → Bool) (n : ℕ) → filter f (range_with_len 0 (n + 1)) ≡ cond (f n) (filter f (range_with_len 0 n) ++ n ∷ []) (filter f (range_with_len 0 n))
filter_more f n = ap (filter f) (range_more 0 n) ∙ ap (λ k. filter f (range_with_len 0 n ++ k ∷ [])) (omega arith) ∙ filter-append f (range_with_len 0 n) (n ∷ []) ∙ by_test (f n)
  where
    by_test : (b : Bool) → filter f (range_with_len 0 n) ++ cond b (n ∷ []) [] ≡ cond b (filter f (range_with_len 0 n) ++ n ∷ []) (filter f (range_with_len 0 n))
    by_test true = refl
    by_test false = append-nil (filter f (range_with_len 0 n))
