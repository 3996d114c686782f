-- Lists copied one element at a time, and edits done one at a time.
use Rattle.std.proofs.Common.{◌≡◌, ℕ, ◌+◌, ◌<◌, ◌≤◌, List, [], ◌∷◌, ◌++◌, length, get_or, take, sym, ap, ◌∙◌}
use Rattle.std.proofs.lemmas.List.{take_more, take_all}

-- one element more is copied
pub copied_more : {A : Type 0} (xs done new : List A) (i : ℕ) (x : A) → i < length xs → done ≡ take i xs → new ≡ done ++ x ∷ [] → x ≡ get_or xs i x → new ≡ take (i + 1) xs
copied_more xs done new i x low before pushed here =
    pushed ∙ ap (λ ys. ys ++ x ∷ []) before ∙ ap (λ y. take i xs ++ y ∷ []) here ∙ sym (take_more xs i x low)

-- all are copied
pub copied_all : {A : Type 0} (xs done : List A) (i : ℕ) → length xs ≤ i → done ≡ take i xs → done ≡ xs
copied_all xs done i past before = before ∙ take_all i xs past
