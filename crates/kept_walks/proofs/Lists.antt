-- Lists that are copied or compared from the front on.
use Rattle.std.proofs.Common.{◌≡◌, ◌∙◌, sym, ap, ℕ, ◌+◌, ◌<◌, ◌≤◌, ◌++◌, ◌∷◌, [], List, length, take, Some, inl, inr, arith}
use Rattle.std.specs.List.{slice_get}
use Rattle.std.proofs.lemmas.List.{take_more, take_more_same, take_all}
use Rattle.std.proofs.lemmas.Option.{slice_get_cases, slice_get_within, get_or_from_slice_get}

-- one element more is copied
pub copied_more : {X : Type 0} (xs copy pushed : List X) (i : ℕ) (x : X) → copy ≡ take i xs → slice_get xs i ≡ Some x → pushed ≡ copy ++ x ∷ [] → pushed ≡ take (i + 1) xs
copied_more xs copy pushed i x so_far there more =
    more ∙ ap (λ ys. ys ++ x ∷ []) so_far ∙ ap (λ y. take i xs ++ y ∷ []) (sym (get_or_from_slice_get xs i x x there)) ∙ sym (take_more xs i x (slice_get_within xs i x there))

-- one element more is the same
pub same_more : {X : Type 0} (xs ys : List X) (i : ℕ) → i < length xs → i < length ys → take i xs ≡ take i ys → slice_get xs i ≡ slice_get ys i → take (i + 1) xs ≡ take (i + 1) ys
same_more xs ys i in_xs in_ys so_far same = elim ((slice_get_cases xs i).1) [
  | inl there ↦ take_more_same xs ys i there.0 in_xs in_ys so_far (there.3 ∙ sym (get_or_from_slice_get ys i there.0 there.0 (sym same ∙ there.2)))
  | inr past ↦ absurd (omega (arith, in_xs, past.0))
]

-- lists that are the same to their ends are one
pub all_same : {X : Type 0} (xs ys : List X) (n : ℕ) → length xs ≤ n → length ys ≤ n → take n xs ≡ take n ys → xs ≡ ys
all_same xs ys n all_xs all_ys same = sym (take_all n xs all_xs) ∙ same ∙ take_all n ys all_ys
