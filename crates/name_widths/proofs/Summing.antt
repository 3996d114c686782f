-- Sums of a list, one element after another.
use Rattle.std.proofs.Common.{◌≡◌, ℕ, ◌+◌, ◌<◌, List, get_or, length, take, sum_by, ap, sym, ◌∙◌}
use Rattle.std.proofs.lemmas.List.Sums.{sum_by_more}

pub sum_more : {A : Type 0} (f : A → ℕ) (xs : List A) (i : ℕ) (d x : A) (before after : ℕ) → i < length xs → x ≡ get_or xs i d → after ≡ before + f x
    → before ≡ sum_by f (take i xs) → after ≡ sum_by f (take (i + 1) xs)
sum_more f xs i d x before after low is grew all =
    grew ∙ ap (λ (n : ℕ). n + f x) all ∙ ap (λ y. sum_by f (take i xs) + f y) is ∙ sym (sum_by_more f xs i d low)
