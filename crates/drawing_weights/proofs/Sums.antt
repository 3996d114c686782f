-- Sums over numbers in a row.
use Rattle.std.proofs.Common.{◌≡◌, ◌∙◌, ℕ, ◌+◌, List, [], ◌∷◌, map, ap, sym, refl, arith}
use Rattle.std.specs.List.{range_with_len, sum_by}
use Rattle.std.proofs.lemmas.List.Sums.{sum_by-cons}
use Rattle.std.proofs.lemmas.List.FromFn.{sum_by-map-range_with_len_more}

abbrev itself : ℕ → ℕ
itself n = n

sum_of_map : (f : ℕ → ℕ) (ns : List ℕ) → sum_by f ns ≡ sum_by itself (map f ns)
sum_of_map f [] = refl
sum_of_map f (n ∷ ns) = sum_by-cons f n ns ∙ ap (λ s. f n + s) (sum_of_map f ns) ∙ sym (sum_by-cons itself (f n) (map f ns))

-- one number more
pub sum_more : (f : ℕ → ℕ) (n : ℕ) → sum_by f (range_with_len 0 (n + 1)) ≡ sum_by f (range_with_len 0 n) + f n
sum_more f n =
    let same : 0 + n ≡ n = omega arith in
    sum_of_map f (range_with_len 0 (n + 1))
    ∙ sum_by-map-range_with_len_more itself f 0 n n same
    ∙ ap (λ s. s + f n) (sym (sum_of_map f (range_with_len 0 n)))
