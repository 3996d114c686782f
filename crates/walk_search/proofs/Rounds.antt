-- Rounds of offers, and bounds on costs.
use Rattle.std.proofs.Common.{◌≡◌, sym, ◌∙◌, ap, subst, ℕ, ◌+◌, ◌^◌, ◌<◌, List, [], ◌∷◌, ◌++◌, map, Option, Some, arith, append-nil, ap₂}
use Rattle.std.specs.List.{flat_map, range_with_len}
use Rattle.std.specs.declared.cmp.Reverse.{Reverse}
use Rattle.std.proofs.lemmas.List.Concat.{flat_map-append}
use Rattle.std.proofs.lemmas.List.Folds.{flat_map-map}
use Rattle.std.proofs.lemmas.List.FromFn.{map-range_with_len_more}
use Rattle.state_search.specs.Searching.{AreLowered, IsLowered, IsSearch, known_at}
use Rattle.state_search.proofs.Lowering.{lowered_both, lowered_more}
use Rattle.walk_search.specs.Moves.{Question, IsQuestion, space_of}
use Rattle.grid_board.proofs.Within.{few_cells}

flat_more : (f : ℕ → List (ℕ × ℕ)) (n : ℕ) → flat_map f (range_with_len 0 (n + 1)) ≡ flat_map f (range_with_len 0 n) ++ f n
flat_more f n =
    sym (flat_map-map f (λ x. x) (range_with_len 0 (n + 1)))
    ∙ ap (flat_map f) (map-range_with_len_more (λ x. x) 0 n n (omega arith))
    ∙ flat_map-append f (map (λ x. x) (range_with_len 0 n)) (n ∷ [])
    ∙ ap₂ (λ (xs ys : List (ℕ × ℕ)). xs ++ ys) (flat_map-map f (λ x. x) (range_with_len 0 n)) (append-nil (f n))

-- one more round
pub round_more : (ahead : ℕ → ℕ) (old new last : List (Option ℕ)) (queue longer longest : List (Reverse (ℕ × ℕ))) (f : ℕ → List (ℕ × ℕ)) (n : ℕ) →
    AreLowered ahead old new queue longer (flat_map f (range_with_len 0 n)) → AreLowered ahead new last longer longest (f n) → AreLowered ahead old last queue longest (flat_map f (range_with_len 0 (n + 1)))
round_more ahead old new last queue longer longest f n all one =
    subst (λ (offers : List (ℕ × ℕ)). AreLowered ahead old last queue longest offers) (sym (flat_more f n))
    (lowered_both ahead old new last queue longer longest (flat_map f (range_with_len 0 n)) (f n) all one)

-- one more offer
pub offer_more : (ahead : ℕ → ℕ) (old new last : List (Option ℕ)) (queue longer longest : List (Reverse (ℕ × ℕ))) (f : ℕ → ℕ × ℕ) (n : ℕ) →
    AreLowered ahead old new queue longer (map f (range_with_len 0 n)) → IsLowered (ahead (f n).0) new last longer longest (f n).0 (f n).1 →
    AreLowered ahead old last queue longest (map f (range_with_len 0 (n + 1)))
offer_more ahead old new last queue longer longest f n all one =
    let none : 0 + n ≡ n = omega arith in
    subst (λ (offers : List (ℕ × ℕ)). AreLowered ahead old last queue longest offers) (sym (map-range_with_len_more f 0 n n none))
    (lowered_more ahead old new last queue longer longest (map f (range_with_len 0 n)) (f n).0 (f n).1 all one)

-- a known cost is small
pub cost_small : (q : Question) → IsQuestion q → (table : List (Option ℕ)) (queue : List (Reverse (ℕ × ℕ))) (excepted : ℕ → ℕ → Type 0) (at cost : ℕ) → IsSearch (space_of q) table queue excepted →
    known_at table at ≡ Some cost → cost < 2 ^ 39
cost_small q h table queue excepted at cost s known =
    omega (arith, s.bounded at cost known, s.each, few_cells q.board.bounds h.board.in_range)
