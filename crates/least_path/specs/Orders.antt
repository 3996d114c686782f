-- Orders of lists of labels, and bounds on costs.
use Rattle.std.specs.Prelude.{◌≡◌, ℕ, ◌<◌, ◌≤◌, ◌⊎◌, List, [], ◌∷◌, Option, Some, None}

-- of two lists of labels the first is not after the second in the order of dictionaries
abbrev pub LexLe : List ℕ → List ℕ → Type 0
LexLe [] others = Unit {0}
LexLe (l ∷ ls) [] = ⊥
LexLe (l ∷ ls) (m ∷ ms) = (l < m) ⊎ ((l ≡ m) × LexLe ls ms)

-- there is a known cost, and it is at most k
abbrev pub AtMost : Option ℕ → ℕ → Type 0
AtMost None k = ⊥
AtMost (Some d) k = d ≤ k
