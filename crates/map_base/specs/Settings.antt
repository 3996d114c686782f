-- What a user may set, and in which range.
use Rattle.std.specs.Prelude.{ℕ, ◌≤◌, ◌⊎◌, ◌≡◌, List, [], ◌∷◌, length, All}
use Rattle.std.specs.declared.cmp.Ordering.TheVariants.{Less}
use Rattle.std.specs.Ordering.{nat_cmp}
use Rattle.std.specs.Cmp.Lexicographic.{slice_cmp}
use Rattle.map_base.specs.declared.weights.Weights.{Weights}

-- the settings as contracts see them: decimetres, counts and weights
pub record Choices : Type 0 where
  pub near : ℕ
  pub cell : ℕ
  pub budget : ℕ
  pub types : List ℕ
  pub weights : List Weights
  pub importance : List (List ℕ × ℕ)

-- no weight is above 1000
pub record AreLight (weights : Weights) : Type 0 where
  pub link : weights.link ≤ 1000
  pub split : weights.split ≤ 1000
  pub sep : weights.sep ≤ 1000

-- the ids rise strictly, byte by byte
abbrev pub AreRisingIds : List (List ℕ × ℕ) → Type 0
AreRisingIds [] = Unit {0}
AreRisingIds (p ∷ []) = Unit {0}
AreRisingIds (p ∷ q ∷ rest) = (slice_cmp nat_cmp p.0 q.0 ≡ Less) × AreRisingIds (q ∷ rest)

-- how much a line counts: from 1 to 16
abbrev pub IsImportance : ℕ → Type 0
IsImportance n = (1 ≤ n) × (n ≤ 16)

-- each setting is in its range
pub record AreInRange (choices : Choices) : Type 0 where
  pub near_from : 20 ≤ choices.near
  pub near_to : choices.near ≤ 20000
  pub cell : (choices.cell ≡ 0) ⊎ (10 ≤ choices.cell) × (choices.cell ≤ 1000000)
  pub budget_from : 1 ≤ choices.budget
  pub budget_to : choices.budget ≤ 100000
  pub types : length choices.types ≤ 100
  pub weights : All AreLight choices.weights
  pub ids : AreRisingIds choices.importance
  pub importance : All (λ (p : List ℕ × ℕ). IsImportance p.1) choices.importance

-- the settings where a user sets none
abbrev pub standard_choices : Choices
standard_choices = record {
  near = 500;
  cell = 0;
  budget = 20000;
  types = 0 ∷ 1 ∷ 2 ∷ 5 ∷ 6 ∷ 7 ∷ 12 ∷ [];
  weights = record { link = 4; split = 1; sep = 3 } ∷ record { link = 12; split = 3; sep = 9 } ∷ [];
  importance = [];
}
