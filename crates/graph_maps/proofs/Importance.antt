-- How much lines count: each number is one that a line may have.
use Rattle.std.proofs.Common.{ℕ, ◌<◌, ◌≤◌, ◌⊎◌, inl, inr, List, length, get_or, arith, All}
use Rattle.std.proofs.lemmas.Bool.{cases_lt}
use Rattle.std.proofs.lemmas.List.{get_or_past}
use Rattle.map_base.specs.Settings.{IsImportance}
use Rattle.graph_core.specs.declared.parts.GraphParts.{GraphParts}
use Rattle.order_terms.specs.Terms.{HaveImportance}
use Rattle.graph_maps.specs.Subjects.{AreListed}

-- no number is above 16
pub number_at : (importance : List ℕ) → All IsImportance importance → (k : ℕ) → get_or importance k 1 ≤ 16
number_at importance all k = by_place (cases_lt k (length importance))
  where
    by_place : (k < length importance) ⊎ (length importance ≤ k) → get_or importance k 1 ≤ 16
    by_place (inl h) = (all k 1 h).1
    by_place (inr h) = omega (arith, get_or_past importance k 1 h)

-- all lines of a graph have their numbers
pub have_importance : (importance : List ℕ) (graph : GraphParts) → All IsImportance importance
    → AreListed importance graph → HaveImportance importance graph.lines
have_importance importance graph all listed = λ k d h i e below.
    (listed k d h i e below, all (get_or (get_or graph.lines k d) i e).0 0 (listed k d h i e below))
