-- A graph that is read again has the terms that it had.
use Rattle.std.proofs.Common.{◌≡◌, ◌∙◌, ap, ap₂, refl, ℕ, zero, suc, ◌<◌, ◌≤◌, List, [], ◌∷◌, ◌++◌, length, map, get_or, arith}
use Rattle.std.specs.Prelude.{All, Result, Ok}
use Rattle.std.specs.List.{AllByRecursion as ByRecursion}
use Rattle.std.proofs.lemmas.List.Elements.{recursion_from_All}
use Rattle.map_base.specs.declared.limit.Limit.{Limit}
use Rattle.map_base.specs.declared.limit.LimitKind.TheVariants.{Terms}
use Rattle.map_base.specs.declared.weights.Weights.{Weights}
use Rattle.map_base.specs.Limits.{unless_above}
use Rattle.map_base.specs.Settings.{AreLight}
use Rattle.graph_core.specs.declared.parts.GraphParts.{GraphParts}
use Rattle.graph_core.specs.declared.parts.NodeKind.{NodeKind}
use Rattle.graph_core.specs.declared.parts.NodeKind.TheVariants.{Junction}
use Rattle.graph_core.specs.Consistent.{IsConsistent}
use Rattle.order_model.specs.declared.problem.ProblemParts.{ProblemParts}
use Rattle.order_model.specs.declared.term.Term.{Term}
use Rattle.order_terms.specs.Terms.{found_at, graph_terms, in_order, term_of, terms_at, terms_below, weights_at, HaveImportance, IsWithinGraph}
use Rattle.order_terms.specs.Limits.{graph_problem}
use Rattle.order_terms.proofs.GraphProblem.{found_within, weights_light}
use Rattle.export_command.proofs.Routes.{with_kinds}

-- two lists of importances tell the same of the lines that have one in the first
abbrev pub AgreeOn : List ℕ → List ℕ → Type 0
AgreeOn new old = (l : ℕ) → l < length new → get_or new l 0 ≡ get_or old l 0

-- functions that agree where something holds of elements give one list
map_agree : {A B : Type 0} (f g : A → B) (P : A → Type 0) → ((x : A) → P x → f x ≡ g x) → (xs : List A) → ByRecursion P xs
    → map f xs ≡ map g xs
map_agree f g P same [] all = refl
map_agree f g P same (x ∷ xs) all = ap₂ (λ y ys. y ∷ ys) (same x all.0) (map_agree f g P same xs all.1)

module _ (new old : List ℕ) (agree : AgreeOn new old) where
  module _ (g : GraphParts) (fit : IsConsistent g) (kinds : List NodeKind) (count : length kinds ≡ length g.kinds)
      (ws : List Weights) (light : All AreLight ws) (have : HaveImportance new g.lines)
      (weights : (n : ℕ) → weights_at ws (get_or kinds n Junction) ≡ weights_at ws (get_or g.kinds n Junction)) where
    abbrev h : GraphParts
    h = with_kinds kinds g

    same_at : (n : ℕ) → n < length g.kinds → terms_at h ws new n ≡ terms_at g ws old n
    same_at n here =
        let w : Weights = weights_at ws (get_or g.kinds n Junction) in
        ap (λ (v : Weights). map (term_of v new g.ends n) (in_order (found_at v g n))) (weights n)
        ∙ map_agree (term_of w new g.ends n) (term_of w old g.ends n) (IsWithinGraph g.ends new)
        (λ x is.
        let lesser = agree x.lesser.0 is.lesser.0 in
        let greater = agree x.greater.0 is.greater.0 in
        grind (arith, lesser, greater)) (in_order (found_at w g n))
        (recursion_from_All (IsWithinGraph g.ends new) (in_order (found_at w g n))
        (found_within g fit w new (weights_light ws (get_or g.kinds n Junction) light) have n here))

    same_below : (n : ℕ) → n ≤ length g.kinds → terms_below h ws new n ≡ terms_below g ws old n
    same_below zero few = refl
    same_below (suc n) few =
        ap₂ (λ (xs ys : List Term). xs ++ ys) (same_below n (omega (arith, few))) (same_at n (omega (arith, few)))

    same_terms : graph_terms h ws new ≡ graph_terms g ws old
    same_terms = ap (terms_below h ws new) count ∙ same_below (length g.kinds) (omega arith)

    -- the problem, or too many terms
    pub same_problem : graph_problem h ws new ≡ graph_problem g ws old
    same_problem = ap (λ (ts : List Term). problem_with ts) same_terms
      where
        problem_with : List Term → Result ProblemParts Limit
        problem_with ts = unless_above Terms (length ts) (Ok (record { segs = g.lines; terms = ts }))
