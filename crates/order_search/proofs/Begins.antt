-- The beginning of a search of a part.
use Rattle.std.proofs.Common.{◌≡◌, ℕ, ◌+◌, ◌<◌, ◌≤◌, ◌^◌, List, [], length, map, get_or, refl, sym, ◌∙◌, ap, subst, arith}
use Rattle.std.specs.List.{All, sum_by}
use Rattle.std.proofs.lemmas.List.{length-map}
use Rattle.map_base.specs.declared.ids.SegId.{SegId}
use Rattle.map_base.specs.declared.ids.LineId.{LineId}
use Rattle.graph_core.specs.Consistent.{AreRising}
use Rattle.order_model.specs.declared.term.Term.{Term}
use Rattle.order_model.specs.declared.problem.ProblemParts.{ProblemParts}
use Rattle.order_model.specs.Problems.{lines_on, IsProblem}
use Rattle.order_model.specs.Costs.{term_cost, cost_of}
use Rattle.order_model.specs.Parts.{IsRisingPart}
use Rattle.order_model.specs.PartTerms.{part_terms, part_numbers, plain_terms, no_term}
use Rattle.order_model.specs.Prefixes.{none_placed}
use Rattle.order_model.proofs.KeptTerms.{part_numbers_known, part_terms_few, part_terms_by_number}
use Rattle.order_bound.proofs.Sums.{sum_map}
use Rattle.part_bounds.specs.PartStates.{PartState, IsWell}
use Rattle.order_search.specs.declared.search_state.Search.{Search}
use Rattle.order_search.specs.LiveTrees.{Best}
use Rattle.order_search.specs.FoundParts.{cost_of_number}
use Rattle.order_search.specs.Searching.{part_of, IsOfProblem, IsBegun}

pub numbers_known : (terms : List Term) (part : List SegId) (numbers : List ℕ) → numbers ≡ part_numbers terms part → All (λ n. n < length terms) numbers
numbers_known terms part numbers e = subst (All (λ n. n < length terms)) (sym e) (part_numbers_known part terms)

pub numbers_few : (terms : List Term) (part : List SegId) (numbers : List ℕ) → numbers ≡ part_numbers terms part → length numbers ≤ length terms
numbers_few terms part numbers e =
    omega (arith, ap length e, length-map (part_terms terms part) (λ (q : ℕ × Term). q.0), part_terms_few part terms)

-- the terms of the numbers cost what the terms of the part do
pub cost_told : (problem : ProblemParts) (part : List SegId) (numbers : List ℕ) → numbers ≡ part_numbers problem.terms part
    → sum_by (cost_of_number problem) numbers ≡ cost_of (plain_terms (part_terms problem.terms part)) problem.segs
cost_told problem part numbers e =
    let cost : ℕ × Term → ℕ = λ q. term_cost problem.segs q.1 in
    let numbered : ℕ → ℕ × Term = λ n. (n, get_or problem.terms n no_term) in
    ap (sum_by (cost_of_number problem)) e
    ∙ sym (sum_map cost numbered (part_numbers problem.terms part))
    ∙ ap (sum_by cost) (part_terms_by_number part problem.terms)
    ∙ sym (sum_map (term_cost problem.segs) (λ (q : ℕ × Term). q.1) (part_terms problem.terms part))

-- nothing is placed, and the number order is the best so far
pub begins : (problem : ProblemParts) (part : List SegId) (budget : ℕ) (search : Search)
    → IsProblem problem → All (λ (s : SegId). s.0 < length problem.segs) part → IsRisingPart part → budget + 1 < 2 ^ 32
    → search.problem.now ≡ problem → search.part.now ≡ part → search.bounds.segs ≡ problem.segs → search.bounds.part ≡ part
    → search.bounds.terms ≡ part_terms problem.terms part → search.bounds.placed ≡ none_placed problem.segs → IsWell search.bounds.segs search.bounds.placed
    → search.cost ≡ cost_of (plain_terms (part_terms problem.terms part)) problem.segs → search.lists.items ≡ map (λ s. lines_on problem.segs s) part
    → search.spent ≡ 0 → search.budget ≡ budget → search.children.items ≡ [] → search.root_bound ≡ (part_of search.bounds).bound search.bounds.placed
    → IsBegun problem.segs part (part_terms problem.terms part) budget search
begins problem part budget search ok known rising few p q bs bp bt bl well cost lists spent given children root =
    let terms : List (ℕ × Term) = part_terms problem.terms part in
    let b : PartState = search.bounds in
    let state : PartState = record { segs = problem.segs; part = part; terms = terms; placed = none_placed problem.segs } in
    let made : List (List LineId) → List SegId → List (ℕ × Term) → List (List LineId) → PartState = λ s p t l. record { segs = s; part = p; terms = t; placed = l } in
    let is : b ≡ state =
    ap (λ x. made x b.part b.terms b.placed) bs ∙ ap (λ x. made problem.segs x b.terms b.placed) bp
    ∙ ap (λ x. made problem.segs part x b.placed) bt ∙ ap (made problem.segs part terms) bl in
    let best : ℕ → List (List LineId) → Best = λ n l. record { cost = n; lists = l } in
    let here : IsOfProblem problem state = record { terms = refl; fits = ok.terms; rises = rising } in
    record {
      under_way = record {
        segs = ap (λ (x : ProblemParts). x.segs) p ∙ sym bs;
        part = q ∙ sym bp;
        problem = subst (λ (x : ProblemParts). IsOfProblem x b) (sym p) (subst (IsOfProblem problem) (sym is) here);
        rising = subst (λ (x : PartState). All AreRising x.segs) (sym is) ok.rising;
        known = subst (λ (x : PartState). All (λ (s : SegId). s.0 < length x.segs) x.part) (sym is) known;
        well = well;
        within = omega (arith, spent);
        budget = omega (arith, given, few);
      };
      bounds = is;
      root = root;
      best = ap (λ n. best n search.lists.items) cost ∙ ap (best (cost_of (plain_terms terms) problem.segs)) lists;
      spent = spent;
      given = given;
      children = children;
    }
