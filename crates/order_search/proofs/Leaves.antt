-- A complete prefix at a leaf.
use Rattle.std.proofs.Common.{◌≡◌, ℕ, ◌<◌, ◌≤◌, nat_lt, Bool, true, false, cond, List, map, refl, sym, ◌∙◌, ap, subst, arith, None}
use Rattle.std.proofs.lemmas.Bool.{lt-ltb, ltb-true}
use Rattle.order_model.specs.Problems.{lines_on}
use Rattle.part_bounds.specs.PartStates.{PartState}
use Rattle.order_model.specs.declared.term.Term.{Term}
use Rattle.order_model.specs.Costs.{cost_of}
use Rattle.order_model.specs.PartTerms.{plain_terms}
use Rattle.order_bound.specs.Bounds.{bound_of}
use Rattle.order_search.proofs.CompleteBounds.{complete_bound}
use Rattle.order_search.specs.Left.{first_open}
use Rattle.order_search.specs.LiveTrees.{Best, best_at, better}
use Rattle.order_search.specs.declared.search_state.Search.{Search}
use Rattle.order_search.specs.Searching.{part_of, best_of, IsUnderWay, IsKept, HasGrown}

pub leaf_cost : (search : Search) → IsUnderWay search → first_open search.bounds.segs search.bounds.part search.bounds.placed ≡ None
    → bound_of search.bounds.segs search.bounds.part search.bounds.terms search.bounds.placed ≡ cost_of (plain_terms search.bounds.terms) search.bounds.placed
leaf_cost search u complete =
    let b : PartState = search.bounds in
    let is = complete_bound b.segs search.problem.now.terms b.part b.placed u.rising u.problem.fits u.problem.rises u.known u.well complete in
    subst (λ (t : List (ℕ × Term)). bound_of b.segs b.part t b.placed ≡ cost_of (plain_terms t) b.placed) (sym u.problem.terms) is

leaf_better : (b : PartState) (cost : ℕ) (best : Best) → cost ≡ cost_of (plain_terms b.terms) b.placed
    → cost < best.cost → better (part_of b) b.placed best ≡ record { cost = cost; lists = map (λ s. lines_on b.placed s) b.part }
leaf_better b cost best same below =
    ap (λ t. cond t (best_at (part_of b) b.placed) best) (lt-ltb (cost_of (plain_terms b.terms) b.placed) best.cost (omega (arith, same, below)))
    ∙ ap (λ (n : ℕ). let at : Best = record { cost = n; lists = map (λ s. lines_on b.placed s) b.part } in at) (sym same)

pub leaf_no_better : (b : PartState) (cost : ℕ) (best : Best) → cost ≡ cost_of (plain_terms b.terms) b.placed → best.cost ≤ cost → better (part_of b) b.placed best ≡ best
leaf_no_better b cost best same above = by_test (nat_lt (cost_of (plain_terms b.terms) b.placed) best.cost) refl (omega (arith, same, above))
  where
    by_test : (t : Bool) → nat_lt (cost_of (plain_terms b.terms) b.placed) best.cost ≡ t → best.cost ≤ cost_of (plain_terms b.terms) b.placed
        → cond t (best_at (part_of b) b.placed) best ≡ best
    by_test true e h = absurd (omega (arith, h, ltb-true (cost_of (plain_terms b.terms) b.placed) best.cost e))
    by_test false e h = refl

-- the best so far stays
pub leaf_kept : (search : Search) (cost : ℕ) → IsUnderWay search → first_open search.bounds.segs search.bounds.part search.bounds.placed ≡ None
    → cost ≡ bound_of search.bounds.segs search.bounds.part search.bounds.terms search.bounds.placed → search.cost ≤ cost
    → HasGrown search search (better (part_of search.bounds) search.bounds.placed (best_of search)) 0
leaf_kept search cost u complete is above = record {
  kept = record { under_way = u; bounds = refl; budget = refl; children = refl };
  found = sym (leaf_no_better search.bounds cost (best_of search) (is ∙ leaf_cost search u complete) above);
  spent = omega arith;
}

-- the best so far is that of the prefix
pub leaf_taken : (old new : Search) (cost : ℕ) → IsUnderWay old → IsKept old new → new.spent ≡ old.spent
    → first_open old.bounds.segs old.bounds.part old.bounds.placed ≡ None
    → cost ≡ bound_of old.bounds.segs old.bounds.part old.bounds.terms old.bounds.placed → cost < old.cost
    → best_of new ≡ record { cost = cost; lists = map (λ s. lines_on old.bounds.placed s) old.bounds.part }
    → HasGrown old new (better (part_of old.bounds) old.bounds.placed (best_of old)) 0
leaf_taken old new cost u kept spent complete is below found = record {
  kept = kept;
  found = found ∙ sym (leaf_better old.bounds cost (best_of old) (is ∙ leaf_cost old u complete) below);
  spent = omega (arith, spent);
}
