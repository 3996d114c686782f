-- What comes of a part shows what none of its orders cost less than.
use Rattle.std.proofs.Common.{◌≡◌, ℕ, ◌+◌, ◌<◌, ◌≤◌, ◌==◌, nat_le, Bool, true, false, cond, List, [], ◌∷◌, length}
use Rattle.std.proofs.Common.{refl, sym, ◌∙◌, ap, subst, arith, inl, inr, eqb-true, true≢false, Ok, Err}
use Rattle.std.specs.List.{All, AllByRecursion}
use Rattle.std.proofs.lemmas.Bool.{leb-true}
use Rattle.std.proofs.lemmas.List.{length-map}
use Rattle.std.proofs.lemmas.List.Elements.{recursion_from_All}
use Rattle.map_base.specs.declared.ids.SegId.{SegId}
use Rattle.map_method.specs.declared.search.Search.{Search}
use Rattle.map_method.specs.declared.search.Search.TheVariants.{Live, Dual}
use Rattle.map_method.specs.declared.claim.Claim.{Claim}
use Rattle.map_method.specs.declared.claim.Claim.TheVariants.{Best, Bound}
use Rattle.order_model.specs.declared.problem.ProblemParts.{ProblemParts}
use Rattle.order_model.specs.Problems.{lines_on, IsProblem}
use Rattle.order_model.specs.Costs.{cost_of}
use Rattle.order_model.specs.Parts.{IsRisingPart}
use Rattle.order_model.specs.PartTerms.{is_in, part_terms, part_numbers}
use Rattle.order_model.specs.Prefixes.{none_placed}
use Rattle.order_model.specs.Questions.{question}
use Rattle.order_model.proofs.Lines.{either_true}
use Rattle.order_proof.specs.Trees.{IsPartTree}
use Rattle.order_bound.proofs.Failing.{accepted_exactly}
use Rattle.order_search.specs.declared.found.SearchFault.{SearchFault}
use Rattle.order_search.specs.declared.found.SearchFault.TheVariants as fault
use Rattle.order_search.specs.LiveTrees.{GrownTree, live_tree}
use Rattle.order_search.specs.Finding.{places_of, IsLeast, AreAttained}
use Rattle.order_search.specs.FoundParts.{part_in}
use Rattle.order_search.specs.ByItself.{by_itself}
use Rattle.order_search.proofs.Shows as live
use Rattle.dual_bound.proofs.Shown.{shown_part_bounds}
use Rattle.dual_ascent.specs.DualResults.{DualResult, dual_result}
use Rattle.dual_ascent.specs.Shown.{IsShown}
use Rattle.dual_ascent.proofs.Results.{reached_shown}
use Rattle.kept_trees.specs.declared.plan.SearchPlan.{SearchPlan}
use Rattle.kept_trees.specs.declared.found_part.FoundPart.{FoundPart}
use Rattle.kept_trees.specs.Renumbered.{renumbered_dual}
use Rattle.kept_trees.specs.Results.{PartResult, by_live, by_dual, is_dual, live_found, live_outcome, renumbered_result, dual_part}
use Rattle.kept_trees.specs.Results.{dual_outcome, part_outcome, result_found, IsAccepted, CostTarget, IsResult, IsOwnFound}
use Rattle.kept_trees.proofs.LiveOutcomes.{Outcome, too_deep}
use Rattle.kept_trees.proofs.OwnOutcomes.{same_search, same_outcome, in_problem}
use Rattle.kept_trees.proofs.OwnNumbers.{some_segments}
use Rattle.kept_trees.proofs.OwnProblems.{problem_by_itself}
use Rattle.kept_trees.proofs.OwnDuals.{own_accepted, own_listed, renumbered_depth}
use Rattle.kept_trees.proofs.OwnOrders.{orders_in_problem, own_cost}
use Rattle.kept_trees.proofs.PutOrders.{length-orders}

-- what a result of the part shows
pub record Shows (p : ProblemParts) (part : List SegId) (r : PartResult) : Type 0 where
  pub bound : IsLeast (part_in p part) r.target
  pub cost : ℕ
  pub attained : AreAttained (part_in p part) r.lists cost
  pub costs : CostTarget r.complete r.target cost
  pub accepted : IsAccepted (question p.segs part (part_terms p.terms part) r.target) r.tree
  pub of_proofs : IsPartTree r.tree

-- ---- outcomes that are results

pub same_ok : (x y : PartResult) → ◌≡◌ {A = Outcome} (Ok x) (Ok y) → x ≡ y
same_ok x y e = cc

pub no_ok : (x : PartResult) (e : SearchFault) → ◌≡◌ {A = Outcome} (Err e) (Ok x) → ⊥
no_ok x e h = cc

-- a choice between a result and a fault that is a result
pub chosen : (b : Bool) (x r : PartResult) (e : SearchFault) → ◌≡◌ {A = Outcome} (cond b (Ok x) (Err e)) (Ok r)
    → (b ≡ true) × (x ≡ r)
chosen true x r e h = (refl, same_ok x r h)
chosen false x r e h = absurd (no_ok r e h)

-- what the live search found is within both limits
pub live_is : (budget places : ℕ) (x r : PartResult) → cond (nat_le places 2048) (live_found budget x) too_deep ≡ Ok r
    → (nat_le places 2048 ≡ true) × (nat_le x.branches budget ≡ true) × (x ≡ r)
live_is budget places x r h = by (nat_le places 2048) refl h
  where
    by : (b : Bool) → nat_le places 2048 ≡ b → cond b (live_found budget x) too_deep ≡ Ok r
        → (nat_le places 2048 ≡ true) × (nat_le x.branches budget ≡ true) × (x ≡ r)
    by true e h =
        let both = chosen (nat_le x.branches budget) x r (fault.Spent (budget + 1)) h in (e, both.0, both.1)
    by false e h = absurd (no_ok r _ h)

-- ---- the two searches

cost_target : (b : Bool) (target cost : ℕ) → (b ≡ true → cost ≡ target) → CostTarget b target cost
cost_target true target cost h = h refl
cost_target false target cost h = tt

-- a number that all segments of a part are below
below_all : (most : ℕ) (part : List SegId) → AllByRecursion (λ (s : SegId). s.0 < most) part → (u : SegId)
    → is_in part u ≡ true → u.0 < most
below_all most [] known u h = absurd (true≢false (sym h))
below_all most (s ∷ part) known u h = elim (either_true (s.0 == u.0) (is_in part u) h) [
  | inl here ↦ omega (arith, known.0, eqb-true s.0 u.0 here)
  | inr later ↦ below_all most part known.1 u later
]

-- the branch nodes of a result are shown by nothing
with_branches : (p : ProblemParts) (part : List SegId) (r : PartResult) (n : ℕ) → Shows p part r
    → Shows p part (record r { branches = n })
with_branches p part r n h = record {
  bound = h.bound;
  cost = h.cost;
  attained = h.attained;
  costs = h.costs;
  accepted = h.accepted;
  of_proofs = h.of_proofs;
}

module _ (p : ProblemParts) (part : List SegId) (ok : IsProblem p) (known : All (λ (s : SegId). s.0 < length p.segs) part) (rising : IsRisingPart part) where
  abbrev own : ProblemParts
  own = by_itself p part

  abbrev numbers_there : List ℕ
  numbers_there = part_numbers p.terms part

  live_shows : nat_le (places_of p.segs part) 2048 ≡ true → Shows p part (by_live (live_tree (part_in p part)))
  live_shows few =
      let grown : GrownTree = live_tree (part_in p part) in
      record {
        bound = live.least p.segs p.terms part ok.rising ok.terms rising known;
        cost = grown.best.cost;
        attained = live.attained p.segs p.terms part ok.rising ok.terms rising known;
        costs = refl;
        accepted = (accepted_exactly (question p.segs part (part_terms p.terms part) grown.best.cost) (none_placed p.segs) grown.tree).0
            (live.accepted p.segs p.terms part ok.rising ok.terms rising known);
        of_proofs = live.of_proofs p.segs p.terms part ok.rising ok.terms rising known (leb-true (places_of p.segs part) 2048 few);
      }

  -- what dual prices show of the part by itself they show of the part
  shown_there : (budget : ℕ) (r : DualResult) → IsShown own budget r
      → Shows p part (renumbered_result part numbers_there (by_dual r))
  shown_there budget r shown =
      let accepted = own_accepted p part r.target r.tree rising shown.unfailing in
      let each : length r.orders ≡ length part = length-orders own.segs r.orders shown.orders ∙ length-map part (lines_on p.segs) in
      let below = below_all (length p.segs) part (recursion_from_All (λ (s : SegId). s.0 < length p.segs) part known) in
      record {
        bound = shown_part_bounds p.segs part p.terms r.target (renumbered_dual part numbers_there r.tree) ok.rising ok.terms rising known accepted;
        cost = cost_of own.terms r.orders;
        attained = record {
          each = each;
          orders = orders_in_problem p.segs part r.orders shown.orders;
          costs = sym (own_cost p part r.orders each below);
        };
        costs = cost_target r.complete r.target (cost_of own.terms r.orders) shown.attained;
        accepted = accepted;
        of_proofs = record {
          is_tree = own_listed p part r.target r.tree rising shown.unfailing shown.listed;
          depth = omega (arith, renumbered_depth part numbers_there r.tree, shown.shallow);
        };
      }

  dual_shows : (budget : ℕ) → budget ≤ 100000 → is_dual Dual p part ≡ true → Shows p part (dual_part budget p part)
  dual_shows budget light reach =
      let fits = problem_by_itself p part ok known rising in
      shown_there budget (dual_result own budget)
      (reached_shown own budget fits.rising fits.terms (some_segments p part rising) (sym (same_search p part known rising Dual) ∙ reach) light)

  dual_asked : (search : Search) → is_dual search p part ≡ true → is_dual Dual p part ≡ true
  dual_asked Live h = absurd (true≢false (sym h))
  dual_asked Dual h = h

  dual_is : (claim : Claim) (budget : ℕ) (x r : PartResult) → Shows p part x → dual_outcome claim budget x ≡ Ok r
      → Shows p part r
  dual_is Best budget x r h e = subst (Shows p part) (chosen x.complete x r (fault.Spent (budget + 1)) e).1 h
  dual_is Bound budget x r h e = subst (Shows p part) (same_ok (cond x.complete x (record x { branches = budget })) r e) (by x.complete)
    where
      by : (b : Bool) → Shows p part (cond b x (record x { branches = budget }))
      by true = h
      by false = with_branches p part x budget h

  -- what comes of the part shows it
  outcome_shows : (plan : SearchPlan) (r : PartResult) → plan.budget ≤ 100000 → part_outcome plan p part ≡ Ok r
      → Shows p part r
  outcome_shows plan r light e = by (is_dual plan.search p part) refl e
    where
      by : (b : Bool) → is_dual plan.search p part ≡ b
          → cond b (dual_outcome plan.claim plan.budget (dual_part plan.budget p part)) (live_outcome plan.budget p part) ≡ Ok r
          → Shows p part r
      by true dual h =
          dual_is plan.claim plan.budget (dual_part plan.budget p part) r (dual_shows plan.budget light (dual_asked plan.search dual)) h
      by false dual h =
          let is = live_is plan.budget (places_of p.segs part) (by_live (live_tree (part_in p part))) r h in
          subst (Shows p part) is.2 (live_shows is.0)

  module _ (plan : SearchPlan) (f : FoundPart) (numbers : List ℕ) (told : numbers ≡ numbers_there) (light : plan.budget ≤ 100000)
      (found : IsOwnFound plan own f) where
    abbrev here : PartResult
    here = renumbered_result part numbers (result_found f)

    outcome_here : part_outcome plan p part ≡ Ok here
    outcome_here =
        same_outcome p part known rising plan
        ∙ ap (in_problem part numbers_there) found
        ∙ ap (λ (ns : List ℕ). in_problem part ns (Ok (result_found f))) (sym told)

    shows_here : Shows p part here
    shows_here = outcome_shows plan here light outcome_here

    -- the tree of what was found for the part by itself is one that a proof may have, with the numbers of the problem
    pub tree_here : IsPartTree here.tree
    tree_here = shows_here.of_proofs

    -- the part is found by what was found for the part by itself
    pub found_here : (there : FoundPart) → result_found there ≡ here → IsResult plan p part there
    found_here there same =
        let shows : Shows p part (result_found there) = subst (Shows p part) (sym same) shows_here in
        record {
          found = outcome_here ∙ ap as_ok (sym same);
          bound = shows.bound;
          cost = shows.cost;
          attained = shows.attained;
          costs = shows.costs;
          accepted = shows.accepted;
          of_proofs = shows.of_proofs;
        }
      where
        as_ok : PartResult → Outcome
        as_ok r = Ok r
