-- What either search finds in a problem that is a part by itself is what comes of that part.
use Rattle.std.proofs.Common.{◌≡◌, ℕ, Bool, true, false, cond, List, sym, ◌∙◌, ap}
use Rattle.map_base.specs.declared.ids.SegId.{SegId}
use Rattle.order_model.specs.declared.problem.ProblemParts.{ProblemParts}
use Rattle.order_search.specs.FoundParts.{branches_in}
use Rattle.dual_ascent.specs.DualResults.{dual_result}
use Rattle.dual_ascent.specs.OwnNumbers.{all_segments}
use Rattle.kept_trees.specs.declared.plan.SearchPlan.{SearchPlan}
use Rattle.kept_trees.specs.Results.{is_dual, dual_own, dual_outcome, live_outcome, own_outcome, own_branches}
use Rattle.kept_trees.proofs.LiveOutcomes.{Outcome}

module _ (plan : SearchPlan) (own problem : ProblemParts) (same : problem ≡ own) (asked : Bool)
    (asked_is : asked ≡ is_dual plan.search problem (all_segments problem)) where
  abbrev by_prices : Outcome
  by_prices = dual_outcome plan.claim plan.budget (dual_own plan.budget problem)

  abbrev live : List SegId → Outcome
  live part = live_outcome plan.budget problem part

  abbrev outcome_by : Bool → Outcome
  outcome_by b = cond b by_prices (live (all_segments problem))

  abbrev branches_by : Bool → ℕ
  branches_by b = cond b (dual_own plan.budget problem).branches (branches_in problem (all_segments problem))

  pub priced : asked ≡ true
      → (by_prices ≡ own_outcome plan own) × ((dual_result problem plan.budget).branches ≡ own_branches plan own)
  priced dual = (
    sym (ap outcome_by (sym asked_is ∙ dual)) ∙ ap (own_outcome plan) same,
    sym (ap branches_by (sym asked_is ∙ dual)) ∙ ap (own_branches plan) same,
  )

  pub grown : (part : List SegId) → part ≡ all_segments own → asked ≡ false
      → (live part ≡ own_outcome plan own) × (branches_in problem part ≡ own_branches plan own)
  grown part part_is not_dual =
      let all : part ≡ all_segments problem = part_is ∙ sym (ap all_segments same) in (
        ap live all ∙ sym (ap outcome_by (sym asked_is ∙ not_dual)) ∙ ap (own_outcome plan) same,
        ap (branches_in problem) all ∙ sym (ap branches_by (sym asked_is ∙ not_dual)) ∙ ap (own_branches plan) same,
      )
