-- What the untangling of a problem keeps: its orders, what they cost, and what none cost less than.
use Rattle.std.proofs.Common.{◌≡◌, ◌≤◌, ℕ, sym, subst, List, arith}
use Rattle.std.specs.List.{sum_by}
use Rattle.map_base.specs.declared.ids.LineId.{LineId}
use Rattle.order_model.specs.declared.problem.ProblemParts.{ProblemParts}
use Rattle.order_model.specs.Problems.{choices, IsProblem}
use Rattle.order_model.specs.Costs.{cost_of, AreOrders}
use Rattle.order_rules.specs.Untangling.{after_rules, untangling, ApplyInTurn}
use Rattle.order_rules.specs.Lifting.{lifted_all}
use Rattle.order_rules.proofs.RuleLaws.{all_problem, all_orders, all_cost, all_less}
use Rattle.order_rules.proofs.UntanglingLaws.{untangled_ends, Ends}
use Rattle.order_check.specs.LowerBounds.{IsLowerBound}
use Rattle.graph_maps.specs.Problems.{untangling_rules, untangled_problem}

module _ (p : ProblemParts) (is : IsProblem p) where
  ends : Ends p (untangling p)
  ends = untangled_ends (sum_by choices p.segs) p is (omega arith)

  pub rules_apply : ApplyInTurn p (untangling_rules p)
  rules_apply = ends.apply

  pub last_is : untangled_problem p ≡ after_rules p (untangling_rules p)
  last_is = ends.last

  pub untangled_fits : IsProblem (untangled_problem p)
  untangled_fits = subst IsProblem (sym last_is) (all_problem p (untangling_rules p) is rules_apply)

  module _ (orders : List (List LineId)) (are : AreOrders (untangled_problem p).segs orders) where
    are_of_last : AreOrders (after_rules p (untangling_rules p)).segs orders
    are_of_last = subst (λ (q : ProblemParts). AreOrders q.segs orders) last_is are

    pub lifted_are : AreOrders p.segs (lifted_all (untangling_rules p) orders)
    lifted_are = all_orders p (untangling_rules p) orders is rules_apply are_of_last

    pub lifted_cost : cost_of p.terms (lifted_all (untangling_rules p) orders) ≡ cost_of (untangled_problem p).terms orders
    lifted_cost =
        subst (λ (q : ProblemParts). cost_of p.terms (lifted_all (untangling_rules p) orders) ≡ cost_of q.terms orders) (sym last_is)
        (all_cost p (untangling_rules p) orders is rules_apply are_of_last)

  -- what no orders of the untangled problem cost less than, none of the problem do
  pub bound_kept : (bound : ℕ) → IsLowerBound (untangled_problem p).segs (untangled_problem p).terms bound
      → IsLowerBound p.segs p.terms bound
  bound_kept bound least others are =
      let less = all_less p (untangling_rules p) others is rules_apply are in
      let last = subst (λ (q : ProblemParts). IsLowerBound q.segs q.terms bound) last_is least in
      let here : bound ≤ cost_of (after_rules p (untangling_rules p)).terms less.orders = last less.orders less.are in
      omega (arith, here, less.less)
