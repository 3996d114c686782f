-- Rules that apply, one after another: what they make is a problem, lifted orders cost the same, lifted best orders are best.
use Rattle.std.proofs.Common.{◌≡◌, ℕ, ◌+◌, ◌-◌, ◌<◌, ◌≤◌, true, List, [], ◌∷◌, ◌++◌, length, get_or, take, refl, sym, ap, subst, ◌∙◌, arith}
use Rattle.std.specs.Prelude.{slice_set}
use Rattle.std.specs.List.{sum_by}
use Rattle.map_base.specs.declared.ids.SegId.{SegId}
use Rattle.map_base.specs.declared.ids.LineId.{LineId}
use Rattle.order_values.specs.declared.rule.Rule.{Rule}
use Rattle.order_values.specs.declared.rule.Rule.TheVariants.{Merge, Divide}
use Rattle.order_model.specs.declared.problem.ProblemParts.{ProblemParts}
use Rattle.order_model.specs.Problems.{lines_on, choices, IsProblem}
use Rattle.order_model.specs.Costs.{cost_of, AreOrders, AreBest}
use Rattle.order_model.proofs.OrderLemmas.{length-orders}
use Rattle.order_rules.specs.Dividing.{divided}
use Rattle.order_rules.specs.Lifting.{lifted, lifted_all}
use Rattle.order_rules.specs.Untangling.{rule_applies, after_rule, after_rules, ApplyInTurn}
use Rattle.order_rules.proofs.DivideCosts.{joined}
use Rattle.order_rules.proofs.MergeRule as merging
use Rattle.order_rules.proofs.MergeProblem as merge_problem
use Rattle.order_rules.proofs.DivideRule as dividing
use Rattle.order_rules.proofs.DivideProblem as divide_problem

-- orders that cost at most so much
pub record AtMost (p : ProblemParts) (bound : ℕ) : Type 0 where
  pub orders : List (List LineId)
  pub are : AreOrders p.segs orders
  pub less : cost_of p.terms orders ≤ bound

-- what a rule keeps
pub record Keeps (p : ProblemParts) (r : Rule) : Type 0 where
  pub problem : IsProblem (after_rule p r)
  pub fewer : sum_by choices (after_rule p r).segs < sum_by choices p.segs
  pub orders : (q : List (List LineId)) → AreOrders (after_rule p r).segs q → AreOrders p.segs (lifted r q)
  pub cost : (q : List (List LineId)) → AreOrders (after_rule p r).segs q → cost_of p.terms (lifted r q) ≡ cost_of (after_rule p r).terms q
  pub less : (q : List (List LineId)) → AreOrders p.segs q → AtMost (after_rule p r) (cost_of p.terms q)

lifted_is : (p : ProblemParts) (e : SegId) (group : List LineId) (q : List (List LineId)) → length q ≡ length p.segs + 1 → lifted (Divide e group) q ≡ joined p.segs q e
lifted_is p e group q many =
    let one_less : length q - 1 ≡ length p.segs = omega (arith, many) in
    ap (λ (n : ℕ). slice_set (take n q) e.0 (lines_on q e ++ get_or q n [])) one_less

pub keeps : (p : ProblemParts) (r : Rule) → IsProblem p → rule_applies p r ≡ true → Keeps p r
keeps p (Merge into from flip) is h =
    let ok = merging.merges p into from flip is h in
    record {
      problem = merge_problem.merged_problem p into from flip ok is;
      fewer = merge_problem.fewer_choices p into from flip ok;
      orders = λ q k. merging.lifted_orders p into from flip ok q k;
      cost = λ q k. merging.lifted_cost p into from flip ok q is.terms k;
      less = λ q k. record {
        orders = merging.without p into from flip ok q;
        are = merging.without_orders p into from flip ok q k;
        less = merging.no_more p into from flip ok q is.terms k;
      };
    }
keeps p (Divide seg first) is h =
    let ok = dividing.divides p seg first is h in
    let same = λ (q : List (List LineId)) (k : AreOrders (divided p seg first).segs q). lifted_is p seg first q (sym (length-orders (divided p seg first).segs q k) ∙ dividing.count p seg first ok) in
    record {
      problem = divide_problem.divided_problem p seg first ok is;
      fewer = divide_problem.fewer_choices p seg first ok;
      orders = λ q k. let O : List (List LineId) → Type 0 = λ o. AreOrders p.segs o in subst O (sym (same q k)) (dividing.lifted_orders p seg first ok q k);
      cost = λ q k. ap (cost_of p.terms) (same q k) ∙ dividing.lifted_cost p seg first ok q is.terms k;
      less = λ q k. record {
        orders = dividing.apart_orders p seg first ok q;
        are = dividing.apart_are p seg first ok q k;
        less = dividing.no_more p seg first ok q is.terms k;
      };
    }

pub all_problem : (p : ProblemParts) (rules : List Rule) → IsProblem p → ApplyInTurn p rules → IsProblem (after_rules p rules)
all_problem p [] is h = is
all_problem p (r ∷ rules) is h = all_problem (after_rule p r) rules (keeps p r is h.0).problem h.1

pub all_orders : (p : ProblemParts) (rules : List Rule) (q : List (List LineId)) → IsProblem p → ApplyInTurn p rules → AreOrders (after_rules p rules).segs q → AreOrders p.segs (lifted_all rules q)
all_orders p [] q is h k = k
all_orders p (r ∷ rules) q is h k =
    let one = keeps p r is h.0 in
    one.orders (lifted_all rules q) (all_orders (after_rule p r) rules q one.problem h.1 k)

pub all_cost : (p : ProblemParts) (rules : List Rule) (q : List (List LineId)) → IsProblem p → ApplyInTurn p rules → AreOrders (after_rules p rules).segs q
    → cost_of p.terms (lifted_all rules q) ≡ cost_of (after_rules p rules).terms q
all_cost p [] q is h k = refl
all_cost p (r ∷ rules) q is h k =
    let one = keeps p r is h.0 in
    one.cost (lifted_all rules q) (all_orders (after_rule p r) rules q one.problem h.1 k) ∙ all_cost (after_rule p r) rules q one.problem h.1 k

pub all_less : (p : ProblemParts) (rules : List Rule) (q : List (List LineId)) → IsProblem p → ApplyInTurn p rules → AreOrders p.segs q → AtMost (after_rules p rules) (cost_of p.terms q)
all_less p [] q is h k = record { orders = q; are = k; less = omega arith }
all_less p (r ∷ rules) q is h k =
    let one = keeps p r is h.0 in
    let better = one.less q k in
    let best = all_less (after_rule p r) rules better.orders one.problem h.1 better.are in
    record { orders = best.orders; are = best.are; less = omega (arith, best.less, better.less) }

pub all_best : (p : ProblemParts) (rules : List Rule) (q : List (List LineId)) → IsProblem p → ApplyInTurn p rules → AreOrders (after_rules p rules).segs q
    → AreBest (after_rules p rules).segs (after_rules p rules).terms q → AreBest p.segs p.terms (lifted_all rules q)
all_best p rules q is h k best others are =
    let better = all_less p rules others is h are in
    omega (arith, all_cost p rules q is h k, best better.orders better.are, better.less)
