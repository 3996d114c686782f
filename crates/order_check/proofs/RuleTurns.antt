-- Rules that apply in turn, and the number of the first that does not.
use Rattle.std.proofs.Common.{◌≡◌, ◌∙◌, ap, refl, ℕ, ◌+◌, ◌≤◌, Bool, true, false, cond, List, [], ◌∷◌, length, arith, Some, None}
use Rattle.std.specs.List.{sum_by}
use Rattle.order_values.specs.declared.rule.Rule.{Rule}
use Rattle.order_model.specs.declared.problem.ProblemParts.{ProblemParts}
use Rattle.order_model.specs.Problems.{choices, IsProblem}
use Rattle.order_rules.specs.Untangling.{rule_applies, after_rule, ApplyInTurn, first_refused}
use Rattle.order_rules.proofs.RuleLaws.{keeps}

-- where none is refused, all apply in turn
pub all_apply : (k : ℕ) (p : ProblemParts) (rules : List Rule) → first_refused k p rules ≡ None → ApplyInTurn p rules
all_apply k p [] none = tt
all_apply k p (r ∷ rules) none = by_test (rule_applies p r) refl none (all_apply (k + 1) (after_rule p r) rules)
  where
    by_test : (b : Bool) → rule_applies p r ≡ b → cond b (first_refused (k + 1) (after_rule p r) rules) (Some k) ≡ None
        → (first_refused (k + 1) (after_rule p r) rules ≡ None → ApplyInTurn (after_rule p r) rules) → ApplyInTurn p (r ∷ rules)
    by_test true e h later = (e, later h)
    by_test false e h later = absurd cc

-- and the other way round
pub none_refused : (k : ℕ) (p : ProblemParts) (rules : List Rule) → ApplyInTurn p rules → first_refused k p rules ≡ None
none_refused k p [] apply = refl
none_refused k p (r ∷ rules) apply = ap (λ (b : Bool). cond b (first_refused (k + 1) (after_rule p r) rules) (Some k)) apply.0 ∙ none_refused (k + 1) (after_rule p r) rules apply.1

-- each rule takes a choice away, so no more rules apply in turn than there are choices
pub few_rules : (p : ProblemParts) (rules : List Rule) → IsProblem p → ApplyInTurn p rules → length rules ≤ sum_by choices p.segs
few_rules p [] is apply = omega arith
few_rules p (r ∷ rules) is apply =
    let one = keeps p r is apply.0 in
    omega (arith, one.fewer, few_rules (after_rule p r) rules one.problem apply.1)

-- and the number of the first that does not apply is no greater
pub refused_early : (k : ℕ) (p : ProblemParts) (rules : List Rule) (i : ℕ) → IsProblem p → first_refused k p rules ≡ Some i → i ≤ k + sum_by choices p.segs
refused_early k p [] i is h = absurd cc
refused_early k p (r ∷ rules) i is h = by_test (rule_applies p r) refl h (λ one more. refused_early (k + 1) (after_rule p r) rules i one more)
  where
    here : Some k ≡ Some i → k ≡ i
    here e = cc

    by_test : (b : Bool) → rule_applies p r ≡ b → cond b (first_refused (k + 1) (after_rule p r) rules) (Some k) ≡ Some i
        → (IsProblem (after_rule p r) → first_refused (k + 1) (after_rule p r) rules ≡ Some i → i ≤ k + 1 + sum_by choices (after_rule p r).segs)
        → i ≤ k + sum_by choices p.segs
    by_test true e more later =
        let one = keeps p r is e in
        omega (arith, one.fewer, later one.problem more)
    by_test false e more later = omega (arith, here more)
