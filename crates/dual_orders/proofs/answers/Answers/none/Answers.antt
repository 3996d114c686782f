use Rattle.std.proofs.Common.{rules, ℕ, replicate, length, sym, ◌∙◌, ap, subst, true≢false}
use Rattle.std.specs.Prelude.{pos}
use Rattle.order_model.specs.Costs.{AreOrders}
use Rattle.dual_ascent.specs.DualSteps.{AreWithin}
use Rattle.dual_ascent.proofs.Meeting.{number_orders}
use Rattle.dual_orders.proofs.Pricing.{zeros_within}
use Rattle.dual_orders.proofs.answers.Answers.none.Goals as goal

pub returns : goal.returns
returns c = λ pairs. record {
  orders = subst (AreOrders c.args.part.now.problem.now.segs) (sym (c.in_ok-orders_of.ensures ∙ c.segs.ensures.lists))
      (number_orders c.args.part.now.problem.now.segs);
  within = subst (AreWithin c.args.part.now.problem.now.terms)
      (sym (c.in_ok-prices.ensures.items_if_clones_equal (search rules) ∙ ap (λ (n : ℕ). replicate n (pos 0))
      (ap length c.terms.ensures.list))) (zeros_within c.args.part.now.problem.now.terms);
  known = λ so. absurd (true≢false (sym so));
}
