use Rattle.std.proofs.Common.{List, ℤ, length, sym, ◌∙◌, ap, subst}
use Rattle.std.proofs.lemmas.List.{with_items_is}
use Rattle.order_model.specs.declared.problem.ProblemParts.{ProblemParts}
use Rattle.order_model.specs.Costs.{AreOrders}
use Rattle.dual_ascent.specs.DualSteps.{AreWithin, answers}
use Rattle.dual_ascent.proofs.Meeting.{answers_orders}
use Rattle.dual_orders.specs.SettledPairs.{pairs_of}
use Rattle.dual_orders.proofs.Pricing.{length_within}
use Rattle.dual_orders.proofs.answers.Answers.answer.Goals as goal

pub copy_from_slice-requires : goal.copy_from_slice-requires
copy_from_slice-requires c =
    let p : ProblemParts = c.args.part.now.problem.now in
    ap length c.as_mut_slice-2.ensures.value
    ∙ (length_within p.terms c.args.self.now.prices.items c.requires.answers.within ∙ sym
    (length_within p.terms c.args.prices.now c.requires.prices))

pub returns-clause-answers : goal.returns-clause-answers
returns-clause-answers c =
    let p : ProblemParts = c.args.part.now.problem.now in
    let orders = with_items_is c.args.self.now.orders c.renew_all.new.orders
    (c.renew_all.auto.orders ∙ c.as_mut_slice.ensures.len) ∙ c.renew_all.ensures.orders in
    let prices = with_items_is c.args.self.now.prices c.copy_from_slice.new.self
    (c.copy_from_slice.ensures.len ∙ c.as_mut_slice-2.ensures.len) ∙ c.copy_from_slice.ensures.after in
    record {
      orders = subst (AreOrders p.segs) (sym orders) (answers_orders p (pairs_of c.args.settled.now) c.args.prices.now);
      within = subst (AreWithin p.terms) (sym prices) c.requires.prices;
      known = λ so. orders ∙ ap (λ (l : List ℤ). answers p (pairs_of c.args.settled.now) l) (sym prices);
    }
