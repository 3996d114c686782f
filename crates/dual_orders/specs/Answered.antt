-- The orders that answer prices, as they lie in memory.
use Rattle.std.specs.Prelude.{◌≡◌, true, List}
use Rattle.order_model.specs.declared.problem.ProblemParts.{ProblemParts}
use Rattle.order_model.specs.Costs.{AreOrders}
use Rattle.dual_bound.specs.declared.settled.SettledPair.{SettledPair}
use Rattle.dual_ascent.specs.DualSteps.{AreWithin, answers}
use Rattle.dual_orders.specs.declared.answers.Answers.{Answers}

-- orders of the segments; where any prices were answered, those that answer these where such pairs are settled
pub record AreAnswers (p : ProblemParts) (pairs : List SettledPair) (a : Answers) : Type 0 where
  pub orders : AreOrders p.segs a.orders.items
  pub within : AreWithin p.terms a.prices.items
  pub known : a.known ≡ true → a.orders.items ≡ answers p pairs a.prices.items
