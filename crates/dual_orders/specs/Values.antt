-- What prices and averages of two lines are worth, and the incumbent as it lies in memory.
use Rattle.std.specs.Prelude.{◌≡◌, ◌*◌, List}
use Rattle.std.specs.Prelude.{ℤ, pos, ◌*ℤ◌}
use Rattle.map_base.specs.declared.ids.LineId.{LineId}
use Rattle.order_model.specs.declared.term.Term.{Term}
use Rattle.order_model.specs.declared.term.Term.TheVariants.{Side, Link, Apart}
use Rattle.order_model.specs.declared.problem.ProblemParts.{ProblemParts}
use Rattle.order_model.specs.Problems.{lines_on}
use Rattle.order_model.specs.Costs.{comes_before, cost_of, AreOrders}
use Rattle.dual_bound.specs.Shares.{thousand, where_so}
use Rattle.dual_shares.specs.RowSteps.{AreTwoOf}
use Rattle.dual_ascent.specs.declared.pair_average.PairAverage.{PairAverage}
use Rattle.dual_ascent.specs.DualSteps.{subgradient}
use Rattle.dual_ascent.specs.LocalSearch as local
use Rattle.dual_orders.specs.declared.incumbent.Incumbent.{Incumbent}

-- what a term of this price adds to the value under orders
abbrev pub term_value : ℤ → List (List LineId) → Term → ℤ
term_value price orders (Side seg first second w) = where_so (comes_before (lines_on orders seg) second first) (pos (thousand * w))
term_value price orders (Link seg other flip a b w) = price *ℤ subgradient orders (Link seg other flip a b w)
term_value price orders (Apart seg other a b w) = price *ℤ subgradient orders (Apart seg other a b w)

-- the average is of two of these lines
abbrev pub IsOfTwo : List LineId → PairAverage → Type 0
IsOfTwo lines x = AreTwoOf lines x.lesser x.greater

-- the incumbent, as its definition tells it
abbrev pub incumbent_of : Incumbent → local.Incumbent
incumbent_of best = record { cost = best.cost; orders = best.orders.items }

-- it has orders of the part, and what they cost
pub record IsIncumbent (p : ProblemParts) (best : Incumbent) : Type 0 where
  pub are : AreOrders p.segs best.orders.items
  pub cost : best.cost ≡ cost_of p.terms best.orders.items
