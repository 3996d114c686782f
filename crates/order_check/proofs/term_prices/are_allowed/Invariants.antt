use Rattle.std.proofs.Common.{take}
use Rattle.order_check.specs.Pricing.{ArePriced, AreSmallPrices}
use Rattle.order_check.proofs.term_prices.are_allowed.Given as goal

abbrev pub invariant-loop-j : goal.invariant-loop-j
invariant-loop-j l = record {
  priced : ArePriced l.problem.segs l.prefix.placed l.terms (take l.j l.list);
  small : AreSmallPrices l.terms l.list l.j;
}
