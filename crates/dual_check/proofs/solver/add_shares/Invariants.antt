use Rattle.std.proofs.Common.{◌≡◌, take}
use Rattle.order_model.specs.Problems.{lines_on}
use Rattle.order_model.specs.PartTerms.{terms_by_number}
use Rattle.order_values.specs.PriceLists.{price_at}
use Rattle.dual_bound.specs.ShareCosts.{share_costs}
use Rattle.dual_shares.specs.CostRows.{HasRoom, Tell, AreSmallCosts}
use Rattle.dual_check.proofs.solver.add_shares.Given as goal

abbrev pub invariant-loop-n : goal.invariant-loop-n
invariant-loop-n l = record {
  room : HasRoom l.rows;
  count : l.rows.count ≡ l.fn.rows.count;
  told : Tell (lines_on l.problem.segs l.s) (share_costs (terms_by_number l.problem.terms (take l.n-index l.numbers)) (price_at l.prices) l.s) l.rows;
  small : AreSmallCosts l.n-index l.rows;
}
