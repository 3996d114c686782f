use Rattle.std.proofs.Common.{◌≡◌, take, length}
use Rattle.order_model.specs.Problems.{lines_on}
use Rattle.order_model.specs.PartTerms.{terms_by_number}
use Rattle.dual_bound.specs.ShareCosts.{share_costs}
use Rattle.dual_shares.specs.CostRows.{HasRoom, Tell, AreSmallCosts}
use Rattle.dual_ascent.specs.OwnNumbers.{number_of}
use Rattle.dual_orders.proofs.answers.put_shares.Given as goal

abbrev pub invariant-loop-k : goal.invariant-loop-k
invariant-loop-k l =
    HasRoom l.rows × (l.rows.count ≡ length (lines_on l.part.problem.now.segs (record { 0 = l.s })))
    × Tell (lines_on l.part.problem.now.segs (record { 0 = l.s }))
    (share_costs (terms_by_number l.part.problem.now.terms (take l.k-index l.k-items)) (number_of l.prices) (record { 0 = l.s })) l.rows
    × AreSmallCosts l.k-index l.rows
