use Rattle.std.proofs.Common.{◌≡◌, Some, sym, arith, w64, to_z, of_z}
use Rattle.std.proofs.lemmas.Int.{ints, to_z-of_z}
use Rattle.order_model.specs.PartTerms.{part_terms}
use Rattle.order_bound.specs.Values.{value}
use Rattle.prefix_bounds.proofs.Shown.{value_is, value_shown}
use Rattle.prefix_bounds.proofs.price_values.value.Goals as goal

found : (c : goal.After-sum)
    → value c.args.problem.now.segs c.args.part.now (part_terms c.args.problem.now.terms c.args.part.now) c.args.prefix.now.placed c.args.prices.now ≡ Some (to_z w64 (of_z w64 c.sum.result))
found c =
    let all : to_z w64 (of_z w64 c.sum.result) ≡ c.sum.result = to_z-of_z w64 c.sum.result (record { sfits = c.sum.type_inv }) in
    let least : to_z w64 (of_z w64 c.least_sum-least.result) ≡ c.least_sum-least.result = to_z-of_z w64 c.least_sum-least.result (record { sfits = c.least_sum-least.type_inv }) in
    value_is c.args.problem.now c.args.part.now c.args.prefix.now.placed c.args.prices.now c.as_slice-list.result.now c.are_allowed.result c.decided_sum-decided.result c.least_sum-least.result
    (to_z w64 (of_z w64 c.sum.result)) c.decided_sum-decided.ensures.problem c.requires.rising c.as_slice-list.ensures.list c.are_allowed.ensures.allowed c.if-not-are_allowed.false
    c.decided_sum-decided.ensures.sum c.least_sum-least.ensures.sum (omega (arith, ints, all, least, c.sum.ensures))

pub returns-clause-value : goal.returns-clause-value
returns-clause-value c = sym (found c)

pub returns-clause-shown : goal.returns-clause-shown
returns-clause-shown c =
    value_shown c.args.problem.now c.args.part.now c.args.prefix.now.placed c.args.prices.now (to_z w64 (of_z w64 c.sum.result)) c.decided_sum-decided.ensures.problem c.requires.rising (found c)
