use Rattle.std.proofs.Common.{◌≡◌, ◌==◌, List, pos, ◌-ℤ◌, sym, ap, subst, ◌∙◌, arith, w64, to_z, of_z, FitsSigned}
use Rattle.std.proofs.lemmas.Int.{ints, to_z-of_z}
use Rattle.map_base.specs.declared.ids.LineId.{LineId}
use Rattle.order_model.specs.declared.term.Term.{Term}
use Rattle.order_model.specs.Problems.{lines_on}
use Rattle.least_orders.specs.OrderCosts.{cost_before, cost_beside}
use Rattle.dual_bound.specs.ShareCosts.{costs_where, link_costs, term_costs}
use Rattle.dual_shares.specs.RowSteps.{HaveAdded}
use Rattle.dual_shares.proofs.Adding.{link_added, apart_added, before_read, beside_read}
use Rattle.dual_shares.proofs.Terms.{lines_read}
use Rattle.dual_shares.proofs.shares.add_term.Goals as goal

pub returns-in-Link-clause-added : goal.returns-in-Link-clause-added
returns-in-Link-clause-added c =
    let lines : c.as_slice-lines.result.now ≡ lines_on c.args.problem.now.segs c.args.s =
    lines_read c.args.problem.now.segs c.segs.result.now c.args.s c.index-segs-s.result c.as_slice-lines.result.now c.requires.known c.segs.ensures.lists c.index-segs-s.is c.as_slice-lines.ensures in
    let price = to_z-of_z w64 c.args.price c.ranges.price in
    let fits : FitsSigned w64 c.opposite.result = record { sfits = c.opposite.type_inv } in
    let opposite : to_z w64 (of_z w64 c.opposite.result) ≡ pos 0 -ℤ c.args.price = to_z-of_z w64 c.opposite.result fits ∙ omega (arith, ints, c.opposite.ensures.value, price) in
    let on : List LineId = lines_on c.args.problem.now.segs c.args.s in
    let a : LineId = c.in-Link.a in
    let b : LineId = c.in-Link.b in
    subst (λ (t : Term). HaveAdded on (term_costs c.args.price c.args.s t) c.args.before.now c.args.beside.now c.add_before-in-Link.new.before c.args.beside.now) (sym c.in-Link.is)
    (link_added on c.args.price c.args.s c.in-Link.seg c.in-Link.other c.in-Link.flip a b c.in-Link.w c.args.before.now c.add_link.new.before c.add_before-in-Link.new.before c.args.beside.now
    (before_read c.as_slice-lines.result.now on (costs_where c.eq-in-Link.result (link_costs c.in-Link.flip a b (to_z w64 (of_z w64 c.args.price))))
    (costs_where (c.in-Link.other.0 == c.args.s.0) (link_costs c.in-Link.flip a b c.args.price)) c.args.before.now c.add_link.new.before lines
    (ap (λ t. costs_where t (link_costs c.in-Link.flip a b (to_z w64 (of_z w64 c.args.price)))) c.eq-in-Link.ensures
    ∙ ap (λ v. costs_where (c.in-Link.other.0 == c.args.s.0) (link_costs c.in-Link.flip a b v)) price) c.add_link.ensures.added)
    (before_read c.as_slice-lines.result.now on (costs_where c.eq-in-Link-2.result (cost_before b a (to_z w64 (of_z w64 c.opposite.result))))
    (costs_where (c.in-Link.seg.0 == c.args.s.0) (cost_before b a (pos 0 -ℤ c.args.price))) c.add_link.new.before c.add_before-in-Link.new.before lines
    (ap (λ t. costs_where t (cost_before b a (to_z w64 (of_z w64 c.opposite.result)))) c.eq-in-Link-2.ensures
    ∙ ap (λ v. costs_where (c.in-Link.seg.0 == c.args.s.0) (cost_before b a v)) opposite) c.add_before-in-Link.ensures.added))

pub returns-in-Apart-clause-added : goal.returns-in-Apart-clause-added
returns-in-Apart-clause-added c =
    let lines : c.as_slice-lines.result.now ≡ lines_on c.args.problem.now.segs c.args.s =
    lines_read c.args.problem.now.segs c.segs.result.now c.args.s c.index-segs-s.result c.as_slice-lines.result.now c.requires.known c.segs.ensures.lists c.index-segs-s.is c.as_slice-lines.ensures in
    let price = to_z-of_z w64 c.args.price c.ranges.price in
    let fits : FitsSigned w64 c.opposite-in-Apart.result = record { sfits = c.opposite-in-Apart.type_inv } in
    let opposite : to_z w64 (of_z w64 c.opposite-in-Apart.result) ≡ pos 0 -ℤ c.args.price = to_z-of_z w64 c.opposite-in-Apart.result fits ∙ omega (arith, ints, c.opposite-in-Apart.ensures.value, price) in
    let on : List LineId = lines_on c.args.problem.now.segs c.args.s in
    let a : LineId = c.in-Apart.a in
    let b : LineId = c.in-Apart.b in
    subst (λ (t : Term). HaveAdded on (term_costs c.args.price c.args.s t) c.args.before.now c.args.beside.now c.args.before.now c.add_beside-in-Apart.new.beside) (sym c.in-Apart.is)
    (apart_added on c.args.price c.args.s c.in-Apart.seg c.in-Apart.other a b c.in-Apart.w c.args.before.now c.args.beside.now c.add_beside.new.beside c.add_beside-in-Apart.new.beside
    (beside_read c.as_slice-lines.result.now on (costs_where c.eq-in-Apart.result (cost_beside a b (to_z w64 (of_z w64 c.args.price))))
    (costs_where (c.in-Apart.other.0 == c.args.s.0) (cost_beside a b c.args.price)) c.args.beside.now c.add_beside.new.beside lines
    (ap (λ t. costs_where t (cost_beside a b (to_z w64 (of_z w64 c.args.price)))) c.eq-in-Apart.ensures
    ∙ ap (λ v. costs_where (c.in-Apart.other.0 == c.args.s.0) (cost_beside a b v)) price) c.add_beside.ensures.added)
    (beside_read c.as_slice-lines.result.now on (costs_where c.eq-in-Apart-2.result (cost_beside a b (to_z w64 (of_z w64 c.opposite-in-Apart.result))))
    (costs_where (c.in-Apart.seg.0 == c.args.s.0) (cost_beside a b (pos 0 -ℤ c.args.price))) c.add_beside.new.beside c.add_beside-in-Apart.new.beside lines
    (ap (λ t. costs_where t (cost_beside a b (to_z w64 (of_z w64 c.opposite-in-Apart.result)))) c.eq-in-Apart-2.ensures
    ∙ ap (λ v. costs_where (c.in-Apart.seg.0 == c.args.s.0) (cost_beside a b v)) opposite) c.add_beside-in-Apart.ensures.added))
