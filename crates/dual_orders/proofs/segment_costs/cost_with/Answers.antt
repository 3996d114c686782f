use Rattle.std.proofs.Common.{◌≡◌, set, ◌∙◌, arith}
use Rattle.order_model.specs.declared.problem.ProblemParts.{ProblemParts}
use Rattle.order_model.specs.Costs.{term_cost}
use Rattle.dual_ascent.proofs.OwnParts.{seg_number}
use Rattle.dual_orders.specs.OwnTerms.{own_numbers}
use Rattle.dual_orders.proofs.OwnTables.{table_known, table_is, number_known, numbers_few}
use Rattle.dual_orders.proofs.Summing.{sum_whole}
use Rattle.dual_orders.proofs.segment_costs.cost_with.Goals as goal

pub index-requires : goal.index-requires
index-requires c = table_known c.args.part.now.problem.now c.args.part.now.on.items c.args.s c.args.part.now.on.len
    c.requires.part.tables c.requires.known c.args.part.now.on.ok.0

pub bounds-terms-k : goal.bounds-terms-k
bounds-terms-k c =
    let p : ProblemParts = c.args.part.now.problem.now in
    let own : c.as_slice-k-items.result.now ≡ own_numbers p (seg_number c.args.s) =
    c.as_slice-k-items.ensures.value ∙ table_is p c.args.part.now.on.items c.args.s c.index.result.now
    c.requires.part.tables c.requires.known c.index.ensures in
    number_known p (seg_number c.args.s) c.terms-terms.result.now c.as_slice-k-items.result.now c.loop-k.k-index
    c.requires.part.fits.terms c.terms-terms.ensures.list own c.loop-k-test.true

pub overflow_add-total : goal.overflow_add-total
overflow_add-total c =
    let p : ProblemParts = c.args.part.now.problem.now in
    let own : c.as_slice-k-items.result.now ≡ own_numbers p (seg_number c.args.s) =
    c.as_slice-k-items.ensures.value ∙ table_is p c.args.part.now.on.items c.args.s c.index.result.now
    c.requires.part.tables c.requires.known c.index.ensures in
    let few = numbers_few p (seg_number c.args.s) c.as_slice-k-items.result.now c.loop-k.k-index
    c.requires.part.fits.few_terms own c.loop-k-test.true in
    omega (arith, few, c.loop-k.invariant.1, c.term_cost_with-total.ensures.most)

pub returns : goal.returns
returns c =
    let p : ProblemParts = c.args.part.now.problem.now in
    let own : c.as_slice-k-items.result.now ≡ own_numbers p (seg_number c.args.s) =
    c.as_slice-k-items.ensures.value ∙ table_is p c.args.part.now.on.items c.args.s c.index.result.now
    c.requires.part.tables c.requires.known c.index.ensures in
    c.loop-k.invariant.0
    ∙ sum_whole (term_cost (set c.args.orders.now c.args.s c.args.order.now)) p.terms c.as_slice-k-items.result.now
    (own_numbers p (seg_number c.args.s)) c.loop-k.k-index own (omega (arith, c.loop-k-test.false))
