use Rattle.std.proofs.Common.{◌≡◌, length, ◌∙◌, ap, arith}
use Rattle.order_model.specs.declared.problem.ProblemParts.{ProblemParts}
use Rattle.dual_ascent.specs.OpenPairs.{link_weight}
use Rattle.dual_ascent.proofs.OwnParts.{seg_number}
use Rattle.dual_orders.specs.OwnTerms.{own_numbers}
use Rattle.dual_orders.proofs.OwnTables.{table_known, table_is, number_known, numbers_few, own_few}
use Rattle.dual_orders.proofs.Summing.{sum_whole}
use Rattle.dual_orders.proofs.Deciding.{weights_on}
use Rattle.dual_orders.proofs.open_pairs.link_weight.Goals as goal

pub index-requires : goal.index-requires
index-requires c = table_known c.args.part.now.problem.now c.args.part.now.on.items c.args.s c.args.part.now.on.len
    c.requires.part.tables c.requires.known c.args.part.now.on.ok.0

pub bounds-terms-k : goal.bounds-terms-k
bounds-terms-k c =
    let p : ProblemParts = c.args.part.now.problem.now in
    let own : c.as_slice-k-items.result.now ≡ own_numbers p (seg_number c.args.s) =
    c.as_slice-k-items.ensures.value ∙ table_is p c.args.part.now.on.items c.args.s c.index.result.now
    c.requires.part.tables c.requires.known c.index.ensures in
    number_known p (seg_number c.args.s) c.terms-terms.result.now c.as_slice-k-items.result.now c.loop-k.k-index
    c.requires.part.fits.terms c.terms-terms.ensures.list own c.loop-k-test.true

pub overflow_add-total : goal.overflow_add-total
overflow_add-total c =
    let p : ProblemParts = c.args.part.now.problem.now in
    let own : c.as_slice-k-items.result.now ≡ own_numbers p (seg_number c.args.s) =
    c.as_slice-k-items.ensures.value ∙ table_is p c.args.part.now.on.items c.args.s c.index.result.now
    c.requires.part.tables c.requires.known c.index.ensures in
    let few = numbers_few p (seg_number c.args.s) c.as_slice-k-items.result.now c.loop-k.k-index
    c.requires.part.fits.few_terms own c.loop-k-test.true in
    omega (arith, few, c.loop-k.invariant.1, c.from-total.ensures, c.weight_there.type_inv)

pub returns-clause-value : goal.returns-clause-value
returns-clause-value c =
    let p : ProblemParts = c.args.part.now.problem.now in
    let own : c.as_slice-k-items.result.now ≡ own_numbers p (seg_number c.args.s) =
    c.as_slice-k-items.ensures.value ∙ table_is p c.args.part.now.on.items c.args.s c.index.result.now
    c.requires.part.tables c.requires.known c.index.ensures in
    c.loop-k.invariant.0
    ∙ (sum_whole (link_weight (seg_number c.args.s) c.args.average.lesser c.args.average.greater) p.terms
    c.as_slice-k-items.result.now (own_numbers p (seg_number c.args.s)) c.loop-k.k-index own
    (omega (arith, c.loop-k-test.false))
    ∙ weights_on p (seg_number c.args.s) c.args.average.lesser c.args.average.greater c.requires.part.fits.terms)

pub returns-clause-most : goal.returns-clause-most
returns-clause-most c =
    let p : ProblemParts = c.args.part.now.problem.now in
    let own : c.as_slice-k-items.result.now ≡ own_numbers p (seg_number c.args.s) =
    c.as_slice-k-items.ensures.value ∙ table_is p c.args.part.now.on.items c.args.s c.index.result.now
    c.requires.part.tables c.requires.known c.index.ensures in
    let same = ap length own in
    let each = own_few p (seg_number c.args.s) in
    let few = c.requires.part.fits.few_terms in
    omega (arith, c.loop-k.invariant.1, c.loop-k.auto.k-index-end, same, each, few)
