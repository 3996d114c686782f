use Rattle.std.proofs.Common.{◌≡◌, get_or, All, refl, ◌∙◌, subst, arith}
use Rattle.std.proofs.lemmas.List.{take_all}
use Rattle.order_model.specs.declared.problem.ProblemParts.{ProblemParts}
use Rattle.dual_ascent.specs.OwnNumbers.{number_of}
use Rattle.dual_ascent.proofs.OwnParts.{seg_number}
use Rattle.dual_orders.specs.OwnTerms.{own_numbers}
use Rattle.dual_orders.proofs.OwnTables.{table_known, table_is, number_known}
use Rattle.dual_orders.proofs.Pricing.{length_within, same_price, all_more}
use Rattle.dual_orders.proofs.answers.are_same_on.Goals as goal

pub index-requires : goal.index-requires
index-requires c = table_known c.args.part.now.problem.now c.args.part.now.on.items c.args.s c.args.part.now.on.len
    c.requires.part.tables c.requires.at c.args.part.now.on.ok.0

pub bounds-earlier-k : goal.bounds-earlier-k
bounds-earlier-k c =
    let p : ProblemParts = c.args.part.now.problem.now in
    let own : c.as_slice-k-items.result.now ≡ own_numbers p (seg_number c.args.s) =
    c.as_slice-k-items.ensures.value ∙ table_is p c.args.part.now.on.items c.args.s c.index.result.now
    c.requires.part.tables c.requires.at c.index.ensures in
    let below = number_known p (seg_number c.args.s) p.terms c.as_slice-k-items.result.now c.loop-k.k-index
    c.requires.part.fits.terms refl own c.loop-k-test.true in
    let each = length_within p.terms c.args.earlier.now c.requires.earlier in
    omega (arith, below, each)

pub bounds-prices-k : goal.bounds-prices-k
bounds-prices-k c =
    let p : ProblemParts = c.args.part.now.problem.now in
    let own : c.as_slice-k-items.result.now ≡ own_numbers p (seg_number c.args.s) =
    c.as_slice-k-items.ensures.value ∙ table_is p c.args.part.now.on.items c.args.s c.index.result.now
    c.requires.part.tables c.requires.at c.index.ensures in
    let below = number_known p (seg_number c.args.s) p.terms c.as_slice-k-items.result.now c.loop-k.k-index
    c.requires.part.fits.terms refl own c.loop-k-test.true in
    let each = length_within p.terms c.args.prices.now c.requires.prices in
    omega (arith, below, each)

pub loop-k-preserved : goal.loop-k-preserved
loop-k-preserved c =
    let p : ProblemParts = c.args.part.now.problem.now in
    let numbers = c.as_slice-k-items.result.now in
    all_more (λ n. number_of c.args.earlier.now n ≡ number_of c.args.prices.now n) numbers c.loop-k.k-index 0
    c.loop-k-test.true c.loop-k.invariant
    (same_price p.segs p.terms c.args.earlier.now c.args.prices.now (get_or numbers c.loop-k.k-index 0)
    c.requires.part.fits.terms c.requires.earlier c.requires.prices c.if-earlier-k.false)

pub returns : goal.returns
returns c =
    let p : ProblemParts = c.args.part.now.problem.now in
    let own : c.as_slice-k-items.result.now ≡ own_numbers p (seg_number c.args.s) =
    c.as_slice-k-items.ensures.value ∙ table_is p c.args.part.now.on.items c.args.s c.index.result.now
    c.requires.part.tables c.requires.at c.index.ensures in
    λ so. subst (All (λ n. number_of c.args.earlier.now n ≡ number_of c.args.prices.now n))
    (take_all c.loop-k.k-index c.as_slice-k-items.result.now (omega (arith, c.loop-k-test.false)) ∙ own)
    c.loop-k.invariant
