use Rattle.std.proofs.Common.{ℤ, w64, to_z, of_z, ◌≡◌, ◌≤◌, List, ℕ, length, get_or, refl, sym, ◌∙◌, ap, subst, arith}
use Rattle.std.specs.Prelude.{unsigned_abs}
use Rattle.std.proofs.lemmas.List.{take_all}
use Rattle.map_base.specs.declared.ids.LineId.{LineId}
use Rattle.order_model.specs.declared.term.Term.{Term}
use Rattle.order_model.specs.declared.problem.ProblemParts.{ProblemParts}
use Rattle.order_model.specs.Problems.{lines_on}
use Rattle.order_model.specs.PartTerms.{no_term, terms_by_number}
use Rattle.least_orders.specs.OrderCosts.{PairCosts}
use Rattle.dual_bound.specs.ShareCosts.{term_costs, share_costs}
use Rattle.dual_shares.specs.CostRows.{Tell, IsAdded}
use Rattle.dual_shares.proofs.Telling.{tell_term}
use Rattle.dual_ascent.specs.OwnNumbers.{number_of}
use Rattle.dual_ascent.proofs.OwnParts.{seg_number}
use Rattle.dual_orders.specs.OwnTerms.{own_numbers}
use Rattle.dual_orders.proofs.OwnTables.{few_lines, reach_narrow, table_known, table_is, number_known, number_fits, numbers_few, own_few}
use Rattle.dual_orders.proofs.Pricing.{price_small, price_read, length_within, small_up}
use Rattle.dual_orders.proofs.answers.put_shares.Goals as goal

pub clear-requires-clause-few : goal.clear-requires-clause-few
clear-requires-clause-few c =
    subst (λ (l : List LineId). length l ≤ 16) (sym c.lines.ensures)
    (few_lines c.args.part.now.problem.now.segs c.args.s
    (reach_narrow c.args.part.now.problem.now c.requires.part.reach))

pub index-requires : goal.index-requires
index-requires c = table_known c.args.part.now.problem.now c.args.part.now.on.items c.args.s c.args.part.now.on.len
    c.requires.part.tables c.requires.known c.args.part.now.on.ok.0

pub bounds-terms-k : goal.bounds-terms-k
bounds-terms-k c =
    let p : ProblemParts = c.args.part.now.problem.now in
    let own : c.as_slice-k-items.result.now ≡ own_numbers p (seg_number c.args.s) =
    c.as_slice-k-items.ensures.value ∙ table_is p c.args.part.now.on.items c.args.s c.index.result.now
    c.requires.part.tables c.requires.known c.index.ensures in
    number_known p (seg_number c.args.s) c.terms-terms.result.now c.as_slice-k-items.result.now c.loop-k.k-index
    c.requires.part.fits.terms c.terms-terms.ensures.list own c.loop-k-test.true

pub bounds-prices-k : goal.bounds-prices-k
bounds-prices-k c =
    let p : ProblemParts = c.args.part.now.problem.now in
    let own : c.as_slice-k-items.result.now ≡ own_numbers p (seg_number c.args.s) =
    c.as_slice-k-items.ensures.value ∙ table_is p c.args.part.now.on.items c.args.s c.index.result.now
    c.requires.part.tables c.requires.known c.index.ensures in
    let below = number_known p (seg_number c.args.s) p.terms c.as_slice-k-items.result.now c.loop-k.k-index
    c.requires.part.fits.terms refl own c.loop-k-test.true in
    let each = length_within p.terms c.args.prices.now c.requires.prices in
    omega (arith, below, each)

pub add_share-requires-clause-term : goal.add_share-requires-clause-term
add_share-requires-clause-term c =
    let p : ProblemParts = c.args.part.now.problem.now in
    let own : c.as_slice-k-items.result.now ≡ own_numbers p (seg_number c.args.s) =
    c.as_slice-k-items.ensures.value ∙ table_is p c.args.part.now.on.items c.args.s c.index.result.now
    c.requires.part.tables c.requires.known c.index.ensures in
    number_fits p (seg_number c.args.s) c.terms-terms.result.now c.as_slice-k-items.result.now c.loop-k.k-index no_term
    c.requires.part.fits.terms c.terms-terms.ensures.list own c.loop-k-test.true

pub add_share-requires-clause-price : goal.add_share-requires-clause-price
add_share-requires-clause-price c =
    let p : ProblemParts = c.args.part.now.problem.now in
    let n = get_or c.as_slice-k-items.result.now c.loop-k.k-index 0 in
    subst (λ (v : ℤ). unsigned_abs v ≤ 256000000)
    (sym (price_read p.segs p.terms c.args.prices.now n c.requires.part.fits.terms c.requires.prices))
    (price_small p.segs p.terms c.args.prices.now n c.requires.part.fits.terms c.requires.prices)

pub add_share-requires-clause-small : goal.add_share-requires-clause-small
add_share-requires-clause-small c =
    let p : ProblemParts = c.args.part.now.problem.now in
    let own : c.as_slice-k-items.result.now ≡ own_numbers p (seg_number c.args.s) =
    c.as_slice-k-items.ensures.value ∙ table_is p c.args.part.now.on.items c.args.s c.index.result.now
    c.requires.part.tables c.requires.known c.index.ensures in
    let few = numbers_few p (seg_number c.args.s) c.as_slice-k-items.result.now c.loop-k.k-index
    c.requires.part.fits.few_terms own c.loop-k-test.true in
    small_up c.loop-k.k-index 4000000 c.loop-k.rows (omega (arith, few)) c.loop-k.invariant.3

pub loop-k-preserved : goal.loop-k-preserved
loop-k-preserved c =
    let p : ProblemParts = c.args.part.now.problem.now in
    let s = seg_number c.args.s in
    let numbers = c.as_slice-k-items.result.now in
    let i = c.loop-k.k-index in
    let n = get_or numbers i 0 in
    let rows = c.loop-k.rows in
    let new = c.add_share.new.self in
    let costs : PairCosts = term_costs (number_of c.args.prices.now n) s (get_or p.terms n no_term) in
    let price : ℤ = number_of c.args.prices.now n in
    let added : IsAdded (lines_on p.segs s) costs rows new =
    subst (λ (v : ℤ). IsAdded (lines_on p.segs s) (term_costs v s (get_or p.terms n no_term)) rows new)
    (price_read p.segs p.terms c.args.prices.now n c.requires.part.fits.terms c.requires.prices)
    (subst (λ (ts : List Term). IsAdded (lines_on p.segs s)
    (term_costs (to_z w64 (of_z w64 price)) s (get_or ts n no_term)) rows new) c.terms-terms.ensures.list
    c.add_share.ensures.added) in (
      c.add_share.ensures.room,
      added.count ∙ c.loop-k.invariant.1,
      tell_term (lines_on p.segs s) p.terms (number_of c.args.prices.now) s numbers i n rows.before.items
          rows.beside.items new.before.items new.beside.items c.loop-k-test.true refl c.loop-k.invariant.2 added.rows,
      c.add_share.ensures.small i c.loop-k.invariant.3,
    )

pub returns-clause-told : goal.returns-clause-told
returns-clause-told c =
    let p : ProblemParts = c.args.part.now.problem.now in
    let own : c.as_slice-k-items.result.now ≡ own_numbers p (seg_number c.args.s) =
    c.as_slice-k-items.ensures.value ∙ table_is p c.args.part.now.on.items c.args.s c.index.result.now
    c.requires.part.tables c.requires.known c.index.ensures in
    subst (λ (ns : List ℕ). Tell (lines_on p.segs (seg_number c.args.s))
    (share_costs (terms_by_number p.terms ns) (number_of c.args.prices.now) (seg_number c.args.s)) c.loop-k.rows)
    (take_all c.loop-k.k-index c.as_slice-k-items.result.now (omega (arith, c.loop-k-test.false)) ∙ own)
    c.loop-k.invariant.2

pub returns-clause-small : goal.returns-clause-small
returns-clause-small c =
    let p : ProblemParts = c.args.part.now.problem.now in
    let own : c.as_slice-k-items.result.now ≡ own_numbers p (seg_number c.args.s) =
    c.as_slice-k-items.ensures.value ∙ table_is p c.args.part.now.on.items c.args.s c.index.result.now
    c.requires.part.tables c.requires.known c.index.ensures in
    let same = ap length own in
    let each = own_few p (seg_number c.args.s) in
    let few = c.requires.part.fits.few_terms in
    small_up c.loop-k.k-index 4000000 c.loop-k.rows (omega (arith, c.loop-k.auto.k-index-end, same, each, few))
    c.loop-k.invariant.3
