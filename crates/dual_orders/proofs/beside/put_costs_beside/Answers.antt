use Rattle.std.proofs.Common.{◌≡◌, ◌≤◌, List, ℕ, length, get_or, map, refl, sym, ◌∙◌, ap, subst, arith}
use Rattle.map_base.specs.declared.ids.LineId.{LineId}
use Rattle.order_model.specs.declared.term.Term.{Term}
use Rattle.order_model.specs.declared.problem.ProblemParts.{ProblemParts}
use Rattle.order_model.specs.Problems.{lines_on}
use Rattle.order_model.specs.PartTerms.{no_term}
use Rattle.least_orders.specs.OrderCosts.{summed_costs}
use Rattle.dual_shares.specs.CostRows.{Tell, IsAdded}
use Rattle.dual_ascent.specs.SegmentCosts.{beside_costs}
use Rattle.dual_ascent.proofs.OwnParts.{seg_number}
use Rattle.dual_orders.specs.OwnTerms.{own_numbers, term_at}
use Rattle.dual_orders.proofs.OwnTables.{few_lines, reach_narrow, table_known, table_is, number_known, number_fits, numbers_few, own_few}
use Rattle.dual_orders.proofs.Pricing.{small_up}
use Rattle.dual_orders.proofs.Adding.{beside_more, beside_whole}
use Rattle.dual_orders.proofs.beside.put_costs_beside.Goals as goal

pub clear-requires-clause-few : goal.clear-requires-clause-few
clear-requires-clause-few c =
    subst (λ (l : List LineId). length l ≤ 16) (sym c.lines.ensures)
    (few_lines c.args.part.now.problem.now.segs c.args.s
    (reach_narrow c.args.part.now.problem.now c.requires.part.reach))

pub index-requires : goal.index-requires
index-requires c = table_known c.args.part.now.problem.now c.args.part.now.on.items c.args.s c.args.part.now.on.len
    c.requires.part.tables c.requires.known c.args.part.now.on.ok.0

pub bounds-terms-k : goal.bounds-terms-k
bounds-terms-k c =
    let p : ProblemParts = c.args.part.now.problem.now in
    let own : c.as_slice-k-items.result.now ≡ own_numbers p (seg_number c.args.s) =
    c.as_slice-k-items.ensures.value ∙ table_is p c.args.part.now.on.items c.args.s c.index.result.now
    c.requires.part.tables c.requires.known c.index.ensures in
    number_known p (seg_number c.args.s) c.terms-terms.result.now c.as_slice-k-items.result.now c.loop-k.k-index
    c.requires.part.fits.terms c.terms-terms.ensures.list own c.loop-k-test.true

pub add_term_beside-requires-clause-term : goal.add_term_beside-requires-clause-term
add_term_beside-requires-clause-term c =
    let p : ProblemParts = c.args.part.now.problem.now in
    let own : c.as_slice-k-items.result.now ≡ own_numbers p (seg_number c.args.s) =
    c.as_slice-k-items.ensures.value ∙ table_is p c.args.part.now.on.items c.args.s c.index.result.now
    c.requires.part.tables c.requires.known c.index.ensures in
    number_fits p (seg_number c.args.s) c.terms-terms.result.now c.as_slice-k-items.result.now c.loop-k.k-index no_term
    c.requires.part.fits.terms c.terms-terms.ensures.list own c.loop-k-test.true

pub add_term_beside-requires-clause-small : goal.add_term_beside-requires-clause-small
add_term_beside-requires-clause-small c =
    let p : ProblemParts = c.args.part.now.problem.now in
    let own : c.as_slice-k-items.result.now ≡ own_numbers p (seg_number c.args.s) =
    c.as_slice-k-items.ensures.value ∙ table_is p c.args.part.now.on.items c.args.s c.index.result.now
    c.requires.part.tables c.requires.known c.index.ensures in
    let few = numbers_few p (seg_number c.args.s) c.as_slice-k-items.result.now c.loop-k.k-index
    c.requires.part.fits.few_terms own c.loop-k-test.true in
    small_up c.loop-k.k-index 4000000 c.loop-k.rows (omega (arith, few)) c.loop-k.invariant.3

pub loop-k-preserved : goal.loop-k-preserved
loop-k-preserved c =
    let p : ProblemParts = c.args.part.now.problem.now in
    let s = seg_number c.args.s in
    let numbers = c.as_slice-k-items.result.now in
    let i = c.loop-k.k-index in
    let n = get_or numbers i 0 in
    let rows = c.loop-k.rows in
    let new = c.add_term_beside.new.rows in
    let added : IsAdded (lines_on p.segs s) (beside_costs c.args.orders.now s (term_at p.terms n)) rows new =
    subst (λ (ts : List Term). IsAdded (lines_on p.segs s) (beside_costs c.args.orders.now s (get_or ts n no_term))
    rows new) c.terms-terms.ensures.list c.add_term_beside.ensures.added in (
      c.add_term_beside.ensures.room,
      added.count ∙ c.loop-k.invariant.1,
      beside_more c.args.orders.now s p.terms (lines_on p.segs s) numbers i n rows new c.loop-k-test.true refl
          c.loop-k.invariant.2 added,
      c.add_term_beside.ensures.small i c.loop-k.invariant.3,
    )

pub returns-clause-told : goal.returns-clause-told
returns-clause-told c =
    let p : ProblemParts = c.args.part.now.problem.now in
    let own : c.as_slice-k-items.result.now ≡ own_numbers p (seg_number c.args.s) =
    c.as_slice-k-items.ensures.value ∙ table_is p c.args.part.now.on.items c.args.s c.index.result.now
    c.requires.part.tables c.requires.known c.index.ensures in
    subst (λ (ns : List ℕ). Tell (lines_on p.segs (seg_number c.args.s))
    (summed_costs (beside_costs c.args.orders.now (seg_number c.args.s)) (map (term_at p.terms) ns)) c.loop-k.rows) own
    (beside_whole c.args.orders.now (seg_number c.args.s) p.terms (lines_on p.segs (seg_number c.args.s))
    c.as_slice-k-items.result.now c.loop-k.k-index c.loop-k.rows (omega (arith, c.loop-k-test.false))
    c.loop-k.invariant.2)

pub returns-clause-small : goal.returns-clause-small
returns-clause-small c =
    let p : ProblemParts = c.args.part.now.problem.now in
    let own : c.as_slice-k-items.result.now ≡ own_numbers p (seg_number c.args.s) =
    c.as_slice-k-items.ensures.value ∙ table_is p c.args.part.now.on.items c.args.s c.index.result.now
    c.requires.part.tables c.requires.known c.index.ensures in
    let same = ap length own in
    let each = own_few p (seg_number c.args.s) in
    let few = c.requires.part.fits.few_terms in
    small_up c.loop-k.k-index 4000000 c.loop-k.rows (omega (arith, c.loop-k.auto.k-index-end, same, each, few))
    c.loop-k.invariant.3
