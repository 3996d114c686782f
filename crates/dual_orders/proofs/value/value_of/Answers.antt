use Rattle.std.proofs.Common.{◌≡◌, ◌+◌, ◌≤◌, ℤ, pos, List, length, get_or, take, w64, to_z, of_z, sym, ◌∙◌, ap, subst, arith}
use Rattle.std.specs.Prelude.{◌+ℤ◌, unsigned_abs}
use Rattle.std.proofs.lemmas.Int.{ints, to_z-of_z, fits_signed_from_abs}
use Rattle.whole_sums.specs.Sums.{int_sum}
use Rattle.order_model.specs.declared.term.Term.{Term}
use Rattle.order_model.specs.PartTerms.{no_term}
use Rattle.dual_ascent.specs.OwnNumbers.{all_terms}
use Rattle.dual_rounds.proofs.TermLists.{readable_at}
use Rattle.dual_orders.specs.Values.{term_value}
use Rattle.dual_orders.proofs.Valuing.{value_at, value_by_terms, value_more, value_whole}
use Rattle.dual_orders.proofs.Pricing.{price_small, length_within}
use Rattle.dual_orders.proofs.value.value_of.Goals as goal

pub term_value-requires-clause-term : goal.term_value-requires-clause-term
term_value-requires-clause-term c =
    readable_at c.args.problem.now.segs c.terms-terms.result.now (length c.args.orders.now) c.loop-k.k no_term (rw c.terms-terms.ensures.list c.terms-terms.ensures.fits.terms) c.requires.orders c.loop-k-test.true

pub term_value-requires-clause-price : goal.term_value-requires-clause-price
term_value-requires-clause-price c =
    let price : ℤ = get_or c.args.prices.now c.loop-k.k (pos 0) in
    let small : unsigned_abs price ≤ 256000000 = price_small c.args.problem.now.segs c.args.problem.now.terms c.args.prices.now c.loop-k.k c.terms-terms.ensures.fits.terms c.requires.prices in
    subst (λ (v : ℤ). unsigned_abs v ≤ 256000000) (sym (to_z-of_z w64 price (fits_signed_from_abs w64 price (omega (arith, small))))) small

pub bounds-prices-k : goal.bounds-prices-k
bounds-prices-k c =
    let same = ap length c.terms-terms.ensures.list in
    let each = length_within c.args.problem.now.terms c.args.prices.now c.requires.prices in
    omega (arith, same, each, c.loop-k-test.true)

pub loop-k-preserved : goal.loop-k-preserved
loop-k-preserved c =
    let same = ap length c.terms-terms.ensures.list in
    let k = c.loop-k.k in
    let prices = c.args.prices.now in
    let orders = c.args.orders.now in
    let price : ℤ = get_or prices k (pos 0) in
    let term : Term = get_or c.terms-terms.result.now k no_term in
    let total : ℤ = to_z w64 c.loop-k.total-bits in
    let made : ℤ = c.term_value.result in
    let small : unsigned_abs price ≤ 256000000 = price_small c.args.problem.now.segs c.args.problem.now.terms prices k c.terms-terms.ensures.fits.terms c.requires.prices in
    let price_is : to_z w64 (of_z w64 price) ≡ price = to_z-of_z w64 price (fits_signed_from_abs w64 price (omega (arith, small))) in
    let value : to_z w64 (of_z w64 c.sum-total.result) ≡ c.sum-total.result = to_z-of_z w64 c.sum-total.result (record { sfits = c.sum-total.type_inv }) in
    let added : to_z w64 (of_z w64 made) ≡ made = to_z-of_z w64 made (record { sfits = c.term_value.type_inv }) in
    let is : made ≡ term_value price orders (get_or c.args.problem.now.terms k no_term) =
    c.term_value.ensures.value ∙ (ap (λ (p : ℤ). term_value p orders term) price_is ∙ ap (λ (l : List Term). term_value price orders (get_or l k no_term)) c.terms-terms.ensures.list) in
    let more : total +ℤ made ≡ int_sum (value_at prices orders) (take (k + 1) (all_terms c.args.problem.now)) =
    value_more prices orders c.args.problem.now.terms k total made (omega (arith, same, c.loop-k-test.true)) c.loop-k.invariant.0 is in (
      omega (arith, ints, value, added, c.sum-total.ensures, more),
      omega (arith, ints, value, added, c.sum-total.ensures, c.term_value.ensures.most, c.loop-k.invariant.1),
    )

pub returns-clause-value : goal.returns-clause-value
returns-clause-value c =
    let same = ap length c.terms-terms.ensures.list in
    c.loop-k.invariant.0
    ∙ (value_whole c.args.prices.now c.args.orders.now c.args.problem.now.terms c.loop-k.k (omega (arith, same, c.loop-k-test.false))
    ∙ sym (value_by_terms c.args.problem.now c.args.prices.now c.args.orders.now c.requires.some c.terms-terms.ensures.fits.terms))
