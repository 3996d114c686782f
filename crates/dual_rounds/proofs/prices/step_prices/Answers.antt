use Rattle.std.proofs.Common.{◌≡◌, ◌+◌, ℕ, ℤ, length, pos, get_or, set, FitsSigned, w64, to_z, of_z, sym, ◌∙◌, ap, subst, arith}
use Rattle.std.proofs.lemmas.Int.{to_z-of_z, fits_signed_from_abs}
use Rattle.std.proofs.lemmas.List.Elements.{All-get_or}
use Rattle.order_model.specs.PartTerms.{no_term}
use Rattle.dual_ascent.specs.DualSteps.{next_price}
use Rattle.dual_rounds.specs.Ranges.{IsDirection, IsPrice}
use Rattle.dual_rounds.proofs.Filling.{IsFilledTo, fill_begins, fill_goes_on, fill_ends}
use Rattle.dual_rounds.proofs.TermLists.{weight_at, price_by, prices_at, length_prices, price_is}
use Rattle.dual_rounds.proofs.prices.step_prices.Goals as goal

pub loop-k-init : goal.loop-k-init
loop-k-init c = fill_begins (price_by c.args.problem.now.terms c.args.step (to_z w64 (of_z w64 c.args.gap)) c.args.squares c.args.directions.now) (pos 0) c.args.prices.now

pub most_price-most-requires : goal.most_price-most-requires
most_price-most-requires c = weight_at c.args.problem.now.segs c.terms-terms.result.now c.loop-k.k no_term (rw c.terms-terms.ensures.list c.terms-terms.ensures.fits.terms) c.loop-k-test.true

pub next_price-price-requires-clause-price : goal.next_price-price-requires-clause-price
next_price-price-requires-clause-price c =
    let same = ap length c.terms-terms.ensures.list in
    let price : ℤ = get_or c.loop-k.prices c.loop-k.k (pos 0) in
    let within : IsPrice price = subst IsPrice (sym (c.loop-k.invariant.rest c.loop-k.k (omega arith)))
    (All-get_or IsPrice c.args.prices.now c.loop-k.k (pos 0) (omega (arith, same, c.loop-k-test.true, c.requires.each)) c.requires.within) in
    subst IsPrice (sym (to_z-of_z w64 price (fits_signed_from_abs w64 price (omega (arith, within))))) within

pub next_price-price-requires-clause-direction : goal.next_price-price-requires-clause-direction
next_price-price-requires-clause-direction c =
    let same = ap length c.terms-terms.ensures.list in
    let direction : ℤ = get_or c.args.directions.now c.loop-k.k (pos 0) in
    let within : IsDirection direction = All-get_or IsDirection c.args.directions.now c.loop-k.k (pos 0) (omega (arith, same, c.loop-k-test.true, c.requires.directions)) c.requires.moved in
    subst IsDirection (sym (to_z-of_z w64 direction (fits_signed_from_abs w64 direction (omega (arith, within))))) within

pub loop-k-preserved : goal.loop-k-preserved
loop-k-preserved c =
    let same = ap length c.terms-terms.ensures.list in
    let k = c.loop-k.k in
    let gap : ℤ = to_z w64 (of_z w64 c.args.gap) in
    let most : ℕ = c.most_price-most.result in
    let price : ℤ = get_or c.loop-k.prices k (pos 0) in
    let direction : ℤ = get_or c.args.directions.now k (pos 0) in
    let made : ℤ = c.next_price-price.result in
    let small : IsPrice price = subst IsPrice (sym (c.loop-k.invariant.rest k (omega arith)))
    (All-get_or IsPrice c.args.prices.now k (pos 0) (omega (arith, same, c.loop-k-test.true, c.requires.each)) c.requires.within) in
    let price_fits : to_z w64 (of_z w64 price) ≡ price = to_z-of_z w64 price (fits_signed_from_abs w64 price (omega (arith, small))) in
    let short : IsDirection direction = All-get_or IsDirection c.args.directions.now k (pos 0) (omega (arith, same, c.loop-k-test.true, c.requires.directions)) c.requires.moved in
    let direction_fits : to_z w64 (of_z w64 direction) ≡ direction = to_z-of_z w64 direction (fits_signed_from_abs w64 direction (omega (arith, short))) in
    let made_fits : FitsSigned w64 made = record { sfits = c.next_price-price.type_inv } in
    let made_is : to_z w64 (of_z w64 made) ≡ made = to_z-of_z w64 made made_fits in
    let value : made ≡ next_price c.args.step gap c.args.squares most price direction =
    c.next_price-price.ensures
    ∙ (ap (λ y. next_price c.args.step gap c.args.squares most y (to_z w64 (of_z w64 direction))) price_fits ∙ ap (λ y. next_price c.args.step gap c.args.squares most price y) direction_fits) in
    let by : ℤ → Type 0 = λ v. IsFilledTo (price_by c.args.problem.now.terms c.args.step gap c.args.squares c.args.directions.now) (pos 0) (k + 1) c.args.prices.now (set c.loop-k.prices k v) in
    subst by (sym made_is)
    (fill_goes_on (price_by c.args.problem.now.terms c.args.step gap c.args.squares c.args.directions.now) (pos 0) k c.args.prices.now c.loop-k.prices made c.loop-k.invariant
    (omega (arith, same, c.loop-k-test.true, c.requires.each))
    (price_is c.args.problem.now c.terms-terms.result.now c.args.step gap c.args.squares most c.args.directions.now c.args.prices.now c.loop-k.prices k made
    c.terms-terms.ensures.list c.most_price-most.ensures.value value (c.loop-k.invariant.rest k (omega arith))))

pub returns : goal.returns
returns c =
    let same = ap length c.terms-terms.ensures.list in
    let made = length_prices c.args.problem.now c.args.step c.args.gap c.args.prices.now c.args.directions.now in
    let gap_is : to_z w64 (of_z w64 c.args.gap) ≡ c.args.gap = to_z-of_z w64 c.args.gap c.ranges.gap in
    fill_ends (price_by c.args.problem.now.terms c.args.step (to_z w64 (of_z w64 c.args.gap)) c.args.squares c.args.directions.now) (pos 0) c.loop-k.k c.args.prices.now c.loop-k.prices _ c.loop-k.invariant
    (omega (arith, same, c.loop-k-test.false, c.requires.each)) (omega (arith, made, c.requires.each))
    (λ i below. prices_at c.args.problem.now c.args.step c.args.gap c.args.prices.now c.args.directions.now i (omega (arith, below, c.requires.each))
    ∙ (ap (λ n. price_by c.args.problem.now.terms c.args.step c.args.gap n c.args.directions.now i (get_or c.args.prices.now i (pos 0))) (sym c.requires.squares)
    ∙ ap (λ g. price_by c.args.problem.now.terms c.args.step g c.args.squares c.args.directions.now i (get_or c.args.prices.now i (pos 0))) (sym gap_is)))
