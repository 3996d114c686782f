use Rattle.std.proofs.Common.{◌≡◌, ◌+◌, ℤ, length, pos, get_or, set, FitsSigned, w64, to_z, of_z, rules, sym, ◌∙◌, ap, subst, arith}
use Rattle.std.proofs.lemmas.Int.{to_z-of_z, fits_signed_from_abs}
use Rattle.std.proofs.lemmas.List.Elements.{All-get_or, All-set}
use Rattle.std.specs.List.{All}
use Rattle.order_model.specs.declared.term.Term.{Term}
use Rattle.order_model.specs.PartTerms.{no_term}
use Rattle.dual_ascent.specs.DualSteps.{most_price, subgradient, next_direction}
use Rattle.dual_rounds.specs.Ranges.{IsDirection}
use Rattle.dual_rounds.proofs.Filling.{IsFilledTo, fill_begins, fill_goes_on, fill_ends}
use Rattle.dual_rounds.proofs.TermLists.{readable_at, direction_by, directions_at, length_directions, direction_is}
use Rattle.dual_rounds.proofs.directions.direct.Goals as goal

pub loop-k-init : goal.loop-k-init
loop-k-init c = (fill_begins (direction_by c.args.problem.now.terms c.args.orders.now c.args.prices.now) (pos 0) c.args.directions.now, c.requires.within)

pub direction_of-direction-requires-clause-term : goal.direction_of-direction-requires-clause-term
direction_of-direction-requires-clause-term c =
    readable_at c.args.problem.now.segs c.terms-terms.result.now (length c.args.orders.now) c.loop-k.k no_term (rw c.terms-terms.ensures.list c.terms-terms.ensures.fits.terms) c.requires.orders c.loop-k-test.true

pub direction_of-direction-requires-clause-last : goal.direction_of-direction-requires-clause-last
direction_of-direction-requires-clause-last c =
    let same = ap length c.terms-terms.ensures.list in
    let each = c.loop-k.invariant.0.each in
    let last : ℤ = get_or c.loop-k.directions c.loop-k.k (pos 0) in
    let within : IsDirection last = All-get_or IsDirection c.loop-k.directions c.loop-k.k (pos 0) (omega (arith, same, each, c.loop-k-test.true, c.requires.each)) c.loop-k.invariant.1 in
    subst IsDirection (sym (to_z-of_z w64 last (fits_signed_from_abs w64 last (omega (arith, within))))) within

pub loop-k-preserved : goal.loop-k-preserved
loop-k-preserved c =
    let same = ap length c.terms-terms.ensures.list in
    let each = c.loop-k.invariant.0.each in
    let k = c.loop-k.k in
    let term : Term = get_or c.terms-terms.result.now k no_term in
    let slope : ℤ = subgradient c.args.orders.now term in
    let last : ℤ = get_or c.loop-k.directions k (pos 0) in
    let price : ℤ = get_or c.args.prices.now k (pos 0) in
    let made : ℤ = c.direction_of-direction.result in
    let within : IsDirection last = All-get_or IsDirection c.loop-k.directions k (pos 0) (omega (arith, same, each, c.loop-k-test.true, c.requires.each)) c.loop-k.invariant.1 in
    let last_is : to_z w64 (of_z w64 last) ≡ last = to_z-of_z w64 last (fits_signed_from_abs w64 last (omega (arith, within))) in
    let fits : FitsSigned w64 price = search rules in
    let price_is : to_z w64 (of_z w64 price) ≡ price = to_z-of_z w64 price fits in
    let made_fits : FitsSigned w64 made = record { sfits = c.direction_of-direction.type_inv } in
    let made_is : to_z w64 (of_z w64 made) ≡ made = to_z-of_z w64 made made_fits in
    let value : made ≡ next_direction (most_price term) price last slope =
    c.direction_of-direction.ensures.value
    ∙ (ap (λ p. next_direction (most_price term) p (to_z w64 (of_z w64 last)) slope) price_is ∙ ap (λ d. next_direction (most_price term) price d slope) last_is) in
    let by : ℤ → Type 0 = λ v. IsFilledTo (direction_by c.args.problem.now.terms c.args.orders.now c.args.prices.now) (pos 0) (k + 1) c.args.directions.now (set c.loop-k.directions k v) × All IsDirection (set c.loop-k.directions k v) in
    subst by (sym made_is) (
      fill_goes_on (direction_by c.args.problem.now.terms c.args.orders.now c.args.prices.now) (pos 0) k c.args.directions.now c.loop-k.directions made c.loop-k.invariant.0
          (omega (arith, same, c.loop-k-test.true, c.requires.each))
          (direction_is c.args.problem.now c.terms-terms.result.now c.args.orders.now c.args.prices.now c.args.directions.now c.loop-k.directions k made c.terms-terms.ensures.list value
          (c.loop-k.invariant.0.rest k (omega arith))),
      All-set IsDirection c.loop-k.directions k made c.direction_of-direction.ensures.within c.loop-k.invariant.1,
    )

pub returns-clause-value : goal.returns-clause-value
returns-clause-value c =
    let same = ap length c.terms-terms.ensures.list in
    let made = length_directions c.args.problem.now c.args.orders.now c.args.prices.now c.args.directions.now in
    fill_ends (direction_by c.args.problem.now.terms c.args.orders.now c.args.prices.now) (pos 0) c.loop-k.k c.args.directions.now c.loop-k.directions _ c.loop-k.invariant.0
    (omega (arith, same, c.loop-k-test.false, c.requires.each)) (omega (arith, made, c.requires.each))
    (λ i below. directions_at c.args.problem.now c.args.orders.now c.args.prices.now c.args.directions.now i (omega (arith, below, c.requires.each)))
