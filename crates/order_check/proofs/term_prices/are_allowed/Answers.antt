use Rattle.std.proofs.Common.{◌≡◌, ℕ, ◌+◌, ◌<◌, ◌∙◌, true, List, length, map, take, get_or, ap, sym, subst, arith, FitsSigned, w64, to_z, of_z, None, Some}
use Rattle.std.specs.Prelude.{ℤ, pos}
use Rattle.std.proofs.lemmas.Int.{to_z-of_z}
use Rattle.std.proofs.lemmas.List.{take_all}
use Rattle.order_bound.specs.Values.{are_allowed}
use Rattle.order_check.specs.declared.slot.PartTerm.{PartTerm}
use Rattle.order_check.specs.Slots.{plain_term}
use Rattle.order_check.specs.Charging.{no_part_term}
use Rattle.order_check.specs.Prices.{may_have, IsPlaceOf}
use Rattle.order_check.specs.Pricing.{ArePriced, AreSmallPrices}
use Rattle.order_check.proofs.PriceLemmas.{is_allowed, allowed_at, allowed_nowhere, not_all, count_read, small_allowed}
use Rattle.order_check.proofs.Pricing.{priced_none, priced_more, small_none, small_more}
use Rattle.order_check.proofs.term_prices.are_allowed.Goals as goal

pub returns-in_default-clause-allowed : goal.returns-in_default-clause-allowed
returns-in_default-clause-allowed c =
    let q : ℕ × ℤ = get_or c.args.list.now c.loop-j.j (0, pos 0) in
    let none : IsPlaceOf c.args.numbers.now q.0 None = subst (IsPlaceOf c.args.numbers.now q.0) c.in_default.is c.place_of.ensures in
    sym (not_all (is_allowed c.args.prefix.now.placed (map plain_term c.args.terms.now)) c.args.list.now c.loop-j.j (0, pos 0) c.loop-j-test.true
    (allowed_nowhere c.args.prefix.now.placed c.args.terms.now c.args.numbers.now q c.requires.numbers none))

pub returns-then-not-may_have-clause-allowed : goal.returns-then-not-may_have-clause-allowed
returns-then-not-may_have-clause-allowed c =
    let q : ℕ × ℤ = get_or c.args.list.now c.loop-j.j (0, pos 0) in
    let there : IsPlaceOf c.args.numbers.now q.0 (Some c.in-Some.i) = subst (IsPlaceOf c.args.numbers.now q.0) c.in-Some.is c.place_of.ensures in
    let fits : FitsSigned w64 c.price_of-price.result = record { sfits = c.price_of-price.type_inv } in
    let price : to_z w64 (of_z w64 c.price_of-price.result) ≡ q.1 = to_z-of_z w64 c.price_of-price.result fits ∙ c.price_of-price.ensures in
    sym (not_all (is_allowed c.args.prefix.now.placed (map plain_term c.args.terms.now)) c.args.list.now c.loop-j.j (0, pos 0) c.loop-j-test.true
    (allowed_at c.args.prefix.now.placed c.args.terms.now c.args.numbers.now q c.in-Some.i c.requires.numbers there.0 there.1
    ∙ ap (may_have c.args.prefix.now.placed (get_or c.args.terms.now c.in-Some.i no_part_term).term) (sym price) ∙ sym c.may_have.ensures ∙ c.if-not-may_have.true))

pub loop-j-init : goal.loop-j-init
loop-j-init c = record {
  priced = priced_none c.args.problem.now.segs c.args.prefix.now.placed c.args.terms.now;
  small = small_none c.args.terms.now c.args.list.now;
}

pub loop-j-preserved : goal.loop-j-preserved
loop-j-preserved c =
    let q : ℕ × ℤ = get_or c.args.list.now c.loop-j.j (0, pos 0) in
    let t : PartTerm = get_or c.args.terms.now c.in-Some.i no_part_term in
    let there : IsPlaceOf c.args.numbers.now q.0 (Some c.in-Some.i) = subst (IsPlaceOf c.args.numbers.now q.0) c.in-Some.is c.place_of.ensures in
    let fits : FitsSigned w64 c.price_of-price.result = record { sfits = c.price_of-price.type_inv } in
    let price : to_z w64 (of_z w64 c.price_of-price.result) ≡ q.1 = to_z-of_z w64 c.price_of-price.result fits ∙ c.price_of-price.ensures in
    let may : may_have c.args.prefix.now.placed t.term q.1 ≡ true = ap (may_have c.args.prefix.now.placed t.term) (sym price) ∙ sym c.may_have.ensures ∙ c.if-not-may_have.false in
    let inside : c.in-Some.i < length c.args.terms.now = omega (arith, there.0, count_read c.args.terms.now c.args.numbers.now c.requires.numbers) in
    let next : ArePriced c.args.problem.now.segs c.args.prefix.now.placed c.args.terms.now (take (c.loop-j.j + 1) c.args.list.now) =
    priced_more c.args.problem.now.segs c.args.prefix.now.placed c.args.terms.now c.args.numbers.now c.args.list.now c.loop-j.j c.in-Some.i c.requires.terms
    c.requires.numbers c.requires.rising c.loop-j-test.true c.loop-j.invariant.priced there.0 there.1 may in record {
      priced = next;
      small = small_more c.args.problem.now.segs c.args.prefix.now.placed c.args.terms.now c.args.list.now c.loop-j.j c.requires.terms c.requires.few c.loop-j.invariant.small
          (small_allowed c.args.problem.now.segs c.args.prefix.now.placed t.term q.1 (c.requires.terms c.in-Some.i no_part_term inside) may) next;
    }

pub returns-clause-priced : goal.returns-clause-priced
returns-clause-priced c = λ _.
    subst (λ (qs : List (ℕ × ℤ)). ArePriced c.args.problem.now.segs c.args.prefix.now.placed c.args.terms.now qs)
    (take_all c.loop-j.j c.args.list.now (omega (arith, c.loop-j-test.false))) c.loop-j.invariant.priced

pub returns-clause-small : goal.returns-clause-small
returns-clause-small c = λ _.
    (let all : c.loop-j.j ≡ length c.args.list.now = omega (arith, c.loop-j-test.false, c.loop-j.auto.j-end) in subst (AreSmallPrices c.args.terms.now c.args.list.now) all c.loop-j.invariant.small)

pub returns-clause-allowed : goal.returns-clause-allowed
returns-clause-allowed c =
    sym (subst (λ (qs : List (ℕ × ℤ)). are_allowed c.args.prefix.now.placed (map plain_term c.args.terms.now) qs ≡ true)
    (take_all c.loop-j.j c.args.list.now (omega (arith, c.loop-j-test.false))) c.loop-j.invariant.priced.spread.allowed)
