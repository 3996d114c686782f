use Rattle.std.proofs.Common.{◌≡◌, ◌∙◌, ap, sym, subst, arith, w64, to_z, of_z}
use Rattle.std.specs.Prelude.{◌+ℤ◌}
use Rattle.std.proofs.lemmas.Int.{ints, to_z-of_z}
use Rattle.order_model.specs.PartTerms.{is_of}
use Rattle.order_model.specs.Problems.{IsPair, IsTerm}
use Rattle.order_check.specs.Slots.{slot_of}
use Rattle.prefix_bounds.proofs.SoFar.{least_new, least_at, adds_by, none_added, apart_adds, side_adds, link_adds}
use Rattle.prefix_bounds.proofs.slots.new_least.Goals as goal

pub returns-then-not-is_of-clause-more : goal.returns-then-not-is_of-clause-more
returns-then-not-is_of-clause-more c =
    none_added c.args.prefix.now.placed c.args.list.now c.args.problem.now.terms c.args.part.now c.args.number c.requires.known
    (ap (is_of c.args.part.now) (sym c.term_at-term.ensures.term) ∙ sym c.is_of.ensures ∙ c.if-not-is_of.true)

pub returns-in-Apart-clause-more : goal.returns-in-Apart-clause-more
returns-in-Apart-clause-more c =
    apart_adds c.args.prefix.now.placed c.args.list.now c.args.problem.now.terms c.args.part.now c.args.number c.in-Apart.seg c.in-Apart.other c.in-Apart.a c.in-Apart.b c.in-Apart.w c.requires.known
    (sym c.term_at-term.ensures.term ∙ c.in-Apart.is) (ap (is_of c.args.part.now) (sym c.in-Apart.is) ∙ sym c.is_of.ensures ∙ c.if-not-is_of.false)

pub returns-in-Side-clause-more : goal.returns-in-Side-clause-more
returns-in-Side-clause-more c =
    let value : to_z w64 (of_z w64 c.least_if_new.result) ≡ c.least_if_new.result = to_z-of_z w64 c.least_if_new.result (record { sfits = c.least_if_new.type_inv }) in
    let least = least_at c.args.prefix.now.placed c.args.list.now c.args.problem.now.terms c.args.part.now c.args.number c.of-place.result.seg c.in-Side.seg c.of-place.result.pair c.in-Side.first c.in-Side.second
    c.least_if_new.result c.least_if_new.ensures.least c.of-place.ensures.seg c.of-place.ensures.pair in
    adds_by c.args.prefix.now.placed c.args.list.now c.args.problem.now.terms c.args.part.now c.args.number _ (to_z w64 (of_z w64 c.least_if_new.result))
    (side_adds c.args.prefix.now.placed c.args.list.now c.args.problem.now.terms c.args.part.now c.args.number c.in-Side.seg c.in-Side.first c.in-Side.second c.in-Side.w c.requires.known
    (sym c.term_at-term.ensures.term ∙ c.in-Side.is) (ap (is_of c.args.part.now) (sym c.in-Side.is) ∙ sym c.is_of.ensures ∙ c.if-not-is_of.false))
    (value ∙ least)

pub returns-in-Link-clause-more : goal.returns-in-Link-clause-more
returns-in-Link-clause-more c =
    let pair : IsPair c.args.problem.now.segs c.in-Link.seg c.in-Link.other c.in-Link.a c.in-Link.b c.in-Link.w = subst (IsTerm c.args.problem.now.segs) c.in-Link.is c.term_at-term.ensures.fits in
    let value : to_z w64 (of_z w64 c.sum.result) ≡ c.sum.result = to_z-of_z w64 c.sum.result (record { sfits = c.sum.type_inv }) in
    let first : to_z w64 (of_z w64 c.least_if_new-least.result) ≡ c.least_if_new-least.result = to_z-of_z w64 c.least_if_new-least.result (record { sfits = c.least_if_new-least.type_inv }) in
    let second : to_z w64 (of_z w64 c.least_if_new-in-Link.result) ≡ c.least_if_new-in-Link.result = to_z-of_z w64 c.least_if_new-in-Link.result (record { sfits = c.least_if_new-in-Link.type_inv }) in
    let here = least_at c.args.prefix.now.placed c.args.list.now c.args.problem.now.terms c.args.part.now c.args.number c.of-here.result.seg c.in-Link.seg c.of-here.result.pair c.in-Link.a c.in-Link.b
    c.least_if_new-least.result c.least_if_new-least.ensures.least c.of-here.ensures.seg c.of-here.ensures.pair in
    let there = least_at c.args.prefix.now.placed c.args.list.now c.args.problem.now.terms c.args.part.now c.args.number c.of-there.result.seg c.in-Link.other c.of-there.result.pair c.in-Link.a c.in-Link.b
    c.least_if_new-in-Link.result c.least_if_new-in-Link.ensures.least c.of-there.ensures.seg c.of-there.ensures.pair in
    adds_by c.args.prefix.now.placed c.args.list.now c.args.problem.now.terms c.args.part.now c.args.number
    (least_new c.args.prefix.now.placed c.args.list.now c.args.problem.now.terms c.args.part.now c.args.number (slot_of c.in-Link.seg c.in-Link.a c.in-Link.b)
    +ℤ least_new c.args.prefix.now.placed c.args.list.now c.args.problem.now.terms c.args.part.now c.args.number (slot_of c.in-Link.other c.in-Link.a c.in-Link.b))
    (to_z w64 (of_z w64 c.sum.result))
    (link_adds c.args.prefix.now.placed c.args.list.now c.args.problem.now.terms c.args.part.now c.args.number c.in-Link.seg c.in-Link.other c.in-Link.flip c.in-Link.a c.in-Link.b c.in-Link.w c.requires.known
    (sym c.term_at-term.ensures.term ∙ c.in-Link.is) (ap (is_of c.args.part.now) (sym c.in-Link.is) ∙ sym c.is_of.ensures ∙ c.if-not-is_of.false) pair.seg_below)
    (omega (arith, ints, value, first, second, here, there, c.sum.ensures))
