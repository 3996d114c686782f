use Rattle.std.proofs.Common.{◌^◌, ◌∙◌, length, drop, refl, sym, ap, subst, arith}
use Rattle.std.specs.List.{All}
use Rattle.order_bound.specs.Pairs.{kept_links}
use Rattle.whole_sums.specs.Sums.{int_sum}
use Rattle.pair_bounds.specs.Slots.{slot_least, IsSmall}
use Rattle.pair_bounds.proofs.Gathered.{take_front}
use Rattle.pair_bounds.specs.PriceNotes.{price_noted, price_over}
use Rattle.pair_bounds.proofs.PairCosts.{pair_total, priced_pair}
use Rattle.pair_bounds.proofs.one_pair.price_pair.Goals as goal

pub price_children-requires-clause-small : goal.price_children-requires-clause-small
price_children-requires-clause-small c = subst (All (IsSmall (2 ^ 41))) (sym c.as_mut_slice.ensures.value) c.plan_pair-decided.ensures.small

pub returns-clause-decided : goal.returns-clause-decided
returns-clause-decided c = c.plan_pair-decided.ensures.collected.base_is

pub returns-clause-least : goal.returns-clause-least
returns-clause-least c =
    let back = take_front c.price_children.new.slots (drop (length c.price_children.new.slots) c.plan_pair-decided.new.room.slots.items) c.plan_pair-decided.new.room.slots.len
    (omega (arith, c.price_children.auto.slots, ap length c.as_mut_slice.ensures.value, c.plan_pair-decided.new.room.slots.ok.0)) in
    ap (int_sum slot_least) back
    ∙ pair_total c.args.problem.now.segs c.args.prefix.now.placed c.args.part.now c.args.pair c.args.terms.now c.plan_pair-decided.result c.plan_pair-decided.new.room.slots.items c.as_mut_slice.result.now c.price_children.new.slots c.price_children.new.slots
    (kept_links c.args.prefix.now.placed c.args.pair c.args.terms.now) c.plan_pair-decided.new.room.children.items (int_sum slot_least c.price_children.new.slots) c.requires.apart c.requires.known c.requires.inside c.plan_pair-decided.ensures.collected
    c.plan_pair-decided.ensures.children c.as_mut_slice.ensures.value c.price_children.ensures.slots refl refl

pub returns-clause-small : goal.returns-clause-small
returns-clause-small c =
    let back = take_front c.price_children.new.slots (drop (length c.price_children.new.slots) c.plan_pair-decided.new.room.slots.items) c.plan_pair-decided.new.room.slots.len
    (omega (arith, c.price_children.auto.slots, ap length c.as_mut_slice.ensures.value, c.plan_pair-decided.new.room.slots.ok.0)) in
    subst (All (IsSmall (2 ^ 43))) (sym back) c.price_children.ensures.small

pub returns-clause-noted : goal.returns-clause-noted
returns-clause-noted c = λ k b.
    c.price_children.ensures.noted k b
    ∙ ap (λ l. price_over l (price_noted c.args.noted.now.prices.items k) k)
    (priced_pair c.args.problem.now.segs c.args.prefix.now.placed c.args.part.now c.args.pair c.args.terms.now c.plan_pair-decided.result c.plan_pair-decided.new.room.slots.items c.as_mut_slice.result.now c.plan_pair-decided.new.room.children.items
    c.requires.known c.requires.inside c.plan_pair-decided.ensures.collected c.plan_pair-decided.ensures.children c.as_mut_slice.ensures.value)
