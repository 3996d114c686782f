use Rattle.std.proofs.Common.{ap, sym, ◌∙◌, length}
use Rattle.part_bounds.specs.PairGroups.{group_in}
use Rattle.part_bounds.proofs.OwnUse.{own_known, own_apart, own_inside, own_room, own_share}
use Rattle.part_bounds.proofs.OwnPrices.{own_prices_is}
use Rattle.order_bound.specs.CanonicalPrices.{pair_prices}
use Rattle.pair_bounds.specs.PriceNotes.{price_noted, price_over}
use Rattle.part_bounds.proofs.kept_pairs.price_entry.Goals as goal

pub bound_of_pair-requires-clause-part : goal.bound_of_pair-requires-clause-part
bound_of_pair-requires-clause-part c = own_known (length c.args.problem.now.segs) c.args.part.now c.args.entry.now.terms.items c.as_slice.result.now (c.as_slice.ensures.value ∙ c.requires.own) c.requires.part

pub bound_of_pair-requires-clause-apart : goal.bound_of_pair-requires-clause-apart
bound_of_pair-requires-clause-apart c = own_apart c.args.part.now c.args.entry.now.terms.items c.as_slice.result.now (c.as_slice.ensures.value ∙ c.requires.own) c.requires.apart

pub bound_of_pair-requires-clause-inside : goal.bound_of_pair-requires-clause-inside
bound_of_pair-requires-clause-inside c = own_inside c.args.part.now c.args.entry.now.terms.items c.as_slice-2.result.now c.as_slice.result.now (c.as_slice.ensures.value ∙ c.requires.own) c.as_slice-2.ensures.value c.requires.group.inside

pub bound_of_pair-requires-clause-room : goal.bound_of_pair-requires-clause-room
bound_of_pair-requires-clause-room c =
    own_room c.args.part.now c.args.entry.now.terms.items c.as_slice.result.now (length c.as_slice-2.result.now) (length c.args.entry.now.terms.items) c.args.room.now (c.as_slice.ensures.value ∙ c.requires.own) (ap length c.as_slice-2.ensures.value) c.requires.room

pub returns-clause-noted : goal.returns-clause-noted
returns-clause-noted c = λ k b.
    c.bound_of_pair.ensures.noted k b
    ∙ (ap (λ l. price_over (pair_prices c.args.problem.now.segs c.args.prefix.now.placed c.as_slice.result.now l c.args.entry.now.pair) (price_noted c.args.noted.now.prices.items k) k) c.as_slice-2.ensures.value
    ∙ (ap (λ l. price_over (pair_prices c.args.problem.now.segs c.args.prefix.now.placed l c.args.entry.now.terms.items c.args.entry.now.pair) (price_noted c.args.noted.now.prices.items k) k) (c.as_slice.ensures.value ∙ c.requires.own)
    ∙ ap (λ l. price_over l (price_noted c.args.noted.now.prices.items k) k) (sym (own_prices_is c.args.problem.now.segs c.args.prefix.now.placed c.args.part.now c.args.entry.now.terms.items c.args.entry.now.pair))))

pub returns-clause-share : goal.returns-clause-share
returns-clause-share c =
    c.bound_of_pair.ensures.bound ∙ own_share c.args.problem.now.segs c.args.prefix.now.placed c.args.part.now c.as_slice.result.now (group_in c.args.entry.now) c.as_slice-2.result.now (c.as_slice.ensures.value ∙ c.requires.own) c.as_slice-2.ensures.value
