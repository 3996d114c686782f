use Rattle.std.proofs.Common.{◌≡◌, ◌+◌, ◌∙◌, ◌++◌, [], List, length, map, reverse, ap, subst, arith}
use Rattle.std.specs.Vec.{vec_len}
use Rattle.std.proofs.lemmas.List.{length-map, length-reverse}
use Rattle.pair_bounds.specs.declared.slots.Slot.{Slot}
use Rattle.order_bound.specs.Pairs.{open_segments}
use Rattle.order_bound.specs.CanonicalPrices.{children_of, walked}
use Rattle.pair_bounds.proofs.Collected.{collected_small}
use Rattle.pair_bounds.proofs.PairCosts.{length_slots, few_links, length_walked, walk_is, light_children}
use Rattle.pair_bounds.specs.Slots.{IsCollected}
use Rattle.map_base.specs.declared.ids.SegId.{SegId}
use Rattle.pair_bounds.proofs.one_pair.plan_pair.Goals as goal

pub push_slots-requires : goal.push_slots-requires
push_slots-requires c =
    let most = length_slots c.args.problem.now.segs c.args.prefix.now.placed c.args.part.now c.args.pair c.args.terms.now c.collect-decided.result c.collect-decided.new.slots.items c.collect-decided.new.links.items c.collect-decided.ensures.collected in
    record { room = omega (arith, most, ap length c.as_slice.ensures.value, c.requires.room.waiting) }

pub walk-requires-clause-waiting : goal.walk-requires-clause-waiting
walk-requires-clause-waiting c =
    let most = length_slots c.args.problem.now.segs c.args.prefix.now.placed c.args.part.now c.args.pair c.args.terms.now c.collect-decided.result c.collect-decided.new.slots.items c.collect-decided.new.links.items c.collect-decided.ensures.collected in
    let links = few_links c.args.problem.now.segs c.args.prefix.now.placed (open_segments c.args.problem.now.segs c.args.prefix.now.placed c.args.part.now c.args.pair) c.args.pair c.args.terms.now c.collect-decided.result c.collect-decided.new.slots.items c.collect-decided.new.links.items c.collect-decided.ensures.collected in
    omega (
      arith,
      most,
      links,
      ap length c.as_slice.ensures.value,
      ap length c.push_slots.ensures.items,
      length-reverse (map (λ (s : Slot). s.seg) c.as_slice.result.now),
      length-map c.as_slice.result.now (λ (s : Slot). s.seg),
      c.push_slots.new.waiting.ok.0,
      c.collect-decided.new.links.ok.0,
      c.push_slots.ensures.room,
      c.requires.room.waiting,
    )

pub walk-requires-clause-children : goal.walk-requires-clause-children
walk-requires-clause-children c =
    let links = few_links c.args.problem.now.segs c.args.prefix.now.placed (open_segments c.args.problem.now.segs c.args.prefix.now.placed c.args.part.now c.args.pair) c.args.pair c.args.terms.now c.collect-decided.result c.collect-decided.new.slots.items c.collect-decided.new.links.items c.collect-decided.ensures.collected in
    omega (arith, links, c.clear.ensures.len, c.clear.ensures.capacity, c.collect-decided.new.links.ok.0, c.requires.room.children)

abbrev open_on : goal.After-walk → List SegId
open_on c = open_segments c.args.problem.now.segs c.args.prefix.now.placed c.args.part.now c.args.pair

children_are : (c : goal.After-walk) → c.walk.new.children.items ≡ children_of (open_on c) c.collect-decided.new.links.items
children_are c =
    walk_is c.args.problem.now.segs c.args.prefix.now.placed (open_on c) c.args.pair c.args.terms.now c.collect-decided.result c.collect-decided.new.slots.items c.collect-decided.new.links.items
    c.push_slots.new.waiting.items c.walk.new.children.items (vec_len c.push_slots.new.waiting + vec_len c.collect-decided.new.links) c.collect-decided.ensures.collected
    (c.push_slots.ensures.items ∙ ap (λ k. reverse (map (λ (s : Slot). s.seg) k)) c.as_slice.ensures.value) (omega (arith, c.push_slots.new.waiting.ok.0, c.collect-decided.new.links.ok.0))
    (c.walk.ensures.items ∙ ap (λ k. k ++ walked (vec_len c.push_slots.new.waiting + vec_len c.collect-decided.new.links) (reverse c.push_slots.new.waiting.items) c.collect-decided.new.links.items) c.clear.ensures.items)

pub returns-clause-collected : goal.returns-clause-collected
returns-clause-collected c =
    subst (IsCollected c.args.problem.now.segs c.args.prefix.now.placed c.args.pair (open_on c) c.args.terms.now c.collect-decided.result c.collect-decided.new.slots.items)
    c.collect-decided.ensures.collected.links_are c.collect-decided.ensures.collected

pub returns-clause-children : goal.returns-clause-children
returns-clause-children c = children_are c ∙ ap (children_of (open_on c)) c.collect-decided.ensures.collected.links_are

pub returns-clause-small : goal.returns-clause-small
returns-clause-small c =
    collected_small c.args.problem.now.segs c.args.prefix.now.placed c.args.pair (open_on c) c.args.terms.now c.collect-decided.result c.collect-decided.new.slots.items c.collect-decided.new.links.items
    c.collect-decided.ensures.collected c.requires.known c.requires.few

pub returns-clause-light : goal.returns-clause-light
returns-clause-light c =
    light_children c.args.problem.now.segs c.args.prefix.now.placed (open_on c) c.args.pair c.args.terms.now c.collect-decided.result c.collect-decided.new.slots.items c.collect-decided.new.links.items
    c.walk.new.children.items c.collect-decided.ensures.collected c.requires.known (children_are c)

pub returns-clause-few : goal.returns-clause-few
returns-clause-few c =
    let links = few_links c.args.problem.now.segs c.args.prefix.now.placed (open_on c) c.args.pair c.args.terms.now c.collect-decided.result c.collect-decided.new.slots.items c.collect-decided.new.links.items c.collect-decided.ensures.collected in
    let all : c.walk.new.children.items ≡ [] ++ walked (vec_len c.push_slots.new.waiting + vec_len c.collect-decided.new.links) (reverse c.push_slots.new.waiting.items) c.collect-decided.new.links.items =
    c.walk.ensures.items ∙ ap (λ k. k ++ walked (vec_len c.push_slots.new.waiting + vec_len c.collect-decided.new.links) (reverse c.push_slots.new.waiting.items) c.collect-decided.new.links.items) c.clear.ensures.items in
    omega (arith, links, ap length all, length_walked (vec_len c.push_slots.new.waiting + vec_len c.collect-decided.new.links) (reverse c.push_slots.new.waiting.items) c.collect-decided.new.links.items, c.walk.new.children.ok.0, c.requires.few)
