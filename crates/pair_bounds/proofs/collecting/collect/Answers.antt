use Rattle.std.proofs.Common.{◌+◌, ◌<◌, ◌^◌, ◌∙◌, rules, sym, ap, subst, length, take, drop, arith, lit≤}
use Rattle.std.specs.List.{All}
use Rattle.std.proofs.lemmas.List.{length-take}
use Rattle.order_model.specs.declared.term.Term.{Term}
use Rattle.order_model.specs.Problems.{IsTerm}
use Rattle.order_bound.specs.Pairs.{open_segments}
use Rattle.pair_bounds.specs.Slots.{IsSmall}
use Rattle.pair_bounds.proofs.Collected.{collected_small, all_higher, all_take}
use Rattle.pair_bounds.proofs.Gathered.{gather_next, take_front}
use Rattle.std.specs.Prelude.{ℕ}
use Rattle.pair_bounds.proofs.collecting.collect.Goals as goal

pub gather-requires-clause-small : goal.gather-requires-clause-small
gather-requires-clause-small c =
    subst (All (IsSmall (2 ^ 60))) (sym c.as_mut_slice.ensures.value)
    (all_higher (2 ^ 41) (2 ^ 60) c.loop-number.slots.items (lit≤ tt)
    (collected_small c.args.problem.now.segs c.args.prefix.now.placed c.args.pair (open_segments c.args.problem.now.segs c.args.prefix.now.placed c.args.part.now c.args.pair)
    (take c.loop-number.number-index c.args.terms.now) c.loop-number.base c.loop-number.slots.items c.loop-number.links.items c.loop-number.invariant.collected
    (all_take (λ (t : ℕ × Term). IsTerm c.args.problem.now.segs t.1) c.args.terms.now c.loop-number.number-index c.requires.known)
    (omega (arith, length-take c.loop-number.number-index c.args.terms.now, c.requires.few))))

pub loop-number-preserved : goal.loop-number-preserved
loop-number-preserved c = record {
  collected = gather_next c.args.problem.now.segs c.args.prefix.now.placed c.args.part.now c.args.pair c.args.terms.now c.loop-number.number-index _ c.loop-number.base _
      c.loop-number.slots.items c.as_mut_slice.result.now c.gather.new.slots _ c.loop-number.links.items c.gather.new.links.items c.look_at-look.result
      c.loop-number.invariant.collected (omega arith) c.requires.known c.requires.inside c.requires.mine c.look_at-look.ensures
      (ap (λ n. c.loop-number.base + n) (c.from-base.ensures ∙ c.gather.ensures.cost)) c.as_mut_slice.ensures.value c.gather.ensures.slots
      (take_front c.gather.new.slots (drop (length c.gather.new.slots) c.loop-number.slots.items) c.loop-number.slots.len (omega (arith, c.gather.auto.slots, c.as_mut_slice.ensures.len)))
      c.gather.ensures.links;
  few = omega (arith, c.gather.ensures.few, c.loop-number.invariant.few);
  small = (let below : c.gather.result < 4294967296 = search rules in omega (arith, below, c.from-base.ensures, c.loop-number.invariant.small));
  slots_room = c.loop-number.invariant.slots_room;
  links_room = omega (arith, c.gather.ensures.room, c.loop-number.invariant.links_room);
}
