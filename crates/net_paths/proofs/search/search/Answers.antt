use Rattle.std.proofs.Common.{◌∙◌, subst, ℕ, Option, None, List, [], length, replicate}
use Rattle.std.specs.BinaryHeap.{heap_items}
use Rattle.std.proofs.lemmas.Bool.{iff_false}
use Rattle.net_paths.specs.Searching.{IsBeyond, IsLowered}
use Rattle.net_paths.proofs.Searches.{search_begins, search_taken, search_stale, search_ends, taken_in_range, less_left}
use Rattle.net_paths.proofs.search.search.Goals as goal

pub loop-cost-init : goal.loop-cost-init
loop-cost-init c =
    let first : IsLowered (replicate (length c.args.net.now.points) None) c.lower.new.known [] (heap_items c.lower.new.queue) c.args.to 0 =
    subst (λ (t : List (Option ℕ)). IsLowered t c.lower.new.known [] (heap_items c.lower.new.queue) c.args.to 0) c.requires.nothing_known
    (subst (λ q. IsLowered c.args.known.now c.lower.new.known q (heap_items c.lower.new.queue) c.args.to 0) c.requires.nothing_waits c.in_ok-lower.ensures.lowered) in
    record {
      order = c.in_ok-lower.ensures.order;
      search = search_begins c.args.corridor.now c.args.net.now c.args.to c.lower.new.known (heap_items c.lower.new.queue) c.requires.to_in_range first;
    }

pub of-requires-in-Some : goal.of-requires-in-Some
of-requires-in-Some c =
    taken_in_range c.args.corridor.now c.args.net.now c.args.to c.loop-cost.known (heap_items c.loop-cost.queue) (heap_items c.next.new.queue) c.in-Some.at c.in-Some.cost c.loop-cost.invariant.search
    c.in-Some.ensures.taken

pub loop-cost-smaller-in-Continue-branch-2 : goal.loop-cost-smaller-in-Continue-branch-2
loop-cost-smaller-in-Continue-branch-2 c =
    less_left c.loop-cost.known c.spread.new.known (heap_items c.loop-cost.queue) (heap_items c.next.new.queue) (heap_items c.spread.new.queue) c.in-Some.at c.in-Some.cost c.in-Some.ensures.taken
    (c.in_ok-spread.ensures.spread c.args.to
    (search_taken c.args.corridor.now c.args.net.now c.args.to c.loop-cost.known (heap_items c.loop-cost.queue) (heap_items c.next.new.queue) c.in-Some.at c.in-Some.cost c.loop-cost.invariant.search
    c.in-Some.ensures.taken)).1

pub loop-cost-preserved-in-Continue-branch-2 : goal.loop-cost-preserved-in-Continue-branch-2
loop-cost-preserved-in-Continue-branch-2 c = record {
  order = c.in_ok-spread.ensures.order;
  search = (c.in_ok-spread.ensures.spread c.args.to
      (search_taken c.args.corridor.now c.args.net.now c.args.to c.loop-cost.known (heap_items c.loop-cost.queue) (heap_items c.next.new.queue) c.in-Some.at c.in-Some.cost c.loop-cost.invariant.search
      c.in-Some.ensures.taken)).0;
}

pub loop-cost-preserved : goal.loop-cost-preserved
loop-cost-preserved c = record {
  order = c.in-Some.ensures.order;
  search =
      search_stale c.args.corridor.now c.args.net.now c.args.to c.loop-cost.known (heap_items c.next.new.queue) c.in-Some.at c.in-Some.cost
      (search_taken c.args.corridor.now c.args.net.now c.args.to c.loop-cost.known (heap_items c.loop-cost.queue) (heap_items c.next.new.queue) c.in-Some.at c.in-Some.cost c.loop-cost.invariant.search
      c.in-Some.ensures.taken)
      (λ is. iff_false c.is_known.ensures c.if-is_known.false (c.of-in-Some.ensures ∙ is));
}

pub returns : goal.returns
returns c =
    search_ends c.args.corridor.now c.args.net.now c.args.from c.args.to c.loop-cost.known (heap_items c.loop-cost.queue) c.requires.joined c.loop-cost.invariant.search
    (λ p k w. subst (λ (o : Option ℕ). IsBeyond o k) c.of.ensures (c.in_default.ensures.none p k w))
