use Rattle.std.proofs.Common.{◌≡◌, ◌++◌, ◌∙◌, ap, arith, reverse}
use Rattle.order_bound.specs.CanonicalPrices.{ends_at, far_end, child_link}
use Rattle.pair_bounds.proofs.WalkSteps.{made, walk_next, walk_fewer, children_fewer}
use Rattle.pair_bounds.proofs.walking.walk.Goals as goal

pub loop-parent-smaller : goal.loop-parent-smaller
loop-parent-smaller c =
    let w2 : c.push_waiting.new.waiting.items ≡ c.pop.new.self.items ++ reverse (made (far_end c.in-Some.parent) (ends_at c.in-Some.parent) c.loop-parent.links.items) =
    c.push_waiting.ensures.items ∙ ap (λ l. c.pop.new.self.items ++ reverse (made (far_end c.in-Some.parent) (ends_at c.in-Some.parent) l)) c.deref-in-Some.ensures.value in
    let fewer = walk_fewer c.in-Some.parent c.loop-parent.waiting.items c.pop.new.self.items c.push_waiting.new.waiting.items c.loop-parent.links.items c.leave_others.new.links.items
    c.in-Some.ensures.items w2 c.leave_others.ensures.items in
    omega (arith, fewer, c.push_waiting.new.waiting.ok.0, c.leave_others.new.links.ok.0, c.loop-parent.waiting.ok.0, c.loop-parent.links.ok.0)

pub loop-parent-preserved : goal.loop-parent-preserved
loop-parent-preserved c =
    let w2 : c.push_waiting.new.waiting.items ≡ c.pop.new.self.items ++ reverse (made (far_end c.in-Some.parent) (ends_at c.in-Some.parent) c.loop-parent.links.items) =
    c.push_waiting.ensures.items ∙ ap (λ l. c.pop.new.self.items ++ reverse (made (far_end c.in-Some.parent) (ends_at c.in-Some.parent) l)) c.deref-in-Some.ensures.value in
    let c2 : c.push_children.new.children.items ≡ c.loop-parent.children.items ++ made (child_link c.in-Some.parent) (ends_at c.in-Some.parent) c.loop-parent.links.items =
    c.push_children.ensures.items ∙ ap (λ l. c.loop-parent.children.items ++ made (child_link c.in-Some.parent) (ends_at c.in-Some.parent) l) c.deref.ensures.value in
    let fewer = walk_fewer c.in-Some.parent c.loop-parent.waiting.items c.pop.new.self.items c.push_waiting.new.waiting.items c.loop-parent.links.items c.leave_others.new.links.items
    c.in-Some.ensures.items w2 c.leave_others.ensures.items in
    let same = children_fewer c.in-Some.parent c.loop-parent.links.items c.leave_others.new.links.items c.loop-parent.children.items c.push_children.new.children.items c2 c.leave_others.ensures.items in
    record {
      items = walk_next c.in-Some.parent c.loop-parent.waiting.items c.pop.new.self.items c.push_waiting.new.waiting.items c.loop-parent.links.items c.leave_others.new.links.items
          c.loop-parent.children.items c.push_children.new.children.items _ c.in-Some.ensures.items c2 w2 c.leave_others.ensures.items c.loop-parent.invariant.items;
      waiting = omega (arith, fewer, c.push_waiting.ensures.room, c.in-Some.ensures.capacity, c.loop-parent.invariant.waiting, c.push_waiting.new.waiting.ok.0, c.leave_others.new.links.ok.0, c.loop-parent.waiting.ok.0, c.loop-parent.links.ok.0);
      children = omega (arith, same, c.push_children.ensures.room, c.loop-parent.invariant.children, c.push_children.new.children.ok.0, c.leave_others.new.links.ok.0, c.loop-parent.children.ok.0, c.loop-parent.links.ok.0);
      waiting_room = omega (arith, c.push_waiting.ensures.room, c.in-Some.ensures.capacity, c.loop-parent.invariant.waiting_room);
      links_room = omega (arith, c.leave_others.ensures.room, c.loop-parent.invariant.links_room);
      children_room = omega (arith, c.push_children.ensures.room, c.loop-parent.invariant.children_room);
    }
