use Rattle.std.proofs.Common.{◌≡◌, ◌<◌, ◌≤◌, ◌+◌, ◌-◌, ◌*◌, Some, sym, ap, subst, ◌∙◌, ◌==◌, cond, arith, rules, to_z, of_z, w64}
use Rattle.std.proofs.lemmas.Int.{to_z-of_z}
use Rattle.std.specs.List.{All}
use Rattle.std.specs.Vec.{vec_len}
use Rattle.std.proofs.lemmas.List.Elements.{All-pop}
use Rattle.order_bound.specs.declared.pairs.ChildLink.{ChildLink}
use Rattle.pair_bounds.specs.Slots.{with_children, IsSmall}
use Rattle.pair_bounds.specs.PriceNotes.{price_noted}
use Rattle.pair_bounds.proofs.PricedSlots.{children_push, child_small}
use Rattle.pair_bounds.proofs.Noted.{noted_more}
use Rattle.pair_bounds.proofs.child_prices.price_children.Goals as goal

pub loop-child-preserved : goal.loop-child-preserved
loop-child-preserved c =
    let light = All-pop (λ (c : ChildLink). c.link.weight ≤ 256000) c.loop-child.children.items c.pop.new.self.items (Some c.in-Some.child) c.in-Some.ensures.items c.loop-child.invariant.light in
    let fewer : (2199023255552 + 524288 * (vec_len c.args.children.now - vec_len c.loop-child.children)) + 524288 ≡ 2199023255552 + 524288 * (vec_len c.args.children.now - vec_len c.pop.new.self) =
    omega (arith, c.in-Some.ensures.cases, c.loop-child.invariant.few) in
    let back : to_z w64 (of_z w64 c.price_child-price.result) ≡ c.price_child-price.result = to_z-of_z w64 c.price_child-price.result (search rules) in
    record {
      slots = ap (with_children c.pop.new.self.items) c.price_child-price.ensures.slots ∙ (sym (children_push c.pop.new.self.items c.in-Some.child c.loop-child.slots)
          ∙ (ap (λ k. with_children k c.loop-child.slots) (sym c.in-Some.ensures.items) ∙ c.loop-child.invariant.slots));
      each = c.note.ensures.each ∙ c.loop-child.invariant.each;
      noted = λ k b. noted_more c.loop-child.children.items c.pop.new.self.items c.in-Some.child c.loop-child.slots c.price_child-price.new.slots c.price_child-price.result
          (price_noted c.loop-child.noted.prices.items k) (price_noted c.note.new.self.prices.items k) k c.in-Some.ensures.items c.price_child-price.ensures.slots c.price_child-price.ensures.price
          (c.note.ensures.noted k (subst (λ n. k < n) (sym c.loop-child.invariant.each) b) ∙ ap (λ y. cond (c.in-Some.child.link.number == k) y (price_noted c.loop-child.noted.prices.items k)) back)
          ∙ c.loop-child.invariant.noted k b;
      small = subst (λ m. All (IsSmall m) c.price_child-price.new.slots) fewer
          (subst (All (IsSmall ((2199023255552 + 524288 * (vec_len c.args.children.now - vec_len c.loop-child.children)) + 524288))) (sym c.price_child-price.ensures.slots)
          (child_small (2199023255552 + 524288 * (vec_len c.args.children.now - vec_len c.loop-child.children)) c.in-Some.child c.loop-child.slots light.1 c.loop-child.invariant.small));
      light = light.0;
      few = omega (arith, c.in-Some.ensures.cases, c.loop-child.invariant.few);
      room = omega (arith, c.in-Some.ensures.capacity, c.loop-child.invariant.room);
    }
