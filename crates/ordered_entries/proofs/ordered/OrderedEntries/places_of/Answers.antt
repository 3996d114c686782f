use Rattle.std.proofs.lemmas.List.Elements.{All-take, All-drop}
use Rattle.std.specs.List.{All}
use Rattle.std.proofs.Common.{◌<◌, ◌-◌, ℕ, take, drop, length, sym, ◌∙◌, subst}
use Rattle.ordered_entries.specs.Order.{IsOrderOf}
use Rattle.ordered_entries.proofs.OrderLemmas.{places_between_as, all_within}
use Rattle.ordered_entries.proofs.ordered.OrderedEntries.places_of.Goals as goal

pub returns-clause-places : goal.returns-clause-places
returns-clause-places c =
    places_between_as c.args.self.now c.self.inside.order.items c.deref.result.now c.deref-2.result.now c.deref-3.result.now c.deref-4.result.now c.deref-5.result.now
    c.args.key c.from-key.result c.rank-from.result c.rank-to.result
    (subst (λ entries. IsOrderOf entries c.self.inside.order.items) c.self.view_is c.self.invariant)
    (c.deref.ensures.value ∙ c.self.view_is) c.deref-2.ensures.value (c.deref-3.ensures.value ∙ c.self.view_is) c.deref-4.ensures.value c.deref-5.ensures.value
    c.from-key.ensures c.rank-from.ensures c.rank-to.ensures

pub returns-clause-within : goal.returns-clause-within
returns-clause-within c =
    subst (λ order. All (λ (place : ℕ). place < length c.args.self.now) (take (c.rank-to.result - c.rank-from.result) (drop c.rank-from.result order)))
    (sym c.deref-5.ensures.value)
    (All-take (λ (place : ℕ). place < length c.args.self.now) _ _ (All-drop (λ (place : ℕ). place < length c.args.self.now) c.rank-from.result c.self.inside.order.items
    (all_within c.args.self.now c.self.inside.order.items (subst (λ entries. IsOrderOf entries c.self.inside.order.items) c.self.view_is c.self.invariant))))
