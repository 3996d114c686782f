use Rattle.std.proofs.Common.{◌≡◌, sym, ◌∙◌, ap, subst, ℕ, ◌≤◌, ◌⊎◌, inl, inr, List, []}
use Rattle.std.specs.declared.cmp.Reverse.{Reverse}
use Rattle.std.specs.BinaryHeap.{IsHeap-prop, heap_items}
use Rattle.state_search.specs.Searching.{all_waiting, HasBelow, IsBeyond, queue_cmp, Waits}
use Rattle.state_search.proofs.Queues.{all_no_less, apart_beyond, apart_no_more, farther_beyond, taken_apart, taken_here}
use Rattle.state_search.proofs.queue.Queue.next.Goals as goal

pub same-self : goal.same-self
same-self c =
    ap (λ order. record { level = c.self.inside.level; here = c.self.inside.here; apart = c.self.inside.apart; order = order }) (IsHeap-prop queue_cmp (heap_items c.self.inside.apart) _ c.self.inside.order)

pub returns-then-is_beyond-clause-none : goal.returns-then-is_beyond-clause-none
returns-then-is_beyond-clause-none c =
    subst (λ (q : List (Reverse (ℕ × ℕ))). (s k : ℕ) → Waits q s k → IsBeyond c.args.limit k) c.self.view_is
    (λ s k h. farther_beyond c.args.limit c.self.inside.level k
    (all_no_less c.self.inside.level c.self.inside.here.items (heap_items c.self.inside.apart) (c.is_least.ensures.yes c.if-is_least.true).1 s k h) (c.is_beyond.ensures.0 c.if-is_beyond.true))

pub returns-then-is_least-clause-taken : goal.returns-then-is_least-clause-taken
returns-then-is_least-clause-taken c =
    taken_here c.self.inside.level c.in-Some.at c.self.inside.here.items c.pop.new.self.items (heap_items c.self.inside.apart) c.args.self.now c.self.view_is c.in-Some.ensures.items

pub returns-then-is_least-clause-least : goal.returns-then-is_least-clause-least
returns-then-is_least-clause-least c =
    subst (λ (q : List (Reverse (ℕ × ℕ))). (s k : ℕ) → Waits q s k → c.self.inside.level ≤ k) c.self.view_is
    (all_no_less c.self.inside.level c.self.inside.here.items (heap_items c.self.inside.apart) (c.is_least.ensures.yes c.if-is_least.true).1)

-- where the level is not the least nothing waits there, or something with a lesser estimate apart from it
lower : (level : ℕ) (slice here : List ℕ) (apart : List (Reverse (ℕ × ℕ))) → slice ≡ here → (slice ≡ []) ⊎ HasBelow level apart → (here ≡ []) ⊎ HasBelow level apart
lower level slice here apart same (inl e) = inl (sym same ∙ e)
lower level slice here apart same (inr b) = inr b

pub returns-in_default-take_least-clause-none : goal.returns-in_default-take_least-clause-none
returns-in_default-take_least-clause-none c =
    let apart = heap_items c.self.inside.apart in
    subst (λ (q : List (Reverse (ℕ × ℕ))). (s k : ℕ) → Waits q s k → IsBeyond c.args.limit k) c.self.view_is
    (apart_beyond c.args.limit c.self.inside.level c.self.inside.here.items apart
    (lower c.self.inside.level c.deref.result.now c.self.inside.here.items apart c.deref.ensures.value (c.is_least.ensures.no c.if-is_least.false)) c.in_default-take_least.ensures.none)

pub returns-in_default-take_least-clause-kept : goal.returns-in_default-take_least-clause-kept
returns-in_default-take_least-clause-kept c =
    ap (λ (heap : List (Reverse (ℕ × ℕ))). all_waiting c.self.inside.level c.self.inside.here.items heap) c.in_default-take_least.ensures.kept
    ∙ c.self.view_is

pub returns-then-is_empty-clause-least : goal.returns-then-is_empty-clause-least
returns-then-is_empty-clause-least c =
    let apart = heap_items c.self.inside.apart in
    subst (λ (q : List (Reverse (ℕ × ℕ))). (s k : ℕ) → Waits q s k → c.in-Some-take_least.least.0 ≤ k) c.self.view_is
    (apart_no_more c.self.inside.level c.in-Some-take_least.least.0 c.self.inside.here.items apart
    (lower c.self.inside.level c.deref.result.now c.self.inside.here.items apart c.deref.ensures.value (c.is_least.ensures.no c.if-is_least.false)) c.in-Some-take_least.ensures.least)

pub returns-else-is_empty-clause-taken : goal.returns-else-is_empty-clause-taken
returns-else-is_empty-clause-taken c =
    taken_apart c.self.inside.level c.in-Some-take_least.least.0 c.in-Some-take_least.least.1 c.self.inside.here.items (heap_items c.self.inside.apart) (heap_items c.take_least.new.apart) c.args.self.now c.self.view_is
    c.in-Some-take_least.ensures.taken

pub returns-else-is_empty-clause-least : goal.returns-else-is_empty-clause-least
returns-else-is_empty-clause-least c =
    let apart = heap_items c.self.inside.apart in
    subst (λ (q : List (Reverse (ℕ × ℕ))). (s k : ℕ) → Waits q s k → c.in-Some-take_least.least.0 ≤ k) c.self.view_is
    (apart_no_more c.self.inside.level c.in-Some-take_least.least.0 c.self.inside.here.items apart
    (lower c.self.inside.level c.deref.result.now c.self.inside.here.items apart c.deref.ensures.value (c.is_least.ensures.no c.if-is_least.false)) c.in-Some-take_least.ensures.least)
