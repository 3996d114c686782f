-- The slots of a pair: the segments where it is open, as a bound is worked out.
use Rattle.std.specs.Vec.{vec_capacity}
use Rattle.std.specs.Prelude.{◌≡◌, ℕ, ◌+◌, ◌≤◌, sum_by, ◌==◌, Bool, true, false, List, [], ◌∷◌, ◌++◌, map, if◌then◌else◌}
use Rattle.std.specs.Int.{int_min}
use Rattle.std.specs.Prelude.{ℤ, pos, ◌+ℤ◌, ◌-ℤ◌, ◌≤ℤ◌}
use Rattle.map_base.specs.declared.ids.SegId.{SegId}
use Rattle.pair_bounds.specs.declared.slots.Slot.{Slot}
use Rattle.pair_bounds.specs.declared.one_pair.Room.{Room}
use Rattle.pair_bounds.specs.declared.term_look.TermLook.{TermLook}
use Rattle.pair_bounds.specs.declared.term_look.TermLook.TheVariants.{Decided, OnSegment, Between}
use Rattle.map_base.specs.declared.ids.LineId.{LineId}
use Rattle.order_model.specs.declared.term.Term.{Term}
use Rattle.order_bound.specs.Bounds.{slot_cost}
use Rattle.order_bound.specs.Pairs.{labels_after, kept, open_links}
use Rattle.order_bound.specs.declared.pairs.Pair.{Pair}
use Rattle.order_bound.specs.declared.pairs.OpenLink.{OpenLink}
use Rattle.order_bound.specs.Values.{share}
use Rattle.order_bound.specs.CanonicalPrices.{price_for}
use Rattle.order_bound.specs.declared.pairs.ChildLink.{ChildLink}
use Rattle.pair_bounds.specs.Counted.{counted_cost}

-- the slot of a segment, by its label and by what it costs by the answer there
abbrev pub slot_at : (ℕ → ℕ) → (SegId → Bool → ℤ) → SegId → Slot
slot_at label cost s = record { seg = s; label = label s.0; lesser_first = cost s true; greater_first = cost s false }

-- the slots of segments, by labels and costs
abbrev pub slots_of : (ℕ → ℕ) → (SegId → Bool → ℕ) → List SegId → List Slot
slots_of label cost segs = map (λ s. slot_at label (λ s x. pos (cost s x)) s) segs

-- a slot that costs this much more, if it is that of the segment
abbrev pub slot_more : SegId → ℕ → ℕ → Slot → Slot
slot_more seg lesser_first greater_first slot =
    if seg.0 == slot.seg.0
    then record { seg = slot.seg; label = slot.label; lesser_first = slot.lesser_first +ℤ pos lesser_first; greater_first = slot.greater_first +ℤ pos greater_first }
    else slot

-- a slot with the label of one class in place of that of another
abbrev pub slot_relabelled : ℕ → ℕ → Slot → Slot
slot_relabelled one two slot =
    record { seg = slot.seg; label = (if slot.label == two then one else slot.label); lesser_first = slot.lesser_first; greater_first = slot.greater_first }

-- a slot with its shares of a price on a Link
abbrev pub slot_shared : OpenLink → ℤ → Slot → Slot
slot_shared link y slot =
    record { seg = slot.seg; label = slot.label; lesser_first = slot.lesser_first +ℤ share y link slot.seg true; greater_first = slot.greater_first +ℤ share y link slot.seg false }

-- the label of a segment, 0 where it has no slot
abbrev pub label_in : List Slot → SegId → ℕ
label_in [] s = 0
label_in (slot ∷ slots) s = if slot.seg.0 == s.0 then slot.label else label_in slots s

-- by how much a segment costs more at x = 1, 0 where it has no slot
abbrev pub rise_in : List Slot → SegId → ℤ
rise_in [] s = pos 0
rise_in (slot ∷ slots) s = if slot.seg.0 == s.0 then slot.greater_first -ℤ slot.lesser_first else rise_in slots s

-- the slots after a term
abbrev pub slots_after : TermLook → List Slot → List Slot
slots_after (Decided cost) slots = slots
slots_after (OnSegment seg lesser_first greater_first) slots = map (slot_more seg lesser_first greater_first) slots
slots_after (Between l) slots =
    if label_in slots l.seg == label_in slots l.other then slots else map (slot_relabelled (label_in slots l.seg) (label_in slots l.other)) slots

-- the kept Links after a term
abbrev pub links_after : TermLook → List Slot → List OpenLink → List OpenLink
links_after (Decided cost) slots links = links
links_after (OnSegment seg lesser_first greater_first) slots links = links
links_after (Between l) slots links = if label_in slots l.seg == label_in slots l.other then links else links ++ l ∷ []

-- the costs of a slot lie within so much either way
pub record IsSmall (m : ℕ) (slot : Slot) : Type 0 where
  pub lesser_low : (pos 0 -ℤ pos m) ≤ℤ slot.lesser_first
  pub lesser_high : slot.lesser_first ≤ℤ pos m
  pub greater_low : (pos 0 -ℤ pos m) ≤ℤ slot.greater_first
  pub greater_high : slot.greater_first ≤ℤ pos m

-- slots with the shares of the price of the Link to a child, by what the child costs
abbrev pub with_child : ChildLink → List Slot → List Slot
with_child c slots = map (slot_shared c.link (price_for c (rise_in slots c.child))) slots

-- slots with the shares of the prices of the Links to these children, set from the last to the first
abbrev pub with_children : List ChildLink → List Slot → List Slot
with_children [] slots = slots
with_children (c ∷ later) slots = with_child c (with_children later slots)

-- the least cost of a slot
abbrev pub slot_least : Slot → ℤ
slot_least slot = int_min slot.lesser_first slot.greater_first

-- what these terms of a pair make of it, that is open on these segments: what its decided Sides and Links cost, its slots,
-- and its kept Links
pub record IsCollected (segs placed : List (List LineId)) (p : Pair) (open_segs : List SegId) (done : List (ℕ × Term)) (base : ℕ) (slots : List Slot) (links : List OpenLink) : Type 0 where
  pub base_is : base ≡ sum_by (λ (t : ℕ × Term). counted_cost segs placed t.1) done
  pub slots_are : slots ≡ slots_of (labels_after (λ s. s) links) (slot_cost placed done p) open_segs
  pub links_are : links ≡ kept (λ s. s) (open_links placed p done)

-- there is room for a pair's slots on so many segments, and its Links among so many terms
pub record HasRoom (segments terms : ℕ) (room : Room) : Type 0 where
  pub slots : segments ≤ vec_capacity room.slots
  pub links : terms ≤ vec_capacity room.links
  pub waiting : segments + terms ≤ vec_capacity room.waiting
  pub children : terms ≤ vec_capacity room.children

-- room may have grown
pub record KeepsRoom (old new : Room) : Type 0 where
  pub slots : vec_capacity old.slots ≤ vec_capacity new.slots
  pub links : vec_capacity old.links ≤ vec_capacity new.links
  pub waiting : vec_capacity old.waiting ≤ vec_capacity new.waiting
  pub children : vec_capacity old.children ≤ vec_capacity new.children
