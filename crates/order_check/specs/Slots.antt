-- The slots of a part: two lines on a segment, where a Side or an end of a Link costs something by their order.
use Rattle.std.specs.Prelude.{◌≡◌, ℕ, ◌<◌, ◌==◌, Bool, false, ◌&&◌, List, [], ◌∷◌, ◌++◌, length, if◌then◌else◌, slice_index_or}
use Rattle.std.specs.Prelude.{ℤ, pos, ◌+ℤ◌}
use Rattle.std.specs.List.{list_any}
use Rattle.map_base.specs.declared.ids.SegId.{SegId}
use Rattle.map_base.specs.declared.ids.LineId.{LineId}
use Rattle.order_model.specs.declared.term.Term.{Term}
use Rattle.order_model.specs.declared.term.Term.TheVariants.{Side, Link, Apart}
use Rattle.order_model.specs.Costs.{same_answer}
use Rattle.order_bound.specs.declared.pairs.Pair.{Pair}
use Rattle.order_bound.specs.Pairs.{pair_of, open_link}
use Rattle.order_bound.specs.Bounds.{open_cost}
use Rattle.order_bound.specs.Values.{share, least_answer}
use Rattle.order_values.specs.PriceLists.{price_at}
use Rattle.whole_sums.specs.Sums.{int_sum}
use Rattle.order_check.specs.declared.slot.Slot.{Slot}
use Rattle.order_check.specs.declared.slot.PartTerm.{PartTerm}
use Rattle.order_check.specs.declared.slot.SlotCost.{SlotCost}
use Rattle.order_check.specs.declared.slot.Charge.{Charge}

-- the slot of two lines on a segment
abbrev pub slot_on : SegId → Pair → Slot
slot_on s p = record { lesser = p.lesser; greater = p.greater; seg = s }

abbrev pub slot_of : SegId → LineId → LineId → Slot
slot_of s a b = slot_on s (pair_of a b)

-- its lines
abbrev pub pair_at : Slot → Pair
pair_at k = record { lesser = k.lesser; greater = k.greater }

-- two slots are the same
abbrev pub is_slot : Slot → Slot → Bool
is_slot k l = (k.lesser.0 == l.lesser.0) && ((k.greater.0 == l.greater.0) && (k.seg.0 == l.seg.0))

-- the slot is one of these
abbrev pub has_slot : List Slot → Slot → Bool
has_slot slots k = list_any (is_slot k) slots

-- slots, once another is seen
abbrev pub noted : List Slot → Slot → List Slot
noted slots k = if has_slot slots k then slots else slots ++ k ∷ []

-- slots, once a term is seen: that of a Side, and those at both ends of a Link
abbrev pub with_slots : List Slot → Term → List Slot
with_slots slots (Side seg first second w) = noted slots (slot_of seg first second)
with_slots slots (Link seg other flip a b w) = noted (noted slots (slot_of seg a b)) (slot_of other a b)
with_slots slots (Apart seg other a b w) = slots

-- once these terms are seen, one after the other
abbrev pub slots_after : List Slot → List (ℕ × Term) → List Slot
slots_after slots [] = slots
slots_after slots (t ∷ terms) = slots_after (with_slots slots t.1) terms

-- the slots of terms
abbrev pub slots_of : List (ℕ × Term) → List Slot
slots_of terms = slots_after [] terms

-- no slot stands twice
abbrev pub AreApartSlots : List Slot → Type 0
AreApartSlots [] = Unit {0}
AreApartSlots (k ∷ slots) = (has_slot slots k ≡ false) × AreApartSlots slots

-- the slot stands at this place
pub record StandsAt (slots : List Slot) (place : ℕ) (k : Slot) : Type 0 where
  pub within : place < length slots
  pub here : slice_index_or slots place k ≡ k

-- the slots at the ends of a term stand at these places
abbrev pub HasEnds : List Slot → Term → ℕ → ℕ → Type 0
HasEnds slots (Side seg first second w) here there = StandsAt slots here (slot_of seg first second)
HasEnds slots (Link seg other flip a b w) here there = StandsAt slots here (slot_of seg a b) × StandsAt slots there (slot_of other a b)
HasEnds slots (Apart seg other a b w) here there = Unit {0}

-- a term with its number, as it is listed with its places
abbrev pub plain_term : PartTerm → ℕ × Term
plain_term t = (t.number, t.term)

-- What terms cost on slots.

-- what a term adds on a slot by one order of its lines, under prices: its open cost, and the share of its price
abbrev pub slot_share : List (List LineId) → List (ℕ × ℤ) → Slot → Bool → (ℕ × Term) → ℤ
slot_share placed prices k lesser_first t =
    pos (open_cost placed (pair_at k) k.seg lesser_first t.1)
    +ℤ int_sum (λ l. share (price_at prices l.number) l k.seg lesser_first) (open_link placed (pair_at k) t.0 t.1)

-- what terms add
abbrev pub slot_total : List (List LineId) → List (ℕ × ℤ) → List (ℕ × Term) → Slot → Bool → ℤ
slot_total placed prices terms k lesser_first = int_sum (slot_share placed prices k lesser_first) terms

-- the lesser of what terms add by both orders, over all slots
abbrev pub slots_value : List (List LineId) → List (ℕ × ℤ) → List (ℕ × Term) → List Slot → ℤ
slots_value placed prices terms slots = int_sum (λ k. least_answer (slot_total placed prices terms k)) slots

-- what stands in a table of costs
abbrev pub no_cost : SlotCost
no_cost = record { lesser_first = pos 0; greater_first = pos 0 }

abbrev pub cost_in : SlotCost → Bool → ℤ
cost_in c lesser_first = if lesser_first then c.lesser_first else c.greater_first

abbrev pub cost_at : List SlotCost → ℕ → Bool → ℤ
cost_at costs k lesser_first = cost_in (slice_index_or costs k no_cost) lesser_first

-- what a charge adds to a slot by an order of its lines
abbrev pub charge_on : Charge → ℕ → Bool → ℤ
charge_on c k lesser_first = if (c.slot == k) && same_answer c.lesser_first lesser_first then c.amount else pos 0
