use Rattle.std.proofs.Common.{◌≡◌, false}
use Rattle.order_check.specs.Slots.{slot_on, slots_of, has_slot}
use Rattle.prefix_bounds.specs.SlotsSoFar.{terms_before}
use Rattle.prefix_bounds.proofs.slots.is_met_before.Given as goal

abbrev pub invariant-loop-earlier : goal.invariant-loop-earlier
invariant-loop-earlier l = has_slot (slots_of (terms_before l.problem.terms l.part l.earlier)) (slot_on l.place.seg l.place.pair) ≡ false
