use Rattle.std.proofs.Common.{◌≡◌, ◌*◌, ◌≤◌, take}
use Rattle.std.specs.Prelude.{unsigned_abs}
use Rattle.order_model.specs.PartTerms.{part_terms}
use Rattle.order_check.specs.Slots.{slot_on, slot_total}
use Rattle.prefix_bounds.proofs.slots.total_at.Given as goal

abbrev pub invariant-loop-number : goal.invariant-loop-number
invariant-loop-number l =
    (l.total ≡ slot_total l.prefix.placed l.list (part_terms (take l.number l.problem.terms) l.part) (slot_on l.place.seg l.place.pair) l.lesser_first)
    × (unsigned_abs l.total ≤ 256000 * l.number)
