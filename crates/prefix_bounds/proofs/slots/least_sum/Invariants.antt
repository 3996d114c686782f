use Rattle.std.proofs.Common.{◌≡◌, ◌*◌, ◌≤◌}
use Rattle.std.specs.Prelude.{unsigned_abs}
use Rattle.order_model.specs.PartTerms.{part_terms}
use Rattle.order_check.specs.Slots.{slots_of, slots_value}
use Rattle.prefix_bounds.specs.SlotsSoFar.{terms_before}
use Rattle.prefix_bounds.proofs.slots.least_sum.Given as goal

abbrev pub invariant-loop-number : goal.invariant-loop-number
invariant-loop-number l =
    (l.total ≡ slots_value l.prefix.placed l.list (part_terms l.problem.terms l.part) (slots_of (terms_before l.problem.terms l.part l.number)))
    × (unsigned_abs l.total ≤ 2048000000000 * l.number)
