use Rattle.std.proofs.Common.{◌≡◌}
use Rattle.pair_bounds.specs.Slots.{slot_more}
use Rattle.pair_bounds.proofs.Mapped.{mapped_to}
use Rattle.pair_bounds.proofs.slots.add_cost.Given as goal

abbrev pub invariant-loop-i : goal.invariant-loop-i
invariant-loop-i l = l.slots ≡ mapped_to (slot_more l.seg l.lesser_first l.greater_first) l.initial.slots l.i
