use Rattle.std.proofs.Common.{◌≡◌}
use Rattle.pair_bounds.specs.Slots.{slot_relabelled}
use Rattle.pair_bounds.proofs.Mapped.{mapped_to}
use Rattle.pair_bounds.proofs.slots.relabel.Given as goal

abbrev pub invariant-loop-i : goal.invariant-loop-i
invariant-loop-i l = l.slots ≡ mapped_to (slot_relabelled l.one l.two) l.initial.slots l.i
