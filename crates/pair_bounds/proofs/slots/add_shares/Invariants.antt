use Rattle.std.proofs.Common.{◌≡◌}
use Rattle.pair_bounds.specs.Slots.{slot_shared}
use Rattle.pair_bounds.proofs.Mapped.{mapped_to}
use Rattle.pair_bounds.proofs.slots.add_shares.Given as goal

abbrev pub invariant-loop-i : goal.invariant-loop-i
invariant-loop-i l = l.slots ≡ mapped_to (slot_shared l.link l.price) l.initial.slots l.i
