use Rattle.std.proofs.Common.{◌≡◌, drop}
use Rattle.pair_bounds.specs.Slots.{label_in}
use Rattle.pair_bounds.proofs.slots.label_in.Given as goal

abbrev pub invariant-loop-slot : goal.invariant-loop-slot
invariant-loop-slot l = label_in l.slots l.seg ≡ label_in (drop l.slot-index l.slots) l.seg
