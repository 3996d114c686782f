use Rattle.std.proofs.Common.{◌≡◌, drop}
use Rattle.pair_bounds.specs.Slots.{rise_in}
use Rattle.pair_bounds.proofs.slots.rise_in.Given as goal

abbrev pub invariant-loop-slot : goal.invariant-loop-slot
invariant-loop-slot l = rise_in l.slots l.seg ≡ rise_in (drop l.slot-index l.slots) l.seg
