use Rattle.std.proofs.Common.{arith}
use Rattle.pair_bounds.specs.Slots.{slot_relabelled}
use Rattle.pair_bounds.proofs.Mapped.{mapped_step}
use Rattle.pair_bounds.proofs.slots.relabel.Goals as goal

pub loop-i-preserved : goal.loop-i-preserved
loop-i-preserved c =
    mapped_step (slot_relabelled c.args.one c.args.two) c.args.slots.now c.loop-i.slots c.loop-i.i c.relabelled.result _ (omega arith) c.loop-i.invariant c.relabelled.ensures
