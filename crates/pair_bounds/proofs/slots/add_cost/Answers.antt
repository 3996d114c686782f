use Rattle.std.proofs.Common.{◌^◌, arith}
use Rattle.pair_bounds.specs.Slots.{slot_more, IsSmall}
use Rattle.pair_bounds.proofs.Mapped.{mapped_step, mapped_fact}
use Rattle.pair_bounds.proofs.slots.add_cost.Goals as goal

pub more-requires : goal.more-requires
more-requires c =
    mapped_fact (IsSmall (2 ^ 60)) (slot_more c.args.seg c.args.lesser_first c.args.greater_first) c.args.slots.now c.loop-i.slots c.loop-i.i _ (omega arith) c.loop-i.invariant c.requires

pub loop-i-preserved : goal.loop-i-preserved
loop-i-preserved c =
    mapped_step (slot_more c.args.seg c.args.lesser_first c.args.greater_first) c.args.slots.now c.loop-i.slots c.loop-i.i c.more.result _ (omega arith) c.loop-i.invariant c.more.ensures
