use Rattle.std.proofs.Common.{◌^◌, arith, to_z, of_z, w64}
use Rattle.pair_bounds.specs.Slots.{slot_shared, IsSmall}
use Rattle.pair_bounds.proofs.Mapped.{mapped_step, mapped_fact}
use Rattle.pair_bounds.proofs.slots.add_shares.Goals as goal

pub shared-requires-clause-small : goal.shared-requires-clause-small
shared-requires-clause-small c =
    mapped_fact (IsSmall (2 ^ 60)) (slot_shared c.args.link (to_z w64 (of_z w64 c.args.price))) c.args.slots.now c.loop-i.slots c.loop-i.i _ (omega arith) c.loop-i.invariant c.requires.small

pub loop-i-preserved : goal.loop-i-preserved
loop-i-preserved c =
    mapped_step (slot_shared c.args.link (to_z w64 (of_z w64 c.args.price))) c.args.slots.now c.loop-i.slots c.loop-i.i c.shared.result _ (omega arith) c.loop-i.invariant c.shared.ensures
