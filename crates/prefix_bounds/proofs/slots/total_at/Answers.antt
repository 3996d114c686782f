use Rattle.std.proofs.Common.{◌≡◌, arith, w64, to_z, of_z}
use Rattle.std.proofs.lemmas.Int.{ints, to_z-of_z}
use Rattle.order_check.specs.Slots.{slot_on}
use Rattle.prefix_bounds.proofs.SoFar.{total_more}
use Rattle.prefix_bounds.proofs.slots.total_at.Goals as goal

pub loop-number-preserved : goal.loop-number-preserved
loop-number-preserved c =
    let value : to_z w64 (of_z w64 c.sum-total.result) ≡ c.sum-total.result = to_z-of_z w64 c.sum-total.result (record { sfits = c.sum-total.type_inv }) in
    let added : to_z w64 (of_z w64 c.added_at.result) ≡ c.added_at.result = to_z-of_z w64 c.added_at.result (record { sfits = c.added_at.type_inv }) in
    let more = total_more c.args.prefix.now.placed c.args.list.now c.args.problem.now.terms c.args.part.now (slot_on c.args.place.seg c.args.place.pair) c.args.lesser_first c.loop-number.number
    (omega (arith, c.loop-number-test.true, c.term_count-number-end.ensures.count)) in (
      omega (arith, ints, value, added, c.sum-total.ensures, c.added_at.ensures.share, c.loop-number.invariant.0, more),
      omega (arith, ints, value, added, c.sum-total.ensures, c.added_at.ensures.small, c.loop-number.invariant.1),
    )
