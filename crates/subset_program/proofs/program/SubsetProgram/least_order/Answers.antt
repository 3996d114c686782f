use Rattle.std.proofs.Common.{length, ap, arith}
use Rattle.subset_program.proofs.Filling.{room_for}
use Rattle.subset_program.proofs.program.SubsetProgram.least_order.Goals as goal

pub least_order-requires-clause-room : goal.least_order-requires-clause-room
least_order-requires-clause-room c =
    let same = ap length c.as_mut_slice.ensures.value in
    let room = room_for c.args.rows.now.count c.self.inside.width (omega (arith, c.requires.room, c.self.view_is)) in
    let each = c.self.invariant.1 in
    omega (arith, same, room, each)
