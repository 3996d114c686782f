use Rattle.std.proofs.Common.{sym}
use Rattle.order_model.proofs.Placing.{part_grown}
use Rattle.order_model.proofs.parts.join_part.Goals as goal

pub returns : goal.returns
returns c =
    part_grown c.args.parts.now.items c.args.place c.index_mut-part.result.now c.push.new.self c.args.s c.requires
    (sym c.index_mut-part.ensures.value)
    c.in_ok-push.ensures.items
