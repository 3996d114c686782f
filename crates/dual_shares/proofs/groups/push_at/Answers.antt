use Rattle.order_model.proofs.Grouping.{group_grown}
use Rattle.dual_shares.proofs.groups.push_at.Goals as goal

pub returns : goal.returns
returns c =
    group_grown c.args.groups.now.items c.args.k c.index_mut-group.result.now c.push.new.self c.args.n c.requires
    c.index_mut-group.ensures.value
    c.in_ok-push.ensures.items
