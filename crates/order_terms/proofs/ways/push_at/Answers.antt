use Rattle.std.proofs.Common.{sym}
use Rattle.order_terms.proofs.NodeWays.{list_grown}
use Rattle.order_terms.proofs.ways.push_at.Goals as goal

pub returns-clause-lists : goal.returns-clause-lists
returns-clause-lists c =
    list_grown c.args.lists.now.items c.args.place c.index_mut-ways.result.now c.push.new.self c.args.way c.requires
    (sym c.index_mut-ways.ensures.value)
    c.in_ok-push.ensures.items
