use Rattle.order_model.proofs.Grouping.{group_grown}
use Rattle.order_untangle.proofs.numbers.push_at.Goals as goal

pub returns-clause-numbers : goal.returns-clause-numbers
returns-clause-numbers c =
    group_grown c.args.on.now.items c.args.seg.0 c.index_mut-numbers.result.now c.push.new.self c.args.number c.requires
    c.index_mut-numbers.ensures.value
    c.in_ok-push.ensures.items
