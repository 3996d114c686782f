use Rattle.order_rules.proofs.Groups.{group_by}
use Rattle.order_rules.proofs.divides.divide_applies.Goals as goal

pub returns : goal.returns
returns c =
    group_by c.args.problem.now c.args.seg c.args.first.now c.segs.result.now c.terms.result.now c.lines_on-lines.result.now c.group_applies.result
    c.segs.ensures.lists c.terms.ensures.list c.lines_on-lines.ensures c.group_applies.ensures
