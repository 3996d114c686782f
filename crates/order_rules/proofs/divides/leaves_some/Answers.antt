use Rattle.std.proofs.Common.{◌∙◌}
use Rattle.order_rules.proofs.LineLists.{any_left}
use Rattle.order_rules.proofs.divides.leaves_some.Goals as goal

pub returns : goal.returns
returns c = c.has_other.ensures ∙ any_left c.args.group.now c.args.lines.now
