use Rattle.std.proofs.Common.{rules}
use Rattle.order_untangle.proofs.NumberLists.{table_emptied}
use Rattle.order_untangle.proofs.numbers.taken.Goals as goal

pub returns-clause-others : goal.returns-clause-others
returns-clause-others c = table_emptied c.args.on.now.items c.args.seg.0 c.replace.new.dest (search rules)
