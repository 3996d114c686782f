use Rattle.std.proofs.Common.{rules}
use Rattle.std.proofs.lemmas.List.Edits.{map_over_more}
use Rattle.order_rules.specs.Merging.{moved}
use Rattle.order_rules.proofs.changes.all_moved.Goals as goal

pub loop-term-preserved : goal.loop-term-preserved
loop-term-preserved c = search (rules, map_over_more (moved c.args.into c.args.from c.args.flip))
