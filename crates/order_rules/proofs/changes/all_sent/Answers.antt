use Rattle.std.proofs.Common.{rules}
use Rattle.std.proofs.lemmas.List.Edits.{map_over_more}
use Rattle.order_rules.specs.Dividing.{sent}
use Rattle.order_rules.proofs.changes.all_sent.Goals as goal

pub loop-term-preserved : goal.loop-term-preserved
loop-term-preserved c = search (rules, map_over_more (sent c.args.seg c.args.new c.args.rest.now))
