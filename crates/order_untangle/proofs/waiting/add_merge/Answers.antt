use Rattle.order_untangle.proofs.WaitLemmas.{merge_added}
use Rattle.order_untangle.proofs.waiting.add_merge.Goals as goal

pub returns : goal.returns
returns c = merge_added c.args.merges.now.keys c.insert.new.self.keys (c.args.into.0, c.args.from.0) c.in_ok-insert.ensures.keys
