use Rattle.order_untangle.proofs.WaitLemmas.{least_merge}
use Rattle.order_untangle.proofs.waiting.Waiting.first_merge.Goals as goal

pub returns-clause-least : goal.returns-clause-least
returns-clause-least c = least_merge c.in_ok-into.field-0.now c.args.self.now.merges.keys c.in_ok-into.ensures.all_from
