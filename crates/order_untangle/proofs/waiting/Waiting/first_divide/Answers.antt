use Rattle.order_untangle.proofs.WaitLemmas.{least_divide}
use Rattle.order_untangle.proofs.waiting.Waiting.first_divide.Goals as goal

pub returns-clause-least : goal.returns-clause-least
returns-clause-least c = least_divide c.in_ok-seg.field-0.now c.args.self.now.divides.keys c.in_ok-seg.ensures.all_from
