use Rattle.order_untangle.proofs.WaitLemmas.{divide_added}
use Rattle.order_untangle.proofs.waiting.add_divide.Goals as goal

pub returns : goal.returns
returns c = divide_added c.args.divides.now.keys c.insert.new.self.keys c.args.seg.0 c.in_ok-insert.ensures.keys
