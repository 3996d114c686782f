use Rattle.std.proofs.Common.{arith}
use Rattle.order_proof.specs.Forms.{prices_from}
use Rattle.order_proof.proofs.Rising.{price_kept}
use Rattle.order_proof.proofs.price_forms.prices_in.Goals as goal

pub loop-rest-preserved : goal.loop-rest-preserved
loop-rest-preserved c =
    price_kept c.args.most (prices_from c.args.most 0 c.args.numbers.now) c.loop-rest.prices.items c.push.new.self.items c.loop-rest.least _ c.in-Some.price c.loop-rest.rest.now _ c.loop-rest.invariant
    (omega arith) (cc) c.in-Some.ensures.least (omega arith) c.in_ok-push.ensures.items (omega arith) (cc)
