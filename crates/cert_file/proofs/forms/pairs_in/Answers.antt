use Rattle.std.proofs.Common.{arith}
use Rattle.cert_file.specs.Forms.{pairs_from}
use Rattle.cert_file.proofs.Pairs.{pair_kept}
use Rattle.cert_file.proofs.forms.pairs_in.Goals as goal

pub loop-rest-preserved : goal.loop-rest-preserved
loop-rest-preserved c =
    pair_kept (pairs_from 0 c.args.numbers.now) c.loop-rest.pairs.items c.push.new.self.items c.loop-rest.least _ c.in-Some.pair c.loop-rest.rest.now _ c.loop-rest.invariant
    (omega arith) (cc) (omega arith) c.in_ok-push.ensures.items (omega arith) (cc)
