use Rattle.cert_file.proofs.Bodies.{AreOrdersSoFar}
use Rattle.cert_file.proofs.body.orders_of.Given as goal

abbrev pub invariant-loop-s : goal.invariant-loop-s
invariant-loop-s l = AreOrdersSoFar l.segs l.s l.orders.items l.text l.rest
