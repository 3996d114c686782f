use Rattle.cert_file.proofs.Bodies.{AreWalksSoFar}
use Rattle.cert_file.proofs.body.walks_of.Given as goal

abbrev pub invariant-loop-s : goal.invariant-loop-s
invariant-loop-s l = AreWalksSoFar l.segs l.s l.walks.items l.text l.rest
