use Rattle.std.proofs.Common.{length}
use Rattle.cert_file.specs.Forms.{pairs_from}
use Rattle.cert_file.proofs.Pairs.{ArePairsSoFar}
use Rattle.cert_file.proofs.forms.pairs_in.Given as goal

abbrev pub invariant-loop-rest : goal.invariant-loop-rest
invariant-loop-rest l = ArePairsSoFar (pairs_from 0 l.numbers) l.pairs.items l.least l.rest

abbrev pub decreases-loop-rest : goal.decreases-loop-rest
decreases-loop-rest l = length l.rest
