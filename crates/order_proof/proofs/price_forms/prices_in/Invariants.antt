use Rattle.std.proofs.Common.{length}
use Rattle.order_proof.specs.Forms.{prices_from}
use Rattle.order_proof.proofs.Rising.{ArePricesSoFar}
use Rattle.order_proof.proofs.price_forms.prices_in.Given as goal

abbrev pub invariant-loop-rest : goal.invariant-loop-rest
invariant-loop-rest l = ArePricesSoFar l.most (prices_from l.most 0 l.numbers) l.prices.items l.least l.rest

abbrev pub decreases-loop-rest : goal.decreases-loop-rest
decreases-loop-rest l = length l.rest
