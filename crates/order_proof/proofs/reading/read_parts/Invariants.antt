use Rattle.order_proof.proofs.ReadParts.{ArePartsSoFar}
use Rattle.order_proof.proofs.reading.read_parts.Given as goal

abbrev pub invariant-loop : goal.invariant-loop
invariant-loop l = ArePartsSoFar l.count l.counter l.parts.items l.text l.rest
