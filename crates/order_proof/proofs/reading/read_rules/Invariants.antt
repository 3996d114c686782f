use Rattle.order_proof.proofs.ReadRules.{AreRulesSoFar}
use Rattle.order_proof.proofs.reading.read_rules.Given as goal

abbrev pub invariant-loop : goal.invariant-loop
invariant-loop l = AreRulesSoFar l.count l.counter l.rules.items l.text l.rest
