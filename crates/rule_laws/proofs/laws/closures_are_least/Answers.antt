use Rattle.rule_laws.proofs.Closing.{closure_has, closure_closed, closure_least}
use Rattle.rule_laws.proofs.laws.closures_are_least.Goals as goal

pub returns : goal.returns
returns c = record { has = closure_has; closed = closure_closed; least = closure_least }
