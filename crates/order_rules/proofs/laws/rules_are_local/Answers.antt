use Rattle.order_rules.proofs.laws.rules_are_local.Goals as goal
use Rattle.order_rules.proofs.DivideLocality.{rule_local}

pub returns : goal.returns
returns c = λ p r is h. rule_local p r is h
