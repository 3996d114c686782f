use Rattle.order_rules.proofs.laws.rules_keep_problems.Goals as goal
use Rattle.order_rules.proofs.RuleLaws.{all_problem}

pub returns : goal.returns
returns c = λ p rules is h. all_problem p rules is h
