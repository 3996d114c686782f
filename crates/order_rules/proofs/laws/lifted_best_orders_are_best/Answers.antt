use Rattle.order_rules.proofs.laws.lifted_best_orders_are_best.Goals as goal
use Rattle.order_rules.proofs.RuleLaws.{all_best}

pub returns : goal.returns
returns c = λ p rules orders is h k best. all_best p rules orders is h k best
