use Rattle.order_rules.proofs.laws.lifted_orders_cost_the_same.Goals as goal
use Rattle.order_rules.proofs.RuleLaws.{all_orders, all_cost}

pub returns : goal.returns
returns c = record {
  orders = λ p rules orders is h k. all_orders p rules orders is h k;
  cost = λ p rules orders is h k. all_cost p rules orders is h k;
}
