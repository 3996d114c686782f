use Rattle.order_rules.proofs.laws.some_orders_cost_no_more.Goals as goal
use Rattle.order_rules.proofs.RuleLaws.{all_less}

pub returns : goal.returns
returns c = λ p rules orders is h k. let better = all_less p rules orders is h k in (better.orders, better.are, better.less)
