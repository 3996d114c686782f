use Rattle.std.proofs.Common.{◌+◌, ap₂, arith}
use Rattle.drawing_search.specs.Least.{straight_way}
use Rattle.drawing_search.proofs.least.LeastTurns.between.Goals as goal

pub overflow_add-result : goal.overflow_add-result
overflow_add-result c = omega (arith, c.reach.ensures.within, c.turns_between.ensures, c.requires.by (straight_way c.args.from c.args.to))

pub returns-clause-value : goal.returns-clause-value
returns-clause-value c = ap₂ (λ a b. a + b) c.reach.ensures.value c.turns_between.ensures

pub returns-clause-small : goal.returns-clause-small
returns-clause-small c = omega (arith, c.reach.ensures.within, c.turns_between.ensures, c.requires.by (straight_way c.args.from c.args.to))
