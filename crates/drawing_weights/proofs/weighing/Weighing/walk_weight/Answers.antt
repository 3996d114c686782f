use Rattle.std.proofs.Common.{arith}
use Rattle.octi_grid.proofs.CostLemmas.{way_cost_small}
use Rattle.drawing_weights.proofs.weighing.Weighing.walk_weight.Goals as goal

pub overflow_add-result : goal.overflow_add-result
overflow_add-result c = omega (arith, c.walk_cost.ensures, way_cost_small c.args.walk.now.steps, c.requires.short, c.turns_of.ensures.small, c.times.ensures.small)

pub returns-clause-small : goal.returns-clause-small
returns-clause-small c = omega (arith, c.walk_cost.ensures, way_cost_small c.args.walk.now.steps, c.requires.short, c.turns_of.ensures.small, c.times.ensures.small)
