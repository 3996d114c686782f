use Rattle.std.proofs.Common.{arith}
use Rattle.std.proofs.Math.Nat.{mul-le-mul_right}
use Rattle.drawing_weights.proofs.weighing.times.Goals as goal

pub overflow_mul-result : goal.overflow_mul-result
overflow_mul-result c = omega (arith, mul-le-mul_right c.args.count c.requires.by)

pub returns-clause-small : goal.returns-clause-small
returns-clause-small c = mul-le-mul_right c.args.count c.requires.by
