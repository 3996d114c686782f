use Rattle.std.proofs.Common.{◌≤◌, arith}
use Rattle.std.proofs.Math.Nat.{mul-le-mul_right}
use Rattle.name_places.proofs.places.width.Goals as goal

pub overflow_mul-result : goal.overflow_mul-result
overflow_mul-result c = let few : c.from.result ≤ 3 = omega arith in omega (arith, mul-le-mul_right c.args.sign.tenths few)

pub returns-clause-small : goal.returns-clause-small
returns-clause-small c = let few : c.from.result ≤ 3 = omega arith in omega (arith, mul-le-mul_right c.args.sign.tenths few)
