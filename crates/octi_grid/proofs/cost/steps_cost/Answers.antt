use Rattle.std.proofs.Common.{◌≤◌, arith}
use Rattle.std.proofs.Math.Nat.{mul-le-mul}
use Rattle.octi_grid.proofs.cost.steps_cost.Goals as goal

pub overflow_mul-result : goal.overflow_mul-result
overflow_mul-result c =
    let count : c.from.result ≤ 4294967296 = omega arith in
    let cost : c.from-2.result ≤ 5 = omega arith in
    omega (arith, mul-le-mul count cost)

pub returns-clause-within : goal.returns-clause-within
returns-clause-within c =
    let count : c.from.result ≤ 4294967296 = omega arith in
    let cost : c.from-2.result ≤ 5 = omega arith in
    omega (arith, mul-le-mul count cost)
