use Rattle.std.proofs.Common.{◌≤◌, arith}
use Rattle.std.proofs.Math.Nat.{mul-le-mul}
use Rattle.start_positions.proofs.spreading.product.Goals as goal

pub overflow_mul-result : goal.overflow_mul-result
overflow_mul-result c =
    let first : c.from.result ≤ 4294967295 = omega arith in
    let second : c.from-2.result ≤ 4294967295 = omega arith in
    omega (arith, mul-le-mul first second)
