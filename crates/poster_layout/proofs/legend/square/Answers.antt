use Rattle.std.proofs.Common.{arith}
use Rattle.poster_layout.proofs.Squares.{square_small}
use Rattle.poster_layout.proofs.legend.square.Goals as goal

pub overflow_mul-result : goal.overflow_mul-result
overflow_mul-result c = omega (arith, square_small c.args.n c.requires)
