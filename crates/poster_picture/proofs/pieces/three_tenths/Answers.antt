use Rattle.std.proofs.Common.{ℕ, ◌*◌, ap, ◌∙◌, arith}
use Rattle.poster_picture.proofs.pieces.three_tenths.Goals as goal

pub overflow_mul-result : goal.overflow_mul-result
overflow_mul-result c = omega (arith, c.from.ensures, c.tenth.ensures.small)

pub returns : goal.returns
returns c = ap (λ (n : ℕ). 3 * n) (c.from.ensures ∙ c.tenth.ensures.value)
