use Rattle.std.proofs.Common.{arith}
use Rattle.std.proofs.lemmas.Int.{ints}
use Rattle.poster_layout.proofs.legend.widely.Goals as goal

pub returns-clause-far : goal.returns-clause-far
returns-clause-far c = record { least = omega (arith, ints, c.down.ensures.value, c.down.ensures.small); greatest = omega (arith, ints, c.up.ensures.value, c.up.ensures.small) }
