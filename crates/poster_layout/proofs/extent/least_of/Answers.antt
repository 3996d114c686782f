use Rattle.std.proofs.Common.{arith}
use Rattle.std.proofs.lemmas.Int.{ints}
use Rattle.poster_layout.proofs.Corners.{same_corner}
use Rattle.poster_layout.proofs.extent.least_of.Goals as goal

pub returns-clause-value : goal.returns-clause-value
returns-clause-value c = let s = c.args.s in same_corner _ _ s.across.least s.down.least (omega (arith, ints)) (omega (arith, ints))

pub returns-clause-near : goal.returns-clause-near
returns-clause-near c = record { across = omega (arith, ints, c.requires.across.least); down = omega (arith, ints, c.requires.down.least) }
