use Rattle.std.proofs.Common.{pos, ◌+ℤ◌, arith}
use Rattle.std.proofs.lemmas.Int.{ints}
use Rattle.poster_layout.proofs.Corners.{same_corner}
use Rattle.poster_layout.proofs.legend.right_of.Goals as goal

pub returns-clause-value : goal.returns-clause-value
returns-clause-value c = let f = c.args.f in same_corner _ _ (f.across.greatest +ℤ pos 30) f.down.least (omega (arith, ints, c.up.ensures.value, c.up.ensures.small)) (omega (arith, ints))

pub returns-clause-near : goal.returns-clause-near
returns-clause-near c = record { across = omega (arith, ints, c.up.ensures.value, c.up.ensures.small, c.requires.across.greatest); down = omega (arith, ints, c.requires.down.least) }
