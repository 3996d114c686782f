use Rattle.std.proofs.Common.{pos, ◌+ℤ◌, arith}
use Rattle.std.proofs.lemmas.Int.{ints}
use Rattle.poster_layout.proofs.Corners.{same_corner}
use Rattle.poster_layout.proofs.legend.beyond.Goals as goal

pub returns-clause-value : goal.returns-clause-value
returns-clause-value c =
    let p = c.args.start in
    same_corner _ _ (p.x +ℤ pos c.args.across) (p.y +ℤ pos c.args.low) (omega (arith, ints, c.up.ensures.value, c.up.ensures.small)) (omega (arith, ints, c.up-2.ensures.value, c.up-2.ensures.small))

pub returns-clause-x : goal.returns-clause-x
returns-clause-x c = omega (arith, ints, c.up.ensures.value, c.up.ensures.small)

pub returns-clause-y : goal.returns-clause-y
returns-clause-y c = omega (arith, ints, c.up-2.ensures.value, c.up-2.ensures.small)
