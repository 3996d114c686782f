use Rattle.std.proofs.Common.{pos, ◌-ℤ◌, arith}
use Rattle.std.proofs.lemmas.Int.{ints}
use Rattle.poster_layout.proofs.Corners.{four_corners, same_corner}
use Rattle.poster_layout.proofs.legend.corners_for.Goals as goal

pub returns : goal.returns
returns c =
    let f = c.args.f in
    let right = f.across.greatest -ℤ pos c.args.width in
    let low = f.down.greatest -ℤ pos c.args.height in
    four_corners _ _ _ _ _ _ _ _
    (same_corner _ _ right f.down.least (omega (arith, ints, c.down-right.ensures.value, c.down-right.ensures.small)) (omega (arith, ints)))
    (same_corner _ _ f.across.least f.down.least (omega (arith, ints)) (omega (arith, ints)))
    (same_corner _ _ right low (omega (arith, ints, c.down-right.ensures.value, c.down-right.ensures.small)) (omega (arith, ints, c.down-low.ensures.value, c.down-low.ensures.small)))
    (same_corner _ _ f.across.least low (omega (arith, ints)) (omega (arith, ints, c.down-low.ensures.value, c.down-low.ensures.small)))
