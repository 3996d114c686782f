use Rattle.std.proofs.Common.{◌≡◌, pos, ◌-ℤ◌, to_z, of_z, w64, refl, arith}
use Rattle.std.proofs.lemmas.Int.{ints}
use Rattle.poster_layout.proofs.Corners.{le_ends}
use Rattle.poster_layout.proofs.extent.is_short.Goals as goal

pub returns : goal.returns
returns c =
    let i = c.args.i in
    let same : to_z w64 (of_z w64 c.length_of.result) ≡ (i.greatest -ℤ i.least) = omega (arith, ints, c.length_of.ensures.value, c.length_of.ensures.small) in
    le_ends (to_z w64 (of_z w64 c.length_of.result)) (pos 4200) (i.greatest -ℤ i.least) (pos 4200) same refl
