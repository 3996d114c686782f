use Rattle.std.proofs.Common.{◌≡◌, ◌-ℤ◌, to_z, of_z, w64, arith}
use Rattle.std.proofs.lemmas.Int.{ints}
use Rattle.poster_layout.proofs.Corners.{le_ends}
use Rattle.poster_layout.proofs.legend.is_no_wider.Goals as goal

pub returns : goal.returns
returns c =
    let f = c.args.f in
    let across : to_z w64 (of_z w64 c.length_of.result) ≡ (f.across.greatest -ℤ f.across.least) = omega (arith, ints, c.length_of.ensures.value, c.length_of.ensures.small) in
    let low : to_z w64 (of_z w64 c.length_of-2.result) ≡ (f.down.greatest -ℤ f.down.least) = omega (arith, ints, c.length_of-2.ensures.value, c.length_of-2.ensures.small) in
    le_ends (to_z w64 (of_z w64 c.length_of.result)) (to_z w64 (of_z w64 c.length_of-2.result)) (f.across.greatest -ℤ f.across.least) (f.down.greatest -ℤ f.down.least) across low
