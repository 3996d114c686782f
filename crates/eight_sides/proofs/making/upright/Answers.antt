use Rattle.std.proofs.Common.{ℤ, ◌+ℤ◌, ◌-ℤ◌, refl, arith}
use Rattle.std.proofs.lemmas.Int.{ints}
use Rattle.eight_sides.proofs.Computed.{same_interval, same_shape}
use Rattle.eight_sides.proofs.making.upright.Goals as goal

pub returns : goal.returns
returns c =
    let x = c.args.x in
    let y = c.args.y in
    same_shape x y _ _ x y (record { least = x.least -ℤ y.greatest; greatest = x.greatest -ℤ y.least }) (record { least = x.least +ℤ y.least; greatest = x.greatest +ℤ y.greatest }) refl refl
    (same_interval _ _ (x.least -ℤ y.greatest) (x.greatest -ℤ y.least) (omega (arith, ints)) (omega (arith, ints)))
    (same_interval _ _ (x.least +ℤ y.least) (x.greatest +ℤ y.greatest) (omega (arith, ints)) (omega (arith, ints)))
