use Rattle.std.proofs.Common.{◌≡◌, ◌*ℤ◌, FitsSigned, w64, to_z, of_z, lit<}
use Rattle.std.proofs.lemmas.Int.{to_z-of_z, fits_signed_mul, unsigned_abs-mul}
use Rattle.std.proofs.Math.Nat.{mul-le-mul}
use Rattle.geo_lines.proofs.pieces.square_of.Goals as goal

pub returns-clause-value : goal.returns-clause-value
returns-clause-value c =
    let is : to_z w64 (of_z w64 c.args.width) ≡ c.args.width = to_z-of_z w64 c.args.width c.ranges.width in
    let fits : FitsSigned w64 (c.args.width *ℤ c.args.width) = fits_signed_mul w64 c.args.width c.args.width 300000 300000 c.requires c.requires (lit< tt) in
    rw (is) (to_z-of_z w64 (c.args.width *ℤ c.args.width) fits)

pub returns-clause-within : goal.returns-clause-within
returns-clause-within c =
    rw (returns-clause-value c, unsigned_abs-mul c.args.width c.args.width) (mul-le-mul c.requires c.requires)
