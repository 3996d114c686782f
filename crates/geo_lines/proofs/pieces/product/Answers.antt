use Rattle.std.proofs.Common.{◌≡◌, ◌*ℤ◌, FitsSigned, w64, to_z, of_z, lit<}
use Rattle.std.proofs.lemmas.Int.{to_z-of_z, fits_signed_mul, unsigned_abs-mul}
use Rattle.std.proofs.Math.Nat.{mul-le-mul}
use Rattle.geo_lines.proofs.pieces.product.Goals as goal

pub returns-clause-value : goal.returns-clause-value
returns-clause-value c =
    let first : to_z w64 (of_z w64 c.args.a) ≡ c.args.a = to_z-of_z w64 c.args.a c.ranges.a in
    let second : to_z w64 (of_z w64 c.args.b) ≡ c.args.b = to_z-of_z w64 c.args.b c.ranges.b in
    let fits : FitsSigned w64 (c.args.a *ℤ c.args.b) = fits_signed_mul w64 c.args.a c.args.b 600000000 300000 c.requires.a c.requires.b (lit< tt) in
    rw (first, second) (to_z-of_z w64 (c.args.a *ℤ c.args.b) fits)

pub returns-clause-within : goal.returns-clause-within
returns-clause-within c =
    rw (returns-clause-value c, unsigned_abs-mul c.args.a c.args.b) (mul-le-mul c.requires.a c.requires.b)
