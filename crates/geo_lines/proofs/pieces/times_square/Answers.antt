use Rattle.std.proofs.Common.{◌≡◌, ◌*ℤ◌, FitsSigned, w64, to_z, of_z, lit<}
use Rattle.std.proofs.lemmas.Int.{to_z-of_z, fits_signed_mul}
use Rattle.geo_lines.proofs.pieces.times_square.Goals as goal

pub returns : goal.returns
returns c =
    let first : to_z w64 (of_z w64 c.args.both) ≡ c.args.both = to_z-of_z w64 c.args.both c.ranges.both in
    let second : to_z w64 (of_z w64 c.args.square) ≡ c.args.square = to_z-of_z w64 c.args.square c.ranges.square in
    let fits : FitsSigned w64 (c.args.both *ℤ c.args.square) = fits_signed_mul w64 c.args.both c.args.square 600000 90000000000 c.requires.both c.requires.square (lit< tt) in
    rw (first, second) (to_z-of_z w64 (c.args.both *ℤ c.args.square) fits)
