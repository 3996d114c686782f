use Rattle.std.proofs.Common.{◌≡◌, ◌*◌, ◌≤◌, pos, ◌*ℤ◌, unsigned_abs, to_z, of_z, w64, rules, arith}
use Rattle.std.proofs.Math.Nat.{mul-le-mul}
use Rattle.std.proofs.lemmas.Int.{unsigned_abs-mul}
use Rattle.whole_algebra.specs.Rounding.{floor_quotient}
use Rattle.whole_algebra.proofs.Rounding.{floor_quotient-within}
use Rattle.shape_track.proofs.piece.share.Goals as goal

pub returns-clause-within : goal.returns-clause-within
returns-clause-within c =
    let product = c.args.length *ℤ pos c.args.index in
    let below : c.args.index ≤ c.args.count = omega arith in
    let size : unsigned_abs product ≤ 600000000 * c.args.count =
    rw (unsigned_abs-mul c.args.length (pos c.args.index)) (mul-le-mul c.requires.length below) in
    let is : to_z w64 (of_z w64 c.div_euclid.result) ≡ floor_quotient product c.args.count = search rules in
    rw is (floor_quotient-within product c.args.count 600000000 c.requires.some size)
