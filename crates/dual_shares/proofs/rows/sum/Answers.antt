use Rattle.std.proofs.Common.{◌≡◌, ◌+ℤ◌, w64, to_z, of_z, arith}
use Rattle.std.proofs.lemmas.Int.{to_z-of_z, fits_signed_from_abs}
use Rattle.dual_shares.proofs.Entries.{abs_sum}
use Rattle.dual_shares.proofs.rows.sum.Goals as goal

pub overflow_add-result : goal.overflow_add-result
overflow_add-result c =
    let a_is : to_z w64 (of_z w64 c.args.a) ≡ c.args.a = to_z-of_z w64 c.args.a c.ranges.a in
    let b_is : to_z w64 (of_z w64 c.args.b) ≡ c.args.b = to_z-of_z w64 c.args.b c.ranges.b in
    let most = abs_sum c.args.a c.args.b 1152921504606846976 1152921504606846976 c.requires.a_within c.requires.b_within in
    rw (a_is, b_is) (fits_signed_from_abs w64 (c.args.a +ℤ c.args.b) (omega (arith, most)))

pub returns : goal.returns
returns c =
    let a_is : to_z w64 (of_z w64 c.args.a) ≡ c.args.a = to_z-of_z w64 c.args.a c.ranges.a in
    let b_is : to_z w64 (of_z w64 c.args.b) ≡ c.args.b = to_z-of_z w64 c.args.b c.ranges.b in
    let most = abs_sum c.args.a c.args.b 1152921504606846976 1152921504606846976 c.requires.a_within c.requires.b_within in
    rw (a_is, b_is) (to_z-of_z w64 (c.args.a +ℤ c.args.b) (fits_signed_from_abs w64 (c.args.a +ℤ c.args.b) (omega (arith, most))))
