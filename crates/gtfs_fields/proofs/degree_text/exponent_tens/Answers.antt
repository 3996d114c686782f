use Rattle.std.proofs.Common.{◌≤◌, ap, length, arith, refl}
use Rattle.gtfs_fields.specs.DegreeText.{without_sign}
use Rattle.gtfs_fields.proofs.ScaledNumbers.{two_digits_refused}
use Rattle.gtfs_fields.proofs.degree_text.exponent_tens.Goals as goal

pub returns-in_err-tens-clause-value : goal.returns-in_err-tens-clause-value
returns-in_err-tens-clause-value c =
    let digits = c.split_sign-negative.ensures.rest in
    let short : length (without_sign c.args.text.now) ≤ 2 = omega (arith, ap length digits, c.if-digits-gt-EXPONENT_DIGITS.false) in
    let none = two_digits_refused (without_sign c.args.text.now) short (rw digits at c.in_err-tens.ensures.value) in
    rw (c.from_residual.ensures, none) refl
