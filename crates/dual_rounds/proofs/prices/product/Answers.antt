use Rattle.std.proofs.Common.{◌≡◌, ◌*ℤ◌, FitsSigned, to_z, of_z, lit<}
use Rattle.std.specs.Int.{w128}
use Rattle.std.proofs.lemmas.Int.{to_z-of_z, fits_signed_mul, unsigned_abs-mul}
use Rattle.dual_rounds.proofs.prices.product.Goals as goal

pub returns-clause-value : goal.returns-clause-value
returns-clause-value c =
    let a_is : to_z w128 (of_z w128 c.args.a) ≡ c.args.a = to_z-of_z w128 c.args.a c.ranges.a in
    let b_is : to_z w128 (of_z w128 c.args.b) ≡ c.args.b = to_z-of_z w128 c.args.b c.ranges.b in
    let fits : FitsSigned w128 (c.args.a *ℤ c.args.b) = fits_signed_mul w128 c.args.a c.args.b 1000000000000000000000 10000000000000000 c.requires.a_within c.requires.b_within (lit< tt) in
    rw (a_is, b_is) (to_z-of_z w128 (c.args.a *ℤ c.args.b) fits)

pub returns-clause-size : goal.returns-clause-size
returns-clause-size c = rw (returns-clause-value c, unsigned_abs-mul c.args.a c.args.b)
