use Rattle.std.proofs.Common.{pos, ◌+ℤ◌, ◌-ℤ◌, arith}
use Rattle.std.specs.Int.{int_min, int_max}
use Rattle.std.proofs.lemmas.Int.{ints, clamps}
use Rattle.eight_sides.proofs.Computed.{same_interval}
use Rattle.eight_sides.proofs.making.between.Goals as goal

pub returns-clause-value : goal.returns-clause-value
returns-clause-value c =
    same_interval _ _ (int_min c.args.a c.args.b -ℤ pos c.args.by) (int_max c.args.a c.args.b +ℤ pos c.args.by)
    (omega (arith, ints, clamps, c.min.ensures.value)) (omega (arith, ints, clamps, c.max.ensures.value))

pub returns-clause-short : goal.returns-clause-short
returns-clause-short c = record {
  least = omega (arith, ints, clamps, c.min.ensures.value);
  greatest = omega (arith, ints, clamps, c.max.ensures.value);
}
