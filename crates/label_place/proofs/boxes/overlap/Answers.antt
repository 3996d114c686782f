use Rattle.std.proofs.Common.{w64, to_z, of_z, arith}
use Rattle.std.specs.Int.{int_min, int_max}
use Rattle.std.proofs.lemmas.Int.{ints, clamps}
use Rattle.label_place.proofs.Numbers.{le_ends}
use Rattle.label_place.proofs.boxes.overlap.Goals as goal

pub returns : goal.returns
returns c =
    le_ends (to_z w64 (of_z w64 c.max.result)) (to_z w64 (of_z w64 c.min.result)) (int_max c.args.low c.args.other_low) (int_min c.args.high c.args.other_high)
    (omega (arith, ints, clamps, c.max.ensures.value)) (omega (arith, ints, clamps, c.min.ensures.value))
