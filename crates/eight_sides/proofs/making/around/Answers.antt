use Rattle.std.proofs.Common.{pos, ◌+ℤ◌, ◌-ℤ◌, arith}
use Rattle.std.proofs.lemmas.Int.{ints}
use Rattle.eight_sides.proofs.Computed.{same_interval}
use Rattle.eight_sides.proofs.making.around.Goals as goal

pub returns-clause-value : goal.returns-clause-value
returns-clause-value c = same_interval _ _ (c.args.z -ℤ pos c.args.by) (c.args.z +ℤ pos c.args.by) (omega (arith, ints)) (omega (arith, ints))
