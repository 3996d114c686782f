use Rattle.std.proofs.Common.{arith}
use Rattle.std.proofs.Math.Nat.{mod-le}
use Rattle.poster_layout.proofs.legend.low_of.Goals as goal

pub returns-clause-value : goal.returns-clause-value
returns-clause-value c = omega (arith, c.from.ensures)

pub returns-clause-small : goal.returns-clause-small
returns-clause-small c = omega (arith, c.from.ensures, mod-le c.args.i c.args.rows, c.requires.row)
