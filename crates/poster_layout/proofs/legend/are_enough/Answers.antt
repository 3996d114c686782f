use Rattle.std.proofs.Common.{◌*◌, ap}
use Rattle.std.specs.Prelude.{nat_le}
use Rattle.poster_layout.proofs.legend.are_enough.Goals as goal

pub returns : goal.returns
returns c = ap (nat_le (4 * c.args.lines)) c.square.ensures
