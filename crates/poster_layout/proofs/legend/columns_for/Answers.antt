use Rattle.std.proofs.Common.{arith}
use Rattle.poster_layout.proofs.Cornering.{columns_small}
use Rattle.poster_layout.proofs.legend.columns_for.Goals as goal

pub returns-clause-small : goal.returns-clause-small
returns-clause-small c = columns_small c.from.result c.from-2.result c.from-3.result (omega arith) (omega arith) (omega arith)
