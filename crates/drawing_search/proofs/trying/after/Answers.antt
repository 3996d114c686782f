use Rattle.std.proofs.Common.{arith}
use Rattle.drawing_search.proofs.RunReads.{near_x, near_y}
use Rattle.drawing_search.proofs.trying.after.Goals as goal

pub run_end-requires-clause-at : goal.run_end-requires-clause-at
run_end-requires-clause-at c = record { across = omega (arith, near_x 2000 c.args.p c.requires.near); along = omega (arith, near_y 2000 c.args.p c.requires.near) }
