use Rattle.std.proofs.Common.{arith}
use Rattle.std.proofs.lemmas.Int.{ints}
use Rattle.cert_file.proofs.Walks.{far_across, far_along}
use Rattle.cert_file.proofs.walk_line.walk_from.Goals as goal

pub returns-then-unsigned_abs-gt10000 : goal.returns-then-unsigned_abs-gt10000
returns-then-unsigned_abs-gt10000 c = far_across c.args.x c.args.y c.args.runs.items (omega (arith, ints))

pub returns-then-unsigned_abs-gt10000-2 : goal.returns-then-unsigned_abs-gt10000-2
returns-then-unsigned_abs-gt10000-2 c = far_along c.args.x c.args.y c.args.runs.items (omega (arith, ints))
