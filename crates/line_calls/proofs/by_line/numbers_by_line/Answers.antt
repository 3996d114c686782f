use Rattle.std.proofs.Common.{refl}
use Rattle.line_calls.specs.Tables.{lists_in}
use Rattle.line_calls.proofs.ByLine.{by_line_none}
use Rattle.line_calls.proofs.by_line.numbers_by_line.Goals as goal

pub loop-k-init : goal.loop-k-init
loop-k-init c = by_line_none c.args.lines.now c.args.patterns.now _ (lists_in c.in_ok-lists.lists.items) refl c.in_ok-lists.ensures
