use Rattle.std.proofs.Common.{sym, ◌∙◌}
use Rattle.order_model.specs.Problems.{lines_on}
use Rattle.prefix_bounds.proofs.Filled.{left_on}
use Rattle.prefix_bounds.proofs.bounds.place_left.Goals as goal

pub place-requires-clause-line : goal.place-requires-clause-line
place-requires-clause-line c =
    left_on (lines_on c.args.bounds.now.segs c.args.seg) (lines_on c.args.bounds.now.placed c.args.seg) c.args.line (sym c.is_left.ensures ∙ c.if-is_left.true)
