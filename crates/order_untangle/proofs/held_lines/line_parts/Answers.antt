use Rattle.std.proofs.Common.{subst}
use Rattle.order_sums.specs.PairTables.{IsPlace, lists_of}
use Rattle.order_untangle.proofs.ReadLemmas.{has_no_place, line_parted}
use Rattle.order_untangle.proofs.held_lines.line_parts.Goals as goal

pub unreachable-requires : goal.unreachable-requires
unreachable-requires c = has_no_place c.args.lines.now c.args.line c.requires.among (subst (IsPlace c.args.lines.now c.args.line) c.in-None.is c.place_of.ensures)

pub returns : goal.returns
returns c = λ w is.
    line_parted c.args.most w c.args.lines.now (lists_of c.args.table.now) c.row_at.result.now c.args.marks.now c.args.line c.in-Some.place c.row_parts.result is
    (subst (IsPlace c.args.lines.now c.args.line) c.in-Some.is c.place_of.ensures) c.row_at.ensures c.row_parts.ensures
