use Rattle.std.proofs.Common.{◌==◌, ◌||◌, not, map, length, ap, ◌∙◌, arith}
use Rattle.std.proofs.lemmas.List.{take_all}
use Rattle.map_base.specs.declared.ids.LineId.{LineId}
use Rattle.order_sums.specs.PairSums.{sums_part}
use Rattle.order_sums.specs.PairTables.{lists_of, line_at}
use Rattle.order_sums.proofs.TableLemmas.{rows_lie}
use Rattle.order_sums.proofs.TableReads.{row_is}
use Rattle.order_untangle.proofs.ReadLemmas.{rows_more}
use Rattle.order_untangle.proofs.held_lines.held_rows.Goals as goal

pub row_at-requires : goal.row_at-requires
row_at-requires c = omega (arith, rows_lie c.args.table.now, c.requires.sized.count)

pub held_row-requires-clause-row : goal.held_row-requires-clause-row
held_row-requires-clause-row c = ap length c.row_at.ensures ∙ c.requires.sized.widths c.loop-i.i c.loop-i-test.true

pub loop-i-preserved : goal.loop-i-preserved
loop-i-preserved c = λ w is.
    rows_more c.loop-i.rows.items c.push.new.self.items c.in_ok-held.held (λ (b : LineId). map (λ a. a.0 == b.0 || not (sums_part c.args.most (w b a).against_turned (w b a).sides)) c.args.lines.now)
    c.args.lines.now c.loop-i.i _ c.loop-i-test.true (c.loop-i.invariant w is)
    (c.in_ok-held.ensures (w (line_at c.args.lines.now c.loop-i.i)) (c.row_at.ensures ∙ row_is w c.args.lines.now (lists_of c.args.table.now) c.loop-i.i is c.loop-i-test.true))
    c.in_ok-push.ensures.items

pub returns : goal.returns
returns c = λ w is.
    c.loop-i.invariant w is
    ∙ ap (map (λ (b : LineId). map (λ a. a.0 == b.0 || not (sums_part c.args.most (w b a).against_turned (w b a).sides)) c.args.lines.now)) (take_all c.loop-i.i c.args.lines.now c.loop-i-test.false)
