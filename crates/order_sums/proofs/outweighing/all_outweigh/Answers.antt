use Rattle.std.proofs.Common.{List, [], ◌+◌, length, get_or, drop, sym, ap, ◌∙◌, true, false, arith}
use Rattle.std.specs.Prelude.{Vec}
use Rattle.std.specs.Global.{Global}
use Rattle.order_rules.specs.Merging.{outweighs}
use Rattle.order_sums.specs.declared.pair_sums.PairSums.{PairSums}
use Rattle.order_sums.specs.PairTables.{lists_of}
use Rattle.order_sums.proofs.TableLemmas.{rows_lie, cell_known}
use Rattle.order_sums.proofs.TableReads.{pairs_passed, all_passed}
use Rattle.order_sums.proofs.outweighing.all_outweigh.Goals as goal

pub later_cells-requires-clause-row : goal.later_cells-requires-clause-row
later_cells-requires-clause-row c =
    omega (arith, ap length c.as_slice.ensures.value, rows_lie c.in_ok-table.table.items, c.in_ok-table.ensures.sized.count)

pub later_cells-requires-clause-cell : goal.later_cells-requires-clause-cell
later_cells-requires-clause-cell c =
    omega (
      arith,
      cell_known c.args.lines.now (lists_of c.in_ok-table.table.items) c.loop-i.i c.loop-i.i c.in_ok-table.ensures.sized c.loop-i-test.true c.loop-i-test.true,
      ap (λ (ts : List (Vec PairSums Global)). length (get_or (lists_of ts) c.loop-i.i [])) c.as_slice.ensures.value,
    )

pub loop-i-preserved : goal.loop-i-preserved
loop-i-preserved c =
    c.loop-i.invariant
    ∙ pairs_passed c.args.into c.args.from c.args.terms.now c.args.lines.now (lists_of c.in_ok-table.table.items) c.later_cells.result.now c.loop-i.i c.row_outweighs.result true
    c.in_ok-table.ensures c.loop-i-test.true
    (c.later_cells.ensures ∙ ap (λ (ts : List (Vec PairSums Global)). drop (c.loop-i.i + 1) (get_or (lists_of ts) c.loop-i.i [])) c.as_slice.ensures.value) c.row_outweighs.ensures
    c.if-not-row_outweighs.false

pub returns-then-not-row_outweighs : goal.returns-then-not-row_outweighs
returns-then-not-row_outweighs c =
    sym (c.loop-i.invariant
    ∙ pairs_passed c.args.into c.args.from c.args.terms.now c.args.lines.now (lists_of c.in_ok-table.table.items) c.later_cells.result.now c.loop-i.i c.row_outweighs.result false
    c.in_ok-table.ensures c.loop-i-test.true
    (c.later_cells.ensures ∙ ap (λ (ts : List (Vec PairSums Global)). drop (c.loop-i.i + 1) (get_or (lists_of ts) c.loop-i.i [])) c.as_slice.ensures.value) c.row_outweighs.ensures
    c.if-not-row_outweighs.true)

pub returns : goal.returns
returns c = sym (c.loop-i.invariant ∙ all_passed (outweighs c.args.into c.args.from c.args.terms.now) c.args.lines.now c.loop-i.i c.loop-i-test.false)
