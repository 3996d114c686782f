use Rattle.std.proofs.Common.{ℕ, ◌≡◌, ap, ◌∙◌}
use Rattle.order_sums.specs.PairSums.{pair_sums}
use Rattle.order_sums.specs.PairTables.{IsTable, lists_of}
use Rattle.order_untangle.specs.Segments.{held_rows, most_by_lines, rows_of}
use Rattle.order_untangle.proofs.MarkLemmas.{first_place, rows_count}
use Rattle.order_untangle.proofs.ReadLemmas.{lent, most_small, held_table}
use Rattle.order_untangle.proofs.segments.closed_group.Goals as goal

pub most_apart-most-requires : goal.most_apart-most-requires
most_apart-most-requires c =
    (lent (pair_sums c.args.seg c.args.seg c.args.terms.now) c.args.lines.now c.in_ok-table.table.items c.as_slice-cells.result.now c.as_slice-cells.ensures.value c.in_ok-table.ensures).sized

pub held_rows-requires-clause-sized : goal.held_rows-requires-clause-sized
held_rows-requires-clause-sized c =
    (lent (pair_sums c.args.seg c.args.seg c.args.terms.now) c.args.lines.now c.in_ok-table.table.items c.as_slice-cells.result.now c.as_slice-cells.ensures.value c.in_ok-table.ensures).sized

pub held_rows-requires-clause-most : goal.held_rows-requires-clause-most
held_rows-requires-clause-most c =
    most_small c.args.terms.now c.args.seg c.args.lines.now c.most_apart-most.result c.requires.light c.requires.few
    (c.most_apart-most.ensures (pair_sums c.args.seg c.args.seg c.args.terms.now)
    (lent (pair_sums c.args.seg c.args.seg c.args.terms.now) c.args.lines.now c.in_ok-table.table.items c.as_slice-cells.result.now c.as_slice-cells.ensures.value c.in_ok-table.ensures))

pub least_group-requires : goal.least_group-requires
least_group-requires c =
    rows_count c.in_ok-rows.rows.items c.as_slice.result.now c.most_apart-most.result c.args.terms.now c.args.seg c.args.lines.now c.as_slice.ensures.value
    (held_table c.most_apart-most.result c.args.terms.now c.args.seg c.args.lines.now (rows_of c.in_ok-rows.rows.items)
    (c.in_ok-rows.ensures (pair_sums c.args.seg c.args.seg c.args.terms.now)
    (lent (pair_sums c.args.seg c.args.seg c.args.terms.now) c.args.lines.now c.in_ok-table.table.items c.as_slice-cells.result.now c.as_slice-cells.ensures.value c.in_ok-table.ensures)))

pub returns : goal.returns
returns c =
    let is : IsTable (pair_sums c.args.seg c.args.seg c.args.terms.now) c.args.lines.now (lists_of c.as_slice-cells.result.now) =
    lent (pair_sums c.args.seg c.args.seg c.args.terms.now) c.args.lines.now c.in_ok-table.table.items c.as_slice-cells.result.now c.as_slice-cells.ensures.value c.in_ok-table.ensures in
    let most : c.most_apart-most.result ≡ most_by_lines c.args.terms.now c.args.seg c.args.lines.now = c.most_apart-most.ensures (pair_sums c.args.seg c.args.seg c.args.terms.now) is in
    c.in_ok-group.ensures
    ∙ first_place c.args.terms.now c.args.seg c.args.lines.now (rows_of c.as_slice.result.now)
    (ap rows_of c.as_slice.ensures.value
    ∙ (held_table c.most_apart-most.result c.args.terms.now c.args.seg c.args.lines.now (rows_of c.in_ok-rows.rows.items) (c.in_ok-rows.ensures (pair_sums c.args.seg c.args.seg c.args.terms.now) is)
    ∙ ap (λ (m : ℕ). held_rows m c.args.terms.now c.args.seg c.args.lines.now) most))
