use Rattle.order_sums.specs.PairSums.{pair_sums}
use Rattle.order_sums.specs.PairTables.{IsTable, lists_of}
use Rattle.order_untangle.proofs.ReadLemmas.{lent, most_small, group_parted}
use Rattle.order_untangle.proofs.segments.parts_by.Goals as goal

pub most_apart-most-requires : goal.most_apart-most-requires
most_apart-most-requires c =
    (lent (pair_sums c.args.seg c.args.seg c.args.terms.now) c.args.lines.now c.in_ok-table.table.items c.as_slice-cells.result.now c.as_slice-cells.ensures.value c.in_ok-table.ensures).sized

pub group_parts-requires-clause-sized : goal.group_parts-requires-clause-sized
group_parts-requires-clause-sized c =
    (lent (pair_sums c.args.seg c.args.seg c.args.terms.now) c.args.lines.now c.in_ok-table.table.items c.as_slice-cells.result.now c.as_slice-cells.ensures.value c.in_ok-table.ensures).sized

pub group_parts-requires-clause-most : goal.group_parts-requires-clause-most
group_parts-requires-clause-most c =
    most_small c.args.terms.now c.args.seg c.args.lines.now c.most_apart-most.result c.requires.light c.requires.few
    (c.most_apart-most.ensures (pair_sums c.args.seg c.args.seg c.args.terms.now)
    (lent (pair_sums c.args.seg c.args.seg c.args.terms.now) c.args.lines.now c.in_ok-table.table.items c.as_slice-cells.result.now c.as_slice-cells.ensures.value c.in_ok-table.ensures))

pub returns : goal.returns
returns c =
    let is : IsTable (pair_sums c.args.seg c.args.seg c.args.terms.now) c.args.lines.now (lists_of c.as_slice-cells.result.now) =
    lent (pair_sums c.args.seg c.args.seg c.args.terms.now) c.args.lines.now c.in_ok-table.table.items c.as_slice-cells.result.now c.as_slice-cells.ensures.value c.in_ok-table.ensures in
    group_parted c.args.terms.now c.args.seg c.args.lines.now c.args.group.now c.most_apart-most.result c.in_ok-parts.parts
    (c.most_apart-most.ensures (pair_sums c.args.seg c.args.seg c.args.terms.now) is) (c.in_ok-parts.ensures (pair_sums c.args.seg c.args.seg c.args.terms.now) is)
