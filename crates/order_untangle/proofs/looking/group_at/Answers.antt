use Rattle.order_untangle.proofs.SegmentTerms.{group_own, light_given, rising_given}
use Rattle.order_untangle.proofs.looking.group_at.Goals as goal

pub group_by-requires-clause-rising : goal.group_by-requires-clause-rising
group_by-requires-clause-rising c = rising_given c.args.segs.now c.args.terms.now c.args.seg c.lines_on.result.now c.requires c.lines_on.ensures

pub group_by-requires-clause-light : goal.group_by-requires-clause-light
group_by-requires-clause-light c =
    light_given c.args.segs.now c.args.terms.now c.args.seg c.gather.new.terms.items c.as_slice.result.now c.requires c.in_ok-gather.ensures c.as_slice.ensures.value

pub returns : goal.returns
returns c =
    group_own c.args.segs.now c.args.terms.now c.args.seg c.gather.new.terms.items c.as_slice.result.now c.lines_on.result.now c.in_ok-group.group
    c.in_ok-gather.ensures c.as_slice.ensures.value c.lines_on.ensures c.in_ok-group.ensures
