use Rattle.order_untangle.proofs.SegmentTerms.{divide_own, light_given, rising_given}
use Rattle.order_untangle.proofs.looking.divide_applies.Goals as goal

pub divides_by-requires-clause-rising : goal.divides_by-requires-clause-rising
divides_by-requires-clause-rising c = rising_given c.args.segs.now c.args.terms.now c.args.seg c.lines_on.result.now c.requires c.lines_on.ensures

pub divides_by-requires-clause-light : goal.divides_by-requires-clause-light
divides_by-requires-clause-light c =
    light_given c.args.segs.now c.args.terms.now c.args.seg c.gather.new.terms.items c.as_slice.result.now c.requires c.in_ok-gather.ensures c.as_slice.ensures.value

pub returns : goal.returns
returns c =
    divide_own c.args.segs.now c.args.terms.now c.args.seg c.args.group.now c.gather.new.terms.items c.as_slice.result.now c.lines_on.result.now c.in_ok-applies.applies
    c.in_ok-gather.ensures c.as_slice.ensures.value c.lines_on.ensures c.in_ok-applies.ensures
