use Rattle.order_untangle.proofs.SegmentTerms.{merge_own, light_given, rising_given}
use Rattle.order_untangle.proofs.looking.merge_applies.Goals as goal

pub merges_by-requires-clause-rising : goal.merges_by-requires-clause-rising
merges_by-requires-clause-rising c = rising_given c.args.segs.now c.args.terms.now c.args.from c.lines_on-2.result.now c.requires c.lines_on-2.ensures

pub merges_by-requires-clause-light : goal.merges_by-requires-clause-light
merges_by-requires-clause-light c =
    light_given c.args.segs.now c.args.terms.now c.args.from c.gather.new.terms.items c.as_slice.result.now c.requires c.in_ok-gather.ensures c.as_slice.ensures.value

pub returns : goal.returns
returns c =
    merge_own c.args.segs.now c.args.terms.now c.args.into c.args.from c.args.flip c.gather.new.terms.items c.as_slice.result.now c.lines_on.result.now c.lines_on-2.result.now c.in_ok-applies.applies
    c.in_ok-gather.ensures c.as_slice.ensures.value c.lines_on.ensures c.lines_on-2.ensures c.in_ok-applies.ensures
