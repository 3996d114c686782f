use Rattle.order_untangle.proofs.SegmentTerms.{flip_own, light_given, rising_given}
use Rattle.order_untangle.proofs.looking.merge_flip.Goals as goal

pub flip_by-requires-clause-rising : goal.flip_by-requires-clause-rising
flip_by-requires-clause-rising c = rising_given c.args.segs.now c.args.terms.now c.args.from c.lines_on-2.result.now c.requires c.lines_on-2.ensures

pub flip_by-requires-clause-light : goal.flip_by-requires-clause-light
flip_by-requires-clause-light c =
    light_given c.args.segs.now c.args.terms.now c.args.from c.gather.new.terms.items c.as_slice.result.now c.requires c.in_ok-gather.ensures c.as_slice.ensures.value

pub returns : goal.returns
returns c =
    flip_own c.args.segs.now c.args.terms.now c.args.into c.args.from c.gather.new.terms.items c.as_slice.result.now c.lines_on.result.now c.lines_on-2.result.now c.in_ok-flip.flip
    c.in_ok-gather.ensures c.as_slice.ensures.value c.lines_on.ensures c.lines_on-2.ensures c.in_ok-flip.ensures
