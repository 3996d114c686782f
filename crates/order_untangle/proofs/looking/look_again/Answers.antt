use Rattle.order_untangle.proofs.SegmentTerms.{links_wait}
use Rattle.order_untangle.proofs.looking.look_again.Goals as goal

pub returns-clause-links : goal.returns-clause-links
returns-clause-links c =
    links_wait c.args.terms.now.terms c.gather.new.terms.items c.as_slice.result.now c.args.seg c.look_again.new.self.merges.keys
    c.in_ok-gather.ensures c.as_slice.ensures.value c.in_ok-look_again.ensures.links
