use Rattle.order_untangle.proofs.LeftLemmas.{gathered}
use Rattle.order_untangle.proofs.left_terms.LeftTerms.gather.Goals as goal

pub returns : goal.returns
returns c =
    gathered c.args.self.now c.self.inside.cells.items c.as_slice-2.result.now c.self.inside.on.items c.args.seg c.as_slice.result.now c.numbers_of-numbers.result.now c.live_terms.new.terms.items
    c.self.view_is c.self.invariant c.as_slice-2.ensures.value c.as_slice.ensures.value c.numbers_of-numbers.ensures c.in_ok-live_terms.ensures
