use Rattle.order_untangle.proofs.WaitLemmas.{links_more, links_all}
use Rattle.order_untangle.proofs.waiting.add_links.Goals as goal

pub loop-term-preserved : goal.loop-term-preserved
loop-term-preserved c = record {
  kept = λ e f h. c.in_ok-last.ensures.kept e f (c.loop-term.invariant.kept e f h);
  links =
      links_more c.loop-term.merges.keys c.add_link.new.merges.keys c.args.terms.now c.loop-term.term-index _ c.loop-term-test.true c.in_ok-last.ensures.kept
      c.loop-term.invariant.links c.in_ok-last.ensures.link;
  waits = c.in_ok-last.ensures.waits;
}

pub returns-clause-links : goal.returns-clause-links
returns-clause-links c = links_all c.loop-term.merges.keys c.args.terms.now c.loop-term.term-index c.loop-term-test.false c.loop-term.invariant.links
