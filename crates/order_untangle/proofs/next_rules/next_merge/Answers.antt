use Rattle.order_untangle.specs.Works.{parts_of}
use Rattle.order_untangle.proofs.WorkLemmas.{merge_next, merge_passed, no_merge_next}
use Rattle.order_untangle.proofs.next_rules.next_merge.Goals as goal

pub returns-in-Some-2-clause-rule : goal.returns-in-Some-2-clause-rule
returns-in-Some-2-clause-rule c =
    merge_next (parts_of c.args.segs.now c.args.terms.now) c.loop-into.waiting.merges.keys c.loop-into.waiting.divides.keys c.in-Some.into c.in-Some.from c.in_ok-flip.field-0 c.in-Some-2.flip
    c.requires.problem c.loop-into.invariant c.in-Some.ensures.least c.in_ok-flip.ensures c.in-Some-2.is

pub loop-into-preserved : goal.loop-into-preserved
loop-into-preserved c =
    merge_passed (parts_of c.args.segs.now c.args.terms.now) c.loop-into.waiting.merges.keys c.drop_merge.new.self.merges.keys c.loop-into.waiting.divides.keys c.drop_merge.new.self.divides.keys
    c.in-Some.into c.in-Some.from c.in_ok-flip.field-0 c.requires.problem c.loop-into.invariant c.in_ok-flip.ensures c.in_default-2.is c.in-Some.ensures.first
    c.drop_merge.ensures.merges c.drop_merge.ensures.divides

pub returns-clause-rule : goal.returns-clause-rule
returns-clause-rule c =
    no_merge_next (parts_of c.args.segs.now c.args.terms.now) c.loop-into.waiting.merges.keys c.loop-into.waiting.divides.keys c.requires.problem c.loop-into.invariant (c.first_merge.ensures.none c.in_default.is)
