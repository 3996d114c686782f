use Rattle.order_untangle.specs.Works.{parts_of}
use Rattle.order_untangle.proofs.WorkLemmas.{divide_next, divide_passed, no_divide_next}
use Rattle.order_untangle.proofs.next_rules.next_divide.Goals as goal

pub returns-in-Some-2-clause-rule : goal.returns-in-Some-2-clause-rule
returns-in-Some-2-clause-rule c =
    divide_next (parts_of c.args.segs.now c.args.terms.now) c.loop-seg.waiting.merges.keys c.loop-seg.waiting.divides.keys c.in-Some.seg c.in_ok-first.field-0 c.in-Some-2.first
    c.requires.problem c.loop-seg.invariant c.in-Some.ensures.least c.in_ok-first.ensures c.in-Some-2.is

pub loop-seg-preserved : goal.loop-seg-preserved
loop-seg-preserved c =
    divide_passed (parts_of c.args.segs.now c.args.terms.now) c.loop-seg.waiting.merges.keys c.drop_divide.new.self.merges.keys c.loop-seg.waiting.divides.keys c.drop_divide.new.self.divides.keys
    c.in-Some.seg c.in_ok-first.field-0 c.requires.problem c.loop-seg.invariant c.in_ok-first.ensures c.in_default-2.is c.in-Some.ensures.first
    c.drop_divide.ensures.divides c.drop_divide.ensures.merges

pub returns-clause-rule : goal.returns-clause-rule
returns-clause-rule c =
    no_divide_next (parts_of c.args.segs.now c.args.terms.now) c.loop-seg.waiting.merges.keys c.loop-seg.waiting.divides.keys c.requires.problem c.loop-seg.invariant (c.first_divide.ensures.none c.in_default.is)
