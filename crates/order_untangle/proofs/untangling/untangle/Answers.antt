use Rattle.std.proofs.Common.{None, Some, ◌∙◌}
use Rattle.order_rules.proofs.UntanglingLaws.{next_applies}
use Rattle.order_untangle.specs.Works.{parts_of}
use Rattle.order_untangle.proofs.UntangleLemmas.{fewer_choices, rule_is, so_far_last, so_far_more, so_far_rules}
use Rattle.order_untangle.proofs.untangling.untangle.Goals as goal

pub after_rule-requires-clause-applies : goal.after_rule-requires-clause-applies
after_rule-requires-clause-applies c =
    next_applies (parts_of c.loop-rules.work.segs.items c.loop-rules.work.terms) c.in-Some.rule c.loop-rules.invariant.work.problem
    (rule_is c.loop-rules.work.segs.items c.as_slice.result.now c.loop-rules.work.terms c.in_ok-rule.field-0 (Some c.in-Some.rule) c.in_ok-rule.ensures.rule c.as_slice.ensures.value c.in-Some.is)

pub loop-rules-smaller : goal.loop-rules-smaller
loop-rules-smaller c =
    fewer_choices (parts_of c.loop-rules.work.segs.items c.loop-rules.work.terms) (parts_of c.in_ok-work-2.work.segs.items c.in_ok-work-2.work.terms) c.in-Some.rule
    c.loop-rules.invariant.work.problem
    (rule_is c.loop-rules.work.segs.items c.as_slice.result.now c.loop-rules.work.terms c.in_ok-rule.field-0 (Some c.in-Some.rule) c.in_ok-rule.ensures.rule c.as_slice.ensures.value c.in-Some.is)
    c.in_ok-work-2.ensures.parts

pub loop-rules-preserved : goal.loop-rules-preserved
loop-rules-preserved c = record {
  work = c.in_ok-work-2.ensures.work;
  so_far =
      so_far_more c.args.problem (parts_of c.loop-rules.work.segs.items c.loop-rules.work.terms) (parts_of c.in_ok-work-2.work.segs.items c.in_ok-work-2.work.terms)
      c.loop-rules.rules.items c.push.new.self.items c.in-Some.rule c.loop-rules.invariant.work.problem
      (rule_is c.loop-rules.work.segs.items c.as_slice.result.now c.loop-rules.work.terms c.in_ok-rule.field-0 (Some c.in-Some.rule) c.in_ok-rule.ensures.rule c.as_slice.ensures.value c.in-Some.is)
      c.in_ok-work-2.ensures.parts c.in_ok-push.ensures.items c.loop-rules.invariant.so_far;
}

pub returns-clause-rules : goal.returns-clause-rules
returns-clause-rules c =
    c.of.ensures
    ∙ so_far_rules c.args.problem (parts_of c.loop-rules.work.segs.items c.loop-rules.work.terms) c.loop-rules.rules.items
    (rule_is c.loop-rules.work.segs.items c.as_slice.result.now c.loop-rules.work.terms c.in_ok-rule.field-0 None c.in_ok-rule.ensures.rule c.as_slice.ensures.value c.in_default.is)
    c.loop-rules.invariant.so_far

pub returns-clause-problem : goal.returns-clause-problem
returns-clause-problem c =
    c.in_ok-last.ensures
    ∙ so_far_last c.args.problem (parts_of c.loop-rules.work.segs.items c.loop-rules.work.terms) c.loop-rules.rules.items
    (rule_is c.loop-rules.work.segs.items c.as_slice.result.now c.loop-rules.work.terms c.in_ok-rule.field-0 None c.in_ok-rule.ensures.rule c.as_slice.ensures.value c.in_default.is)
    c.loop-rules.invariant.so_far
