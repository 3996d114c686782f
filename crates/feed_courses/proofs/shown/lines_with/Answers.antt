use Rattle.feed_courses.specs.Shown.{has_pattern}
use Rattle.feed_courses.proofs.FlagLemmas.{flagged-of_all}
use Rattle.feed_courses.proofs.shown.lines_with.Goals as goal

pub returns : goal.returns
returns c =
    flagged-of_all (λ pattern. pattern.now) has_pattern c.args.patterns.now c.loop-pattern.pattern-index c.args.count c.loop-pattern.flags.items c.deref.result.now c.flagged.result
    c.loop-pattern-test.false c.deref.ensures.value c.loop-pattern.invariant.count c.loop-pattern.invariant.flagged c.flagged.ensures
