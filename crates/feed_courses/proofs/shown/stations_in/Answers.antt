use Rattle.std.proofs.Common.{List}
use Rattle.std.specs.List.{list_any}
use Rattle.transit_feed.specs.declared.pattern.Pattern.{Pattern}
use Rattle.feed_courses.specs.Shown.{serves}
use Rattle.feed_courses.proofs.FlagLemmas.{flagged-of_all}
use Rattle.feed_courses.proofs.shown.stations_in.Goals as goal

pub returns : goal.returns
returns c =
    flagged-of_all (λ pattern. pattern.now) (λ (patterns : List Pattern) n. list_any (serves n) patterns) c.args.patterns.now c.loop-pattern.pattern-index c.args.count c.loop-pattern.flags.items c.deref.result.now
    c.flagged.result c.loop-pattern-test.false c.deref.ensures.value c.loop-pattern.invariant.count c.loop-pattern.invariant.flagged c.flagged.ensures
