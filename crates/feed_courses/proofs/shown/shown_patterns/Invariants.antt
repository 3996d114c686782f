use Rattle.std.proofs.Common.{◌≡◌, filter, map, take}
use Rattle.feed_courses.specs.Shown.{is_shown}
use Rattle.feed_courses.proofs.shown.shown_patterns.Given as goal

abbrev pub invariant-loop-pattern : goal.invariant-loop-pattern
invariant-loop-pattern l = map (λ pattern. pattern.now) l.shown.items ≡ filter (is_shown l.tables.lines) (take l.pattern-index l.tables.patterns)
