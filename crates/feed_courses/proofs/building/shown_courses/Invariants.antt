use Rattle.std.proofs.Common.{◌≡◌, ◌+◌, All, map, take}
use Rattle.std.specs.List.{sum_by}
use Rattle.feed_courses.specs.Places.{used_points}
use Rattle.feed_courses.specs.Outcome.{course_of, sample_count}
use Rattle.feed_courses.specs.Fit.{IsCourse}
use Rattle.feed_courses.proofs.building.shown_courses.Given as goal

abbrev pub invariant-loop-pattern : goal.invariant-loop-pattern
invariant-loop-pattern l = record {
  courses : l.courses.items ≡ map (course_of l.near l.tables) (map (λ pattern. pattern.now) (take l.pattern-index l.shown));
  left : l.left + sum_by (sample_count l.near l.tables) (map (λ pattern. pattern.now) (take l.pattern-index l.shown)) ≡ 4000000;
  fit : All (IsCourse l.near (used_points l.tables)) l.courses.items;
}
