use Rattle.std.proofs.Common.{◌∙◌, sym, ap, ◌+◌, ◌≤◌, [], ◌∷◌, ◌++◌, map, take, arith, rules}
use Rattle.std.specs.List.{sum_by}
use Rattle.std.proofs.lemmas.List.{map-append}
use Rattle.std.proofs.lemmas.List.Elements.{All-contains, All-push, All-same}
use Rattle.map_base.specs.declared.limit.LimitKind.TheVariants.{Samples}
use Rattle.transit_feed.specs.Feeds.{IsPattern}
use Rattle.feed_courses.specs.Shown.{shown_patterns}
use Rattle.feed_courses.specs.Places.{used_points}
use Rattle.feed_courses.specs.Outcome.{course_of, sample_count, sample_total}
use Rattle.feed_courses.specs.Faults.{IsAbove}
use Rattle.feed_courses.specs.Fit.{IsCourse}
use Rattle.feed_courses.proofs.CourseLemmas.{IsAbove-whole}
use Rattle.feed_courses.proofs.SumLemmas.{read-among, mapped-more, summed-more, summed-within}
use Rattle.feed_courses.proofs.building.shown_courses.Goals as goal

pub course_of-requires-clause-pattern : goal.course_of-requires-clause-pattern
course_of-requires-clause-pattern c =
    let feed = c.args.tables.now in
    All-contains (IsPattern feed) (shown_patterns feed) c.pattern-item.result.now c.requires.patterns
    (read-among (λ pattern. pattern.now) c.args.shown.now (shown_patterns feed) c.loop-pattern.pattern-index c.pattern-item.result c.requires.shown c.loop-pattern-test.true c.pattern-item.is)

pub returns-in_err-course-clause-cause : goal.returns-in_err-course-clause-cause
returns-in_err-course-clause-cause c =
    let near = c.args.near in
    let feed = c.args.tables.now in
    let shown = c.args.shown.now in
    let i = c.loop-pattern.pattern-index in
    let before = sum_by (sample_count near feed) (map (λ pattern. pattern.now) (take i shown)) in
    let part = sample_count near feed c.pattern-item.result.now in
    let within : before + part ≤ sample_total near feed =
    summed-within (λ pattern. pattern.now) (sample_count near feed) shown (shown_patterns feed) i c.pattern-item.result c.requires.shown c.loop-pattern-test.true c.pattern-item.is in
    let cause : IsAbove Samples 4000000 (sample_total near feed) c.in_err-course.field-0.0 =
    IsAbove-whole Samples c.loop-pattern.left before part 4000000 (sample_total near feed) c.in_err-course.field-0.0 c.loop-pattern.invariant.left within c.in_err-course.ensures.cause in
    search (rules, cause)

pub loop-pattern-preserved : goal.loop-pattern-preserved
loop-pattern-preserved c =
    let near = c.args.near in
    let feed = c.args.tables.now in
    let shown = c.args.shown.now in
    let i = c.loop-pattern.pattern-index in
    let here = mapped-more (λ pattern. pattern.now) shown i c.pattern-item.result c.loop-pattern-test.true c.pattern-item.is in
    let sum = summed-more (λ pattern. pattern.now) (sample_count near feed) shown i c.pattern-item.result c.loop-pattern-test.true c.pattern-item.is in
    record {
      courses = c.in_ok-push.ensures.items ∙ ap (λ courses. courses ++ c.in_ok-course.course ∷ []) c.loop-pattern.invariant.courses
          ∙ ap (λ course. map (course_of near feed) (map (λ pattern. pattern.now) (take i shown)) ++ course ∷ []) c.in_ok-course.ensures.course
          ∙ sym (map-append (course_of near feed) (map (λ pattern. pattern.now) (take i shown)) (c.pattern-item.result.now ∷ [])) ∙ sym (ap (map (course_of near feed)) here);
      left = omega (arith, sum, c.in_ok-course.ensures.left, c.loop-pattern.invariant.left);
      fit = All-same (IsCourse near (used_points feed)) c.push.new.self.items (c.loop-pattern.courses.items ++ c.in_ok-course.course ∷ []) c.in_ok-push.ensures.items
          (All-push (IsCourse near (used_points feed)) c.loop-pattern.courses.items c.in_ok-course.course c.loop-pattern.invariant.fit c.in_ok-course.ensures.fit);
    }
