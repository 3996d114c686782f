use Rattle.std.proofs.Common.{◌∙◌, ◌++◌, ap, arith, List}
use Rattle.std.specs.List.{flat_map}
use Rattle.map_base.specs.declared.point.Point.{Point}
use Rattle.feed_courses.specs.declared.courses.Course.{Course}
use Rattle.line_graph.proofs.PassageSteps.{flat_more}
use Rattle.line_graph.proofs.samples.all_samples.Goals as goal

pub loop-course-preserved : goal.loop-course-preserved
loop-course-preserved c =
    flat_more (λ (course : Course). flat_map (λ (hop : List Point). hop) course.hops) c.args.courses.now c.loop-course.course-index c.course-item.result c.loop-course.samples.items c.push_hops.new.samples.items
    (omega (arith, c.loop-course-test.true)) c.loop-course.invariant
    (c.in_ok-push_hops.ensures ∙ ap (λ (hops : List (List Point)). c.loop-course.samples.items ++ flat_map (λ (hop : List Point). hop) hops) c.as_slice.ensures
    ∙ ap (λ (course : Course). c.loop-course.samples.items ++ flat_map (λ (hop : List Point). hop) course.hops) c.course-item.is)
