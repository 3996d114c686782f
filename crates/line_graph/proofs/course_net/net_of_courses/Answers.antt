use Rattle.std.proofs.Common.{◌∙◌, ap, sym, subst, List, All}
use Rattle.map_base.specs.declared.point.Point.{Point}
use Rattle.fixed_plane.specs.Plane.{IsInPlane}
use Rattle.line_graph.specs.Outcome.{all_samples}
use Rattle.line_graph.proofs.LegFacts.{samples_in_plane}
use Rattle.line_graph.proofs.course_net.net_of_courses.Goals as goal

pub net_of-requires-clause-samples_in_plane : goal.net_of-requires-clause-samples_in_plane
net_of-requires-clause-samples_in_plane c =
    subst (λ (ps : List Point). All IsInPlane ps) (sym (c.deref.ensures.value ∙ c.in_ok-samples.ensures ∙ ap all_samples c.as_slice.ensures)) (samples_in_plane c.args.near c.args.courses.now c.requires.fit)
