use Rattle.std.proofs.Common.{ap, ◌∙◌}
use Rattle.line_offsets.specs.declared.corner.Corner.{Corner}
use Rattle.eight_sides.specs.declared.frame.Frame.{Frame}
use Rattle.eight_sides.specs.Frames.{widened}
use Rattle.poster_layout.proofs.extent.with_shape.Goals as goal

pub returns-clause-value : goal.returns-clause-value
returns-clause-value c =
    c.with_corner.ensures.value
    ∙ ap (λ (f : Frame). widened f c.greatest_of-greatest.result) c.with_corner-begun.ensures.value
    ∙ ap (λ (p : Corner). widened (widened c.args.frame p) c.greatest_of-greatest.result) c.least_of-least.ensures.value
    ∙ ap (widened (widened c.args.frame (record { x = c.args.s.across.least; y = c.args.s.down.least }))) c.greatest_of-greatest.ensures.value
