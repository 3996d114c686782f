use Rattle.std.proofs.Common.{ap, ◌∙◌, arith}
use Rattle.line_offsets.specs.Shifts.{drawn_at}
use Rattle.line_offsets.specs.declared.corner.Corner.{Corner}
use Rattle.eight_sides.specs.declared.frame.Frame.{Frame}
use Rattle.eight_sides.specs.Frames.{widened}
use Rattle.poster_layout.proofs.extent.with_piece.Goals as goal

pub returns-clause-value : goal.returns-clause-value
returns-clause-value c =
    c.with_corner.ensures.value
    ∙ ap (λ (f : Frame). widened f c.drawn_at-end.result) c.with_corner-begun.ensures.value
    ∙ ap (λ (p : Corner). widened (widened c.args.frame p) c.drawn_at-end.result) c.drawn_at-start.ensures.value
    ∙ ap (widened (widened c.args.frame (drawn_at c.args.pitch c.args.piece.start))) c.drawn_at-end.ensures.value

pub with_corner-begun-requires-clause-corner : goal.with_corner-begun-requires-clause-corner
with_corner-begun-requires-clause-corner c = record { across = omega (arith, c.drawn_at-start.ensures.x); down = omega (arith, c.drawn_at-start.ensures.y) }

pub with_corner-requires-clause-corner : goal.with_corner-requires-clause-corner
with_corner-requires-clause-corner c = record { across = omega (arith, c.drawn_at-end.ensures.x); down = omega (arith, c.drawn_at-end.ensures.y) }
