use Rattle.std.proofs.Common.{ℕ, ap, sym, subst, ◌∙◌, arith}
use Rattle.eight_sides.specs.declared.frame.Frame.{Frame}
use Rattle.eight_sides.specs.Frames.{widened}
use Rattle.poster_plan.specs.Legends.{legend_width}
use Rattle.poster_layout.specs.Extents.{beyond, IsDrawnFrame}
use Rattle.poster_layout.proofs.Corners.{drawn_near, drawn_widened}
use Rattle.poster_layout.proofs.legend.frame_around.Goals as goal

pub returns-clause-value : goal.returns-clause-value
returns-clause-value c =
    let l = c.args.legend in
    c.widened.ensures
    ∙ ap (λ (f : Frame). widened f c.beyond-end.result) c.widened-begun.ensures
    ∙ ap (widened (widened c.args.f l.start))
    (c.beyond-end.ensures.value
    ∙ ap (λ (w : ℕ). beyond l.start w c.legend_height-height.result) c.legend_width-width.ensures.value
    ∙ ap (beyond l.start (legend_width c.args.lines c.args.widest)) c.legend_height-height.ensures.value)

pub returns-clause-drawn : goal.returns-clause-drawn
returns-clause-drawn c =
    let l = c.args.legend in
    let near = c.requires.legend.start in
    let begun = subst IsDrawnFrame (sym c.widened-begun.ensures) (drawn_widened c.args.f l.start (drawn_near c.args.f c.requires.frame) (omega (arith, near.across)) (omega (arith, near.down))) in
    subst IsDrawnFrame (sym c.widened.ensures)
    (drawn_widened c.widened-begun.result c.beyond-end.result begun
    (omega (arith, c.beyond-end.ensures.x, near.across, c.legend_width-width.ensures.small)) (omega (arith, c.beyond-end.ensures.y, near.down, c.legend_height-height.ensures.small)))
