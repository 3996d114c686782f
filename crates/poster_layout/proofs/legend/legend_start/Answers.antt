use Rattle.std.proofs.Common.{List, Option, unwrap_or, ap, sym, subst, ◌∙◌}
use Rattle.std.specs.Prelude.{All}
use Rattle.std.specs.List.{find}
use Rattle.line_offsets.specs.declared.corner.Corner.{Corner}
use Rattle.eight_sides.specs.declared.frame.Frame.{Frame}
use Rattle.poster_plan.specs.Legends.{corners_for, outside}
use Rattle.poster_layout.specs.Extents.{is_clear_at, IsLegendPoint}
use Rattle.poster_layout.proofs.Cornering.{corners_near, point_near}
use Rattle.poster_layout.proofs.legend.legend_start.Goals as goal

pub first_clear-requires-clause-corners : goal.first_clear-requires-clause-corners
first_clear-requires-clause-corners c =
    subst (All IsLegendPoint) (sym c.corners_for-corners.ensures) (corners_near c.frame_with-frame.result c.args.width c.args.height c.frame_with-frame.ensures.near c.requires.width c.requires.height)

pub returns-clause-value : goal.returns-clause-value
returns-clause-value c =
    let w = c.args.width in
    let h = c.args.height in
    c.unwrap_or.ensures
    ∙ ap (λ (o : Option Corner). unwrap_or o c.outside.result) c.first_clear.ensures.value
    ∙ ap (λ (cs : List Corner). unwrap_or (find (is_clear_at c.args.pitch c.args.plan.now c.args.printed.now w h) cs) c.outside.result) c.corners_for-corners.ensures
    ∙ ap (λ (p : Corner). unwrap_or (find (is_clear_at c.args.pitch c.args.plan.now c.args.printed.now w h) (corners_for c.frame_with-frame.result w h)) p) c.outside.ensures.value
    ∙ ap (λ (f : Frame). unwrap_or (find (is_clear_at c.args.pitch c.args.plan.now c.args.printed.now w h) (corners_for f w h)) (outside f)) c.frame_with-frame.ensures.value

pub returns-clause-near : goal.returns-clause-near
returns-clause-near c =
    subst IsLegendPoint (sym c.unwrap_or.ensures)
    (point_near c.first_clear.result c.outside.result c.first_clear.ensures.near c.outside.ensures.near)
