use Rattle.std.proofs.Common.{◌∙◌, ◌+◌, pos, Option, drop, fold, get_or, sym, ap, subst}
use Rattle.std.proofs.lemmas.List.{drop_more}
use Rattle.octi_grid.specs.declared.point.GridPoint.{GridPoint}
use Rattle.grid_board.specs.declared.bounds.Bounds.{Bounds}
use Rattle.grid_board.specs.Points.{is_near}
use Rattle.drawing_weights.specs.Reach.{bounds_with}
use Rattle.drawing_weights.proofs.Spans.{near_at, span_more, SpanOf}
use Rattle.drawing_weights.proofs.bounds.bounds_of.Goals as goal

pub loop-p-preserved : goal.loop-p-preserved
loop-p-preserved c =
    let ps = c.args.points.now in
    let i = c.loop-p.p-index in
    let origin : GridPoint = record { x = pos 0; y = pos 0 } in (
      ap (λ (o : Option Bounds). fold bounds_with o (drop (i + 1) ps)) c.with_point.ensures ∙ sym (ap (fold bounds_with c.loop-p.bounds) (drop_more ps i origin c.loop-p-test.true)) ∙ c.loop-p.invariant.0,
      subst (SpanOf 1900) (sym c.with_point.ensures) (span_more 1900 c.loop-p.bounds (get_or ps i origin) c.loop-p.invariant.1 (near_at (is_near 1900) ps i origin c.requires c.loop-p-test.true)),
    )
