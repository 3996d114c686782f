use Rattle.std.proofs.Common.{◌∙◌, ◌++◌, ◌-ℤ◌, ◌+ℤ◌, pos, None, List, [], ◌∷◌, fold, take, sym, ap, arith}
use Rattle.std.specs.Prelude.{unwrap_or}
use Rattle.std.specs.List.{flat_map, list_all}
use Rattle.std.proofs.lemmas.List.{flat_map_more, take_all, take_more}
use Rattle.octi_grid.specs.declared.point.GridPoint.{GridPoint}
use Rattle.octi_grid.specs.Walks.{points_of, PlainWalk}
use Rattle.grid_board.specs.declared.bounds.Bounds.{Bounds}
use Rattle.grid_board.specs.Points.{is_near}
use Rattle.drawing_weights.specs.Reach.{bounds_at, bounds_with}
use Rattle.drawing_weights.proofs.Spans.{points_near}
use Rattle.drawing_weights.proofs.bounds.bounds_past.Goals as goal

pub loop-walk-preserved : goal.loop-walk-preserved
loop-walk-preserved c =
    let ws = c.args.walks.now in
    let i = c.loop-walk.walk-index in
    let w = c.walk-item.result in
    c.in_ok-push_points.ensures
    ∙ ap (λ (ps : List GridPoint). ps ++ points_of w) c.loop-walk.invariant
    ∙ flat_map_more points_of [] (take i ws) w
    ∙ ap (flat_map points_of) (ap (λ (v : PlainWalk). take i ws ++ v ∷ []) c.walk-item.is ∙ sym (take_more ws i w c.loop-walk-test.true))

pub bounds_of-requires : goal.bounds_of-requires
bounds_of-requires c =
    let ws = c.args.walks.now in
    ap (list_all (is_near 1900)) (c.deref.ensures.value ∙ c.loop-walk.invariant ∙ ap (flat_map points_of) (take_all c.loop-walk.walk-index ws (omega (arith, c.loop-walk-test.false))))
    ∙ points_near 1900 ws c.requires.near

pub returns : goal.returns
returns c =
    let ws = c.args.walks.now in
    let wide : Bounds → Bounds = λ b. record { left = b.left -ℤ pos c.args.margin; right = b.right +ℤ pos c.args.margin; bottom = b.bottom -ℤ pos c.args.margin; top = b.top +ℤ pos c.args.margin } in
    c.wider.ensures
    ∙ ap wide
    (c.bounds_of.ensures.value
    ∙ ap (λ (ps : List GridPoint). unwrap_or (fold bounds_with None ps) (bounds_at (record { x = pos 0; y = pos 0 })))
    (c.deref.ensures.value ∙ c.loop-walk.invariant ∙ ap (flat_map points_of) (take_all c.loop-walk.walk-index ws (omega (arith, c.loop-walk-test.false)))))
