use Rattle.std.proofs.Common.{◌≡◌, ◌∙◌, ◌+◌, ◌++◌, List, [], ◌∷◌, sym, ap, arith}
use Rattle.std.proofs.lemmas.List.FromFn.{map-range_with_len_more}
use Rattle.octi_grid.specs.declared.point.GridPoint.{GridPoint}
use Rattle.drawing_weights.specs.Weights.{point_of}
use Rattle.drawing_weights.proofs.points.points_of.Goals as goal

pub loop-n-preserved : goal.loop-n-preserved
loop-n-preserved c =
    let f = point_of c.args.graph.now c.args.walks.now in
    let n = c.loop-n.n in
    let same : 0 + n ≡ n = omega arith in
    c.in_ok-push.ensures.items
    ∙ ap (λ (p : GridPoint). c.loop-n.points.items ++ p ∷ []) c.point_of.ensures
    ∙ ap (λ (ps : List GridPoint). ps ++ f n ∷ []) c.loop-n.invariant
    ∙ sym (map-range_with_len_more f 0 n n same)
