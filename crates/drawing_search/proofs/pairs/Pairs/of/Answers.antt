use Rattle.std.proofs.Common.{◌∙◌, ◌∷◌, ◌++◌, [], List, ap, ap₂, map, sym, arith}
use Rattle.drawing_search.proofs.Common.{joined_pairs, map-append, map_more, read_at, vec_items, SegId}
use Rattle.drawing_search.proofs.pairs.Pairs.of.Goals as goal

pub loop-n-preserved : goal.loop-n-preserved
loop-n-preserved c =
    let joins = c.args.graph.now.joins in
    let n = c.loop-n.n in
    ap (map vec_items) c.in_ok-push.ensures.items
    ∙ map-append vec_items c.loop-n.held.items (c.in_ok-pairs_of.field-0 ∷ [])
    ∙ ap₂ (λ (u : List (List (SegId × SegId))) (v : List (SegId × SegId)). u ++ v ∷ []) c.loop-n.invariant (c.in_ok-pairs_of.ensures ∙ ap joined_pairs (sym (read_at joins n c.joins.result.now [] c.joins.ensures)))
    ∙ sym (map_more joined_pairs joins n [] (omega (arith, c.loop-n-test.true, c.nodes-n-end.ensures.count, c.nodes.ensures.fits.joins_each)))
