use Rattle.std.proofs.Common.{◌∙◌, ◌+◌, ◌<◌, ◌≤◌, ◌++◌, ◌∷◌, [], ℕ, List, length, drop, ap, sym, arith}
use Rattle.std.proofs.lemmas.List.{length-map, at_drop_more, at_drop_all, append_assoc, append-nil}
use Rattle.map_base.specs.declared.ids.SegId.{SegId}
use Rattle.map_base.specs.declared.ids.LineId.{LineId}
use Rattle.dual_ascent.specs.OwnNumbers.{segments_from, all_segments}
use Rattle.kept_trees.specs.OwnTrees.{part_of_key}
use Rattle.kept_trees.proofs.own_search.all_segments.Goals as goal

pub loop-k-init : goal.loop-k-init
loop-k-init c = ap (λ (ss : List SegId). ss ++ all_segments (part_of_key c.args.key.now)) c.in_ok-part.ensures.items

pub loop-k-preserved : goal.loop-k-preserved
loop-k-preserved c =
    let segs : List (List LineId) = (part_of_key c.args.key.now).segs in
    let made : ℕ → SegId = λ n. record { 0 = n } in
    let below : c.loop-k.k < length segs = omega (arith, length-map c.args.key.now.lists.items (λ lines. lines.items), c.loop-k-test.true, c.len-count.ensures) in
    ap (λ (ss : List SegId). ss ++ segments_from (c.loop-k.k + 1) (drop (c.loop-k.k + 1) segs)) c.in_ok-push.ensures.items
    ∙ append_assoc c.loop-k.part.items (made c.loop-k.k ∷ []) (segments_from (c.loop-k.k + 1) (drop (c.loop-k.k + 1) segs))
    ∙ ap (λ (ss : List SegId). c.loop-k.part.items ++ ss) (sym (at_drop_more (segments_from c.loop-k.k) segs c.loop-k.k [] below))
    ∙ c.loop-k.invariant

pub returns : goal.returns
returns c =
    let segs : List (List LineId) = (part_of_key c.args.key.now).segs in
    let over : length segs ≤ c.loop-k.k = omega (arith, length-map c.args.key.now.lists.items (λ lines. lines.items), c.loop-k-test.false, c.len-count.ensures) in
    sym (append-nil c.loop-k.part.items) ∙ ap (λ (ss : List SegId). c.loop-k.part.items ++ ss) (sym (at_drop_all (segments_from c.loop-k.k) segs c.loop-k.k over)) ∙ c.loop-k.invariant
