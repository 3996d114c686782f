use Rattle.std.proofs.Common.{◌≡◌, ◌∙◌, ℕ, List, [], ◌∷◌, ◌++◌, ap, arith, map, take}
use Rattle.std.proofs.lemmas.List.{take_all}
use Rattle.table_rows.specs.Ids.{is_among}
use Rattle.map_edits.specs.Effects.{line_id}
use Rattle.map_edits.proofs.IdLemmas.{new_id, ids_more}
use Rattle.map_edits.proofs.feed_ids.ids_of_lines.Goals as goal

pub note_new-requires : goal.note_new-requires
note_new-requires c =
    let line = c.line-item.result in
    let id : c.as_bytes.result.now ≡ line.id = cc in
    ap (λ (i : List ℕ). is_among i c.loop-line.ids) id
    ∙ ap (is_among line.id) c.loop-line.invariant
    ∙ ap (λ x. is_among x.id (map line_id (take c.loop-line.line-index c.args.lines.now))) c.line-item.is
    ∙ new_id line_id c.args.lines.now c.loop-line.line-index line c.requires (omega arith)

pub loop-line-preserved : goal.loop-line-preserved
loop-line-preserved c =
    let line = c.line-item.result in
    let id : c.as_bytes.result.now ≡ line.id = cc in
    ids_more line_id c.args.lines.now c.loop-line.line-index line c.loop-line.ids c.note_new.new.ids (omega arith) c.line-item.is c.loop-line.invariant
    (c.in_ok-note_new.ensures ∙ ap (λ (i : List ℕ). c.loop-line.ids ++ i ∷ []) id)

pub returns : goal.returns
returns c = c.loop-line.invariant ∙ ap (map line_id) (take_all c.loop-line.line-index c.args.lines.now (omega arith))
