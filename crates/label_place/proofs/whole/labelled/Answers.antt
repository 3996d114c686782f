use Rattle.std.proofs.Common.{ap, ◌∙◌}
use Rattle.std.proofs.lemmas.Result.{IfOk-weaker}
use Rattle.svg_writer.specs.declared.bounds.Bounds.{Bounds}
use Rattle.svg_writer.specs.Picture.{placed_text}
use Rattle.label_place.specs.Labelled.{frame_of, spots_from, text_with}
use Rattle.label_place.proofs.whole.labelled.Goals as goal

pub returns : goal.returns
returns c =
    let n = c.args.names.now in
    let g = c.args.graph.now in
    let w = c.args.drawing.now.walks in
    let o = c.args.orders.now.lists in
    let spots = c.as_slice-3.result.now in
    let frame = c.in_ok-frame.frame in
    let found = c.in_ok-places.places.items in
    IfOk-weaker c.picture_with.result _ _ (λ text h. h
    ∙ ap (λ (b : Bounds). placed_text n g w o b spots) (c.in_ok-frame.ensures.value ∙ ap (frame_of n g w) c.as_slice.ensures.value)
    ∙ ap (placed_text n g w o (frame_of n g w found)) (c.as_slice-3.ensures.value ∙ c.in_ok-spots.ensures ∙ ap (spots_from n g w 0) c.as_slice-2.ensures.value)
    ∙ ap (text_with n g w o) c.in_ok-places.ensures.exact) c.picture_with.ensures
