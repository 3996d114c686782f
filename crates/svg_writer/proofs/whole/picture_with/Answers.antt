use Rattle.std.proofs.Common.{◌≡◌, ℕ, List, ◌++◌, string_bytes, ap, sym, ◌∙◌}
use Rattle.svg_writer.specs.declared.style.Style.{Style}
use Rattle.svg_writer.specs.Styles.{grid_style}
use Rattle.svg_writer.specs.Elements.{Head, Tail, element_text, texts}
use Rattle.svg_writer.specs.Picture.{all_lines, all_joins, all_markers, placed_labels, grid_courses}
use Rattle.svg_writer.proofs.Appends.{grew3}
use Rattle.svg_writer.proofs.Ranges.{in_order}
use Rattle.svg_writer.proofs.whole.picture_with.Goals as goal

pub returns : goal.returns
returns c =
    let n = c.args.names.now in
    let graph = c.args.graph.now in
    let d = grid_courses graph c.args.drawing.now.walks in
    let o = c.args.orders.now.lists in
    let labels = placed_labels n graph c.args.spots.now in
    let whole : Style → List ℕ = λ style. (element_text style (Head c.args.frame) ++ (texts style (all_lines n graph d o) ++ (texts style (all_joins n graph d o) ++ texts style (all_markers style graph d)))) ++ (texts style labels ++ element_text style Tail) in
    let made : c.into_bytes.result.items ≡ string_bytes c.push_tail.new.text = ap (λ v. v.items) c.into_bytes.ensures.value in
    made
    ∙ grew3 _ _ _ _ _ _ _ c.in_ok-push_map.ensures c.in_ok-push_placed_labels.ensures c.in_ok-push_tail.ensures
    ∙ ap (λ (bytes : List ℕ). bytes ++ whole c.grid_style-style.result) c.new-text.ensures.bytes
    ∙ ap whole c.grid_style-style.ensures
    ∙ sym (in_order grid_style (Head c.args.frame) (all_lines n graph d o) (all_joins n graph d o) (all_markers grid_style graph d) labels Tail)
