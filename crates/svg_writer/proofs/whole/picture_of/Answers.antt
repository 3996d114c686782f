use Rattle.std.proofs.Common.{◌≡◌, ℕ, List, ◌++◌, string_bytes, ap, sym, ◌∙◌}
use Rattle.svg_writer.specs.Elements.{Head, Tail, element_text, texts}
use Rattle.svg_writer.specs.Picture.{all_lines, all_joins, all_markers, all_labels}
use Rattle.svg_writer.proofs.Appends.{grew3}
use Rattle.svg_writer.proofs.Ranges.{in_order}
use Rattle.svg_writer.proofs.whole.picture_of.Goals as goal

pub returns : goal.returns
returns g c =
    let style = c.args.style in
    let n = c.args.names.now in
    let graph = c.args.graph.now in
    let d = g.D.Drawn.courses c.args.drawn.now in
    let o = c.args.orders.now.lists in
    let lines = texts style (all_lines n graph d o) ++ (texts style (all_joins n graph d o) ++ texts style (all_markers style graph d)) in
    let behind = texts style (all_labels style n graph d) ++ element_text style Tail in
    let made : c.into_bytes.result.items ≡ string_bytes c.push_tail.new.text = ap (λ v. v.items) c.into_bytes.ensures.value in
    made
    ∙ grew3 _ _ _ _ _ _ _ c.in_ok-push_map.ensures c.in_ok-push_all_labels.ensures c.in_ok-push_tail.ensures
    ∙ ap (λ (bytes : List ℕ). bytes ++ ((element_text style (Head c.args.frame) ++ lines) ++ behind)) c.new-text.ensures.bytes
    ∙ sym (in_order style (Head c.args.frame) (all_lines n graph d o) (all_joins n graph d o) (all_markers style graph d) (all_labels style n graph d) Tail)
