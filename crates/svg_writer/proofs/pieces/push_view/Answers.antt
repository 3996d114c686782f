use Rattle.std.proofs.Common.{◌++◌, ◌∷◌, string_bytes, ap, ◌∙◌}
use Rattle.line_offsets.specs.declared.corner.Corner.{Corner}
use Rattle.svg_writer.specs.Elements.{corner_text, view_place}
use Rattle.svg_writer.proofs.Appends.{grew3}
use Rattle.svg_writer.proofs.pieces.push_view.Goals as goal

pub returns : goal.returns
returns c =
    let old = string_bytes c.args.text.now in
    grew3 _ _ _ _ _ _ _ c.in_ok-push_corner.ensures c.in_ok-push_str.ensures.bytes c.in_ok-push_corner-2.ensures
    ∙ ap (λ (p : Corner). old ++ (corner_text p ++ (32 ∷ corner_text c.view_size.result))) c.view_place.ensures
    ∙ ap (λ (p : Corner). old ++ (corner_text (view_place c.args.style c.args.bounds) ++ (32 ∷ corner_text p))) c.view_size.ensures
