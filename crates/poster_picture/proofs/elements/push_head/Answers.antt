use Rattle.std.proofs.Common.{◌++◌, string_bytes, ap, ◌∙◌}
use Rattle.line_offsets.specs.declared.corner.Corner.{Corner}
use Rattle.svg_writer.proofs.Appends.{grew5}
use Rattle.poster_rules.specs.Elements.{view_place}
use Rattle.poster_picture.proofs.Writing.{head_text}
use Rattle.poster_picture.proofs.elements.push_head.Goals as goal

pub returns : goal.returns
returns c =
    let old = string_bytes c.args.text.now in
    grew5 _ _ _ _ _ _ _ _ _ _ _ c.in_ok-push_str.ensures.bytes c.in_ok-push_corner.ensures c.in_ok-push_str-2.ensures.bytes c.in_ok-push_corner-2.ensures c.in_ok-push_str-3.ensures.bytes
    ∙ ap (λ (p : Corner). old ++ head_text p c.view_size.result) c.view_place.ensures
    ∙ ap (λ (p : Corner). old ++ head_text (view_place c.args.frame) p) c.view_size.ensures
