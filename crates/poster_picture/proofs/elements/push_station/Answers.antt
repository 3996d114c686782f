use Rattle.std.proofs.Common.{◌++◌, string_bytes, ap, ◌∙◌}
use Rattle.svg_writer.proofs.Appends.{grew6}
use Rattle.poster_rules.specs.Elements.{element_text, Station}
use Rattle.poster_picture.proofs.elements.push_station.Goals as goal

pub returns : goal.returns
returns c =
    grew6 _ _ _ _ _ _ _ _ _ _ _ _ _ c.in_ok-push_str.ensures.bytes c.in_ok-push_natural.ensures c.in_ok-push_classes.ensures c.in_ok-push_str-2.ensures.bytes c.in_ok-push_escaped.ensures c.in_ok-push_str-3.ensures.bytes
    ∙ ap (λ n. string_bytes c.args.text.now ++ element_text (Station n c.args.lines.now c.args.name.now)) c.from.ensures
