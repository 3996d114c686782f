use Rattle.std.proofs.Common.{◌++◌, string_bytes, ap, ◌∙◌}
use Rattle.svg_writer.proofs.Appends.{grew3}
use Rattle.poster_rules.specs.Elements.{width_text}
use Rattle.poster_picture.proofs.pieces.push_width.Goals as goal

pub returns : goal.returns
returns c =
    grew3 _ _ _ _ _ _ _ c.in_ok-push_str.ensures.bytes c.in_ok-push_natural.ensures c.in_ok-push_str-2.ensures.bytes ∙ ap (λ n. string_bytes c.args.text.now ++ width_text n) c.from.ensures
