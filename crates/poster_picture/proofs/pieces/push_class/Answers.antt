use Rattle.std.proofs.Common.{◌++◌, codes, string_bytes, ap, ◌∙◌}
use Rattle.std.specs.Fmt.{decimal}
use Rattle.svg_writer.proofs.Appends.{grew2}
use Rattle.poster_picture.proofs.pieces.push_class.Goals as goal

pub returns : goal.returns
returns c =
    grew2 _ _ _ _ _ c.in_ok-push_str.ensures.bytes c.in_ok-push_natural.ensures ∙ ap (λ n. string_bytes c.args.text.now ++ (codes " l" ++ decimal n)) c.from.ensures
