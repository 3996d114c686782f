use Rattle.std.proofs.Common.{◌++◌, codes, string_bytes, ap, ◌∙◌}
use Rattle.std.specs.Fmt.{decimal}
use Rattle.svg_writer.specs.Elements.{corner_text}
use Rattle.poster_picture.proofs.Writing.{grew7}
use Rattle.poster_picture.proofs.pieces.push_turned.Goals as goal

pub returns : goal.returns
returns c =
    let old = string_bytes c.args.text.now in
    let at = c.args.at in
    let degrees = c.args.degrees.now in
    grew7 _ _ _ _ _ _ _ _ _ _ _ _ _ _ _ c.in_ok-push_str.ensures.bytes c.in_ok-push_corner.ensures c.in_ok-push_str-2.ensures.bytes c.in_ok-push_str-3.ensures.bytes c.in_ok-push_str-4.ensures.bytes c.in_ok-push_natural.ensures c.in_ok-push_str-5.ensures.bytes
    ∙ ap (λ n. old ++ (codes "<text transform=\"translate(" ++ (corner_text at ++ (codes ") rotate(" ++ (degrees ++ (codes ")\" y=\"" ++ (decimal n ++ codes "\""))))))) c.three_tenths.ensures
