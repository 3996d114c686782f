use Rattle.std.proofs.Common.{string_bytes, get_or, codes, ◌++◌, refl, arith}
use Rattle.std.specs.Fmt.{decimal}
use Rattle.svg_writer.specs.Picture.{no_line}
use Rattle.poster_rules.specs.Elements.{classes_text}
use Rattle.poster_picture.proofs.Writing.{part_more, parts_all}
use Rattle.poster_picture.proofs.pieces.push_classes.Goals as goal

pub loop-line-preserved : goal.loop-line-preserved
loop-line-preserved c =
    let lines = c.args.lines.now in
    let line = get_or lines c.loop-line.line-index no_line in
    part_more classes_text lines c.loop-line.line-index no_line (codes " l" ++ decimal line.0) (string_bytes c.loop-line.text) (string_bytes c.push_class.new.text) _ c.loop-line-test.true refl c.in_ok-push_class.ensures c.loop-line.invariant

pub returns : goal.returns
returns c = parts_all classes_text c.args.lines.now c.loop-line.line-index (string_bytes c.loop-line.text) _ (omega arith) refl c.loop-line.invariant
