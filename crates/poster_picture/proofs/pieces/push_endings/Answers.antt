use Rattle.std.proofs.Common.{ℕ, List, string_bytes, get_or, map, refl, arith}
use Rattle.std.specs.List.{flat_map}
use Rattle.map_base.specs.declared.ids.LineId.{LineId}
use Rattle.svg_writer.specs.Picture.{no_line}
use Rattle.poster_rules.specs.Elements.{ending_text}
use Rattle.poster_rules.specs.Posters.{ending_of}
use Rattle.poster_picture.proofs.Writing.{part_more, parts_all}
use Rattle.poster_picture.proofs.pieces.push_endings.Goals as goal

pub loop-line-preserved : goal.loop-line-preserved
loop-line-preserved c =
    let names = c.args.names.now in
    let lines = c.args.lines.now in
    let line = get_or lines c.loop-line.line-index no_line in
    let all : List LineId → List ℕ = λ ls. flat_map (ending_text c.args.step) (map (ending_of names) ls) in
    part_more all lines c.loop-line.line-index no_line (ending_text c.args.step (ending_of names line)) (string_bytes c.loop-line.text) (string_bytes c.push_ending.new.text) _ c.loop-line-test.true refl c.in_ok-push_ending.ensures c.loop-line.invariant

pub returns : goal.returns
returns c =
    let all : List LineId → List ℕ = λ ls. flat_map (ending_text c.args.step) (map (ending_of c.args.names.now) ls) in
    parts_all all c.args.lines.now c.loop-line.line-index (string_bytes c.loop-line.text) _ (omega arith) refl c.loop-line.invariant
