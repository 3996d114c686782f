use Rattle.std.proofs.Common.{List, ◌++◌, string_bytes, get_or, ap, sym, ◌∙◌, append-nil, arith}
use Rattle.std.proofs.lemmas.List.{at_drop_all}
use Rattle.line_offsets.specs.declared.corner.Corner.{Corner}
use Rattle.map_base.specs.declared.ids.LineId.{LineId}
use Rattle.poster_rules.specs.Elements.{texts}
use Rattle.poster_rules.specs.Posters.{row_elements, rows_from}
use Rattle.svg_writer.specs.Picture.{no_line}
use Rattle.poster_picture.proofs.Lining.{row_more}
use Rattle.poster_picture.proofs.rows.push_rows.Goals as goal

pub loop-i-preserved : goal.loop-i-preserved
loop-i-preserved c =
    let names = c.args.names.now in
    let lines = c.args.lines.now in
    let i = c.loop-i.i in
    row_more names c.args.legend i lines (string_bytes c.loop-i.text) (string_bytes c.push_row.new.text) _ c.loop-i-test.true
    (c.in_ok-push_row.ensures ∙ ap (λ (p : Corner). string_bytes c.loop-i.text ++ texts (row_elements names p (get_or lines i no_line))) c.row_at.ensures.value)
    c.loop-i.invariant

pub returns : goal.returns
returns c =
    sym (append-nil (string_bytes c.loop-i.text))
    ∙ sym (at_drop_all (λ (ls : List LineId). string_bytes c.loop-i.text ++ texts (rows_from c.args.names.now c.args.legend c.loop-i.i ls)) c.args.lines.now c.loop-i.i (omega arith))
    ∙ c.loop-i.invariant
