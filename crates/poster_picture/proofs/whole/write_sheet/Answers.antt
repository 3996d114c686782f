use Rattle.std.proofs.Common.{◌≡◌, ℕ, List, ◌++◌, length, string_bytes, ap, ◌∙◌, arith}
use Rattle.map_base.specs.declared.ids.LineId.{LineId}
use Rattle.poster_rules.specs.Elements.{texts}
use Rattle.poster_rules.specs.Plans.{lines_shown, widest}
use Rattle.poster_picture.specs.Parts.{legend_part}
use Rattle.poster_picture.specs.Sheets.{plain}
use Rattle.poster_picture.proofs.Wholes.{sheet_written}
use Rattle.poster_picture.proofs.whole.write_sheet.Goals as goal

pub returns : goal.returns
returns c =
    let sheet = plain c.args.sheet in
    let lines = c.in_ok-lines.lines.items in
    let made : c.into_bytes.result.items ≡ string_bytes c.push_end.new.text = ap (λ v. v.items) c.into_bytes.ensures.value in
    made
    ∙ sheet_written sheet c.args.plan.now c.args.printed.now lines (lines_shown (length sheet.names.lines) sheet.graph) c.len-count.result c.in_ok-widest.widest c.legend_of-legend.result c.frame_beside-frame.result c.frame_with-map.result
    (string_bytes c.new-text.result) (string_bytes c.push_map.new.text) (string_bytes c.push_names.new.text) (string_bytes c.push_end.new.text)
    (c.in_ok-lines.ensures ∙ ap (λ (n : ℕ). lines_shown n sheet.graph) (ap length c.as_slice.ensures)) (omega arith) (c.in_ok-widest.ensures.value ∙ ap (widest sheet.names) c.as_slice-2.ensures.value) c.legend_of-legend.ensures.value
    c.frame_with-map.ensures.value c.frame_beside-frame.ensures.value c.new-text.ensures.bytes c.in_ok-push_map.ensures c.in_ok-push_names.ensures
    (c.in_ok-push_end.ensures ∙ ap (λ (ls : List LineId). string_bytes c.push_names.new.text ++ texts (legend_part sheet.names c.legend_of-legend.result ls)) c.as_slice-3.ensures.value)
