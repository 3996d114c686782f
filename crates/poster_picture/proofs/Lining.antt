-- Lines of a segment, one after another.
use Rattle.std.proofs.Common.{◌≡◌, ℕ, ◌+◌, ◌<◌, List, ◌++◌, length, get_or, drop, ap, sym, ◌∙◌, append_assoc}
use Rattle.std.proofs.lemmas.List.{drop_more}
use Rattle.map_base.specs.declared.ids.LineId.{LineId}
use Rattle.svg_writer.specs.Picture.{no_line}
use Rattle.svg_writer.specs.declared.names.Names.{Names}
use Rattle.poster_plan.specs.declared.layout.Legend.{Legend}
use Rattle.poster_plan.specs.Legends.{row_at}
use Rattle.poster_rules.specs.Elements.{texts}
use Rattle.poster_rules.specs.Posters.{line_elements, row_elements, rows_from, Sheet}
use Rattle.poster_picture.specs.Parts.{line_at}
use Rattle.poster_picture.proofs.Writing.{texts-append}

-- one line more
pub line_more : (sheet : Sheet) (s n i : ℕ) (order : List LineId) (before after whole : List ℕ) → i < length order → after ≡ before ++ texts (line_at sheet s n i (get_or order i no_line))
    → before ++ texts (line_elements sheet s n i (drop i order)) ≡ whole → after ++ texts (line_elements sheet s n (i + 1) (drop (i + 1) order)) ≡ whole
line_more sheet s n i order before after whole low grew all =
    let l = get_or order i no_line in
    let rest = line_elements sheet s n (i + 1) (drop (i + 1) order) in
    ap (λ (bytes : List ℕ). bytes ++ texts rest) grew
    ∙ append_assoc before (texts (line_at sheet s n i l)) (texts rest)
    ∙ ap (λ (bytes : List ℕ). before ++ bytes) (sym (texts-append (line_at sheet s n i l) rest))
    ∙ sym (ap (λ (ls : List LineId). before ++ texts (line_elements sheet s n i ls)) (drop_more order i no_line low))
    ∙ all

-- one row more
pub row_more : (names : Names) (legend : Legend) (i : ℕ) (lines : List LineId) (before after whole : List ℕ) → i < length lines → after ≡ before ++ texts (row_elements names (row_at legend i) (get_or lines i no_line))
    → before ++ texts (rows_from names legend i (drop i lines)) ≡ whole → after ++ texts (rows_from names legend (i + 1) (drop (i + 1) lines)) ≡ whole
row_more names legend i lines before after whole low grew all =
    let row = row_elements names (row_at legend i) (get_or lines i no_line) in
    let rest = rows_from names legend (i + 1) (drop (i + 1) lines) in
    ap (λ (bytes : List ℕ). bytes ++ texts rest) grew
    ∙ append_assoc before (texts row) (texts rest)
    ∙ ap (λ (bytes : List ℕ). before ++ bytes) (sym (texts-append row rest))
    ∙ sym (ap (λ (ls : List LineId). before ++ texts (rows_from names legend i ls)) (drop_more lines i no_line low))
    ∙ all
