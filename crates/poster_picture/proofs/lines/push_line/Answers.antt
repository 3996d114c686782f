use Rattle.std.proofs.Common.{◌≡◌, ◌++◌, ℕ, ℤ, List, length, string_bytes, ap, ◌∙◌, w32, to_z, of_z, arith}
use Rattle.std.specs.Prelude.{slice_index_or}
use Rattle.std.proofs.lemmas.Int.{ints}
use Rattle.line_offsets.specs.declared.corner.Corner.{Corner}
use Rattle.line_offsets.specs.Paths.{line_path_at}
use Rattle.svg_writer.specs.Picture.{colour_of, no_line, walk_at}
use Rattle.poster_rules.specs.Elements.{BehindOnSegment, OnSegment, texts}
use Rattle.poster_rules.specs.Posters.{path_on, with_behind}
use Rattle.poster_picture.specs.Sheets.{plain}
use Rattle.poster_picture.proofs.lines.push_line.Goals as goal

pub returns : goal.returns
returns c =
    let sheet = plain c.args.sheet in
    let names = sheet.names in
    let s = c.args.s in
    let n = length c.args.order.now in
    let line = slice_index_or c.args.order.now c.args.i no_line in
    let old = string_bytes c.args.text.now in
    let kept : to_z w32 (of_z w32 c.in_ok-k.k) ≡ c.in_ok-k.k = omega (arith, ints, c.in_ok-k.ensures.small) in
    let path : c.as_slice.result.now ≡ path_on sheet s n c.args.i =
    c.as_slice.ensures.value ∙ c.in_ok-put_line.ensures ∙ ap (λ (k : ℤ). line_path_at sheet.pitch (walk_at sheet.walks s) k) (kept ∙ c.in_ok-k.ensures.value) in
    c.in_ok-push_on.ensures
    ∙ ap (λ (p : List Corner). old ++ texts (with_behind c.colour_of.result.now (BehindOnSegment s line.0 p) (OnSegment s line.0 p c.colour_of.result.now c.name_of.result.now))) path
    ∙ ap (λ (colour : List ℕ). old ++ texts (with_behind colour (BehindOnSegment s line.0 (path_on sheet s n c.args.i)) (OnSegment s line.0 (path_on sheet s n c.args.i) colour c.name_of.result.now))) c.colour_of.ensures
    ∙ ap (λ (name : List ℕ). old ++ texts (with_behind (colour_of names line) (BehindOnSegment s line.0 (path_on sheet s n c.args.i)) (OnSegment s line.0 (path_on sheet s n c.args.i) (colour_of names line) name))) c.name_of.ensures
