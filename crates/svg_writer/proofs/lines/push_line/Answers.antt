use Rattle.std.proofs.Common.{◌≡◌, ◌++◌, ℕ, ℤ, List, length, string_bytes, sym, subst, ap, ◌∙◌, w32, to_z, of_z, arith}
use Rattle.std.specs.Prelude.{slice_index_or}
use Rattle.std.proofs.lemmas.Int.{ints}
use Rattle.line_offsets.specs.declared.corner.Corner.{Corner}
use Rattle.svg_writer.specs.Courses.{gauge}
use Rattle.svg_writer.specs.Elements.{OnSegment, element_text}
use Rattle.svg_writer.specs.Picture.{colour_of, no_line}
use Rattle.svg_writer.proofs.lines.push_line.Goals as goal

pub put_line-requires : goal.put_line-requires
put_line-requires g c =
    let kept : to_z w32 (of_z w32 c.in_ok-k.k) ≡ c.in_ok-k.k = omega (arith, ints, c.in_ok-k.ensures.small) in
    subst (g.D.Drawn.Reaches c.args.scene.now.drawn.now) (sym (kept ∙ c.in_ok-k.ensures.value)) c.requires.reach

pub returns : goal.returns
returns g c =
    let style = c.args.scene.now.style in
    let names = c.args.scene.now.names.now in
    let drawn = g.D.Drawn.courses c.args.scene.now.drawn.now in
    let s = c.args.s in
    let line = slice_index_or c.args.order.now c.args.i no_line in
    let old = string_bytes c.args.text.now in
    let kept : to_z w32 (of_z w32 c.in_ok-k.k) ≡ c.in_ok-k.k = omega (arith, ints, c.in_ok-k.ensures.small) in
    let path : c.as_slice.result.now ≡ drawn.path s (gauge (length c.args.order.now) c.args.i) =
    c.as_slice.ensures.value ∙ c.in_ok-put_line.ensures ∙ ap (λ (k : ℤ). drawn.path s k) (kept ∙ c.in_ok-k.ensures.value) in
    c.in_ok-push_on_segment.ensures
    ∙ ap (λ (corners : List Corner). old ++ element_text style (OnSegment s line.0 corners c.colour_of.result.now c.name_of.result.now)) path
    ∙ ap (λ (colour : List ℕ). old ++ element_text style (OnSegment s line.0 (drawn.path s (gauge (length c.args.order.now) c.args.i)) colour c.name_of.result.now)) c.colour_of.ensures
    ∙ ap (λ (name : List ℕ). old ++ element_text style (OnSegment s line.0 (drawn.path s (gauge (length c.args.order.now) c.args.i)) (colour_of names line) name)) c.name_of.ensures
