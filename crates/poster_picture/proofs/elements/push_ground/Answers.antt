use Rattle.std.proofs.Common.{◌≡◌, ℤ, ◌++◌, string_bytes, ap, ◌∙◌, w64, to_z, of_z, arith}
use Rattle.std.proofs.lemmas.Int.{ints}
use Rattle.line_offsets.specs.declared.corner.Corner.{Corner}
use Rattle.poster_rules.specs.Elements.{view_place}
use Rattle.poster_picture.proofs.Writing.{ground_text, grew7}
use Rattle.poster_picture.proofs.elements.push_ground.Goals as goal

pub returns : goal.returns
returns c =
    let old = string_bytes c.args.text.now in
    let size = c.view_size-size.result in
    let wide : to_z w64 (of_z w64 size.x) ≡ size.x = omega (arith, ints, ap (λ (p : Corner). p.x) c.view_size-size.ensures, c.requires.left, c.requires.right) in
    let high : to_z w64 (of_z w64 size.y) ≡ size.y = omega (arith, ints, ap (λ (p : Corner). p.y) c.view_size-size.ensures, c.requires.top, c.requires.bottom) in
    grew7 _ _ _ _ _ _ _ _ _ _ _ _ _ _ _ c.in_ok-push_str.ensures.bytes c.in_ok-push_place.ensures c.in_ok-push_str-2.ensures.bytes c.in_ok-push_integer.ensures c.in_ok-push_str-3.ensures.bytes c.in_ok-push_integer-2.ensures c.in_ok-push_str-4.ensures.bytes
    ∙ ap (λ (z : ℤ). old ++ ground_text c.view_place.result (record { x = z; y = to_z w64 (of_z w64 size.y) })) wide
    ∙ ap (λ (z : ℤ). old ++ ground_text c.view_place.result (record { x = size.x; y = z })) high
    ∙ ap (λ (p : Corner). old ++ ground_text p size) c.view_place.ensures
    ∙ ap (λ (p : Corner). old ++ ground_text (view_place c.args.frame) p) c.view_size-size.ensures
