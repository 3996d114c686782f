use Rattle.std.proofs.Common.{◌≡◌, ℤ, w64, to_z, of_z, ◌+ℤ◌, ◌-ℤ◌, refl, ◌∙◌, arith}
use Rattle.std.proofs.lemmas.Int.{ints}
use Rattle.eight_sides.specs.Shapes.{around, slanted_length}
use Rattle.eight_sides.proofs.Computed.{around_same, same_shape}
use Rattle.eight_sides.proofs.making.mark_shape.Goals as goal

pub returns-clause-value : goal.returns-clause-value
returns-clause-value c =
    let p = c.args.centre in
    let r = c.args.radius in
    let reach = c.slanted_length-reach.result in
    let x : to_z w64 (of_z w64 p.x) ≡ p.x = omega (arith, ints) in
    let y : to_z w64 (of_z w64 p.y) ≡ p.y = omega (arith, ints) in
    let d : to_z w64 (of_z w64 (to_z w64 (of_z w64 p.x) -ℤ to_z w64 (of_z w64 p.y))) ≡ p.x -ℤ p.y = omega (arith, ints) in
    let s : to_z w64 (of_z w64 (to_z w64 (of_z w64 p.x) +ℤ to_z w64 (of_z w64 p.y))) ≡ p.x +ℤ p.y = omega (arith, ints) in
    same_shape c.around.result c.around-2.result c.around-3.result c.around-4.result
    (around p.x r) (around p.y r) (around (p.x -ℤ p.y) (slanted_length r)) (around (p.x +ℤ p.y) (slanted_length r))
    (c.around.ensures.value ∙ around_same _ p.x r r x refl) (c.around-2.ensures.value ∙ around_same _ p.y r r y refl)
    (c.around-3.ensures.value ∙ around_same _ (p.x -ℤ p.y) reach (slanted_length r) d c.slanted_length-reach.ensures.value)
    (c.around-4.ensures.value ∙ around_same _ (p.x +ℤ p.y) reach (slanted_length r) s c.slanted_length-reach.ensures.value)
