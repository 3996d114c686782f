use Rattle.std.proofs.Common.{◌≡◌, ℤ, w64, to_z, of_z, ◌+ℤ◌, ◌-ℤ◌, refl, ◌∙◌, arith}
use Rattle.std.proofs.lemmas.Int.{ints}
use Rattle.eight_sides.specs.Shapes.{between, piece_reach}
use Rattle.eight_sides.proofs.Computed.{between_same, same_shape}
use Rattle.eight_sides.proofs.making.piece_shape.Goals as goal

pub returns-clause-value : goal.returns-clause-value
returns-clause-value c =
    let a = c.args.a in
    let b = c.args.b in
    let h = c.args.half in
    let reach = c.piece_reach-reach.result in
    let far = piece_reach a b h in
    let ax : to_z w64 (of_z w64 a.x) ≡ a.x = omega (arith, ints) in
    let ay : to_z w64 (of_z w64 a.y) ≡ a.y = omega (arith, ints) in
    let bx : to_z w64 (of_z w64 b.x) ≡ b.x = omega (arith, ints) in
    let by : to_z w64 (of_z w64 b.y) ≡ b.y = omega (arith, ints) in
    let ad : to_z w64 (of_z w64 (to_z w64 (of_z w64 a.x) -ℤ to_z w64 (of_z w64 a.y))) ≡ a.x -ℤ a.y = omega (arith, ints) in
    let bd : to_z w64 (of_z w64 (to_z w64 (of_z w64 b.x) -ℤ to_z w64 (of_z w64 b.y))) ≡ b.x -ℤ b.y = omega (arith, ints) in
    let as_sum : to_z w64 (of_z w64 (to_z w64 (of_z w64 a.x) +ℤ to_z w64 (of_z w64 a.y))) ≡ a.x +ℤ a.y = omega (arith, ints) in
    let bs : to_z w64 (of_z w64 (to_z w64 (of_z w64 b.x) +ℤ to_z w64 (of_z w64 b.y))) ≡ b.x +ℤ b.y = omega (arith, ints) in
    same_shape c.between.result c.between-2.result c.between-3.result c.between-4.result
    (between a.x b.x h) (between a.y b.y h) (between (a.x -ℤ a.y) (b.x -ℤ b.y) far) (between (a.x +ℤ a.y) (b.x +ℤ b.y) far)
    (c.between.ensures.value ∙ between_same _ _ a.x b.x h h ax bx refl) (c.between-2.ensures.value ∙ between_same _ _ a.y b.y h h ay by refl)
    (c.between-3.ensures.value ∙ between_same _ _ (a.x -ℤ a.y) (b.x -ℤ b.y) reach far ad bd c.piece_reach-reach.ensures.value)
    (c.between-4.ensures.value ∙ between_same _ _ (a.x +ℤ a.y) (b.x +ℤ b.y) reach far as_sum bs c.piece_reach-reach.ensures.value)
