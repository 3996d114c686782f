use Rattle.std.proofs.Common.{pos, ◌+ℤ◌, ◌-ℤ◌, arith}
use Rattle.std.proofs.lemmas.Int.{ints}
use Rattle.svg_writer.proofs.Hulls.{same_bounds}
use Rattle.label_place.proofs.boxes.square.Goals as goal

pub returns-clause-value : goal.returns-clause-value
returns-clause-value c =
    let p = c.args.centre in
    let r = c.args.radius in
    same_bounds _ _ _ _ (p.x -ℤ pos r) (p.x +ℤ pos r) (p.y -ℤ pos r) (p.y +ℤ pos r)
    (omega (arith, ints, c.from-radius.ensures)) (omega (arith, ints, c.from-radius.ensures)) (omega (arith, ints, c.from-radius.ensures)) (omega (arith, ints, c.from-radius.ensures))
