use Rattle.std.proofs.Common.{pos, ◌+ℤ◌, ◌-ℤ◌, arith}
use Rattle.std.proofs.lemmas.Int.{ints}
use Rattle.svg_writer.proofs.Hulls.{same_bounds}
use Rattle.label_place.proofs.boxes.wider.Goals as goal

pub returns-clause-value : goal.returns-clause-value
returns-clause-value c =
    let b = c.args.b in
    let by = c.args.by in
    same_bounds _ _ _ _ (b.left -ℤ pos by) (b.right +ℤ pos by) (b.top -ℤ pos by) (b.bottom +ℤ pos by)
    (omega (arith, ints, c.from-by.ensures)) (omega (arith, ints, c.from-by.ensures)) (omega (arith, ints, c.from-by.ensures)) (omega (arith, ints, c.from-by.ensures))
