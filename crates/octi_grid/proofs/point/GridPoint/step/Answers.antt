use Rattle.std.proofs.Common.{◌≡◌, ◌+ℤ◌, w32, to_z, of_z, ◌∙◌, ap, unsigned_abs, arith}
use Rattle.std.proofs.lemmas.Int.{ints}
use Rattle.octi_grid.proofs.WayLemmas.{same_point, east_small, north_small}
use Rattle.octi_grid.proofs.point.GridPoint.step.Goals as goal

pub returns : goal.returns
returns c =
    let e = east_small c.args.dir in
    let n = north_small c.args.dir in
    same_point
    (let h : to_z w32 (of_z w32 (to_z w32 (of_z w32 c.args.self.x) +ℤ to_z w32 (of_z w32 c.east.result))) ≡ c.args.self.x +ℤ c.east.result = omega (arith, ints, ap unsigned_abs c.east.ensures) in h ∙ ap (λ z. c.args.self.x +ℤ z) c.east.ensures)
    (let h : to_z w32 (of_z w32 (to_z w32 (of_z w32 c.args.self.y) +ℤ to_z w32 (of_z w32 c.north.result))) ≡ c.args.self.y +ℤ c.north.result = omega (arith, ints, ap unsigned_abs c.north.ensures) in h ∙ ap (λ z. c.args.self.y +ℤ z) c.north.ensures)
