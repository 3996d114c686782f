use Rattle.std.proofs.Common.{◌≡◌, pos, ◌+ℤ◌, ◌-ℤ◌, ◌*ℤ◌, arith}
use Rattle.std.proofs.lemmas.Int.{ints}
use Rattle.octi_grid.specs.Ways.{east_of, north_of}
use Rattle.octi_grid.proofs.WayLemmas.{east_small, north_small}
use Rattle.label_place.specs.Grids.{south_of}
use Rattle.label_place.proofs.Numbers.{same_corner}
use Rattle.label_place.proofs.strokes.stroke_end.Goals as goal

pub returns-clause-value : goal.returns-clause-value
returns-clause-value c =
    let d = c.args.dir in
    let e = east_small d in
    let n = north_small d in
    let east : c.from.result ≡ east_of d = omega (arith, ints, c.from.ensures, c.east.ensures) in
    let south : c.from-2.result ≡ south_of d = omega (arith, ints, c.from-2.ensures, c.south.ensures) in
    same_corner _ _ (c.args.start.x +ℤ (pos 100 *ℤ east_of d)) (c.args.start.y -ℤ (pos 100 *ℤ north_of d)) (omega (arith, ints)) (omega (arith, ints))

pub returns-clause-small_x : goal.returns-clause-small_x
returns-clause-small_x c =
    let d = c.args.dir in
    let e = east_small d in
    let east : c.from.result ≡ east_of d = omega (arith, ints, c.from.ensures, c.east.ensures) in
    omega (arith, ints)

pub returns-clause-small_y : goal.returns-clause-small_y
returns-clause-small_y c =
    let d = c.args.dir in
    let n = north_small d in
    let south : c.from-2.result ≡ south_of d = omega (arith, ints, c.from-2.ensures, c.south.ensures) in
    omega (arith, ints)
