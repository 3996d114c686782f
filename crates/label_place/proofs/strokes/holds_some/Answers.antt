use Rattle.std.proofs.Common.{w32, to_z, of_z, ◌∙◌, arith}
use Rattle.std.proofs.lemmas.Int.{ints}
use Rattle.octi_grid.specs.Ways.{east_of}
use Rattle.octi_grid.proofs.WayLemmas.{east_small, north_small}
use Rattle.label_place.specs.Grids.{south_of, times}
use Rattle.label_place.proofs.Numbers.{kept, some_time_same, times_same}
use Rattle.label_place.proofs.Timing.{held_some}
use Rattle.label_place.proofs.strokes.holds_some.Goals as goal

pub returns : goal.returns
returns c =
    let b = c.args.b in
    let p = c.args.start in
    let d = c.args.dir in
    let e = east_small d in
    let n = north_small d in
    c.some_time.ensures
    ∙ some_time_same c.times_within-across.result c.times_within-down.result (times p.x (east_of d) b.left b.right) (times p.y (south_of d) b.top b.bottom)
    (c.times_within-across.ensures.value
    ∙ times_same (kept p.x) (to_z w32 (of_z w32 c.east.result)) (kept b.left) (kept b.right) p.x (east_of d) b.left b.right (omega (arith, ints)) (omega (arith, ints, c.east.ensures)) (omega (arith, ints)) (omega (arith, ints)))
    (c.times_within-down.ensures.value
    ∙ times_same (kept p.y) (to_z w32 (of_z w32 c.south.result)) (kept b.top) (kept b.bottom) p.y (south_of d) b.top b.bottom (omega (arith, ints)) (omega (arith, ints, c.south.ensures)) (omega (arith, ints)) (omega (arith, ints)))
    ∙ held_some b p d
