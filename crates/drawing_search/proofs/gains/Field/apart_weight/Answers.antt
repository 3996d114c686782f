use Rattle.std.proofs.Common.{get_or, arith}
use Rattle.segment_router.proofs.SettledLemmas.{nowhere}
use Rattle.drawing_search.proofs.RunReads.{near_x, near_y}
use Rattle.drawing_search.proofs.gains.Field.apart_weight.Goals as goal

pub apart_weight-requires-clause-first_x : goal.apart_weight-requires-clause-first_x
apart_weight-requires-clause-first_x c =
    let f = c.args.self in
    let near = near_x 1920 (get_or f.first.now c.args.n.0 nowhere) (c.requires.field.near c.args.n.0 nowhere (omega (arith, c.requires.field.first, c.requires.node))) in
    omega (arith, near)

pub apart_weight-requires-clause-first_y : goal.apart_weight-requires-clause-first_y
apart_weight-requires-clause-first_y c =
    let f = c.args.self in
    let near = near_y 1920 (get_or f.first.now c.args.n.0 nowhere) (c.requires.field.near c.args.n.0 nowhere (omega (arith, c.requires.field.first, c.requires.node))) in
    omega (arith, near)

pub apart_weight-requires-clause-x : goal.apart_weight-requires-clause-x
apart_weight-requires-clause-x c = near_x 2000 c.args.here c.requires.near

pub apart_weight-requires-clause-y : goal.apart_weight-requires-clause-y
apart_weight-requires-clause-y c = near_y 2000 c.args.here c.requires.near
