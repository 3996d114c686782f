use Rattle.std.proofs.Common.{◌≡◌, pos, w32, to_z, of_z, sym, ◌∙◌, arith}
use Rattle.std.proofs.lemmas.Int.{ints}
use Rattle.octi_grid.proofs.WayLemmas.{after-replicate, moved_same, same_point}
use Rattle.octi_grid.proofs.runs.run_end.Goals as goal

pub returns : goal.returns
returns c =
    let count : to_z w32 c.args.run.count ≡ pos c.args.run.count = omega (arith, ints) in
    let x : to_z w32 (of_z w32 c.args.at.x) ≡ c.args.at.x = omega (arith, ints) in
    let y : to_z w32 (of_z w32 c.args.at.y) ≡ c.args.at.y = omega (arith, ints) in
    let east : to_z w32 (of_z w32 c.east.result) ≡ c.east.result = omega (arith, ints) in
    let north : to_z w32 (of_z w32 c.north.result) ≡ c.north.result = omega (arith, ints) in
    let x_end : to_z w32 (of_z w32 c.moved.result) ≡ c.moved.result = omega (arith, ints) in
    let y_end : to_z w32 (of_z w32 c.moved-2.result) ≡ c.moved-2.result = omega (arith, ints) in
    same_point
    (x_end ∙ moved_same _ _ _ _ _ _ _ c.moved.ensures x (east ∙ c.east.ensures) count)
    (y_end ∙ moved_same _ _ _ _ _ _ _ c.moved-2.ensures y (north ∙ c.north.ensures) count)
    ∙ sym (after-replicate c.args.at c.args.run.count c.args.run.dir)
