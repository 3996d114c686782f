use Rattle.std.proofs.Common.{◌≡◌, pos, ◌+◌, ◌*◌, ◌+ℤ◌, ◌-ℤ◌, neg_ℤ, w32, to_z, of_z, ap, ◌∙◌, arith}
use Rattle.std.proofs.lemmas.Int.{ints}
use Rattle.start_positions.specs.Cells.{ceil_quotient}
use Rattle.start_positions.proofs.CellLemmas.{same_bounds}
use Rattle.start_positions.proofs.cells.grid_of.Goals as goal

pub returns : goal.returns
returns c =
    let low : to_z w32 (of_z w32 (pos 0 -ℤ to_z w32 (4 + c.root_up.result))) ≡ neg_ℤ (pos (4 + c.root_up.result)) = omega (arith, ints) in
    let right : to_z w32 (of_z w32 (to_z w32 c.lines_of.result +ℤ to_z w32 (4 + c.root_up.result))) ≡ pos (c.lines_of.result + (4 + c.root_up.result)) = omega (arith, ints) in
    let top : to_z w32 (of_z w32 (to_z w32 c.lines_of-2.result +ℤ to_z w32 (4 + c.root_up.result))) ≡ pos (c.lines_of-2.result + (4 + c.root_up.result)) = omega (arith, ints) in
    let margin = c.root_up.ensures.value in
    same_bounds
    (low ∙ ap (λ m. neg_ℤ (pos (4 + m))) margin)
    (right ∙ ap (λ l. pos (l + (4 + c.root_up.result))) c.lines_of.ensures.value ∙ ap (λ m. pos (ceil_quotient (c.args.extents.width * c.args.fineness) c.args.side + (4 + m))) margin)
    (low ∙ ap (λ m. neg_ℤ (pos (4 + m))) margin)
    (top ∙ ap (λ l. pos (l + (4 + c.root_up.result))) c.lines_of-2.ensures.value ∙ ap (λ m. pos (ceil_quotient (c.args.extents.height * c.args.fineness) c.args.side + (4 + m))) margin)
