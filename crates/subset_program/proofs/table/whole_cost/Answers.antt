use Rattle.std.proofs.Common.{◌≡◌, ◌<◌, sym, ◌∙◌, ap, arith, w64, Some, None}
use Rattle.std.specs.Option.{option_map}
use Rattle.std.proofs.lemmas.Int.{to_z-of_z, fits_signed_from_abs}
use Rattle.least_orders.specs.declared.choice.Choice.{Choice}
use Rattle.least_orders.specs.Subsets.{rest_cost}
use Rattle.least_orders.proofs.Bounds.{rest_within}
use Rattle.subset_program.specs.PlainRows.{plain_rows}
use Rattle.subset_program.proofs.Walking.{whole_by_choice}
use Rattle.subset_program.proofs.table.whole_cost.Goals as goal

pub returns-in-None : goal.returns-in-None
returns-in-None c =
    let some : 0 < c.args.rows.now.count = omega (arith, c.if-rows-eq0.false) in
    ap (option_map (λ (x : Choice). x.cost)) (sym c.in-None.is ∙ c.choose.ensures) ∙ whole_by_choice (plain_rows c.args.rows.now) c.requires.rows some

pub returns-in-Some : goal.returns-in-Some
returns-in-Some c =
    let some : 0 < c.args.rows.now.count = omega (arith, c.if-rows-eq0.false) in
    let is : Some c.in-Some.choice.cost ≡ rest_cost (plain_rows c.args.rows.now) 0 None =
    ap (option_map (λ (x : Choice). x.cost)) (sym c.in-Some.is ∙ c.choose.ensures) ∙ whole_by_choice (plain_rows c.args.rows.now) c.requires.rows some in
    let small = rest_within (plain_rows c.args.rows.now) c.requires.rows 0 None c.in-Some.choice.cost (sym is) in
    ap Some (to_z-of_z w64 c.in-Some.choice.cost (fits_signed_from_abs w64 c.in-Some.choice.cost (omega (arith, small)))) ∙ is
