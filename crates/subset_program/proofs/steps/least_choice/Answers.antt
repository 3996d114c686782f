use Rattle.std.proofs.Common.{◌≡◌, ◌∙◌, ap, cond, arith, w64, to_z, of_z, FitsSigned, Some, int_lt}
use Rattle.std.specs.Option.{option_map}
use Rattle.std.proofs.lemmas.Int.{to_z-of_z, fits_signed_from_abs}
use Rattle.least_orders.specs.declared.choice.Choice.{Choice}
use Rattle.least_orders.specs.Subsets.{better_choice}
use Rattle.subset_program.specs.PlainRows.{plain_rows}
use Rattle.subset_program.specs.Tables.{read, best_head}
use Rattle.subset_program.proofs.Heads.{least_step, best_more}
use Rattle.subset_program.proofs.steps.least_choice.Goals as goal

pub loop-i-preserved : goal.loop-i-preserved
loop-i-preserved c =
    let fits : FitsSigned w64 c.lesser-least.result = record { sfits = c.lesser-least.type_inv } in
    let value : to_z w64 (of_z w64 c.lesser-least.result) ≡ c.lesser-least.result = to_z-of_z w64 c.lesser-least.result fits in
    let one : to_z w64 (of_z w64 c.behind.result.cost) ≡ c.behind.result.cost = to_z-of_z w64 c.behind.result.cost (fits_signed_from_abs w64 c.behind.result.cost (let small = c.behind.ensures.small in omega (arith, small))) in
    let chosen : c.lesser-least.result ≡ cond (int_lt (to_z w64 c.loop-i.least-bits) c.behind.result.cost) (to_z w64 c.loop-i.least-bits) c.behind.result.cost =
    c.lesser-least.ensures ∙ ap (λ v. cond (int_lt (to_z w64 c.loop-i.least-bits) v) (to_z w64 c.loop-i.least-bits) v) one in
    ap read value
    ∙ (ap read chosen
    ∙ (least_step c.behind.result (best_head (plain_rows c.args.rows.now) (Some c.args.last) c.args.heads.now c.loop-i.i) (to_z w64 c.loop-i.least-bits) c.behind.ensures.small c.loop-i.invariant
    ∙ ap (option_map (λ (x : Choice). x.cost))
    (ap (λ x. better_choice x (best_head (plain_rows c.args.rows.now) (Some c.args.last) c.args.heads.now c.loop-i.i)) c.behind.ensures.value
    ∙ best_more (plain_rows c.args.rows.now) (Some c.args.last) c.args.heads.now c.loop-i.i)))
