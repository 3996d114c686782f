use Rattle.std.proofs.Common.{◌≡◌, sym, ◌∙◌, ap, arith, w64, to_z, of_z, Some}
use Rattle.std.proofs.lemmas.Int.{to_z-of_z, fits_signed_from_abs}
use Rattle.subset_program.specs.PlainRows.{plain_rows}
use Rattle.subset_program.proofs.Tails.{first_small}
use Rattle.subset_program.proofs.Heads.{heads_same, heads_more}
use Rattle.subset_program.proofs.steps.put_head.Goals as goal

pub returns-in-None : goal.returns-in-None
returns-in-None c =
    heads_same (plain_rows c.args.rows.now) c.args.set c.args.k c.args.many c.args.heads.now c.requires.known c.requires.heads (sym c.in-None.is ∙ c.first_cost.ensures)

pub returns-in-Some : goal.returns-in-Some
returns-in-Some c =
    let is = sym c.in-Some.is ∙ c.first_cost.ensures in
    let small = first_small (plain_rows c.args.rows.now) c.requires.rows c.args.set c.args.k c.in-Some.cost (sym is) in
    let same : to_z w64 (of_z w64 c.in-Some.cost) ≡ c.in-Some.cost = to_z-of_z w64 c.in-Some.cost (fits_signed_from_abs w64 c.in-Some.cost (omega (arith, small))) in
    heads_more (plain_rows c.args.rows.now) c.requires.rows c.args.set c.args.k c.args.many c.args.heads.now (to_z w64 (of_z w64 c.in-Some.cost)) c.requires.known c.requires.each c.requires.heads
    (ap Some same ∙ is)
