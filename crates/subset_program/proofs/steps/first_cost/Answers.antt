use Rattle.std.proofs.Common.{◌≡◌, ◌+◌, true, false, sym, ◌∙◌, ap, subst, arith, rules, w64, to_z, of_z}
use Rattle.std.proofs.lemmas.Int.{to_z-of_z}
use Rattle.least_orders.specs.Subsets.{has_place, with_place, is_ready}
use Rattle.least_orders.proofs.Sets.{with_same}
use Rattle.subset_program.specs.PlainRows.{plain_rows}
use Rattle.subset_program.specs.Tables.{read, HasTails, tail_cost}
use Rattle.subset_program.proofs.Places.{more_than, still_within}
use Rattle.subset_program.proofs.Filling.{fewer}
use Rattle.subset_program.proofs.Firsts.{first_there}
use Rattle.subset_program.proofs.steps.first_cost.Goals as goal

pub tail_at-requires-clause-set : goal.tail_at-requires-clause-set
tail_at-requires-clause-set c =
    let below = still_within c.args.set c.args.k c.args.rows.now.count c.requires.set c.requires.known in
    omega (arith, below, c.with_place-more.ensures)

pub tail_at-requires-clause-there : goal.tail_at-requires-clause-there
tail_at-requires-clause-there c = ap (λ s. has_place s c.args.k) c.with_place-more.ensures ∙ with_same c.args.set c.args.k

pub tail_at-requires-clause-table : goal.tail_at-requires-clause-table
tail_at-requires-clause-table c =
    let free : has_place c.args.set c.args.k ≡ false = sym c.has_place.ensures ∙ c.if-has_place.false in
    let above = more_than c.args.set c.args.k free in
    subst (λ s. HasTails (plain_rows c.args.rows.now) s c.args.tails.now) (sym c.with_place-more.ensures)
    (fewer (plain_rows c.args.rows.now) (c.args.set + 1) (with_place c.args.set c.args.k) c.args.tails.now (omega (arith, above)) c.requires.table)

pub returns : goal.returns
returns c =
    let free : has_place c.args.set c.args.k ≡ false = sym c.has_place.ensures ∙ c.if-has_place.false in
    let ready : is_ready (plain_rows c.args.rows.now) c.args.set c.args.k ≡ true = sym c.is_ready.ensures ∙ c.if-not-is_ready.false in
    let same : to_z w64 (of_z w64 c.tail_at.result.cost) ≡ c.tail_at.result.cost = to_z-of_z w64 c.tail_at.result.cost (search rules) in
    c.read.ensures
    ∙ (ap read same
    ∙ (c.tail_at.ensures.at_least
    ∙ (ap (λ s. tail_cost (plain_rows c.args.rows.now) s c.args.k) c.with_place-more.ensures ∙ first_there (plain_rows c.args.rows.now) c.args.set c.args.k free ready)))
