use Rattle.std.proofs.Common.{◌≡◌, ◌+◌, ◌<◌, ◌≤◌, sym, ◌∙◌, ap, subst, arith, w64, to_z, of_z, FitsSigned}
use Rattle.std.specs.Prelude.{unsigned_abs}
use Rattle.std.proofs.lemmas.Int.{ints, to_z-of_z, fits_signed_from_abs}
use Rattle.least_orders.specs.Subsets.{has_place, with_place, before_left}
use Rattle.least_orders.proofs.Bounds.{before_left_within}
use Rattle.subset_program.specs.PlainRows.{plain_rows}
use Rattle.subset_program.specs.Tables.{HasTails}
use Rattle.subset_program.proofs.Places.{more_than, still_within, still_there}
use Rattle.subset_program.proofs.Filling.{fewer}
use Rattle.subset_program.proofs.Firsts.{left_none, left_more}
use Rattle.subset_program.proofs.table.left_at.Goals as goal

pub returns-then-free-rows : goal.returns-then-free-rows
returns-then-free-rows c = left_none (plain_rows c.args.rows.now) c.args.set c.args.last c.args.free c.requires.free c.if-free-rows.true

pub tail_at-behind-requires-clause-set : goal.tail_at-behind-requires-clause-set
tail_at-behind-requires-clause-set c =
    let below : c.args.free < c.args.rows.now.count = omega (arith, c.requires.free.most, c.if-free-rows.false) in
    let within = still_within c.args.set c.args.free c.args.rows.now.count c.requires.set below in
    omega (arith, within, c.with_place-more.ensures)

pub tail_at-behind-requires-clause-there : goal.tail_at-behind-requires-clause-there
tail_at-behind-requires-clause-there c =
    let below : c.args.free < c.args.rows.now.count = omega (arith, c.requires.free.most, c.if-free-rows.false) in
    ap (λ s. has_place s c.args.last) c.with_place-more.ensures ∙ still_there c.args.set c.args.rows.now.count c.args.free c.args.last c.requires.free below c.requires.there

pub tail_at-behind-requires-clause-table : goal.tail_at-behind-requires-clause-table
tail_at-behind-requires-clause-table c =
    let below : c.args.free < c.args.rows.now.count = omega (arith, c.requires.free.most, c.if-free-rows.false) in
    let above = more_than c.args.set c.args.free (c.requires.free.here below) in
    subst (λ s. HasTails (plain_rows c.args.rows.now) s c.args.tails.now) (sym c.with_place-more.ensures)
    (fewer (plain_rows c.args.rows.now) (c.args.set + 1) (with_place c.args.set c.args.free) c.args.tails.now (omega (arith, above)) c.requires.table)

pub sum-requires-clause-b_within : goal.sum-requires-clause-b_within
sum-requires-clause-b_within c =
    let small : unsigned_abs c.tail_at-behind.result.left ≤ 32000000000000000 =
    subst (λ v. unsigned_abs v ≤ 32000000000000000) (sym c.tail_at-behind.ensures.with_left) (before_left_within (plain_rows c.args.rows.now) c.requires.rows c.with_place-more.result c.args.last) in
    rw (to_z-of_z w64 c.tail_at-behind.result.left (fits_signed_from_abs w64 c.tail_at-behind.result.left (omega (arith, small)))) (omega (arith, small))

pub returns : goal.returns
returns c =
    let below : c.args.free < c.args.rows.now.count = omega (arith, c.requires.free.most, c.if-free-rows.false) in
    let small : unsigned_abs c.tail_at-behind.result.left ≤ 32000000000000000 =
    subst (λ v. unsigned_abs v ≤ 32000000000000000) (sym c.tail_at-behind.ensures.with_left) (before_left_within (plain_rows c.args.rows.now) c.requires.rows c.with_place-more.result c.args.last) in
    let fits : FitsSigned w64 c.sum.result = record { sfits = c.sum.type_inv } in
    let value : to_z w64 (of_z w64 c.sum.result) ≡ c.sum.result = to_z-of_z w64 c.sum.result fits in
    let fits_one : FitsSigned w64 c.before_at.result = record { sfits = c.before_at.type_inv } in
    let one : to_z w64 (of_z w64 c.before_at.result) ≡ c.before_at.result = to_z-of_z w64 c.before_at.result fits_one in
    let two : to_z w64 (of_z w64 c.tail_at-behind.result.left) ≡ c.tail_at-behind.result.left =
    to_z-of_z w64 c.tail_at-behind.result.left (fits_signed_from_abs w64 c.tail_at-behind.result.left (omega (arith, small))) in
    let behind : c.tail_at-behind.result.left ≡ before_left (plain_rows c.args.rows.now) (with_place c.args.set c.args.free) c.args.last =
    c.tail_at-behind.ensures.with_left ∙ ap (λ s. before_left (plain_rows c.args.rows.now) s c.args.last) c.with_place-more.ensures in
    let all = left_more (plain_rows c.args.rows.now) c.args.set c.args.last c.args.free c.requires.free below in
    omega (arith, ints, value, one, two, c.sum.ensures, c.before_at.ensures.value, behind, all)
