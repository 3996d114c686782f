use Rattle.std.proofs.Common.{◌+◌, ◌*◌, ◌^◌, ◌≤◌, length, refl, sym, subst, w64}
use Rattle.std.proofs.lemmas.Int.{to_z-of_z}
use Rattle.std.specs.Prelude.{unsigned_abs}
use Rattle.least_orders.specs.OrderCosts.{cost_beside}
use Rattle.dual_bound.specs.ShareCosts.{costs_where}
use Rattle.dual_shares.specs.RowSteps.{IsAddedBeside, IsAddedAt, most_where}
use Rattle.dual_shares.proofs.Adding.{nothing_beside}
use Rattle.dual_shares.proofs.Entries.{row_before, beside_where, entries_apart, more_by_nothing, more_twice, not_written}
use Rattle.dual_shares.proofs.shares.add_beside.Goals as goal

pub returns-then-not-so-clause-added : goal.returns-then-not-so-clause-added
returns-then-not-so-clause-added c =
    subst (λ b. IsAddedBeside c.args.lines.now (costs_where b (cost_beside c.args.a c.args.b c.args.amount)) c.args.beside.now c.args.beside.now) (sym c.if-not-so.true)
    (nothing_beside c.args.lines.now (cost_beside c.args.a c.args.b c.args.amount) c.args.beside.now)

pub returns-then-not-so-clause-small : goal.returns-then-not-so-clause-small
returns-then-not-so-clause-small c = more_by_nothing (most_where c.args.so) c.args.beside.now

pub place_of-i-requires : goal.place_of-i-requires
place_of-i-requires c = (c.requires.on c.if-not-so.false).first_on

pub place_of-j-requires : goal.place_of-j-requires
place_of-j-requires c = (c.requires.on c.if-not-so.false).second_on

pub add-requires-clause-small : goal.add-requires-clause-small
add-requires-clause-small c =
    c.requires.small (c.place_of-i.result * length c.args.lines.now + c.place_of-j.result)
    (row_before c.place_of-i.result (length c.args.lines.now) (length c.args.lines.now) c.place_of-j.result c.place_of-i.ensures.known c.place_of-j.ensures.known)

pub add-requires-2-clause-small : goal.add-requires-2-clause-small
add-requires-2-clause-small c =
    let n = length c.args.lines.now in
    let i = c.place_of-i.result in
    let j = c.place_of-j.result in
    subst (λ v. unsigned_abs v ≤ 2 ^ 60)
    (sym (not_written (i * n + j) (j * n + i) c.args.amount c.args.beside.now c.add.new.row
    (subst (λ v. IsAddedAt (c.place_of-i.result * length c.args.lines.now + c.place_of-j.result) v c.args.beside.now c.add.new.row) (to_z-of_z w64 c.args.amount c.ranges.amount) c.add.ensures)
    (entries_apart c.args.lines.now c.args.a c.args.b n i j (c.requires.on c.if-not-so.false) refl c.place_of-i.ensures.place c.place_of-j.ensures.place)))
    (c.requires.small (j * n + i) (row_before j n n i c.place_of-j.ensures.known c.place_of-i.ensures.known))

pub returns-clause-added : goal.returns-clause-added
returns-clause-added c =
    beside_where c.args.lines.now c.args.so c.args.a c.args.b c.args.amount c.args.beside.now c.add.new.row c.add-2.new.row (length c.args.lines.now) c.place_of-i.result c.place_of-j.result
    c.requires.rising c.if-not-so.false (c.requires.on c.if-not-so.false) refl c.place_of-i.ensures.place c.place_of-j.ensures.place
    (subst (λ v. IsAddedAt (c.place_of-i.result * length c.args.lines.now + c.place_of-j.result) v c.args.beside.now c.add.new.row) (to_z-of_z w64 c.args.amount c.ranges.amount) c.add.ensures)
    (subst (λ v. IsAddedAt (c.place_of-j.result * length c.args.lines.now + c.place_of-i.result) v c.add.new.row c.add-2.new.row) (to_z-of_z w64 c.args.amount c.ranges.amount) c.add-2.ensures)

pub returns-clause-small : goal.returns-clause-small
returns-clause-small c =
    let n = length c.args.lines.now in
    let i = c.place_of-i.result in
    let j = c.place_of-j.result in
    more_twice c.args.so (i * n + j) (j * n + i) c.args.amount c.args.beside.now c.add.new.row c.add-2.new.row c.if-not-so.false
    (entries_apart c.args.lines.now c.args.a c.args.b n i j (c.requires.on c.if-not-so.false) refl c.place_of-i.ensures.place c.place_of-j.ensures.place)
    c.requires.amount
    (subst (λ v. IsAddedAt (c.place_of-i.result * length c.args.lines.now + c.place_of-j.result) v c.args.beside.now c.add.new.row) (to_z-of_z w64 c.args.amount c.ranges.amount) c.add.ensures)
    (subst (λ v. IsAddedAt (c.place_of-j.result * length c.args.lines.now + c.place_of-i.result) v c.add.new.row c.add-2.new.row) (to_z-of_z w64 c.args.amount c.ranges.amount) c.add-2.ensures)
