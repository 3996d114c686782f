use Rattle.std.proofs.Common.{◌+◌, ◌*◌, length, refl, sym, subst, w64}
use Rattle.std.proofs.lemmas.Int.{to_z-of_z}
use Rattle.least_orders.specs.OrderCosts.{cost_before}
use Rattle.dual_bound.specs.ShareCosts.{costs_where}
use Rattle.dual_shares.specs.RowSteps.{IsAddedBefore, IsAddedAt, most_where}
use Rattle.dual_shares.proofs.Adding.{nothing_before}
use Rattle.dual_shares.proofs.Entries.{row_before, before_where, more_by_nothing, more_where}
use Rattle.dual_shares.proofs.shares.add_before.Goals as goal

pub returns-then-not-so-clause-added : goal.returns-then-not-so-clause-added
returns-then-not-so-clause-added c =
    subst (λ b. IsAddedBefore c.args.lines.now (costs_where b (cost_before c.args.first c.args.second c.args.amount)) c.args.before.now c.args.before.now) (sym c.if-not-so.true)
    (nothing_before c.args.lines.now (cost_before c.args.first c.args.second c.args.amount) c.args.before.now)

pub returns-then-not-so-clause-small : goal.returns-then-not-so-clause-small
returns-then-not-so-clause-small c = more_by_nothing (most_where c.args.so) c.args.before.now

pub place_of-i-requires : goal.place_of-i-requires
place_of-i-requires c = (c.requires.on c.if-not-so.false).first_on

pub place_of-j-requires : goal.place_of-j-requires
place_of-j-requires c = (c.requires.on c.if-not-so.false).second_on

pub add-requires-clause-small : goal.add-requires-clause-small
add-requires-clause-small c =
    c.requires.small (c.place_of-i.result * length c.args.lines.now + c.place_of-j.result)
    (row_before c.place_of-i.result (length c.args.lines.now) (length c.args.lines.now) c.place_of-j.result c.place_of-i.ensures.known c.place_of-j.ensures.known)

pub returns-clause-added : goal.returns-clause-added
returns-clause-added c =
    before_where c.args.lines.now c.args.so c.args.first c.args.second c.args.amount c.args.before.now c.add.new.row (length c.args.lines.now) c.place_of-i.result c.place_of-j.result
    c.requires.rising c.if-not-so.false (c.requires.on c.if-not-so.false) refl c.place_of-i.ensures.place c.place_of-j.ensures.place
    (subst (λ v. IsAddedAt (c.place_of-i.result * length c.args.lines.now + c.place_of-j.result) v c.args.before.now c.add.new.row) (to_z-of_z w64 c.args.amount c.ranges.amount) c.add.ensures)

pub returns-clause-small : goal.returns-clause-small
returns-clause-small c =
    more_where c.args.so (c.place_of-i.result * length c.args.lines.now + c.place_of-j.result) c.args.amount c.args.before.now c.add.new.row c.if-not-so.false c.requires.amount
    (subst (λ v. IsAddedAt (c.place_of-i.result * length c.args.lines.now + c.place_of-j.result) v c.args.before.now c.add.new.row) (to_z-of_z w64 c.args.amount c.ranges.amount) c.add.ensures)
