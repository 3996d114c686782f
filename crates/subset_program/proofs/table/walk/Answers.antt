use Rattle.std.proofs.Common.{◌+◌, sym, ◌∙◌, subst, arith, set, Some}
use Rattle.subset_program.specs.PlainRows.{plain_rows}
use Rattle.subset_program.specs.Tables.{IsWalked}
use Rattle.subset_program.proofs.Walking.{chosen_free, walk_begins, walk_goes_on, walk_ends, walk_stops}
use Rattle.subset_program.proofs.table.walk.Goals as goal

pub loop-i-init : goal.loop-i-init
loop-i-init c = walk_begins (plain_rows c.args.rows.now) c.args.order.now

pub returns-in_default : goal.returns-in_default
returns-in_default c =
    walk_stops (plain_rows c.args.rows.now) c.requires.rows c.loop-i.i c.loop-i.order c.loop-i.set c.loop-i.last c.loop-i-test.true c.loop-i.invariant (sym c.in_default.is ∙ c.choose.ensures)

pub overflow_cast-order : goal.overflow_cast-order
overflow_cast-order c =
    let place = (chosen_free (plain_rows c.args.rows.now) c.loop-i.set c.loop-i.last c.in-Some.choice (sym c.in-Some.is ∙ c.choose.ensures)).0 in
    let few = c.requires.rows.few in
    omega (arith, place, few)

pub with_place-set-requires : goal.with_place-set-requires
with_place-set-requires c =
    let place = (chosen_free (plain_rows c.args.rows.now) c.loop-i.set c.loop-i.last c.in-Some.choice (sym c.in-Some.is ∙ c.choose.ensures)).0 in
    let few = c.requires.rows.few in
    omega (arith, place, few)

pub loop-i-preserved : goal.loop-i-preserved
loop-i-preserved c =
    subst (λ s. IsWalked (plain_rows c.args.rows.now) (c.loop-i.i + 1) (set c.loop-i.order c.loop-i.i c.in-Some.choice.place) s (Some c.in-Some.choice.place)) (sym c.with_place-set.ensures)
    (walk_goes_on (plain_rows c.args.rows.now) c.requires.rows c.loop-i.i c.loop-i.order c.loop-i.set c.loop-i.last c.in-Some.choice c.loop-i-test.true
    (c.loop-i.auto.order ∙ c.requires.places) c.loop-i.invariant (sym c.in-Some.is ∙ c.choose.ensures))

pub returns : goal.returns
returns c =
    walk_ends (plain_rows c.args.rows.now) c.loop-i.i c.loop-i.order c.loop-i.set c.loop-i.last (omega (arith, c.loop-i-test.false)) (c.loop-i.auto.order ∙ c.requires.places) c.loop-i.invariant
