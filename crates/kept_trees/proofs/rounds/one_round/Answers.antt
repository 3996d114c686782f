use Rattle.std.proofs.Common.{◌≡◌, ℤ, true, false, w64, to_z, of_z, List, length, sym, ◌∙◌, ap, arith}
use Rattle.std.proofs.lemmas.Int.{to_z-of_z}
use Rattle.map_base.specs.declared.ids.LineId.{LineId}
use Rattle.order_model.specs.declared.problem.ProblemParts.{ProblemParts}
use Rattle.order_model.proofs.OrderLemmas.{length-orders}
use Rattle.dual_bound.specs.declared.settled.SettledPair.{SettledPair}
use Rattle.dual_ascent.specs.DualSteps.{answers}
use Rattle.dual_ascent.specs.Rounds as rounds
use Rattle.dual_orders.specs.SettledPairs.{pairs_of}
use Rattle.kept_trees.specs.declared.ascent.Ascent.{Ascent}
use Rattle.kept_trees.specs.Searching.{search_of, ascent_of, moved}
use Rattle.kept_trees.proofs.Composing.{seen, round_begun, round_over, round_moves}
use Rattle.kept_trees.proofs.Counting.{counted_is}
use Rattle.kept_trees.proofs.rounds.one_round.Goals as goal
use Rattle.kept_trees.proofs.rounds.one_round.Goals.{After-look}

-- what the round comes to once its orders and their value were looked at
looked : (g : _) (c : After-look g)
    → (rounds.is_shown (ascent_of c.answer-value.new.now c.look.new.ascent) ≡ true
    → rounds.one_round (search_of c.args.search.now) (pairs_of c.args.settled.now) (ascent_of c.args.now.now c.args.ascent.now)
    ≡ rounds.over (ascent_of c.answer-value.new.now c.look.new.ascent))
    × ((s : rounds.Stage) → rounds.is_shown (ascent_of c.answer-value.new.now c.look.new.ascent) ≡ false
    → moved (search_of c.args.search.now) (pairs_of c.args.settled.now) c.as_slice-orders.result.now
    (to_z w64 (of_z w64 c.answer-value.result)) (ascent_of c.answer-value.new.now c.look.new.ascent) ≡ s
    → rounds.one_round (search_of c.args.search.now) (pairs_of c.args.settled.now) (ascent_of c.args.now.now c.args.ascent.now)
    ≡ s)
looked g c =
    let p : ProblemParts = c.args.search.now.part.problem.now in
    let q : rounds.Search = search_of c.args.search.now in
    let settled : List SettledPair = pairs_of c.args.settled.now in
    let start : rounds.Ascent = ascent_of c.args.now.now c.args.ascent.now in
    let a : rounds.Ascent = ascent_of c.answer-value.new.now c.count_round.new.ascent in
    let b : rounds.Ascent = ascent_of c.answer-value.new.now c.look.new.ascent in
    let value : ℤ = to_z w64 (of_z w64 c.answer-value.result) in
    let same : value
    ≡ c.answer-value.result = to_z-of_z w64 c.answer-value.result (record { sfits = c.answer-value.type_inv }) in
    let load = c.requires.search.part.load in
    let within = c.requires.now.within in
    let begins : rounds.one_round q settled start ≡ rounds.answered q settled a =
    round_begun q settled start (omega (arith, load, within, c.if-search-now.false))
    ∙ ap (rounds.answered q settled)
    (sym (counted_is c.args.search.now c.args.now.now c.count_round.new.now c.answer-value.new.now c.args.ascent.now
    c.count_round.new.ascent load c.count_round.ensures.now c.answer-value.ensures.same
    c.count_round.ensures.ascent)) in
    let orders : c.as_slice-orders.result.now
    ≡ answers p settled c.count_round.new.ascent.prices.items = c.as_slice-orders.ensures.value
    ∙ c.answer-value.ensures.orders in
    let is_seen : b ≡ seen q (answers p settled c.count_round.new.ascent.prices.items) value a =
    c.look.ensures.looked c.answer-value.new.now ∙ ap (λ (o : List (List LineId)). seen q o value a) orders in
    let is_value = same ∙ c.answer-value.ensures.value in (
      round_over q settled start a b value begins is_value is_seen,
      λ s none m. round_moves q settled start a b value begins is_value is_seen s none
          (ap (λ (o : List (List LineId)). moved q settled o value b) (sym orders) ∙ m),
    )

pub look-requires-clause-orders : goal.look-requires-clause-orders
look-requires-clause-orders g c =
    ap length c.as_slice-orders.ensures.value
    ∙ sym (length-orders c.args.search.now.part.problem.now.segs c.answer-value.new.held.orders.items
    c.answer-value.ensures.answers.orders)

pub returns-then-is_shown-clause-round : goal.returns-then-is_shown-clause-round
returns-then-is_shown-clause-round g c =
    let one = ap (λ (a : Ascent). a.round) c.count_round.ensures.ascent in
    omega (arith, one, c.look.ensures.round)

pub returns-then-move_on-clause-round : goal.returns-then-move_on-clause-round
returns-then-move_on-clause-round g c =
    let one = ap (λ (a : Ascent). a.round) c.count_round.ensures.ascent in
    omega (arith, one, c.look.ensures.round, c.move_on.ensures.round)

pub returns-clause-round : goal.returns-clause-round
returns-clause-round g c =
    let one = ap (λ (a : Ascent). a.round) c.count_round.ensures.ascent in
    omega (arith, one, c.look.ensures.round, c.move_on.ensures.round)

pub returns-then-is_shown-clause-stage : goal.returns-then-is_shown-clause-stage
returns-then-is_shown-clause-stage g c =
    (looked g (goal.at.returns-then-is_shown-clause-stage g c).After-look).0 (sym c.if-is_shown.ensures)

pub returns-then-move_on-clause-stage : goal.returns-then-move_on-clause-stage
returns-then-move_on-clause-stage g c =
    (looked g (goal.at.returns-then-move_on-clause-stage g c).After-look).1
    (rounds.over (ascent_of c.move_on.new.now c.move_on.new.ascent)) (sym c.if-is_shown.ensures) c.if-move_on.ensures.over

pub returns-clause-stage : goal.returns-clause-stage
returns-clause-stage g c =
    (looked g (goal.at.returns-clause-stage g c).After-look).1
    (rounds.going (ascent_of c.move_on.new.now c.move_on.new.ascent)) (sym c.if-is_shown.ensures) c.if-move_on.ensures.over
