use Rattle.std.proofs.Common.{◌≡◌, ℤ, List, length, map, sym, ◌∙◌, ap, arith}
use Rattle.std.proofs.lemmas.List.{with_items_is}
use Rattle.std.specs.Vec.{with_items}
use Rattle.map_base.specs.declared.ids.LineId.{LineId}
use Rattle.order_model.specs.declared.problem.ProblemParts.{ProblemParts}
use Rattle.order_model.proofs.OrderLemmas.{length-orders}
use Rattle.dual_ascent.specs.DualSteps.{next_directions, square_sum}
use Rattle.dual_ascent.specs.LocalSearch.{after_offer}
use Rattle.dual_orders.specs.Values.{incumbent_of}
use Rattle.dual_orders.proofs.Pricing.{length_within}
use Rattle.dual_orders.proofs.Placing.{same_lengths}
use Rattle.kept_trees.specs.Searching.{search_of, ascent_of}
use Rattle.kept_trees.proofs.Composing.{turn_moves, turn_stills}
use Rattle.kept_trees.proofs.rounds.turn.Goals as goal
use Rattle.kept_trees.proofs.rounds.turn.Goals.{After-square_sum}

-- the directions follow, and this is the sum of their squares
turned : (c : After-square_sum)
    → ((with_items c.args.ascent.now.directions c.direct.new.directions).items
    ≡ next_directions c.args.search.now.part.problem.now c.args.orders.now c.args.ascent.now.prices.items
    c.args.ascent.now.directions.items)
    × (c.square_sum.result ≡ square_sum (with_items c.args.ascent.now.directions c.direct.new.directions).items)
turned c =
    let p : ProblemParts = c.args.search.now.part.problem.now in (
      with_items_is c.args.ascent.now.directions c.direct.new.directions
          (c.direct.auto.directions ∙ c.as_mut_slice.ensures.len)
          ∙ c.direct.ensures.value
          ∙ ap (λ (l : List ℤ). next_directions p c.args.orders.now l c.as_mut_slice.result.now) c.as_slice.ensures.value
          ∙ ap (next_directions p c.args.orders.now c.args.ascent.now.prices.items) c.as_mut_slice.ensures.value,
      c.square_sum.ensures.value ∙ ap square_sum c.as_slice-2.ensures.value,
    )

pub direct-requires-clause-orders : goal.direct-requires-clause-orders
direct-requires-clause-orders c = sym
    (length-orders c.args.search.now.part.problem.now.segs c.args.orders.now c.requires.orders)

pub direct-requires-clause-prices : goal.direct-requires-clause-prices
direct-requires-clause-prices c =
    ap length c.as_slice.ensures.value
    ∙ length_within c.args.search.now.part.problem.now.terms c.args.ascent.now.prices.items c.requires.ascent.prices

pub returns-then-square_sum-gt0-clause-over : goal.returns-then-square_sum-gt0-clause-over
returns-then-square_sum-gt0-clause-over c =
    let t = turned (goal.at.returns-then-square_sum-gt0-clause-over c).After-square_sum in
    turn_moves (search_of c.args.search.now) c.args.orders.now (ascent_of c.args.now.now c.args.ascent.now)
    (with_items c.args.ascent.now.directions c.direct.new.directions).items t.0
    (omega (arith, t.1, c.if-square_sum-gt0.true))

pub copy_orders-requires : goal.copy_orders-requires
copy_orders-requires c =
    same_lengths c.args.search.now.part.problem.now.segs c.args.orders.now c.args.now.now.trial.items c.requires.orders
    c.requires.now.trial
    ∙ ap (λ (l : List (List LineId)). map (λ o. length o) l) (sym c.as_mut_slice-2.ensures.value)

pub returns-clause-over : goal.returns-clause-over
returns-clause-over c =
    let p : ProblemParts = c.args.search.now.part.problem.now in
    let t = turned (goal.at.returns-clause-over c).After-square_sum in
    let met = c.offer_trial.ensures.offered
    ∙ ap (λ (o : List (List LineId)). after_offer p o (incumbent_of c.args.now.now.incumbent))
    (with_items_is c.args.now.now.trial c.copy_orders.new.to (c.copy_orders.auto.to ∙ c.as_mut_slice-2.ensures.len)
    ∙ c.copy_orders.ensures) in
    turn_stills (search_of c.args.search.now) c.args.orders.now (ascent_of c.args.now.now c.args.ascent.now)
    (with_items c.args.ascent.now.directions c.direct.new.directions).items
    (incumbent_of c.offer_trial.new.now.incumbent) c.offer_trial.new.now.branches t.0
    (omega (arith, t.1, c.if-square_sum-gt0.false)) met c.offer_trial.ensures.branches
