-- What dual prices find in a part by itself are orders of its segments, whatever the part is.
use Rattle.std.proofs.Common.{ℕ, zero, suc, ◌+◌, Bool, true, false, cond, ◌||◌, ◌==◌, List, [], Option, Some, None}
use Rattle.std.specs.Prelude.{ℤ, int_lt, nat_lt}
use Rattle.map_base.specs.declared.ids.LineId.{LineId}
use Rattle.order_model.specs.declared.problem.ProblemParts.{ProblemParts}
use Rattle.order_model.specs.Costs.{AreOrders}
use Rattle.dual_bound.specs.declared.settled.SettledPair.{SettledPair}
use Rattle.dual_bound.specs.Settled.{with_pair}
use Rattle.dual_bound.specs.Accepting.{load_of}
use Rattle.dual_ascent.specs.OwnNumbers.{all_segments, listed, zeros}
use Rattle.dual_ascent.specs.LocalSearch.{Incumbent, after_offer}
use Rattle.dual_ascent.specs.Averages.{averaged_orders}
use Rattle.dual_ascent.specs.DualSteps.{answers, value_with}
use Rattle.dual_ascent.specs.Rounds.{Search, LowerBound, Ascent, Stage, going, over, spent, onward, is_shown, with_value, answered, one_round, rounds, first_ascent, ascended}
use Rattle.dual_ascent.specs.OpenPairs.{OpenPair, next_pair, ahead, behind}
use Rattle.dual_ascent.specs.Walks.{WalkedTree, stopped, Progress, Walked, whole, cut, progress, orders_left, Below, after_second, after_first, at_pair, at_open, at_node, after_rounds, walked}
use Rattle.dual_ascent.specs.DualResults.{dual_result, result_after, root_bound, first_progress, most_forks, root_rounds}
use Rattle.dual_ascent.proofs.Stages.{StageHas, Keeps, with_averages, closed_has, answers_have, rounds_have}
use Rattle.dual_ascent.proofs.Meeting.{answers_orders, averaged_are_orders, left_orders, IsIncumbent, first_is_incumbent, offer_is}

module _ (p : ProblemParts) (budget : ℕ) where
  abbrev q : Search
  q = record { problem = p; budget = budget }

  -- the incumbent has orders of the segments
  abbrev Holds : Ascent → Type 0
  Holds a = IsIncumbent p a.incumbent

  offered : (orders : List (List LineId)) (best : Incumbent) → AreOrders p.segs orders → IsIncumbent p best
      → IsIncumbent p (after_offer p orders best)
  offered orders best are h = (offer_is p orders best are h).is_one

  averaged : (settled : List SettledPair) (a : Ascent) → Holds a
      → IsIncumbent p (after_offer p (averaged_orders p settled a.averages) a.incumbent)
  averaged settled a h =
      offered (averaged_orders p settled a.averages) a.incumbent (averaged_are_orders p settled a.averages) h

  keeps : (settled : List SettledPair) (orders : List (List LineId)) → AreOrders p.segs orders
      → Keeps q settled Holds orders
  keeps settled orders are = record {
    directions = λ a h. h;
    offer = λ a h. offered orders a.incumbent are h;
    averaged = λ a h. averaged settled a h;
    step = λ a h. h;
    prices = λ value a h. h;
  }

  looked_at : (a : Ascent) (orders : List (List LineId)) (value : ℤ) → Holds a
      → Holds (with_value value (with_averages q orders a))
  looked_at a orders value h = by (a.round == 1 || int_lt a.bound.value value)
    where
      by : (t : Bool) → Holds (cond t
          (record (with_averages q orders a) { bound = record { value = value; prices = a.prices }; stale = 0 })
          (record (with_averages q orders a) { stale = a.stale + 1 }))
      by true = h
      by false = h

  one : (settled : List SettledPair) (a : Ascent) → Holds a → StageHas Holds Holds (one_round q settled a)
  one settled a h = by (nat_lt budget (a.branches + load_of p.segs (all_segments p)))
    where
      begun : Ascent
      begun = record a { round = a.round + 1; branches = a.branches + load_of p.segs (all_segments p) }

      found : StageHas Holds Holds (answered q settled begun)
      found =
          let orders = answers p settled a.prices in
          let value = value_with p a.prices orders in
          answers_have q settled Holds Holds orders value (keeps settled orders (answers_orders p settled a.prices)) begun
          (looked_at begun orders value h)

      by : (t : Bool) → StageHas Holds Holds (onward (cond t (spent a) (going begun)) (answered q settled))
      by true = h
      by false = found

  all_rounds : (settled : List SettledPair) (n : ℕ) (a : Ascent) → Holds a → StageHas Holds Holds (rounds q settled n a)
  all_rounds settled zero a h = h
  all_rounds settled (suc n) a h = rounds_have q settled Holds Holds Holds (one settled) (λ b k. k) n a h

  ascent : (settled : List SettledPair) (most : ℕ) (prices : List ℤ) (best : Incumbent) (branches : ℕ)
      → IsIncumbent p best → StageHas Holds Holds (ascended q settled most prices best branches)
  ascent settled most prices best branches h =
      closed_has q settled Holds Holds (averaged settled) (rounds q settled most (first_ascent q prices best branches))
      (all_rounds settled most (first_ascent q prices best branches) h)

  -- The walk.

  abbrev WalkHolds : Walked → Type 0
  WalkHolds (whole tree now) = IsIncumbent p now.incumbent
  WalkHolds (cut now) = IsIncumbent p now.incumbent

  abbrev BelowHolds : Option Below → Type 0
  BelowHolds None = Unit {0}
  BelowHolds (Some below) = (settled : List SettledPair) (prices : List ℤ) (now : Progress)
      → IsIncumbent p now.incumbent → WalkHolds (below settled prices now)

  second : (c : OpenPair) (bound : LowerBound) (first : WalkedTree) (w : Walked) → WalkHolds w
      → WalkHolds (after_second c bound first w)
  second c bound first (whole tree now) h = h
  second c bound first (cut now) h = h

  first : (below : Below) → BelowHolds (Some below) → (c : OpenPair) (bound : LowerBound) (settled : List SettledPair)
      (w : Walked) → WalkHolds w → WalkHolds (after_first below c bound settled w)
  first below ok c bound settled (whole tree now) h =
      second c bound tree (below (with_pair c.seg (behind c) (ahead c) settled) bound.prices now)
      (ok (with_pair c.seg (behind c) (ahead c) settled) bound.prices now h)
  first below ok c bound settled (cut now) h = h

  pair : (below : Option Below) → BelowHolds below → (c : OpenPair) (settled : List SettledPair) (a : Ascent) → Holds a
      → WalkHolds (at_pair below c settled a)
  pair None ok c settled a h = h
  pair (Some below) ok c settled a h =
      first below ok c a.bound settled (below (with_pair c.seg (ahead c) (behind c) settled) a.bound.prices (progress a))
      (ok (with_pair c.seg (ahead c) (behind c) settled) a.bound.prices (progress a) h)

  opened : (below : Option Below) → BelowHolds below → (settled : List SettledPair) (a : Ascent) → Holds a
      → (o : Option OpenPair) → WalkHolds (at_open p below settled a o)
  opened below ok settled a h None = offered (orders_left p settled) a.incumbent (left_orders p settled) h
  opened below ok settled a h (Some c) = pair below ok c settled a h

  node : (below : Option Below) → BelowHolds below → (settled : List SettledPair) (a : Ascent) → Holds a
      → WalkHolds (at_node p below settled a)
  node below ok settled a h = by (is_shown a)
    where
      by : (t : Bool) → WalkHolds (cond t (whole (stopped (listed a.bound.prices)) (progress a))
          (at_open p below settled a (next_pair p settled a.averages)))
      by true = h
      by false = opened below ok settled a h (next_pair p settled a.averages)

  after : (below : Option Below) → BelowHolds below → (settled : List SettledPair) (s : Stage) → StageHas Holds Holds s
      → WalkHolds (after_rounds p below settled s)
  after below ok settled (going a) h = node below ok settled a h
  after below ok settled (over a) h = node below ok settled a h
  after below ok settled (spent a) h = h

  walk : (room most : ℕ) (settled : List SettledPair) (prices : List ℤ) (now : Progress) → IsIncumbent p now.incumbent
      → WalkHolds (walked q room most settled prices now)
  walk zero most settled prices now h =
      after None tt settled (ascended q settled most prices now.incumbent now.branches)
      (ascent settled most prices now.incumbent now.branches h)
  walk (suc room) most settled prices now h =
      after (Some (walked q room 200)) (λ pairs begun progress k. walk room 200 pairs begun progress k) settled
      (ascended q settled most prices now.incumbent now.branches)
      (ascent settled most prices now.incumbent now.branches h)

  pub found_are_orders : AreOrders p.segs (dual_result p budget).orders
  found_are_orders =
      by (walked q most_forks root_rounds [] (zeros p) (first_progress p))
      (walk most_forks root_rounds [] (zeros p) (first_progress p) (first_is_incumbent p))
    where
      by : (w : Walked) → WalkHolds w → AreOrders p.segs (result_after (root_bound q) w).orders
      by (whole tree now) h = h.orders
      by (cut now) h = h.orders
