-- The rounds of a node: a subgradient ascent of the lower bound, with an incumbent that its orders lower.
use Rattle.std.specs.Prelude.{ℕ, zero, suc, ℤ, pos, ◌+◌, ◌*◌, ◌/◌, ◌%◌, ◌==◌, nat_lt, int_lt, Bool, ◌||◌, List, if◌then◌else◌, Some}
use Rattle.map_base.specs.declared.ids.LineId.{LineId}
use Rattle.order_model.specs.declared.problem.ProblemParts.{ProblemParts}
use Rattle.dual_bound.specs.declared.settled.SettledPair.{SettledPair}
use Rattle.dual_bound.specs.Accepting.{shows, load_of}
use Rattle.dual_ascent.specs.OwnNumbers.{all_segments, zeros}
use Rattle.dual_ascent.specs.LocalSearch.{Incumbent, after_offer}
use Rattle.dual_ascent.specs.declared.pair_average.PairAverage.{PairAverage}
use Rattle.dual_ascent.specs.Averages.{no_averages, averages_after, averaged_orders}
use Rattle.dual_ascent.specs.DualSteps.{answers, value_with, next_directions, are_still, gap_of, next_prices}

-- a part by itself that is searched, and how many branch nodes the search may have
pub record Search : Type 0 where
  pub problem : ProblemParts
  pub budget : ℕ

-- the greatest value so far, in thousandths, and the prices that have it
pub record LowerBound : Type 0 where
  pub value : ℤ
  pub prices : List ℤ

-- what is known at a node between rounds: how many were made; prices, and in which direction they go; how lines stood on
-- the average; the step, and the rounds since the value rose or the step shrank; the lower bound, which before the first
-- round is 0 under the prices at hand; the incumbent; and the branch nodes so far of the whole search
pub record Ascent : Type 0 where
  pub round : ℕ
  pub prices : List ℤ
  pub directions : List ℤ
  pub averages : List (List PairAverage)
  pub step : ℕ
  pub stale : ℕ
  pub bound : LowerBound
  pub incumbent : Incumbent
  pub branches : ℕ

-- the rounds go on, are over, or can't go on within the budget
pub data Stage : Type 0 where
  going : Ascent → Stage
  over : Ascent → Stage
  spent : Ascent → Stage

-- where they go on, what comes next
abbrev pub onward : Stage → (Ascent → Stage) → Stage
onward (going a) next = next a
onward (over a) next = over a
onward (spent a) next = spent a

-- they are over where this is so
abbrev pub over_if : Bool → Ascent → Stage
over_if so a = if so then over a else going a

-- the bound shows that no orders cost less than the incumbent
abbrev pub is_shown : Ascent → Bool
is_shown a = shows a.incumbent.cost (Some a.bound.value)

-- orders are offered
abbrev pub with_offer : ProblemParts → List (List LineId) → Ascent → Ascent
with_offer p orders a = record a { incumbent = after_offer p orders a.incumbent }

-- A round is made of these.

-- one round more, where the budget allows it: it counts as so many branch nodes as the part's load
abbrev pub begun : Search → Ascent → Stage
begun q a =
    if nat_lt q.budget (a.branches + load_of q.problem.segs (all_segments q.problem)) then spent a
    else going (record a { round = a.round + 1; branches = a.branches + load_of q.problem.segs (all_segments q.problem) })

-- a value that is greater than in all rounds before is kept with its prices
abbrev pub with_value : ℤ → Ascent → Ascent
with_value value a =
    if a.round == 1 || int_lt a.bound.value value then record a { bound = record { value = value; prices = a.prices }; stale = 0 }
    else record a { stale = a.stale + 1 }

-- the orders that answer the prices are looked at. The rounds are over where the bound shows the incumbent's cost
abbrev pub looked : Search → List (List LineId) → ℤ → Ascent → Stage
looked q orders value a =
    let b : Ascent = with_value value (record a { averages = averages_after q.problem a.round orders a.averages }) in over_if (is_shown b) b

-- the directions follow these orders. Where all stand still, the orders are offered, and the rounds are over
abbrev pub directed : Search → List (List LineId) → Ascent → Stage
directed q orders a =
    let b : Ascent = record a { directions = next_directions q.problem orders a.prices a.directions } in
    if are_still b.directions then over (with_offer q.problem orders b) else going b

-- each twentieth round the averaged orders are offered, and the rounds are over where the bound then shows the incumbent's
-- cost
abbrev pub rounded : Search → List SettledPair → Ascent → Stage
rounded q settled a =
    if a.round % 20 == 0
    then (let b : Ascent = with_offer q.problem (averaged_orders q.problem settled a.averages) a in over_if (is_shown b) b)
    else going a

-- after twenty rounds without a greater value the step shrinks to seven tenths. The rounds are over where it is below 4
abbrev pub shrunk : Ascent → Stage
shrunk a = if a.stale == 20 then (let b : Ascent = record a { step = 7 * a.step / 10; stale = 0 } in over_if (nat_lt b.step 4) b) else going a

-- the prices take a step in their directions
abbrev pub stepped : Search → ℤ → Ascent → Stage
stepped q value a = going (record a { prices = next_prices q.problem a.step (gap_of a.incumbent.cost value) a.prices a.directions })

-- the orders that answer the prices, and the value, are those of the round's beginning
abbrev pub with_answers : Search → List SettledPair → List (List LineId) → ℤ → Ascent → Stage
with_answers q settled orders value a =
    onward (onward (onward (onward (looked q orders value a) (directed q orders)) (rounded q settled)) shrunk) (stepped q value)

abbrev pub answered : Search → List SettledPair → Ascent → Stage
answered q settled a =
    with_answers q settled (answers q.problem settled a.prices) (value_with q.problem a.prices (answers q.problem settled a.prices)) a

-- one round
abbrev pub one_round : Search → List SettledPair → Ascent → Stage
one_round q settled a = onward (begun q a) (answered q settled)

-- at most so many rounds
abbrev pub rounds : Search → List SettledPair → ℕ → Ascent → Stage
rounds q settled zero a = over a
rounds q settled (suc n) a = onward (one_round q settled a) (rounds q settled n)

-- however they are over, the averaged orders are offered then
abbrev pub closed : Search → List SettledPair → Stage → Stage
closed q settled (going a) = going a
closed q settled (over a) = over (with_offer q.problem (averaged_orders q.problem settled a.averages) a)
closed q settled (spent a) = spent a

-- before the first round, from these prices
abbrev pub first_ascent : Search → List ℤ → Incumbent → ℕ → Ascent
first_ascent q prices best branches = record {
  round = 0;
  prices = prices;
  directions = zeros q.problem;
  averages = no_averages q.problem;
  step = 1000;
  stale = 0;
  bound = record { value = pos 0; prices = prices };
  incumbent = best;
  branches = branches;
}

-- the rounds of a node with these pairs settled, at most so many, from these prices
abbrev pub ascended : Search → List SettledPair → ℕ → List ℤ → Incumbent → ℕ → Stage
ascended q settled most prices best branches = closed q settled (rounds q settled most (first_ascent q prices best branches))
