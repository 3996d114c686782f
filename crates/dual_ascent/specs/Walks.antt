-- The walk over nodes, depth first: each is a stop where its bound shows the incumbent's cost, else a fork at a pair.
use Rattle.std.specs.Prelude.{ℕ, zero, suc, ℤ, pos, ◌*ℤ◌, List, [], ◌∷◌, map, if◌then◌else◌, Option, Some, None}
use Rattle.map_base.specs.declared.ids.SegId.{SegId}
use Rattle.map_base.specs.declared.ids.LineId.{LineId}
use Rattle.order_model.specs.declared.term.Term.{Term}
use Rattle.order_model.specs.declared.problem.ProblemParts.{ProblemParts}
use Rattle.order_model.specs.Problems.{lines_on}
use Rattle.least_orders.specs.Arrangements.{kept_orders}
use Rattle.dual_bound.specs.declared.settled.SettledPair.{SettledPair}
use Rattle.dual_bound.specs.Settled.{settled_on, with_pair}
use Rattle.dual_ascent.specs.OwnNumbers.{all_segments, listed}
use Rattle.dual_ascent.specs.LocalSearch.{Incumbent, after_offer}
use Rattle.dual_ascent.specs.DualSteps.{most_price, subgradient}
use Rattle.dual_ascent.specs.Rounds.{Search, LowerBound, Ascent, Stage, going, over, spent, is_shown, ascended}
use Rattle.dual_ascent.specs.OpenPairs.{OpenPair, next_pair, ahead, behind}

-- a tree as it is walked: each fork with the greatest value of its own rounds and the prices that have it, those that are
-- not 0
pub data WalkedTree : Type 0 where
  forked : (value : ℤ) (prices : List (ℕ × ℤ)) (seg : SegId) (a b : LineId) (first second : WalkedTree) → WalkedTree
  stopped : (prices : List (ℕ × ℤ)) → WalkedTree

-- what goes on from node to node: the incumbent, and the branch nodes so far
pub record Progress : Type 0 where
  pub incumbent : Incumbent
  pub branches : ℕ

-- a walk comes to its end, or can't within the budget
pub data Walked : Type 0 where
  whole : WalkedTree → Progress → Walked
  cut : Progress → Walked

abbrev pub progress : Ascent → Progress
progress a = record { incumbent = a.incumbent; branches = a.branches }

-- the first of these orders, the lines in their order where there is none
abbrev pub first_or : List LineId → List (List LineId) → List LineId
first_or lines [] = lines
first_or lines (order ∷ orders) = order

-- the orders that are left where all pairs are settled
abbrev pub orders_left : ProblemParts → List SettledPair → List (List LineId)
orders_left p settled = map (λ (s : SegId). first_or (lines_on p.segs s) (kept_orders (settled_on settled s) (lines_on p.segs s))) (all_segments p)

-- prices under which orders have 1000 times their cost as their shares
abbrev pub exact_prices : ProblemParts → List (List LineId) → List ℤ
exact_prices p orders = map (λ (t : Term). pos (most_price t) *ℤ subgradient orders t) p.terms

-- a node where all pairs are settled: the orders that are left are offered
abbrev pub at_orders : ProblemParts → List (List LineId) → Ascent → Walked
at_orders p orders a = whole (stopped (listed (exact_prices p orders))) (record (progress a) { incumbent = after_offer p orders a.incumbent })

-- how the two trees of a fork are walked: with these pairs settled, from these prices
abbrev pub Below : Type 0
Below = List SettledPair → List ℤ → Progress → Walked

-- the second tree was walked behind the first
abbrev pub after_second : OpenPair → LowerBound → WalkedTree → Walked → Walked
after_second c bound first (whole second now) = whole (forked bound.value (listed bound.prices) c.seg (ahead c) (behind c) first second) now
after_second c bound first (cut now) = cut now

-- the first tree was walked
abbrev pub after_first : Below → OpenPair → LowerBound → List SettledPair → Walked → Walked
after_first below c bound settled (whole first now) =
    after_second c bound first (below (with_pair c.seg (behind c) (ahead c) settled) bound.prices now)
after_first below c bound settled (cut now) = cut now

-- a fork at a pair: first with the one line before the other, then the other way round; none where no fork may follow
abbrev pub at_pair : Option Below → OpenPair → List SettledPair → Ascent → Walked
at_pair None c settled a = cut (progress a)
at_pair (Some below) c settled a = after_first below c a.bound settled (below (with_pair c.seg (ahead c) (behind c) settled) a.bound.prices (progress a))

-- a node whose bound does not show the incumbent's cost
abbrev pub at_open : ProblemParts → Option Below → List SettledPair → Ascent → Option OpenPair → Walked
at_open p below settled a None = at_orders p (orders_left p settled) a
at_open p below settled a (Some c) = at_pair below c settled a

-- a node after its rounds
abbrev pub at_node : ProblemParts → Option Below → List SettledPair → Ascent → Walked
at_node p below settled a =
    if is_shown a then whole (stopped (listed a.bound.prices)) (progress a) else at_open p below settled a (next_pair p settled a.averages)

abbrev pub after_rounds : ProblemParts → Option Below → List SettledPair → Stage → Walked
after_rounds p below settled (going a) = at_node p below settled a
after_rounds p below settled (over a) = at_node p below settled a
after_rounds p below settled (spent a) = cut (progress a)

-- a node and all below it, with room for so many forks on a way; at the node itself at most so many rounds
abbrev pub walked : Search → ℕ → ℕ → List SettledPair → List ℤ → Progress → Walked
walked q zero most settled prices now =
    after_rounds q.problem None settled (ascended q settled most prices now.incumbent now.branches)
walked q (suc room) most settled prices now =
    after_rounds q.problem (Some (walked q room 200)) settled (ascended q settled most prices now.incumbent now.branches)
