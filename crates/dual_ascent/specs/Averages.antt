-- How lines stood in the orders of the rounds, on the average, and the orders that come nearest to it.
use Rattle.std.specs.Prelude.{◌≡◌, ℕ, ◌+◌, ◌-◌, ◌/◌, ◌<◌, Bool, List, [], ◌∷◌, ◌++◌, length, map, min, if◌then◌else◌, slice_index_or, unwrap_or}
use Rattle.std.specs.Prelude.{ℤ, pos, ◌+ℤ◌, ◌-ℤ◌}
use Rattle.map_base.specs.declared.ids.SegId.{SegId}
use Rattle.map_base.specs.declared.ids.LineId.{LineId}
use Rattle.order_model.specs.declared.problem.ProblemParts.{ProblemParts}
use Rattle.order_model.specs.Problems.{lines_on}
use Rattle.order_model.specs.Costs.{comes_before, are_neighbours}
use Rattle.whole_sums.specs.Sums.{int_sum}
use Rattle.least_orders.specs.Arrangements.{kept_orders}
use Rattle.least_orders.specs.LeastOrders.{first_least}
use Rattle.dual_bound.specs.declared.settled.SettledPair.{SettledPair}
use Rattle.dual_bound.specs.Settled.{settled_on}
use Rattle.dual_bound.specs.Shares.{where_so}
use Rattle.dual_ascent.specs.declared.pair_average.PairAverage.{PairAverage}
use Rattle.dual_ascent.specs.OwnNumbers.{all_segments}

-- an average is told in 65536ths
abbrev pub always : ℕ
always = 65536

-- two lines before the first round
abbrev pub never : LineId → LineId → PairAverage
never a b = record { lesser = a; greater = b; swapped = 0; beside = 0 }

-- each two of these lines, those of an earlier line first
abbrev pub never_all : List LineId → List PairAverage
never_all [] = []
never_all (a ∷ lines) = map (never a) lines ++ never_all lines

-- each two lines of each segment
abbrev pub no_averages : ProblemParts → List (List PairAverage)
no_averages p = map never_all p.segs

-- the two lines of an average
abbrev pub pair_of : PairAverage → LineId × LineId
pair_of x = (x.lesser, x.greater)

-- each segment has an average of each two of its lines
abbrev pub ArePairs : ProblemParts → List (List PairAverage) → Type 0
ArePairs p averages = (i : ℕ) → i < length p.segs → map pair_of (slice_index_or averages i []) ≡ map pair_of (never_all (slice_index_or p.segs i []))

-- an average with one round more, in which it was so or was not: the round counts as one of so many
abbrev pub averaged : ℕ → Bool → ℕ → ℕ
averaged count so x = if so then x + (always - x) / count else x - x / count

-- how many rounds the last of so many counts as one of
abbrev pub span : ℕ → ℕ
span round = min round 32

-- the average of two lines with one order more
abbrev pub with_order : ℕ → List LineId → PairAverage → PairAverage
with_order round order x = record x {
  swapped = averaged (span round) (comes_before order x.greater x.lesser) x.swapped;
  beside = averaged (span round) (are_neighbours order x.lesser x.greater) x.beside;
}

-- the averages of a segment among these
abbrev pub averages_on : List (List PairAverage) → SegId → List PairAverage
averages_on averages s = slice_index_or averages s.0 []

-- all averages with the orders of one round more
abbrev pub averages_after : ProblemParts → ℕ → List (List LineId) → List (List PairAverage) → List (List PairAverage)
averages_after p round orders averages = map (λ (s : SegId). map (with_order round (lines_on orders s)) (averages_on averages s)) (all_segments p)

-- how far two lines of an order are from their average: it costs the more to stand in an order the less often they did, and
-- to be neighbours
abbrev pub distance_by : List LineId → PairAverage → ℤ
distance_by order x =
    (if comes_before order x.lesser x.greater then pos x.swapped else pos (always - x.swapped))
    +ℤ where_so (are_neighbours order x.lesser x.greater) (pos 32768 -ℤ pos x.beside)

-- how far an order is from these averages
abbrev pub distance : List PairAverage → List LineId → ℤ
distance averages order = int_sum (distance_by order) averages

-- of the orders of a segment that keep the settled pairs the one nearest to its averages, among these the least as a list.
-- Where no order keeps them, which never comes in a search, the lines in their order
abbrev pub nearest_on : ProblemParts → List SettledPair → List (List PairAverage) → SegId → List LineId
nearest_on p settled averages s =
    unwrap_or (first_least (distance (averages_on averages s)) (kept_orders (settled_on settled s) (lines_on p.segs s))) (lines_on p.segs s)

-- the same on all segments
abbrev pub averaged_orders : ProblemParts → List SettledPair → List (List PairAverage) → List (List LineId)
averaged_orders p settled averages = map (nearest_on p settled averages) (all_segments p)
