-- The pairs of lines that are not settled at a node, and which of them is settled next.
use Rattle.std.specs.Prelude.{ℕ, zero, suc, ◌+◌, ◌-◌, ◌*◌, ◌==◌, nat_lt, Bool, false, ◌&&◌, ◌||◌, not, List, length, map, filter, min, sum_by, flat_map, if◌then◌else◌, Option}
use Rattle.std.specs.Prelude.{pos, neg_ℤ}
use Rattle.std.specs.List.{list_any}
use Rattle.map_base.specs.declared.ids.SegId.{SegId}
use Rattle.map_base.specs.declared.ids.LineId.{LineId}
use Rattle.order_model.specs.declared.term.Term.{Term}
use Rattle.order_model.specs.declared.term.Term.TheVariants.{Side, Link, Apart}
use Rattle.order_model.specs.declared.problem.ProblemParts.{ProblemParts}
use Rattle.least_orders.specs.LeastOrders.{first_least}
use Rattle.dual_bound.specs.declared.settled.SettledPair.{SettledPair}
use Rattle.dual_bound.specs.Settled.{settled_on}
use Rattle.dual_ascent.specs.OwnNumbers.{all_segments}
use Rattle.dual_ascent.specs.declared.pair_average.PairAverage.{PairAverage}
use Rattle.dual_ascent.specs.Averages.{always, averages_on}

-- a chain of at most so many of these pairs leads from a to b
abbrev pub leads : ℕ → List (LineId × LineId) → LineId → LineId → Bool
leads zero pairs a b = false
leads (suc n) pairs a b = list_any (λ (q : LineId × LineId). q.0.0 == a.0 && (q.1.0 == b.0 || leads n pairs q.1 b)) pairs

-- a chain of them leads from the one line to the other, so each order that keeps them has the two the same way
abbrev pub is_settled : List (LineId × LineId) → LineId → LineId → Bool
is_settled pairs a b = leads (length pairs) pairs a b || leads (length pairs) pairs b a

-- two lines of a segment that are not settled, with their average
pub record OpenPair : Type 0 where
  pub seg : SegId
  pub average : PairAverage

abbrev pub open_pair : SegId → PairAverage → OpenPair
open_pair s x = record { seg = s; average = x }

-- those of a segment
abbrev pub open_on : List SettledPair → List (List PairAverage) → SegId → List OpenPair
open_on settled averages s =
    map (open_pair s) (filter (λ (x : PairAverage). not (is_settled (settled_on settled s) x.lesser x.greater)) (averages_on averages s))

-- those of all segments: by segment, then by the lesser line, then by the greater
abbrev pub open_pairs : ProblemParts → List SettledPair → List (List PairAverage) → List OpenPair
open_pairs p settled averages = flat_map (open_on settled averages) (all_segments p)

-- the weight of a Link of two lines, the lesser first, on a segment, and 0 for all other terms
abbrev pub link_weight : SegId → LineId → LineId → Term → ℕ
link_weight s a b (Side seg first second w) = 0
link_weight s a b (Link seg other flip c d w) = if (seg.0 == s.0 || other.0 == s.0) && (c.0 == a.0 && d.0 == b.0) then w else 0
link_weight s a b (Apart seg other c d w) = 0

-- how undecided a pair is, by its average, the more so the more its Links weigh
abbrev pub doubt : ProblemParts → OpenPair → ℕ
doubt p c =
    min c.average.swapped (always - c.average.swapped) * (1 + sum_by (link_weight c.seg c.average.lesser c.average.greater) p.terms)

-- the pair that is settled next: the first of the most undecided
abbrev pub next_pair : ProblemParts → List SettledPair → List (List PairAverage) → Option OpenPair
next_pair p settled averages = first_least (λ (c : OpenPair). neg_ℤ (pos (doubt p c))) (open_pairs p settled averages)

-- the greater line stood first more often than not
abbrev pub is_swapped : OpenPair → Bool
is_swapped c = nat_lt always (2 * c.average.swapped)

-- which of the two stands first in the first tree of the fork, and which second
abbrev pub ahead : OpenPair → LineId
ahead c = if is_swapped c then c.average.greater else c.average.lesser

abbrev pub behind : OpenPair → LineId
behind c = if is_swapped c then c.average.lesser else c.average.greater
