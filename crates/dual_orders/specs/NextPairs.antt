-- The pair that is settled next, as it lies in memory.
use Rattle.std.specs.Prelude.{◌≡◌, ℕ, nat_lt, Bool, true, not, ◌&&◌, List, map, filter, Option, Some, None}
use Rattle.std.specs.Prelude.{pos, neg_ℤ}
use Rattle.std.specs.List.{list_all}
use Rattle.map_base.specs.declared.ids.SegId.{SegId}
use Rattle.map_base.specs.declared.ids.LineId.{LineId}
use Rattle.order_model.specs.declared.problem.ProblemParts.{ProblemParts}
use Rattle.least_orders.specs.LeastOrders.{first_least}
use Rattle.least_orders.specs.Rows.{is_one_of}
use Rattle.dual_bound.specs.declared.settled.SettledPair.{SettledPair}
use Rattle.dual_shares.specs.SettledSets.{TellAhead}
use Rattle.dual_ascent.specs.declared.pair_average.PairAverage.{PairAverage}
use Rattle.dual_ascent.specs.OpenPairs.{OpenPair, open_pair, is_settled, doubt, ahead, behind}
use Rattle.dual_orders.specs.declared.open_pairs.Undecided.{Undecided}

-- the pair of a fork: the line that stands first in its first tree, and the other
pub record IsForkAt (c : OpenPair) (pair : SettledPair) : Type 0 where
  pub seg : pair.seg ≡ c.seg
  pub first : pair.first ≡ ahead c
  pub second : pair.second ≡ behind c

-- there is none where there is none, and else it is that of the fork
abbrev pub IsNextPair : Option OpenPair → Option SettledPair → Type 0
IsNextPair None None = Unit {0}
IsNextPair None (Some pair) = ⊥
IsNextPair (Some c) None = ⊥
IsNextPair (Some c) (Some pair) = IsForkAt c pair

-- the first of the most undecided of these
abbrev pub most_undecided : ProblemParts → List OpenPair → Option OpenPair
most_undecided p pairs = first_least (λ (c : OpenPair). neg_ℤ (pos (doubt p c))) pairs

-- the pairs of these averages that are not settled by some pairs of their segment
abbrev pub open_of : List (LineId × LineId) → SegId → List PairAverage → List OpenPair
open_of pairs s averages = map (open_pair s) (filter (λ (x : PairAverage). not (is_settled pairs x.lesser x.greater)) averages)

-- the sets tell these pairs, which are of the lines
pub record TellsPairs (pairs : List (LineId × LineId)) (lines : List LineId) (direct : List ℕ) : Type 0 where
  pub told : TellAhead pairs lines direct
  pub known : list_all (λ (p : LineId × LineId). is_one_of lines p.0 && is_one_of lines p.1) pairs ≡ true

-- the best so far, with how undecided it is
abbrev pub IsBest : ProblemParts → Option OpenPair → Option Undecided → Type 0
IsBest p None None = Unit {0}
IsBest p None (Some best) = ⊥
IsBest p (Some c) None = ⊥
IsBest p (Some c) (Some best) = (best.doubt ≡ doubt p c) × IsForkAt c best.pair

-- this is more undecided than the best so far, if there is one
abbrev pub is_more : ℕ → Option Undecided → Bool
is_more doubt None = true
is_more doubt (Some best) = nat_lt best.doubt doubt
