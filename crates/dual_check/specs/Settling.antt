-- The pairs that are settled on the way to a node, the last of them at the end.
use Rattle.std.specs.Prelude.{◌≡◌, ◌<◌, ◌==◌, Bool, true, false, List, length, ◌++◌, reverse, Option, Some, None}
use Rattle.map_base.specs.declared.ids.SegId.{SegId}
use Rattle.map_base.specs.declared.ids.LineId.{LineId}
use Rattle.order_model.specs.Problems.{lines_on}
use Rattle.dual_bound.specs.declared.settled.SettledPair.{SettledPair}
use Rattle.dual_shares.specs.RowSteps.{AreTwoOf}

-- the pairs of the nodes above, the last first
abbrev pub pairs_of : List SettledPair → List SettledPair
pairs_of stack = reverse stack

-- two different lines of their segment
pub record IsPairOn (segs : List (List LineId)) (p : SettledPair) : Type 0 where
  pub known : p.seg.0 < length segs
  pub two : AreTwoOf (lines_on segs p.seg) p.first p.second

-- a pair on this segment is of two different ones of these lines
abbrev pub IsPairHere : SegId → List LineId → SettledPair → Type 0
IsPairHere s lines p = (p.seg.0 == s.0) ≡ true → AreTwoOf lines p.first p.second

-- yes where no node fails; else the lines on the way to the first that fails stand after those before
abbrev pub IsWalked : Option (List LineId) → List LineId → List LineId → Bool → Type 0
IsWalked outcome before after true = (outcome ≡ None) × (after ≡ before)
IsWalked outcome before after false = (lines : List LineId) × (outcome ≡ Some lines) × (after ≡ before ++ lines)
