-- Trees whose Closes get their prices once the tree is whole.
use Rattle.std.specs.Prelude.{◌≡◌, ◌<◌, false, List, [], length}
use Rattle.map_base.specs.declared.ids.SegId.{SegId}
use Rattle.map_base.specs.declared.ids.LineId.{LineId}
use Rattle.order_model.specs.Prefixes.{is_placed}
use Rattle.order_model.specs.Problems.{IsOn, lines_on}
use Rattle.order_proof.specs.declared.tree.Tree.{Tree}
use Rattle.order_proof.specs.Plain.{PlainTree, split, close, Cases, no_case, case_of, plain}
use Rattle.order_model.specs.Completions.{placed_more}
use Rattle.order_search.specs.LiveTrees.{BoundedPart}

-- the part as it is searched before any price is asked for
abbrev pub unpriced : BoundedPart → BoundedPart
unpriced q = record { segs = q.segs; part = q.part; cost = q.cost; bound = q.bound; prices = λ placed. [] }

-- the tree of a prefix with the prices that are due at each Close
abbrev mutual
  pub with_prices : BoundedPart → List (List LineId) → PlainTree → PlainTree
  with_prices q placed (split s cases) = split s (with_prices_below q placed s cases)
  with_prices q placed (close prices) = close (q.prices placed)

  pub with_prices_below : BoundedPart → List (List LineId) → SegId → Cases → Cases
  with_prices_below q placed s no_case = no_case
  with_prices_below q placed s (case_of a tree rest) =
      case_of a (with_prices q (placed_more q.segs placed s a) tree) (with_prices_below q placed s rest)

-- a case, with the prices of its tree
abbrev pub priced_case : BoundedPart → List (List LineId) → SegId → LineId × Tree → LineId × PlainTree
priced_case q placed s c = (c.0, with_prices q (placed_more q.segs placed s c.0) (plain c.1))

-- a tree places lines that are left, on segments that there are
abbrev mutual
  pub IsOver : List (List LineId) → List (List LineId) → PlainTree → Type 0
  IsOver segs placed (split s cases) = (s.0 < length segs) × AreOver segs placed s cases
  IsOver segs placed (close prices) = Unit {0}

  pub AreOver : List (List LineId) → List (List LineId) → SegId → Cases → Type 0
  AreOver segs placed s no_case = Unit {0}
  AreOver segs placed s (case_of a tree rest) =
      (IsOn segs s a × (is_placed (lines_on placed s) a ≡ false)) × IsOver segs (placed_more segs placed s a) tree × AreOver segs placed s rest
