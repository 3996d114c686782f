-- Pairs of lines whose order on a segment is settled.
use Rattle.std.specs.Prelude.{ℕ, ◌==◌, Bool, List, ◌∷◌, filter, map}
use Rattle.std.specs.List.{list_all}
use Rattle.map_base.specs.declared.ids.SegId.{SegId}
use Rattle.map_base.specs.declared.ids.LineId.{LineId}
use Rattle.order_model.specs.Problems.{lines_on}
use Rattle.least_orders.specs.Arrangements.{keeps}
use Rattle.dual_bound.specs.declared.settled.SettledPair.{SettledPair}

-- the pairs that are settled on one segment
abbrev pub settled_on : List SettledPair → SegId → List (LineId × LineId)
settled_on settled s = map (λ (p : SettledPair). (p.first, p.second)) (filter (λ (p : SettledPair). p.seg.0 == s.0) settled)

-- the orders of these segments keep all pairs that are settled there
abbrev pub keep_all : List SettledPair → List SegId → List (List LineId) → Bool
keep_all settled part orders = list_all (λ (s : SegId). keeps (settled_on settled s) (lines_on orders s)) part

-- one more settled pair
abbrev pub with_pair : SegId → LineId → LineId → List SettledPair → List SettledPair
with_pair s a b settled = record { seg = s; first = a; second = b } ∷ settled
