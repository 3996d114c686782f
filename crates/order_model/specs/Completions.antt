-- Orders that complete a prefix on a part.
use Rattle.std.specs.Prelude.{◌≡◌, ℕ, ◌≤◌, List, ◌++◌, All, slice_set}
use Rattle.map_base.specs.declared.ids.SegId.{SegId}
use Rattle.map_base.specs.declared.ids.LineId.{LineId}
use Rattle.order_model.specs.declared.term.Term.{Term}
use Rattle.order_model.specs.Problems.{lines_on}
use Rattle.order_model.specs.Costs.{cost_of, AreOrders}
use Rattle.order_model.specs.Prefixes.{with_line}

-- the order begins with the placed lines
abbrev pub BeginsWith : List LineId → List LineId → Type 0
BeginsWith placed order = (rest : List LineId) × (order ≡ placed ++ rest)

-- on each segment of the part the order begins with the placed lines
abbrev pub Completes : List SegId → List (List LineId) → List (List LineId) → Type 0
Completes part placed orders = All (λ (s : SegId). BeginsWith (lines_on placed s) (lines_on orders s)) part

-- no orders of these segments that complete the prefix on the part cost less than the target on these terms
abbrev pub BoundsCompletions : List (List LineId) → List SegId → List Term → ℕ → List (List LineId) → Type 0
BoundsCompletions segs part terms target placed =
    (orders : List (List LineId)) → AreOrders segs orders → Completes part placed orders → target ≤ cost_of terms orders

-- the placed lines after one more is placed on a segment
abbrev pub placed_more : List (List LineId) → List (List LineId) → SegId → LineId → List (List LineId)
placed_more segs placed s a = slice_set placed s.0 (with_line (lines_on segs s) (lines_on placed s) a)
