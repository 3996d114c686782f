-- What a proof shows of all orders.
use Rattle.std.specs.Prelude.{ℕ, ◌≤◌, List}
use Rattle.map_base.specs.declared.ids.LineId.{LineId}
use Rattle.order_model.specs.declared.term.Term.{Term}
use Rattle.order_model.specs.Costs.{cost_of, AreOrders}

-- no orders of these segments cost less than so much on these terms
abbrev pub IsLowerBound : List (List LineId) → List Term → ℕ → Type 0
IsLowerBound segs terms bound = (orders : List (List LineId)) → AreOrders segs orders → bound ≤ cost_of terms orders
