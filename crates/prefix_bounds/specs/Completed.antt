-- What the completions of a prefix cost on a part.
use Rattle.std.specs.Prelude.{ℤ, pos, ◌≤ℤ◌, List}
use Rattle.map_base.specs.declared.ids.SegId.{SegId}
use Rattle.map_base.specs.declared.ids.LineId.{LineId}
use Rattle.order_model.specs.declared.problem.ProblemParts.{ProblemParts}
use Rattle.order_model.specs.Costs.{cost_of, AreOrders}
use Rattle.order_model.specs.PartTerms.{part_terms, plain_terms}
use Rattle.order_model.specs.Completions.{Completes}

-- each completion of the prefix costs at least so much on the part's terms
abbrev pub CostsAtLeast : ProblemParts → List SegId → List (List LineId) → ℤ → Type 0
CostsAtLeast problem part placed least =
    (orders : List (List LineId)) → AreOrders problem.segs orders → Completes part placed orders
    → least ≤ℤ pos (cost_of (plain_terms (part_terms problem.terms part)) orders)
