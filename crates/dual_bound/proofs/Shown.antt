-- Where no node of a tree fails, no orders at all cost less than the target on the terms of the part.
use Rattle.std.proofs.Common.{◌≡◌, ℕ, ◌<◌, ◌≤◌, List, length, None}
use Rattle.std.specs.List.{All}
use Rattle.map_base.specs.declared.ids.SegId.{SegId}
use Rattle.map_base.specs.declared.ids.LineId.{LineId}
use Rattle.graph_core.specs.Consistent.{AreRising}
use Rattle.order_model.specs.declared.term.Term.{Term}
use Rattle.order_model.specs.Problems.{IsTerm}
use Rattle.order_model.specs.Costs.{cost_of, AreOrders}
use Rattle.order_model.specs.Parts.{IsRisingPart}
use Rattle.order_model.specs.PartTerms.{part_terms, plain_terms}
use Rattle.order_model.specs.Questions.{question}
use Rattle.order_values.specs.DualTrees.{PlainDual}
use Rattle.dual_bound.specs.Accepting.{failing}
use Rattle.dual_bound.proofs.Sound.{unfailing_bounds}

pub shown_part_bounds : (segs : List (List LineId)) (part : List SegId) (terms : List Term) (target : ℕ) (tree : PlainDual)
    → All AreRising segs → All (IsTerm segs) terms → IsRisingPart part → All (λ (s : SegId). s.0 < length segs) part
    → failing (question segs part (part_terms terms part) target) tree ≡ None
    → (others : List (List LineId)) → AreOrders segs others → target ≤ cost_of (plain_terms (part_terms terms part)) others
shown_part_bounds segs part terms target tree rising fit part_rises known none others are_orders =
    unfailing_bounds segs part terms target tree rising fit part_rises none others are_orders
