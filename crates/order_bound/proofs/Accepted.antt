-- Where a tree is accepted for the terms of a part, no completion of the prefix costs less than the target.
use Rattle.std.proofs.Common.{◌≡◌, ℕ, ◌<◌, true, List, length}
use Rattle.std.specs.List.{All}
use Rattle.map_base.specs.declared.ids.SegId.{SegId}
use Rattle.map_base.specs.declared.ids.LineId.{LineId}
use Rattle.graph_core.specs.Consistent.{AreRising}
use Rattle.order_model.specs.declared.term.Term.{Term}
use Rattle.order_model.specs.Problems.{IsTerm}
use Rattle.order_model.specs.Parts.{IsRisingPart}
use Rattle.order_model.specs.PartTerms.{part_terms, plain_terms}
use Rattle.order_model.specs.Completions.{BoundsCompletions}
use Rattle.order_proof.specs.Plain.{PlainTree}
use Rattle.order_bound.specs.Accepting.{accepts}
use Rattle.order_model.specs.Questions.{question}
use Rattle.order_bound.proofs.Bounding.{value_bounds}
use Rattle.order_bound.proofs.Parts.{part_of_problem, part_numbered}
use Rattle.order_bound.proofs.Sound.{accepted_bounds}

pub accepted_part_bounds : (segs : List (List LineId)) (part : List SegId) (terms : List Term) (target : ℕ) (placed : List (List LineId)) (tree : PlainTree)
    → All AreRising segs → All (IsTerm segs) terms → IsRisingPart part → All (λ (s : SegId). s.0 < length segs) part → length placed ≡ length segs
    → accepts (question segs part (part_terms terms part) target) placed tree ≡ true → BoundsCompletions segs part (plain_terms (part_terms terms part)) target placed
accepted_part_bounds segs part terms target placed tree rising fit part_rises known each ok =
    accepted_bounds segs part (part_terms terms part) target placed tree rising known
    (λ orders are placed prices v done is.
    value_bounds segs placed orders part (part_terms terms part) prices v (part_of_problem segs terms part rising fit part_rises) (part_numbered terms part) is are done)
    each ok
