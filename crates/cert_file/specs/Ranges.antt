-- Certificates that have a text: their lists have the lengths, the rising order and the distinctness that are due, and
-- their numbers are in range.
use Rattle.std.specs.Prelude.{◌≡◌, ℕ, suc, ◌<◌, ◌≤◌, true, List, [], ◌∷◌, length}
use Rattle.std.specs.List.{AllByRecursion}
use Rattle.map_base.specs.declared.ids.LineId.{LineId}
use Rattle.octi_grid.specs.Walks.{IsWalk}
use Rattle.order_proof.specs.Ranges as proofs
use Rattle.cert_file.specs.Plain.{PlainCertificate}
use Rattle.cert_file.specs.Forms.{most_id, most_nodes, most_segs, most_lines, most_importance, most_cost, are_distinct}

-- the lines rise strictly, the first of them at least `least`, and each has an importance above 1
abbrev pub ArePairs : ℕ → List (LineId × ℕ) → Type 0
ArePairs least [] = Unit {0}
ArePairs least (p ∷ rest) = (least ≤ p.0.0) × (p.0.0 ≤ most_id) × (2 ≤ p.1) × (p.1 ≤ most_importance) × ArePairs (suc p.0.0) rest

-- an order has a line, no line twice, and its lines are in range
pub record IsOrder (order : List LineId) : Type 0 where
  pub some : 0 < length order
  pub range : AllByRecursion (λ (l : LineId). l.0 ≤ most_id) order
  pub distinct : are_distinct order ≡ true

pub record IsInRange (c : PlainCertificate) : Type 0 where
  pub nodes : c.nodes ≤ most_nodes
  pub segs : c.segs ≤ most_segs
  pub lines : c.lines ≤ most_lines
  pub importance : ArePairs 0 c.importance
  pub walks_each : length c.walks ≡ c.segs
  pub walks : AllByRecursion IsWalk c.walks
  pub orders_each : length c.orders ≡ c.segs
  pub orders : AllByRecursion IsOrder c.orders
  pub cost : c.cost ≤ most_cost
  pub proof : proofs.IsInRange c.proof
