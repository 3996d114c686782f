use Rattle.std.proofs.Common.{◌≡◌, ◌*◌, ◌≤◌, take}
use Rattle.drawing_search.proofs.Common.{all_moved, apart_weight_by, first_point, scale_of, sum_by, GridPoint, NodeId}
use Rattle.drawing_search.proofs.trying.aparts_after.Given as goal

-- what the nodes so far weigh
abbrev pub invariant-loop-known : goal.invariant-loop-known
invariant-loop-known l =
    (l.total ≡ sum_by (λ (m : NodeId × GridPoint). apart_weight_by (scale_of l.field.by) m.0.0 (first_point l.field.first.now m.0.0) m.1) (all_moved l.vector (take l.known-index l.moved)))
    × (l.total ≤ 4294967296 * l.known-index)
