-- What a drawing weighs by a scale.
use Rattle.std.specs.Prelude.{ℕ, ◌+◌, ◌*◌, ◌==◌, ◌&&◌, Bool, false, List, [], ◌∷◌, length, if◌then◌else◌, Option, Some, None, slice_index_or}
use Rattle.std.specs.List.{list_any, range_with_len, sum_by}
use Rattle.map_base.specs.declared.ids.SegId.{SegId}
use Rattle.graph_core.specs.declared.parts.GraphParts.{GraphParts}
use Rattle.graph_core.specs.declared.parts.Join.{Join}
use Rattle.octi_grid.specs.declared.dir.Dir.{Dir}
use Rattle.octi_grid.specs.declared.point.GridPoint.{GridPoint}
use Rattle.octi_grid.specs.Ways.{reverse_of}
use Rattle.octi_grid.specs.Costs.{turn_between}
use Rattle.octi_grid.specs.Walks.{PlainWalk, cost_of}
use Rattle.octi_grid.specs.Legal.{legs_of, port_of}
use Rattle.drawing_weights.specs.declared.weighing.Weighing.{Weighing}
use Rattle.drawing_weights.specs.Weights.{point_of, square_apart, turns_of}

-- By what a drawing is weighed: how often the turns of a walk count beside its cost, how often the turns that lines make
-- over nodes, how often the square of a node's distance from where it first stood, and for which nodes that counts.
pub record Scale : Type 0 where
  pub turns : ℕ
  pub overs : ℕ
  pub aparts : ℕ
  pub is_held : ℕ → Bool

-- the scale of a weighing
abbrev pub scale_of : Weighing → Scale
scale_of by = record { turns = by.turns; overs = by.overs; aparts = by.aparts; is_held = λ n. slice_index_or by.held.now n false }

-- a walk weighs what it costs, and its turns
abbrev pub walk_weight_by : Scale → PlainWalk → ℕ
walk_weight_by scale w = cost_of w + scale.turns * turns_of w.steps

-- ---- lines that go over nodes

-- two joins join the same segments
abbrev pub join_same : Join → Join → Bool
join_same j k = (j.e.0 == k.e.0) && (j.f.0 == k.f.0)

-- the pairs of segments that some line joins, each once
abbrev pub joined_pairs : List Join → List (SegId × SegId)
joined_pairs [] = []
joined_pairs (j ∷ js) = if list_any (join_same j) js then joined_pairs js else (j.e, j.f) ∷ joined_pairs js

-- the turn of a line that comes by the one port and goes on by the other
abbrev pub turn_over : Option Dir → Option Dir → ℕ
turn_over None q = 0
turn_over (Some p) None = 0
turn_over (Some p) (Some q) = turn_between (reverse_of p) q

-- the turn that a line makes over node n from the one segment to the other
abbrev pub turn_at : GraphParts → List PlainWalk → ℕ → SegId × SegId → ℕ
turn_at graph walks n pair = turn_over (port_of (legs_of graph.ends walks) n pair.0) (port_of (legs_of graph.ends walks) n pair.1)

-- the turns that lines make over node n: each once for two segments that some line joins there
abbrev pub turns_over : GraphParts → List PlainWalk → ℕ → ℕ
turns_over graph walks n = sum_by (turn_at graph walks n) (joined_pairs (slice_index_or graph.joins n []))

-- ---- nodes and drawings

-- a node weighs so much for its distance from where it first stood, where that counts
abbrev pub apart_weight_by : Scale → ℕ → GridPoint → GridPoint → ℕ
apart_weight_by scale n first here = if scale.is_held n then scale.aparts * square_apart first here else 0

-- and for the turns that lines make over it
abbrev pub node_weight_by : Scale → GraphParts → List PlainWalk → List PlainWalk → ℕ → ℕ
node_weight_by scale graph first walks n = scale.overs * turns_over graph walks n + apart_weight_by scale n (point_of graph first n) (point_of graph walks n)

-- a drawing weighs its walks and its nodes, where the first one was this
abbrev pub weight_by : Scale → GraphParts → List PlainWalk → List PlainWalk → ℕ
weight_by scale graph first walks = sum_by (walk_weight_by scale) walks + sum_by (node_weight_by scale graph first walks) (range_with_len 0 (length graph.kinds))
