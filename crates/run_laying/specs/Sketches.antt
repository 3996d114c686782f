-- Changes of a drawing in the making, and when it is legal.
use Rattle.std.specs.Prelude.{◌≡◌, ℕ, ◌<◌, ◌⊎◌, Bool, true, false, pos, List, [], length, Option, Some, None, All, slice_index_or, slice_set}
use Rattle.std.specs.List.{filter_map, list_all}
use Rattle.map_base.specs.declared.ids.NodeId.{NodeId}
use Rattle.map_base.specs.declared.ids.SegId.{SegId}
use Rattle.graph_core.specs.declared.parts.GraphParts.{GraphParts}
use Rattle.octi_grid.specs.declared.point.GridPoint.{GridPoint}
use Rattle.octi_grid.specs.Ways.{doubled}
use Rattle.octi_grid.specs.Walks.{doubled_of, end_point, points_of, PlainWalk}
use Rattle.octi_grid.specs.Legal.{are_clockwise, are_distinct, is_among, is_even}
use Rattle.grid_board.specs.Boards.{contains, AreBounds}
use Rattle.segment_router.specs.Routes.{port_at_node}
use Rattle.line_chains.specs.declared.chain.Chain.{Chain}
use Rattle.line_chains.specs.declared.chain.ChainStep.{ChainStep}
use Rattle.line_chains.specs.Chains.{end_of, ends_of}
use Rattle.run_laying.specs.Attempts.{inner_nodes}
use Rattle.run_laying.specs.Laying.{board_under, Sketch}

-- a node stands at a point, or is taken off the board
abbrev pub stood : Sketch → NodeId → GridPoint → Sketch
stood k n p = record { bounds = k.bounds; points = slice_set k.points n.0 p; stand = slice_set k.stand n.0 true; walks = k.walks }

abbrev pub lifted : Sketch → NodeId → Sketch
lifted k n = record { bounds = k.bounds; points = k.points; stand = slice_set k.stand n.0 false; walks = k.walks }

-- a segment has a walk, or none
abbrev pub with_walk_of : Sketch → SegId → Option PlainWalk → Sketch
with_walk_of k s w = record { bounds = k.bounds; points = k.points; stand = k.stand; walks = slice_set k.walks s.0 w }

-- ---- legal sketches

-- the point of a node, whether it stands, and the walk of a segment
abbrev pub point_of_node : Sketch → ℕ → GridPoint
point_of_node k n = slice_index_or k.points n (record { x = pos 0; y = pos 0 })

abbrev pub is_standing : Sketch → ℕ → Bool
is_standing k n = slice_index_or k.stand n false

abbrev pub walk_in : Sketch → SegId → Option PlainWalk
walk_in k s = slice_index_or k.walks s.0 None

-- node n is an end of a segment
abbrev pub IsEndOf : GraphParts → SegId → ℕ → Type 0
IsEndOf graph s n = ((ends_of graph s).0.0 ≡ n) ⊎ ((ends_of graph s).1.0 ≡ n)

-- two segments have an end in common whose doubled point is this
pub record IsMeeting (graph : GraphParts) (k : Sketch) (s t : SegId) (d : GridPoint) : Type 0 where
  pub node : ℕ
  pub of_one : IsEndOf graph s node
  pub of_other : IsEndOf graph t node
  pub there : doubled (point_of_node k node) ≡ d

-- A sketch is legal: nodes that stand have even points of their own on the board; each walk joins the points of its ends,
-- which stand, stays on the board, and has no doubled point twice; two walks share a doubled point at a common end alone,
-- and no walk has the point of a node that stands but of its ends; and round each node the ports are in clockwise order.
pub record IsLegalSketch (graph : GraphParts) (k : Sketch) : Type 0 where
  pub bounds : AreBounds k.bounds
  pub points_each : length k.points ≡ length graph.kinds
  pub stand_each : length k.stand ≡ length graph.kinds
  pub walks_each : length k.walks ≡ length graph.ends
  pub inside : (n : ℕ) → is_standing k n ≡ true → contains k.bounds (point_of_node k n) ≡ true
  pub even : (n : ℕ) → is_standing k n ≡ true → is_even (point_of_node k n) ≡ true
  pub own : (n m : ℕ) → is_standing k n ≡ true → is_standing k m ≡ true → point_of_node k n ≡ point_of_node k m → n ≡ m
  pub low : (s : SegId) (w : PlainWalk) → walk_in k s ≡ Some w → is_standing k (ends_of graph s).0.0 ≡ true
  pub up : (s : SegId) (w : PlainWalk) → walk_in k s ≡ Some w → is_standing k (ends_of graph s).1.0 ≡ true
  pub starts : (s : SegId) (w : PlainWalk) → walk_in k s ≡ Some w → w.start ≡ point_of_node k (ends_of graph s).0.0
  pub ends : (s : SegId) (w : PlainWalk) → walk_in k s ≡ Some w → end_point w ≡ point_of_node k (ends_of graph s).1.0
  pub within : (s : SegId) (w : PlainWalk) → walk_in k s ≡ Some w → list_all (contains k.bounds) (points_of w) ≡ true
  pub once : (s : SegId) (w : PlainWalk) → walk_in k s ≡ Some w → are_distinct (doubled_of w) ≡ true
  pub apart : (s t : SegId) (v w : PlainWalk) (d : GridPoint) → (s.0 ≡ t.0 → ⊥) → walk_in k s ≡ Some v → walk_in k t ≡ Some w → is_among (doubled_of v) d ≡ true → is_among (doubled_of w) d ≡ true → IsMeeting graph k s t d
  pub clear : (s : SegId) (w : PlainWalk) (n : ℕ) → walk_in k s ≡ Some w → is_standing k n ≡ true → is_among (doubled_of w) (doubled (point_of_node k n)) ≡ true → IsEndOf graph s n
  pub ports : (n : ℕ) → n < length graph.kinds → are_clockwise (filter_map (port_at_node graph (board_under k) n) (slice_index_or graph.rounds n [])) ≡ true

-- a run may be laid: its ends stand, the nodes between them don't, and its segments have no walk
pub record IsFreeFor (k : Sketch) (c : Chain) : Type 0 where
  pub from : is_standing k c.from.0 ≡ true
  pub end : is_standing k (end_of c).0 ≡ true
  pub inner : All (λ (n : NodeId). is_standing k n.0 ≡ false) (inner_nodes c.steps)
  pub walks : All (λ (t : ChainStep). walk_in k t.seg ≡ None) c.steps
