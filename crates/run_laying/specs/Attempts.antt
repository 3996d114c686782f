-- Attempts to make a drawing lighter: nodes move, and runs are laid anew.
use Rattle.std.specs.Prelude.{ℕ, ◌==◌, ◌&&◌, nat_lt, not, Bool, false, pos, List, [], ◌∷◌, length, map, replicate, if◌then◌else◌, Option, Some, None, slice_index_or}
use Rattle.std.specs.List.{filter_map, list_all, list_any, range_with_len}
use Rattle.map_base.specs.declared.ids.NodeId.{NodeId}
use Rattle.map_base.specs.declared.ids.SegId.{SegId}
use Rattle.graph_core.specs.declared.parts.GraphParts.{GraphParts}
use Rattle.line_chains.specs.declared.chain.Chain.{Chain}
use Rattle.line_chains.specs.declared.chain.ChainStep.{ChainStep}
use Rattle.line_chains.specs.Chains.{ends_of}
use Rattle.octi_grid.specs.declared.dir.Dir.{Dir}
use Rattle.octi_grid.specs.declared.point.GridPoint.{GridPoint}
use Rattle.octi_grid.specs.Ways.{after, are_one}
use Rattle.octi_grid.specs.Walks.{PlainWalk, points_of}
use Rattle.octi_grid.specs.Legal.{is_among}
use Rattle.grid_board.specs.declared.bounds.Bounds.{Bounds}
use Rattle.grid_board.specs.Boards.{contains}
pub use Rattle.drawing_weights.specs.Reach.{bounds_at, bounds_of, bounds_past, bounds_with}
use Rattle.drawing_weights.specs.Weights.{point_of}
use Rattle.run_laying.specs.Laying.{all_laid, Sketch}

-- ---- attempts

-- An attempt: the nodes that move, by so many steps in a direction, and the runs that are laid anew, in order.
pub record Attempt : Type 0 where
  pub nodes : List NodeId
  pub dir : Dir
  pub count : ℕ
  pub runs : List Chain

-- a run of one segment, from its lower end
abbrev pub run_of : GraphParts → SegId → Chain
run_of graph s = record { from = (ends_of graph s).0; steps = record { seg = s; to = (ends_of graph s).1 } ∷ [] }

-- node n is one of these
abbrev pub has_node : List NodeId → ℕ → Bool
has_node nodes n = list_any (λ (m : NodeId). m.0 == n) nodes

-- the nodes of steps at which these don't end
abbrev pub inner_nodes : List ChainStep → List NodeId
inner_nodes [] = []
inner_nodes (t ∷ []) = []
inner_nodes (t ∷ u ∷ ts) = t.to ∷ inner_nodes (u ∷ ts)

-- node n is an inner one of a run
abbrev pub is_inner : List Chain → ℕ → Bool
is_inner runs n = list_any (λ (c : Chain). has_node (inner_nodes c.steps) n) runs

-- segment s is on a run
abbrev pub is_on_runs : List Chain → ℕ → Bool
is_on_runs runs s = list_any (λ (c : Chain). list_any (λ (t : ChainStep). t.seg.0 == s) c.steps) runs

-- where node n stands in an attempt
abbrev pub point_in_attempt : GraphParts → List PlainWalk → Attempt → ℕ → GridPoint
point_in_attempt graph walks a n =
    if has_node a.nodes n then after (point_of graph walks n) (replicate a.count a.dir) else point_of graph walks n

-- the walk of segment s, if it is on no run
abbrev pub walk_beside : List PlainWalk → List Chain → ℕ → Option PlainWalk
walk_beside walks runs s = if is_on_runs runs s then None else Some (slice_index_or walks s (record { start = record { x = pos 0; y = pos 0 }; steps = [] }))

-- a drawing on a board within bounds from which the runs of an attempt are taken away, where its nodes have moved
abbrev pub without_runs : GraphParts → Bounds → List PlainWalk → Attempt → Sketch
without_runs graph bounds walks a = record {
  bounds = bounds;
  points = map (point_in_attempt graph walks a) (range_with_len 0 (length graph.kinds));
  stand = map (λ n. not (is_inner a.runs n)) (range_with_len 0 (length graph.kinds));
  walks = map (walk_beside walks a.runs) (range_with_len 0 (length graph.ends));
}

-- node m, which doesn't move, stands at a point
abbrev pub stands_at : Sketch → List NodeId → GridPoint → ℕ → Bool
stands_at k moved p m = slice_index_or k.stand m false && (not (has_node moved m) && are_one (slice_index_or k.points m p) p)

-- a walk comes over a point
abbrev pub comes_over_point : GridPoint → Option PlainWalk → Bool
comes_over_point p None = false
comes_over_point p (Some w) = is_among (points_of w) p

-- a node may move to a point: it lies within bounds, no other node stands there, and no walk comes over it
abbrev pub may_move_to : Sketch → List NodeId → GridPoint → Bool
may_move_to k moved p =
    contains k.bounds p
    && (not (list_any (stands_at k moved p) (range_with_len 0 (length k.points)))
    && not (list_any (comes_over_point p) k.walks))

-- all nodes of an attempt may move to their points
abbrev pub may_move : Sketch → List NodeId → Bool
may_move k moved = list_all (λ (n : NodeId). may_move_to k moved (slice_index_or k.points n.0 (record { x = pos 0; y = pos 0 }))) moved

-- the walks of a sketch
abbrev pub walks_in : Option Sketch → Option (List PlainWalk)
walks_in None = None
walks_in (Some k) = Some (filter_map (λ w. w) k.walks)

-- nodes of a sketch have moved, and runs are laid on it, if they can be
abbrev pub attempted_on : GraphParts → Sketch → Attempt → Option Sketch
attempted_on graph k a = if may_move k a.nodes then all_laid graph a.runs k else None

-- the walks after an attempt, if it can be made
abbrev pub attempted : GraphParts → Bounds → List PlainWalk → Attempt → Option (List PlainWalk)
attempted graph bounds walks a = walks_in (attempted_on graph (without_runs graph bounds walks a) a)

-- new walks, if there are any and they weigh less
abbrev pub if_lighter : (List PlainWalk → ℕ) → List PlainWalk → Option (List PlainWalk) → Option (List PlainWalk)
if_lighter weigh walks None = None
if_lighter weigh walks (Some new) = if nat_lt (weigh new) (weigh walks) then Some new else None

-- the walks after an attempt that makes a drawing lighter
abbrev pub improving : GraphParts → Bounds → (List PlainWalk → ℕ) → List PlainWalk → Attempt → Option (List PlainWalk)
improving graph bounds weigh walks a = if_lighter weigh walks (attempted graph bounds walks a)
