-- Runs of segments that are laid anew, one after another, where other walks stand.
use Rattle.std.specs.Prelude.{ℕ, ◌==◌, nat_le, Bool, true, false, List, [], ◌∷◌, length, replicate, if◌then◌else◌, Option, Some, None, slice_set}
use Rattle.std.specs.List.{filter_map, list_any, zip}
use Rattle.map_base.specs.declared.ids.NodeId.{NodeId}
use Rattle.map_base.specs.declared.ids.SegId.{SegId}
use Rattle.graph_core.specs.declared.parts.GraphParts.{GraphParts}
use Rattle.line_chains.specs.declared.chain.Chain.{Chain}
use Rattle.line_chains.specs.declared.chain.ChainStep.{ChainStep}
use Rattle.line_chains.specs.Chains.{end_of, ends_of, last_seg}
use Rattle.octi_grid.specs.declared.point.GridPoint.{GridPoint}
use Rattle.octi_grid.specs.Walks.{PlainWalk, end_point, points_of}
use Rattle.grid_board.specs.declared.bounds.Bounds.{Bounds}
use Rattle.grid_board.specs.Boards.{BoardParts}
use Rattle.walk_search.specs.Routes.{route}
use Rattle.octi_grid.specs.Ways.{are_one}
use Rattle.segment_router.specs.Routes.{end_at, has_doubled, Routed}
use Rattle.run_laying.specs.Pieces.{even_steps, pieces_of, reversed_walk}

-- A drawing in the making: the bounds of its board; the point of each node, and whether it stands there yet; and the walk
-- of each segment, where it has one.
pub record Sketch : Type 0 where
  pub bounds : Bounds
  pub points : List GridPoint
  pub stand : List Bool
  pub walks : List (Option PlainWalk)

-- the point of a node, if it stands there
abbrev pub standing_point : Bool × GridPoint → Option GridPoint
standing_point (false, p) = None
standing_point (true, p) = Some p

abbrev pub standing_points : Sketch → List GridPoint
standing_points k = filter_map standing_point (zip k.stand k.points)

-- the board of a sketch: the points of the nodes that stand are those of nodes, and the doubled points of its walks are
-- taken
abbrev pub board_of : Sketch → BoardParts
board_of k = record {
  bounds = k.bounds;
  is_node = λ p. list_any (λ q. are_one q p) (standing_points k);
  is_taken = λ d. list_any (has_doubled d) k.walks;
}

-- routing on this board, where all nodes are settled
abbrev pub board_under : Sketch → Routed
board_under k = record { board = board_of k; points = k.points; settled = replicate (length k.points) true; walks = k.walks }

-- the first segment of a chain, and its last one
abbrev pub first_seg_of : List ChainStep → SegId
first_seg_of [] = record { 0 = 0 }
first_seg_of (t ∷ ts) = t.seg

abbrev pub last_seg_of : Chain → SegId
last_seg_of c = last_seg (first_seg_of c.steps) c.steps

-- the least free walk between the ends of a run, by ports that its first and its last segment may have beside the walks
-- that stand
abbrev pub run_walk : GraphParts → Routed → Chain → Option PlainWalk
run_walk graph r c = route r.board (end_at graph r (first_seg_of c.steps) c.from.0) (end_at graph r (last_seg_of c) (end_of c).0)

-- a walk of a segment, by its node from which the walk starts: segments are walked from their lower ends
abbrev pub from_low : GraphParts → SegId → NodeId → PlainWalk → PlainWalk
from_low graph s n w = if (ends_of graph s).0.0 == n.0 then w else reversed_walk w

-- a segment has its walk from a node, and the node to which it leads stands at the end of it
abbrev pub with_piece : GraphParts → NodeId → ChainStep → PlainWalk → Sketch → Sketch
with_piece graph n t w k = record {
  bounds = k.bounds;
  points = slice_set k.points t.to.0 (end_point w);
  stand = slice_set k.stand t.to.0 true;
  walks = slice_set k.walks t.seg.0 (Some (from_low graph t.seg n w));
}

-- the segments of steps from a node have these walks
abbrev pub with_pieces : GraphParts → NodeId → List ChainStep → List PlainWalk → Sketch → Sketch
with_pieces graph n [] ws k = k
with_pieces graph n (t ∷ ts) [] k = k
with_pieces graph n (t ∷ ts) (w ∷ ws) k = with_pieces graph t.to ts ws (with_piece graph n t w k)

-- a run has this walk, cut into one piece for each of its segments, if there are even points enough
abbrev pub laid_along : GraphParts → Chain → Sketch → Option PlainWalk → Option Sketch
laid_along graph c k None = None
laid_along graph c k (Some w) =
    if nat_le (length c.steps) (even_steps (points_of w)) then Some (with_pieces graph c.from c.steps (pieces_of w (length c.steps)) k) else None

-- a run is laid, if it can be
abbrev pub laid : GraphParts → Chain → Sketch → Option Sketch
laid graph c k = laid_along graph c k (run_walk graph (board_under k) c)

-- what comes of a sketch, if there is one
abbrev pub if_laid : (Sketch → Option Sketch) → Option Sketch → Option Sketch
if_laid next None = None
if_laid next (Some k) = next k

-- runs are laid, one after another, if each can be
abbrev pub all_laid : GraphParts → List Chain → Sketch → Option Sketch
all_laid graph [] k = Some k
all_laid graph (c ∷ cs) k = if_laid (all_laid graph cs) (laid graph c k)
