-- A legal sketch in which all nodes stand and all segments have walks is a legal drawing.
use Rattle.std.proofs.Common.{◌≡◌, sym, ◌∙◌, ap, ℕ, suc, ◌<◌, true, inl, inr, List, [], ◌∷◌, length, get_or, Option, Some, None, arith}
use Rattle.std.proofs.lemmas.List.{length-replicate}
use Rattle.std.specs.List.{filter_map, list_all}
use Rattle.map_base.specs.declared.ids.SegId.{SegId}
use Rattle.graph_core.specs.declared.parts.GraphParts.{GraphParts}
use Rattle.graph_core.specs.Consistent.{IsConsistent}
use Rattle.line_chains.specs.Chains.{ends_of}
use Rattle.octi_grid.specs.declared.point.GridPoint.{GridPoint}
use Rattle.octi_grid.specs.Walks.{doubled_of, points_of, PlainWalk}
use Rattle.octi_grid.proofs.Members.{all_from, among_from, In}
use Rattle.grid_board.specs.Boards.{contains}
use Rattle.segment_router.specs.Underway.{IsUnderway}
use Rattle.segment_router.proofs.LaidLemmas.{IsLaid, Meeting}
use Rattle.segment_router.proofs.LegalRoutes.{all_kept, all_legal}
use Rattle.run_laying.specs.Drawings.{IsOnBoard}
use Rattle.run_laying.specs.Laying.{board_under, Sketch}
use Rattle.run_laying.specs.Sketches.{is_standing, IsLegalSketch, IsMeeting}
use Rattle.run_laying.proofs.Shown.{board_fits, node_shown, settled_there, taken_shown}

-- all nodes stand, and all segments have walks
pub record IsComplete (graph : GraphParts) (k : Sketch) : Type 0 where
  pub nodes : (n : ℕ) → n < length graph.kinds → is_standing k n ≡ true
  pub walks : (i : ℕ) → i < length graph.ends → (w : PlainWalk) × (get_or k.walks i None ≡ Some w)

meeting_of : (graph : GraphParts) (k : Sketch) (s t : SegId) (d : GridPoint) → IsMeeting graph k s t d → Meeting graph (board_under k) s t d
meeting_of graph k s t d m = record { node = m.node; of_one = m.of_one; of_other = m.of_other; there = m.there }

underway_of : (graph : GraphParts) (k : Sketch) → IsLegalSketch graph k → ((n : ℕ) → n < length graph.kinds → is_standing k n ≡ true) → IsUnderway graph (board_under k)
underway_of graph k h all = record {
  points_each = h.points_each;
  settled_each = length-replicate (length k.points) true ∙ h.points_each;
  walks_each = h.walks_each;
  on_board = λ n below. node_shown graph k h n (all n below);
  inside = λ n below. h.inside n (all n below);
  even = λ n below. h.even n (all n below);
  apart = λ n m below too same. h.own n m (all n below) (all m too) same;
  low_settled = λ s w e. settled_there graph k h (ends_of graph s).0.0 (h.low s w e);
  up_settled = λ s w e. settled_there graph k h (ends_of graph s).1.0 (h.up s w e);
}

laid_of : (graph : GraphParts) (k : Sketch) → IsLegalSketch graph k → ((n : ℕ) → n < length graph.kinds → is_standing k n ≡ true) → IsLaid graph (board_under k)
laid_of graph k h all = record {
  underway = underway_of graph k h all;
  board = board_fits graph k h;
  starts = h.starts;
  ends = h.ends;
  once = h.once;
  takes = λ s w d e m. taken_shown k s w d e m;
  apart = λ s t v w d f e g m n. meeting_of graph k s t d (h.apart s t v w d f e g (among_from (doubled_of v) d m) (among_from (doubled_of w) d n));
  clear = λ s w n e below settled m. h.clear s w n e (all n below) (among_from (doubled_of w) _ m);
}

-- each walk of the drawing is that of a segment
from_kept : (ws : List (Option PlainWalk)) (w : PlainWalk) → In w (filter_map (λ v. v) ws) → (i : ℕ) × (get_or ws i None ≡ Some w)
from_kept [] w m = absurd m
from_kept (None ∷ ws) w m = let rest = from_kept ws w m in (suc rest.0, rest.1)
from_kept (Some v ∷ ws) w (inl e) = (0, ap (λ (x : PlainWalk). Some x) (sym e))
from_kept (Some v ∷ ws) w (inr m) = let rest = from_kept ws w m in (suc rest.0, rest.1)

pub whole_legal : (graph : GraphParts) → IsConsistent graph → (k : Sketch) → IsLegalSketch graph k → IsComplete graph k → IsOnBoard graph k.bounds (filter_map (λ w. w) k.walks)
whole_legal graph fit k h whole = record {
  bounds_fit = h.bounds;
  drawn = record {
    each = all_kept k.walks (λ i below. whole.walks i (omega (arith, below, h.walks_each))) ∙ h.walks_each;
    legal = all_legal graph (board_under k) (record { fit = fit; laid = laid_of graph k h whole.nodes; clockwise = h.ports; all = whole.walks });
  };
  within =
      all_from (λ (w : PlainWalk). list_all (contains k.bounds) (points_of w)) (filter_map (λ w. w) k.walks)
      (λ w m. let place = from_kept k.walks w m in let s : SegId = record { 0 = place.0 } in h.within s w place.1);
}
