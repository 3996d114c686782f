-- What the board of a legal sketch shows: the points of the nodes that stand, and the doubled points of the walks.
use Rattle.std.proofs.Common.{◌≡◌, refl, sym, ◌∙◌, ap, ℕ, zero, suc, ◌<◌, Bool, true, false, List, [], ◌∷◌, length, get_or, Option, Some, None, inl, inr, arith}
use Rattle.std.proofs.lemmas.Bool.{cases_lt, true≢false}
use Rattle.std.proofs.lemmas.List.{get_or_past, get_or-replicate}
use Rattle.std.specs.List.{filter_map, list_any, zip}
use Rattle.map_base.specs.declared.ids.SegId.{SegId}
use Rattle.graph_core.specs.declared.parts.GraphParts.{GraphParts}
use Rattle.octi_grid.specs.declared.dir.Dir.{Dir}
use Rattle.octi_grid.specs.declared.point.GridPoint.{GridPoint}
use Rattle.octi_grid.specs.Costs.{step_cost}
use Rattle.octi_grid.specs.Ways.{are_one, doubled, step_from}
use Rattle.octi_grid.specs.Walks.{doubled_of, PlainWalk}
use Rattle.octi_grid.specs.Legal.{is_even}
use Rattle.octi_grid.proofs.Members.{among_from, any_at, any_from, are_one-refl, one_point, In}
use Rattle.grid_board.specs.Boards.{contains, IsBoard}
use Rattle.grid_board.proofs.OnBoards.{ends_among}
use Rattle.segment_router.specs.Routes.{has_doubled, is_settled}
use Rattle.segment_router.proofs.SettledLemmas.{nowhere}
use Rattle.run_laying.specs.Laying.{board_of, board_under, standing_point, standing_points, Sketch}
use Rattle.run_laying.specs.Sketches.{is_standing, point_of_node, walk_in, IsLegalSketch}

-- nodes that stand
pub in_standing : (stand : List Bool) (points : List GridPoint) (n : ℕ) → length stand ≡ length points → get_or stand n false ≡ true → In (get_or points n nowhere) (filter_map standing_point (zip stand points))
in_standing [] points n each e = cc
in_standing (b ∷ bs) [] n each e = absurd (omega arith)
in_standing (true ∷ bs) (p ∷ ps) zero each e = inl refl
in_standing (false ∷ bs) (p ∷ ps) zero each e = cc
in_standing (true ∷ bs) (p ∷ ps) (suc n) each e = inr (in_standing bs ps n (omega arith) e)
in_standing (false ∷ bs) (p ∷ ps) (suc n) each e = in_standing bs ps n (omega arith) e

-- a node that stands at a point
pub record StandsAt (k : Sketch) (p : GridPoint) : Type 0 where
  pub node : ℕ
  pub stands : is_standing k node ≡ true
  pub there : point_of_node k node ≡ p

record Found (stand : List Bool) (points : List GridPoint) (p : GridPoint) : Type 0 where
  at : ℕ
  stands : get_or stand at false ≡ true
  there : get_or points at nowhere ≡ p

later : (b : Bool) (bs : List Bool) (q p : GridPoint) (ps : List GridPoint) → Found bs ps p → Found (b ∷ bs) (q ∷ ps) p
later b bs q p ps f = record { at = suc f.at; stands = f.stands; there = f.there }

from_standing : (stand : List Bool) (points : List GridPoint) (p : GridPoint) → In p (filter_map standing_point (zip stand points)) → Found stand points p
from_standing [] points p m = absurd m
from_standing (b ∷ bs) [] p m = absurd m
from_standing (true ∷ bs) (q ∷ ps) p (inl e) = record { at = 0; stands = refl; there = sym e }
from_standing (true ∷ bs) (q ∷ ps) p (inr m) = later true bs q p ps (from_standing bs ps p m)
from_standing (false ∷ bs) (q ∷ ps) p m = later false bs q p ps (from_standing bs ps p m)

pub node_shown : (graph : GraphParts) (k : Sketch) → IsLegalSketch graph k → (n : ℕ) → is_standing k n ≡ true → (board_of k).is_node (point_of_node k n) ≡ true
node_shown graph k h n stands =
    let each : length k.stand ≡ length k.points = h.stand_each ∙ sym h.points_each in
    any_from (λ (q : GridPoint). are_one q (point_of_node k n)) (standing_points k) (point_of_node k n) (in_standing k.stand k.points n each stands) (are_one-refl (point_of_node k n))

pub shown_node : (k : Sketch) (p : GridPoint) → (board_of k).is_node p ≡ true → StandsAt k p
shown_node k p e =
    let found = any_at (λ (q : GridPoint). are_one q p) (standing_points k) e in
    let place = from_standing k.stand k.points found.0 found.1 in
    record { node = place.at; stands = place.stands; there = place.there ∙ one_point found.0 p found.2 }

-- a node that stands is one of the graph
pub stands_below : (graph : GraphParts) (k : Sketch) → IsLegalSketch graph k → (n : ℕ) → is_standing k n ≡ true → n < length graph.kinds
stands_below graph k h n stands = elim (cases_lt n (length graph.kinds)) [
  | inl below ↦ below
  | inr past ↦ absurd (true≢false (sym stands ∙ get_or_past k.stand n false (omega (arith, past, h.stand_each))))
]

-- and settled
pub settled_there : (graph : GraphParts) (k : Sketch) → IsLegalSketch graph k → (n : ℕ) → is_standing k n ≡ true → is_settled (board_under k) n ≡ true
settled_there graph k h n stands = get_or-replicate (length k.points) n true false (omega (arith, stands_below graph k h n stands, h.points_each))

-- walks
pub in_walks : (ws : List (Option PlainWalk)) (i : ℕ) (w : PlainWalk) → get_or ws i None ≡ Some w → In (Some w) ws
in_walks [] i w e = cc
in_walks (o ∷ ws) zero w e = inl (sym e)
in_walks (o ∷ ws) (suc i) w e = inr (in_walks ws i w e)

pub taken_shown : (k : Sketch) (s : SegId) (w : PlainWalk) (d : GridPoint) → walk_in k s ≡ Some w → In d (doubled_of w) → (board_of k).is_taken d ≡ true
taken_shown k s w d e m = any_from (has_doubled d) k.walks (Some w) (in_walks k.walks s.0 w e) (among_from (doubled_of w) d m)

ends_too : (ws : List (Option PlainWalk)) (p : GridPoint) (d : Dir) → step_cost d ≡ 4 → list_any (has_doubled (step_from (doubled p) d)) ws ≡ true → list_any (has_doubled (doubled p)) ws ≡ true
ends_too ws p d axis e = let found = any_at (has_doubled (step_from (doubled p) d)) ws e in by_walk found.0 found.1 found.2
  where
    by_walk : (o : Option PlainWalk) → In o ws → has_doubled (step_from (doubled p) d) o ≡ true → list_any (has_doubled (doubled p)) ws ≡ true
    by_walk None m f = cc
    by_walk (Some w) m f = any_from (has_doubled (doubled p)) ws (Some w) m (ends_among w.start w.steps p d axis f)

-- so it is a board
pub board_fits : (graph : GraphParts) (k : Sketch) → IsLegalSketch graph k → IsBoard (board_of k)
board_fits graph k h = record {
  in_range = h.bounds;
  nodes_inside = λ p e. let f = shown_node k p e in ap (contains k.bounds) (sym f.there) ∙ h.inside f.node f.stands;
  nodes_even = λ p e. let f = shown_node k p e in ap is_even (sym f.there) ∙ h.even f.node f.stands;
  ends_taken = λ p d axis e. ends_too k.walks p d axis e;
}
