-- A graph whose nodes have other kinds, but as many of them, is straightened and moved to the same walks.
use Rattle.std.proofs.Common.{◌≡◌, ◌∙◌, ap, refl, ℕ, zero, suc, Bool, List, [], ◌∷◌, length, map, Option, Some, None, Result, Ok, Err}
use Rattle.std.specs.Prelude.{◌+◌, ◌&&◌, ◌++◌, nat_le, not, filter, fold, take, drop, if◌then◌else◌}
use Rattle.std.specs.List.{flat_map, list_any, range_with_len, sum_by}
use Rattle.map_base.specs.declared.ids.NodeId.{NodeId}
use Rattle.map_base.specs.declared.ids.SegId.{SegId}
use Rattle.map_method.specs.declared.drawing_plan.DrawingPlan.{DrawingPlan}
use Rattle.graph_core.specs.declared.parts.GraphParts.{GraphParts}
use Rattle.graph_core.specs.declared.parts.NodeKind.{NodeKind}
use Rattle.octi_grid.specs.Walks.{PlainWalk, points_of}
use Rattle.grid_board.specs.declared.bounds.Bounds.{Bounds}
use Rattle.start_positions.specs.Cells.{cell_side}
use Rattle.line_chains.specs.declared.chain.Chain.{Chain}
use Rattle.line_chains.specs.declared.chain.ChainStep.{ChainStep}
use Rattle.line_chains.specs.Chains.{chains_at, chains_by, chains_of, comes_over, far_end, is_corner, is_forward, is_reached, nodes_along, nodes_of, other_of, plain_corners, ring_corners, round_of, steps_from, unless_ended, way_from, with_ring}
use Rattle.line_chains.specs.Bends.{bend_place, bends_of, chain_bends, corners_of, is_bent, node_at, with_corner}
use Rattle.drawing_weights.specs.Scales.{node_weight_by, walk_weight_by, weight_by, Scale}
use Rattle.segment_router.specs.declared.fault.RouteFault.{RouteFault}
use Rattle.segment_router.specs.Routing.{route_outcome}
use Rattle.run_laying.specs.Pieces.{even_steps, pieces_of}
use Rattle.run_laying.specs.Laying.{all_laid, board_under, if_laid, laid, laid_along, run_walk, with_piece, with_pieces, Sketch}
use Rattle.run_laying.specs.Attempts.{attempted, attempted_on, bounds_past, if_lighter, improving, may_move, point_in_attempt, walk_beside, walks_in, is_inner, without_runs, Attempt}
use Rattle.run_laying.specs.Searches.{after_passes, attempts_alone, searched, Found}
use Rattle.kept_walks.specs.Straightening.{moves_of, moves_over, single_runs, straight_attempts, straight_scale, straightened}
use Rattle.kept_walks.specs.Moves.{improved, move_attempts, moves_scale}
use Rattle.kept_walks.specs.Drawings.{drawing_outcome, straightened_routes}
use Rattle.export_command.proofs.Routes.{same_routes, with_kinds}

module _ (g : GraphParts) (kinds : List NodeKind) (count : length kinds ≡ length g.kinds) where
  abbrev h : GraphParts
  h = with_kinds kinds g

  -- ---- chains

  same_nodes : nodes_of h ≡ nodes_of g
  same_nodes = ap (λ (k : ℕ). map (λ n. record { 0 = n }) (range_with_len 0 k)) count

  same_steps : (corners : List Bool) (most : ℕ) (n : NodeId) (s : SegId) → steps_from h corners most n s ≡ steps_from g corners most n s
  same_steps corners zero n s = refl
  same_steps corners (suc most) n s =
      ap (λ (rest : List ChainStep). record { seg = s; to = far_end g s n } ∷ unless_ended (is_corner corners (far_end g s n)) rest)
      (same_steps corners most (far_end g s n) (other_of (round_of g (far_end g s n)) s))

  same_way : (corners : List Bool) (n : NodeId) (s : SegId) → way_from h corners n s ≡ way_from g corners n s
  same_way corners n s = ap (λ (steps : List ChainStep). record { from = n; steps = steps }) (same_steps corners (length g.ends) n s)

  same_by : (corners : List Bool) (n : NodeId) (ss : List SegId) → chains_by h corners n ss ≡ chains_by g corners n ss
  same_by corners n [] = refl
  same_by corners n (s ∷ ss) = λ i.
      if is_forward g s (same_way corners n s i) then same_way corners n s i ∷ same_by corners n ss i else same_by corners n ss i

  same_at : (corners : List Bool) (n : NodeId) → chains_at h corners n ≡ chains_at g corners n
  same_at corners n = λ i. if is_corner corners n then same_by corners n (round_of g n) i else []

  same_chains : (corners : List Bool) → chains_of h corners ≡ chains_of g corners
  same_chains corners = λ i. flat_map (λ n. same_at corners n i) (same_nodes i)

  -- ---- corners

  same_reached : (corners : List Bool) (n : NodeId) → is_reached h corners n ≡ is_reached g corners n
  same_reached corners n = λ i.
      list_any (λ corner. is_corner corners corner && list_any (λ s. comes_over n (same_way corners corner s i)) (round_of g corner)) (same_nodes i)

  same_with_ring : (corners : List Bool) (n : NodeId) → with_ring h corners n ≡ with_ring g corners n
  same_with_ring corners n = ap (λ (b : Bool). if b then corners else with_corner corners n) (same_reached corners n)

  same_rings : ring_corners h ≡ ring_corners g
  same_rings = λ i. fold (λ corners n. same_with_ring corners n i) (plain_corners g) (same_nodes i)

  same_bends : (most cell : ℕ) (nodes : List NodeId) → bends_of most h cell nodes ≡ bends_of most g cell nodes
  same_bends zero cell nodes = refl
  same_bends (suc most) cell nodes = λ i.
      if is_bent g cell nodes
      then node_at nodes (bend_place g nodes)
      ∷ (same_bends most cell (take (bend_place g nodes + 1) nodes) i ++ same_bends most cell (drop (bend_place g nodes) nodes) i)
      else []

  same_of_chain : (cell : ℕ) (c : Chain) → chain_bends h cell c ≡ chain_bends g cell c
  same_of_chain cell c = same_bends (length (nodes_along c)) cell (nodes_along c)

  same_corners : (cell : ℕ) → corners_of h cell ≡ corners_of g cell
  same_corners cell = λ i. fold with_corner (same_rings i) (flat_map (λ c. same_of_chain cell c i) (same_chains (same_rings i) i))

  -- ---- attempts

  same_attempts : (corners : List Bool) → straight_attempts h corners ≡ straight_attempts g corners
  same_attempts corners = λ i.
      map attempts_alone (same_chains corners i)
      ++ (moves_over (same_chains corners i) (filter (is_corner corners) (same_nodes i)) ++ moves_over (single_runs g) (same_nodes i))

  same_pieces : (n : NodeId) (ts : List ChainStep) (ws : List PlainWalk) (k : Sketch) → with_pieces h n ts ws k ≡ with_pieces g n ts ws k
  same_pieces n [] ws k = refl
  same_pieces n (t ∷ ts) [] k = refl
  same_pieces n (t ∷ ts) (w ∷ ws) k = same_pieces t.to ts ws (with_piece g n t w k)

  same_along : (c : Chain) (k : Sketch) (o : Option PlainWalk) → laid_along h c k o ≡ laid_along g c k o
  same_along c k None = refl
  same_along c k (Some w) =
      ap (λ (new : Sketch). if nat_le (length c.steps) (even_steps (points_of w)) then Some new else None)
      (same_pieces c.from c.steps (pieces_of w (length c.steps)) k)

  same_next : (cs : List Chain) → ((new : Sketch) → all_laid h cs new ≡ all_laid g cs new) → (o : Option Sketch)
      → if_laid (all_laid h cs) o ≡ if_laid (all_laid g cs) o
  same_next cs later None = refl
  same_next cs later (Some new) = later new

  same_laid : (runs : List Chain) (k : Sketch) → all_laid h runs k ≡ all_laid g runs k
  same_laid [] k = refl
  same_laid (c ∷ cs) k =
      ap (if_laid (all_laid h cs)) (same_along c k (run_walk g (board_under k) c))
      ∙ same_next cs (λ new. same_laid cs new) (laid g c k)

  same_without : (bounds : Bounds) (walks : List PlainWalk) (a : Attempt) → without_runs h bounds walks a ≡ without_runs g bounds walks a
  same_without bounds walks a =
      ap (λ (k : ℕ). record {
        bounds = bounds;
        points = map (point_in_attempt g walks a) (range_with_len 0 k);
        stand = map (λ n. not (is_inner a.runs n)) (range_with_len 0 k);
        walks = map (walk_beside walks a.runs) (range_with_len 0 (length g.ends));
      }) count

  same_on : (k : Sketch) (a : Attempt) → attempted_on h k a ≡ attempted_on g k a
  same_on k a = ap (λ (o : Option Sketch). if may_move k a.nodes then o else None) (same_laid a.runs k)

  same_attempted : (bounds : Bounds) (walks : List PlainWalk) (a : Attempt) → attempted h bounds walks a ≡ attempted g bounds walks a
  same_attempted bounds walks a = λ i. walks_in (same_on (same_without bounds walks a i) a i)

  -- ---- the search

  same_weight_by : (scale : Scale) (first walks : List PlainWalk) → weight_by scale h first walks ≡ weight_by scale g first walks
  same_weight_by scale first walks =
      ap (λ (k : ℕ). sum_by (walk_weight_by scale) walks + sum_by (node_weight_by scale g first walks) (range_with_len 0 k)) count

  same_improving : (bounds : Bounds) (scale : Scale) (first walks : List PlainWalk) (a : Attempt)
      → improving h bounds (weight_by scale h first) walks a ≡ improving g bounds (weight_by scale g first) walks a
  same_improving bounds scale first walks a = λ i.
      if_lighter (λ w. same_weight_by scale first w i) walks (same_attempted bounds walks a i)

  same_search : (scale : Scale) (margin : ℕ) (attempts : List Attempt) (at_once most : ℕ) (walks : List PlainWalk)
      → searched h scale margin attempts at_once most walks ≡ searched g scale margin attempts at_once most walks
  same_search scale margin attempts at_once most walks = λ i.
      after_passes (λ w a. same_improving (bounds_past margin walks) scale walks w a i) attempts at_once most most (record { walks = walks; made = 0 })

  same_asked : (cell most : ℕ) (walks : List PlainWalk) → straightened h cell most walks
      ≡ searched h (straight_scale (corners_of g cell)) 20 (straight_attempts g (corners_of g cell)) most most walks
  same_asked cell most walks = λ i.
      searched h (straight_scale (same_corners cell i)) 20 (same_attempts (same_corners cell i) i) most most walks

  same_found : (cell most : ℕ) (walks : List PlainWalk) → straightened h cell most walks ≡ straightened g cell most walks
  same_found cell most walks =
      same_asked cell most walks
      ∙ same_search (straight_scale (corners_of g cell)) 20 (straight_attempts g (corners_of g cell)) most most walks

  same_straightened : (cell straight : ℕ) (o : Result (List PlainWalk) RouteFault)
      → straightened_routes h cell straight o ≡ straightened_routes g cell straight o
  same_straightened cell straight (Ok routes) = ap (λ (f : Found). Ok f.walks) (same_found (cell_side g.places cell) straight routes)
  same_straightened cell straight (Err stop) = refl

  -- the drawing is the same
  pub same_drawing : (plan : DrawingPlan) → drawing_outcome h plan ≡ drawing_outcome g plan
  same_drawing plan =
      ap (straightened_routes h plan.cell plan.straight) (same_routes g kinds plan)
      ∙ same_straightened plan.cell plan.straight (route_outcome g plan)

  -- ---- moves

  same_moves : move_attempts h ≡ move_attempts g
  same_moves = ap (flat_map (λ n. moves_of 1 (single_runs g) (n ∷ []))) same_nodes

  -- the walks after moves
  pub same_walks : (moves : ℕ) (walks : List PlainWalk) → (improved h walks moves).walks ≡ (improved g walks moves).walks
  same_walks moves walks =
      ap (λ (attempts : List Attempt). (searched h moves_scale 4 attempts 1 moves walks).walks) same_moves
      ∙ ap (λ (f : Found). f.walks) (same_search moves_scale 4 (move_attempts g) 1 moves walks)
