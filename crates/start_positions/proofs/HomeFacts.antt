-- Homes are even points of the grid, no two the same.
use Rattle.std.proofs.Common.{◌≡◌, refl, sym, ◌∙◌, ap, ℕ, suc, ◌+◌, ◌*◌, ◌<◌, ◌≤◌, Bool, true, false, not, ◌&&◌, ◌||◌, List, [], ◌∷◌, ◌++◌, length, length-append, arith}
use Rattle.std.specs.List.{list_all}
use Rattle.std.proofs.lemmas.Bool.{and_from, and_parts, not-true, or_parts}
use Rattle.least_path.specs.Least.{least_by}
use Rattle.least_path.proofs.Chosen.{StandsIn, AllAre, all-at, all-weaker, least-stands}
use Rattle.graph_core.specs.declared.parts.GraphParts.{GraphParts}
use Rattle.graph_core.specs.Consistent.{IsConsistent}
use Rattle.octi_grid.specs.declared.point.GridPoint.{GridPoint}
use Rattle.octi_grid.specs.Ways.{are_one}
use Rattle.octi_grid.specs.Legal.{are_distinct, is_among, is_even}
use Rattle.grid_board.specs.declared.bounds.Bounds.{Bounds}
use Rattle.grid_board.specs.Boards.{contains, AreBounds}
use Rattle.grid_board.specs.Frames.{IsFrame}
use Rattle.grid_board.proofs.Within.{frame_of}
use Rattle.start_positions.specs.declared.placing.Offset.{Offset}
use Rattle.start_positions.specs.Cells.{cell_side, grid_of, is_too_fine, root_up}
use Rattle.start_positions.specs.Homes.{free_points, home_of, homes_beside, homes_of, is_no_farther, placing_at, points_within}
use Rattle.start_positions.specs.Homes.{IsPlacing}
use Rattle.start_positions.proofs.OpenPoints.{all_kept, all_within, among_push, corner_of, stands_kept, stands_within}
use Rattle.start_positions.proofs.Rooms.{margin_enough, room, IsRoundOrigin, IsUnused}
use Rattle.start_positions.proofs.GridLemmas.{fine_enough, grid_bounds, grid_round}

-- one home for each offset
pub one_home_each : (grid : Bounds) (side fineness : ℕ) (used : List GridPoint) (offsets : List Offset) → length (homes_beside grid side fineness used offsets) ≡ length offsets
one_home_each grid side fineness used [] = refl
one_home_each grid side fineness used (o ∷ os) = ap suc (one_home_each grid side fineness (used ++ home_of grid side fineness used o ∷ []) os)

-- where some even point is unused, the home is one
least_stands_in : {A : Type 0} (le : A → A → Bool) (other p : A) (xs : List A) → StandsIn p xs → StandsIn (least_by le other xs) xs
least_stands_in le other p [] stands = absurd stands
least_stands_in le other p (x ∷ xs) stands = least-stands le other x xs

home_unused : (grid : Bounds) (side fineness : ℕ) (used : List GridPoint) (o : Offset) → IsFrame grid → (p : GridPoint) × IsUnused grid used p → IsUnused grid used (home_of grid side fineness used o)
home_unused grid side fineness used o frame some =
    all-at (IsUnused grid used) (home_of grid side fineness used o) (free_points grid used) all
    (least_stands_in (is_no_farther side fineness o) (corner_of grid) some.0 (free_points grid used) stands)
  where
    is_free : GridPoint → Bool
    is_free p = is_even p && not (is_among used p)

    stands : StandsIn some.0 (free_points grid used)
    stands =
        stands_kept (λ p. is_even p && not (is_among used p)) some.0 (points_within grid) (and_from (is_even some.0) (not (is_among used some.0)) some.1.even (ap not some.1.unused))
        (stands_within grid some.0 some.1.inside)

    all : AllAre (IsUnused grid used) (free_points grid used)
    all =
        all_kept (λ p. is_even p && not (is_among used p)) (IsUnused grid used) (points_within grid)
        (all_within grid (λ p. (is_even p && not (is_among used p)) ≡ true → IsUnused grid used p) frame
        (λ p inside free. (let parts = and_parts (is_even p) (not (is_among used p)) free in record { inside = inside; even = parts.0; unused = not-true (is_among used p) parts.1 })))

-- one home before others
home_before : (grid : Bounds) (used : List GridPoint) (h : GridPoint) (hs : List GridPoint) → IsUnused grid used h → AllAre (IsUnused grid (used ++ h ∷ [])) hs × (are_distinct hs ≡ true)
    → AllAre (IsUnused grid used) (h ∷ hs) × (are_distinct (h ∷ hs) ≡ true)
home_before grid used h hs here later =
    ((here, all-weaker (IsUnused grid (used ++ h ∷ [])) (IsUnused grid used) hs fewer later.0), and_from (not (is_among hs h)) (are_distinct hs) (ap not (not_among hs later.0)) later.1)
  where
    parts : (p : GridPoint) → IsUnused grid (used ++ h ∷ []) p → (are_one h p ≡ false) × (is_among used p ≡ false)
    parts p u = or_parts (are_one h p) (is_among used p) (sym (among_push used h p) ∙ u.unused)

    fewer : (p : GridPoint) → IsUnused grid (used ++ h ∷ []) p → IsUnused grid used p
    fewer p u = record { inside = u.inside; even = u.even; unused = (parts p u).1 }

    not_among : (ps : List GridPoint) → AllAre (IsUnused grid (used ++ h ∷ [])) ps → is_among ps h ≡ false
    not_among [] all = refl
    not_among (p ∷ ps) all = ap (λ t. t || is_among ps h) (parts p all.0).0 ∙ not_among ps all.1

-- homes beside others are unused, and no two the same
pub homes_unused : (m : ℕ) (grid : Bounds) (side fineness : ℕ) (used : List GridPoint) (offsets : List Offset) → 0 < m → IsRoundOrigin m grid → IsFrame grid → length used + length offsets ≤ m * m
    → AllAre (IsUnused grid used) (homes_beside grid side fineness used offsets) × (are_distinct (homes_beside grid side fineness used offsets) ≡ true)
homes_unused m grid side fineness used [] some round frame few = (tt, refl)
homes_unused m grid side fineness used (o ∷ os) some round frame few =
    home_before grid used (home_of grid side fineness used o) (homes_beside grid side fineness (used ++ home_of grid side fineness used o ∷ []) os)
    (home_unused grid side fineness used o frame (room m grid used some round (omega arith)))
    (homes_unused m grid side fineness (used ++ home_of grid side fineness used o ∷ []) os some round frame
    (let long : length (used ++ home_of grid side fineness used o ∷ []) ≡ length used + 1 = length-append used (home_of grid side fineness used o ∷ []) in omega arith))

-- what holds of all points of a list, as a test
pub list_all_from : {X : Type 0} (test : X → Bool) (P : X → Type 0) (xs : List X) → ((x : X) → P x → test x ≡ true) → AllAre P xs → list_all test xs ≡ true
list_all_from test P [] each all = refl
list_all_from test P (x ∷ xs) each all = and_from (test x) (list_all test xs) (each x all.0) (list_all_from test P xs each all.1)

-- the placing of a graph is one from which its segments can be routed
pub placing_fits : (graph : GraphParts) (cell fineness : ℕ) (offsets : List Offset) → IsConsistent graph → fineness ≤ 16 → is_too_fine graph.places cell ≡ false → length offsets ≡ length graph.kinds
    → IsPlacing graph (placing_at graph cell fineness offsets)
placing_fits graph cell fineness offsets fit fine not_fine each = record {
  grid = bounds;
  one_each = one_home_each grid side fineness [] offsets ∙ each;
  distinct = all.1;
  even = list_all_from is_even (IsUnused grid []) (homes_of grid side fineness offsets) (λ p u. u.even) all.0;
  inside = list_all_from (contains grid) (IsUnused grid []) (homes_of grid side fineness offsets) (λ p u. u.inside) all.0;
}
  where
    side : ℕ
    side = cell_side graph.places cell

    grid : Bounds
    grid = grid_of graph.places (cell_side graph.places cell) fineness

    bounds : AreBounds (grid_of graph.places (cell_side graph.places cell) fineness)
    bounds = grid_bounds graph.places (cell_side graph.places cell) fineness (fine_enough graph.places cell fineness not_fine fine)

    all : AllAre (IsUnused (grid_of graph.places (cell_side graph.places cell) fineness) []) (homes_of (grid_of graph.places (cell_side graph.places cell) fineness) (cell_side graph.places cell) fineness offsets)
        × (are_distinct (homes_of (grid_of graph.places (cell_side graph.places cell) fineness) (cell_side graph.places cell) fineness offsets) ≡ true)
    all =
        let nodes : length graph.places ≤ 10000 = omega (arith, fit.place_each, fit.few_nodes) in
        let enough = margin_enough (length graph.places) nodes in
        homes_unused (4 + root_up (length graph.places)) (grid_of graph.places (cell_side graph.places cell) fineness) (cell_side graph.places cell) fineness [] offsets (omega arith)
        (grid_round graph.places (cell_side graph.places cell) fineness) (frame_of (grid_of graph.places (cell_side graph.places cell) fineness) bounds) (omega (arith, each, fit.place_each))
