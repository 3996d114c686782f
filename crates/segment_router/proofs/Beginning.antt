-- Routing begins with each node at home.
use Rattle.std.proofs.Common.{◌≡◌, ℕ, zero, suc, ◌<◌, true, false, pos, List, [], ◌∷◌, length, get_or, replicate, Option, Some, None, sym, refl, ap, subst, ◌∙◌, arith, inl, inr}
use Rattle.std.proofs.lemmas.Bool.{and_parts, cases_lt, or_left, or_right, not-true, true≢false}
use Rattle.std.proofs.lemmas.List.{get_or-replicate, get_or_past, length-replicate}
use Rattle.graph_core.specs.declared.parts.GraphParts.{GraphParts}
use Rattle.octi_grid.specs.declared.point.GridPoint.{GridPoint}
use Rattle.octi_grid.specs.Walks.{PlainWalk}
use Rattle.octi_grid.specs.Legal.{are_distinct, is_even}
use Rattle.octi_grid.proofs.Members.{among_from, are_one-refl, In}
use Rattle.grid_board.specs.declared.bounds.Bounds.{Bounds}
use Rattle.grid_board.specs.Boards.{contains, empty_board, with_node, BoardParts}
use Rattle.start_positions.specs.declared.placing.Placing.{Placing}
use Rattle.start_positions.specs.Homes.{grid_under}
use Rattle.segment_router.specs.Routes.{none_routed, with_nodes}
use Rattle.start_positions.specs.Homes.{IsPlacing}
use Rattle.segment_router.specs.Underway.{IsUnderway}
use Rattle.segment_router.proofs.Places.{all_place, in_at}

-- a board that is given nodes has them, and those that it had
still_node : (homes : List GridPoint) (board : BoardParts) (p : GridPoint) → board.is_node p ≡ true → (with_nodes board homes).is_node p ≡ true
still_node [] board p e = e
still_node (q ∷ homes) board p e = still_node homes (with_node board q) p (or_right _ _ e)

pub homes_are_nodes : (homes : List GridPoint) (board : BoardParts) (n : ℕ) (d : GridPoint) → n < length homes → (with_nodes board homes).is_node (get_or homes n d) ≡ true
homes_are_nodes [] board n d h = absurd (omega arith)
homes_are_nodes (q ∷ homes) board zero d h = still_node homes (with_node board q) q (or_left _ _ (are_one-refl q))
homes_are_nodes (q ∷ homes) board (suc n) d h = homes_are_nodes homes (with_node board q) n d (omega arith)

pub bounds_stay : (homes : List GridPoint) (board : BoardParts) → (with_nodes board homes).bounds ≡ board.bounds
bounds_stay [] board = refl
bounds_stay (q ∷ homes) board = bounds_stay homes (with_node board q)

-- and no walks but those that it had
pub taken_stays : (homes : List GridPoint) (board : BoardParts) (d : GridPoint) → (with_nodes board homes).is_taken d ≡ board.is_taken d
taken_stays [] board d = refl
taken_stays (q ∷ homes) board d = taken_stays homes (with_node board q) d

-- distinct points stand at different places
distinct_places : (ps : List GridPoint) (n m : ℕ) (d : GridPoint) → are_distinct ps ≡ true → n < length ps → m < length ps → get_or ps n d ≡ get_or ps m d → n ≡ m
distinct_places [] n m d e h k same = absurd (omega arith)
distinct_places (q ∷ ps) zero zero d e h k same = refl
distinct_places (q ∷ ps) zero (suc m) d e h k same =
    absurd (true≢false (sym (among_from ps q (subst (λ v. In v ps) (sym same) (in_at ps m d (omega arith)))) ∙ not-true _ (and_parts _ _ e).0))
distinct_places (q ∷ ps) (suc n) zero d e h k same =
    absurd (true≢false (sym (among_from ps q (subst (λ v. In v ps) same (in_at ps n d (omega arith)))) ∙ not-true _ (and_parts _ _ e).0))
distinct_places (q ∷ ps) (suc n) (suc m) d e h k same = ap suc (distinct_places ps n m d (and_parts _ _ e).1 (omega arith) (omega arith) same)

-- nothing is there in a list of nothing
pub nothing_there : {X : Type 0} (n i : ℕ) → (let none : Option X = None in get_or (replicate n none) i none) ≡ None
nothing_there {X} n i = elim (cases_lt i n) [
  | inl h ↦ get_or-replicate n i None None h
  | inr h ↦ get_or_past (replicate n None) i None (omega (arith, h, length-replicate n (let none : Option X = None in none)))
]

pub underway_begins : (graph : GraphParts) → (placing : Placing) → IsPlacing graph placing → IsUnderway graph (none_routed (grid_under placing) placing.points (length graph.ends))
underway_begins graph placing fit = record {
  points_each = fit.one_each;
  settled_each = length-replicate (length placing.points) false ∙ fit.one_each;
  walks_each = length-replicate (length graph.ends) None;
  on_board = λ n h. homes_are_nodes placing.points (empty_board (grid_under placing)) n (record { x = pos 0; y = pos 0 }) (omega (arith, fit.one_each));
  inside = λ n h.
      ap (λ (b : Bounds). contains b (get_or placing.points n (record { x = pos 0; y = pos 0 }))) (bounds_stay placing.points (empty_board (grid_under placing)))
      ∙ all_place (contains (grid_under placing)) placing.points n (record { x = pos 0; y = pos 0 }) fit.inside (omega (arith, fit.one_each));
  even = λ n h. all_place is_even placing.points n (record { x = pos 0; y = pos 0 }) fit.even (omega (arith, fit.one_each));
  apart = λ n m h k e. distinct_places placing.points n m (record { x = pos 0; y = pos 0 }) fit.distinct (omega (arith, fit.one_each)) (omega (arith, fit.one_each)) e;
  low_settled = λ s w e. let clash : (let none : Option PlainWalk = None in none) ≡ Some w = sym (nothing_there (length graph.ends) s.0) ∙ e in cc;
  up_settled = λ s w e. let clash : (let none : Option PlainWalk = None in none) ≡ Some w = sym (nothing_there (length graph.ends) s.0) ∙ e in cc;
}
