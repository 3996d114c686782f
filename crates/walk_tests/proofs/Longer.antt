-- A walk on a board goes on by a step on the board.
use Rattle.std.proofs.Common.{◌≡◌, refl, sym, ◌∙◌, subst, true, ◌&&◌, [], ◌∷◌, ◌++◌}
use Rattle.std.specs.List.{list_all}
use Rattle.std.proofs.lemmas.Bool.{and_from}
use Rattle.octi_grid.specs.declared.dir.Dir.{Dir}
use Rattle.octi_grid.specs.declared.point.GridPoint.{GridPoint}
use Rattle.octi_grid.specs.Ways.{points_from, step_from}
use Rattle.octi_grid.specs.Walks.{PlainWalk, end_point, points_of}
use Rattle.octi_grid.proofs.WayLemmas.{list_all-points-append}
use Rattle.grid_board.specs.declared.bounds.Bounds.{Bounds}
use Rattle.grid_board.specs.Boards.{BoardParts, contains, is_inside}

pub longer : (board : BoardParts) (bounds : Bounds) (old new : PlainWalk) (dir : Dir) (end next : GridPoint) → bounds ≡ board.bounds → end ≡ end_point old → next ≡ step_from end dir →
    contains bounds end ≡ true → contains bounds next ≡ true → list_all (is_inside board) (points_of old) ≡ true → new ≡ record { start = old.start; steps = old.steps ++ dir ∷ [] } →
    list_all (is_inside board) (points_of new) ≡ true
longer board bounds old new dir end next same here there inside beyond all is =
    subst (λ (w : PlainWalk). list_all (is_inside board) (points_of w) ≡ true) (sym is)
    (list_all-points-append (is_inside board) old.start old.steps (dir ∷ [])
    ∙ and_from (list_all (is_inside board) (points_from old.start old.steps)) (is_inside board (end_point old) && (is_inside board (step_from (end_point old) dir) && true)) all
    (and_from (is_inside board (end_point old)) (is_inside board (step_from (end_point old) dir) && true) first (and_from (is_inside board (step_from (end_point old) dir)) true second refl)))
  where
    first : is_inside board (end_point old) ≡ true
    first = subst (λ (p : GridPoint). is_inside board p ≡ true) here (subst (λ (b : Bounds). contains b end ≡ true) same inside)

    second : is_inside board (step_from (end_point old) dir) ≡ true
    second = subst (λ (p : GridPoint). is_inside board (step_from p dir) ≡ true) here (subst (λ (p : GridPoint). is_inside board p ≡ true) there (subst (λ (b : Bounds). contains b next ≡ true) same beyond))
