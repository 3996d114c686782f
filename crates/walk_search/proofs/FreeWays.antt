-- A walk goes on from a point: a recursion along its steps that says the same as the tests of a free walk.
use Rattle.std.proofs.Common.{◌≡◌, refl, ◌∙◌, ap, ◌+◌, Bool, true, false, not, ◌&&◌, List, [], ◌∷◌, length, take, drop, arith}
use Rattle.std.specs.List.{list_all, list_any}
use Rattle.std.proofs.lemmas.Bool.{and_parts, and_from, not-true, not_from_false, or_from, or_parts}
use Rattle.octi_grid.specs.declared.dir.Dir.{Dir}
use Rattle.octi_grid.specs.declared.point.GridPoint.{GridPoint}
use Rattle.octi_grid.specs.Ways.{after, doubled, doubled_from, points_from, step_from}
use Rattle.octi_grid.specs.Walks.{PlainWalk}
use Rattle.grid_board.specs.Boards.{BoardParts, is_inside}
use Rattle.walk_search.specs.Routes.{inner_points}
use Rattle.walk_search.specs.Moves.{is_open, is_passable}

-- the points of a way behind its start and before its end
abbrev pub inner_from : GridPoint → List Dir → List GridPoint
inner_from p [] = []
inner_from p (d ∷ []) = []
inner_from p (d ∷ e ∷ ds) = step_from p d ∷ inner_from (step_from p d) (e ∷ ds)

points_count : (p : GridPoint) (ds : List Dir) → length (points_from p ds) ≡ length ds + 1
points_count p [] = refl
points_count p (d ∷ ds) = let rest : length (points_from (step_from p d) ds) ≡ length ds + 1 = points_count (step_from p d) ds in omega arith

-- all points but the last
abbrev front_of : GridPoint → List Dir → List GridPoint
front_of p [] = []
front_of p (d ∷ ds) = p ∷ front_of (step_from p d) ds

take_front : (p : GridPoint) (ds : List Dir) → take (length ds) (points_from p ds) ≡ front_of p ds
take_front p [] = refl
take_front p (d ∷ ds) = ap (λ ps. p ∷ ps) (take_front (step_from p d) ds)

front_behind : (p : GridPoint) (d : Dir) (ds : List Dir) → front_of (step_from p d) ds ≡ inner_from p (d ∷ ds)
front_behind p d [] = refl
front_behind p d (e ∷ ds) = ap (λ ps. step_from p d ∷ ps) (front_behind (step_from p d) e ds)

pub inner_is : (w : PlainWalk) (d : Dir) (ds : List Dir) → w.steps ≡ d ∷ ds → inner_points w ≡ inner_from w.start (d ∷ ds)
inner_is w d ds e =
    ap (λ (steps : List Dir). drop 1 (take (length steps) (points_from w.start steps))) e
    ∙ ap (drop 1) (take_front w.start (d ∷ ds))
    ∙ front_behind w.start d ds

-- each step of a way is open, and a walk may go on from each point between
abbrev pub Along : BoardParts → GridPoint → List Dir → Type 0
Along board p [] = Unit {0}
Along board p (d ∷ []) = is_open board p d ≡ true
Along board p (d ∷ e ∷ ds) = (is_open board p d ≡ true) × (is_passable board (step_from p d) ≡ true) × Along board (step_from p d) (e ∷ ds)

pub record IsOpenStep (board : BoardParts) (p : GridPoint) (d : Dir) : Type 0 where
  pub here : is_inside board p ≡ true
  pub there : is_inside board (step_from p d) ≡ true
  pub clear : board.is_taken (step_from (doubled p) d) ≡ false

pub open_parts : (board : BoardParts) (p : GridPoint) (d : Dir) → is_open board p d ≡ true → IsOpenStep board p d
open_parts board p d e =
    let first = and_parts (is_inside board p) (is_inside board (step_from p d) && not (board.is_taken (step_from (doubled p) d))) e in
    let second = and_parts (is_inside board (step_from p d)) (not (board.is_taken (step_from (doubled p) d))) first.1 in
    record { here = first.0; there = second.0; clear = not-true (board.is_taken (step_from (doubled p) d)) second.1 }

pub open_from : (board : BoardParts) (p : GridPoint) (d : Dir) → IsOpenStep board p d → is_open board p d ≡ true
open_from board p d h =
    and_from (is_inside board p) (is_inside board (step_from p d) && not (board.is_taken (step_from (doubled p) d))) h.here
    (and_from (is_inside board (step_from p d)) (not (board.is_taken (step_from (doubled p) d))) h.there (not_from_false (board.is_taken (step_from (doubled p) d)) h.clear))

pub passable_parts : (board : BoardParts) (p : GridPoint) → is_passable board p ≡ true → (board.is_node p ≡ false) × (board.is_taken (doubled p) ≡ false)
passable_parts board p e =
    let parts = and_parts (not (board.is_node p)) (not (board.is_taken (doubled p))) e in
    (not-true (board.is_node p) parts.0, not-true (board.is_taken (doubled p)) parts.1)

pub passable_from : (board : BoardParts) (p : GridPoint) → board.is_node p ≡ false → board.is_taken (doubled p) ≡ false → is_passable board p ≡ true
passable_from board p e f = and_from (not (board.is_node p)) (not (board.is_taken (doubled p))) (not_from_false (board.is_node p) e) (not_from_false (board.is_taken (doubled p)) f)

pub first_open : (board : BoardParts) (p : GridPoint) (d : Dir) (ds : List Dir) → Along board p (d ∷ ds) → is_open board p d ≡ true
first_open board p d [] a = a
first_open board p d (e ∷ ds) a = a.0

-- what follows for the tests of a free walk
pub along_inside : (board : BoardParts) (p : GridPoint) (d : Dir) (ds : List Dir) → Along board p (d ∷ ds) → list_all (is_inside board) (points_from p (d ∷ ds)) ≡ true
along_inside board p d [] a =
    let o = open_parts board p d a in
    and_from (is_inside board p) (is_inside board (step_from p d) && true) o.here (and_from (is_inside board (step_from p d)) true o.there refl)
along_inside board p d (e ∷ ds) a =
    and_from (is_inside board p) (list_all (is_inside board) (points_from (step_from p d) (e ∷ ds))) (open_parts board p d a.0).here (along_inside board (step_from p d) e ds a.2)

pub along_inner : (board : BoardParts) (p : GridPoint) (d : Dir) (ds : List Dir) → Along board p (d ∷ ds) → list_any board.is_node (inner_from p (d ∷ ds)) ≡ false
along_inner board p d [] a = refl
along_inner board p d (e ∷ ds) a =
    or_from (board.is_node (step_from p d)) (list_any board.is_node (inner_from (step_from p d) (e ∷ ds))) (passable_parts board (step_from p d) a.1).0 (along_inner board (step_from p d) e ds a.2)

pub along_clear : (board : BoardParts) (test : GridPoint → Bool) (p : GridPoint) (d : Dir) (ds : List Dir) → ((r : GridPoint) → board.is_taken r ≡ false → test r ≡ true) →
    test (doubled p) ≡ true → test (doubled (after p (d ∷ ds))) ≡ true → Along board p (d ∷ ds) → list_all test (doubled_from p (d ∷ ds)) ≡ true
along_clear board test p d [] clear at_start at_end a =
    and_from (test (doubled p)) (test (step_from (doubled p) d) && (test (doubled (step_from p d)) && true)) at_start
    (and_from (test (step_from (doubled p) d)) (test (doubled (step_from p d)) && true) (clear (step_from (doubled p) d) (open_parts board p d a).clear)
    (and_from (test (doubled (step_from p d))) true at_end refl))
along_clear board test p d (e ∷ ds) clear at_start at_end a =
    and_from (test (doubled p)) (test (step_from (doubled p) d) && list_all test (doubled_from (step_from p d) (e ∷ ds))) at_start
    (and_from (test (step_from (doubled p) d)) (list_all test (doubled_from (step_from p d) (e ∷ ds))) (clear (step_from (doubled p) d) (open_parts board p d a.0).clear)
    (along_clear board test (step_from p d) e ds clear (clear (doubled (step_from p d)) (passable_parts board (step_from p d) a.1).1) at_end a.2))

-- and the other way round
pub along_from : (board : BoardParts) (test : GridPoint → Bool) (p : GridPoint) (d : Dir) (ds : List Dir) →
    ((r : GridPoint) (e : Dir) → test (step_from (doubled r) e) ≡ true → board.is_taken (step_from (doubled r) e) ≡ false) →
    ((r : GridPoint) → board.is_node r ≡ false → test (doubled r) ≡ true → board.is_taken (doubled r) ≡ false) →
    list_all (is_inside board) (points_from p (d ∷ ds)) ≡ true → list_any board.is_node (inner_from p (d ∷ ds)) ≡ false → list_all test (doubled_from p (d ∷ ds)) ≡ true → Along board p (d ∷ ds)
along_from board test p d [] middles points inside inner clear =
    let i = and_parts (is_inside board p) (is_inside board (step_from p d) && true) inside in
    let c = and_parts (test (doubled p)) (test (step_from (doubled p) d) && (test (doubled (step_from p d)) && true)) clear in
    open_from board p d
    (record { here = i.0; there = (and_parts (is_inside board (step_from p d)) true i.1).0; clear = middles p d (and_parts (test (step_from (doubled p) d)) (test (doubled (step_from p d)) && true) c.1).0 })
along_from board test p d (e ∷ ds) middles points inside inner clear =
    let i = and_parts (is_inside board p) (list_all (is_inside board) (points_from (step_from p d) (e ∷ ds))) inside in
    let c = and_parts (test (doubled p)) (test (step_from (doubled p) d) && list_all test (doubled_from (step_from p d) (e ∷ ds))) clear in
    let m = and_parts (test (step_from (doubled p) d)) (list_all test (doubled_from (step_from p d) (e ∷ ds))) c.1 in
    let none = or_parts (board.is_node (step_from p d)) (list_any board.is_node (inner_from (step_from p d) (e ∷ ds))) inner in (
      open_from board p d (record { here = i.0; there = first_inside (step_from p d) (e ∷ ds) i.1; clear = middles p d m.0 }),
      passable_from board (step_from p d) none.0 (points (step_from p d) none.0 (first_test (step_from p d) (e ∷ ds) m.1)),
      along_from board test (step_from p d) e ds middles points i.1 none.1 m.1,
    )
  where
    first_inside : (r : GridPoint) (es : List Dir) → list_all (is_inside board) (points_from r es) ≡ true → is_inside board r ≡ true
    first_inside r [] h = (and_parts (is_inside board r) true h).0
    first_inside r (x ∷ es) h = (and_parts (is_inside board r) (list_all (is_inside board) (points_from (step_from r x) es)) h).0

    first_test : (r : GridPoint) (es : List Dir) → list_all test (doubled_from r es) ≡ true → test (doubled r) ≡ true
    first_test r [] h = (and_parts (test (doubled r)) true h).0
    first_test r (x ∷ es) h = (and_parts (test (doubled r)) (test (step_from (doubled r) x) && list_all test (doubled_from (step_from r x) es)) h).0
