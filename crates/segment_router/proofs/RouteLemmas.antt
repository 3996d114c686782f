-- What a route is: its ends are seats of its nodes, and it is free.
use Rattle.std.proofs.Common.{◌≡◌, Bool, true, false, not, cond, eqb, ◌%◌, ◌&&◌, ◌||◌, ℤ, ◌+ℤ◌, List, [], ◌∷◌, map, filter, Option, Some, None, sym, refl, ap, ◌∙◌, arith, inl, inr}
use Rattle.std.specs.Prelude.{unsigned_abs}
use Rattle.std.proofs.lemmas.Int.{ints}
use Rattle.std.proofs.lemmas.Bool.{and_left, and_right, and_parts, and_from, not-true, eqb-true, eq-eqb, true≢false}
use Rattle.std.specs.List.{flat_map, list_all, list_any}
use Rattle.octi_grid.specs.declared.dir.Dir.{Dir}
use Rattle.octi_grid.specs.declared.point.GridPoint.{GridPoint}
use Rattle.octi_grid.specs.Ways.{after, are_one, doubled, points_from, step_from}
use Rattle.octi_grid.specs.Walks.{doubled_of, end_point, end_port, points_of, start_port, PlainWalk}
use Rattle.octi_grid.specs.Legal.{is_among, is_even}
use Rattle.octi_grid.proofs.Members.{all_at, among_at, are_one_from, In}
use Rattle.walk_search.specs.declared.ends.End.{End}
use Rattle.grid_board.specs.Boards.{is_inside, BoardParts}
use Rattle.walk_search.specs.Seats.{is_free_seat, seats_of, shifted, shifts}
use Rattle.walk_search.proofs.Best.{route_free}
use Rattle.walk_search.proofs.Turning.{of_eight}
use Rattle.walk_search.specs.Routes.{allows, best_of, inner_points, is_free, is_no_worse, is_settled_end, most_steps, route, walks_from}

-- what is left of a list after a test
pub in_filter : {X : Type 0} (test : X → Bool) (xs : List X) (x : X) → In x (filter test xs) → (test x ≡ true) × In x xs
in_filter test [] x m = absurd m
in_filter {X} test (y ∷ ys) x m = by_test (test y) refl m (in_filter test ys x)
  where
    by_test : (t : Bool) → test y ≡ t → In x (cond t (y ∷ filter test ys) (filter test ys)) → (In x (filter test ys) → (test x ≡ true) × In x ys) → (test x ≡ true) × In x (y ∷ ys)
    by_test true e (inl h) later = (ap test h ∙ e, inl h)
    by_test true e (inr m) later = let rest = later m in (rest.0, inr rest.1)
    by_test false e m later = let rest = later m in (rest.0, inr rest.1)

pub in_map : {X Y : Type 0} (f : X → Y) (xs : List X) (y : Y) → In y (map f xs) → (x : X) × In x xs × (y ≡ f x)
in_map f [] y m = absurd m
in_map f (x ∷ xs) y (inl h) = (x, inl refl, h)
in_map f (x ∷ xs) y (inr m) = let found = in_map f xs y m in (found.0, inr found.1, found.2)

-- a shift by even numbers keeps a point even
abbrev even_number : ℤ → Bool
even_number z = eqb (unsigned_abs z % 2) 0

even_sum : (x z : ℤ) → unsigned_abs x % 2 ≡ 0 → unsigned_abs z % 2 ≡ 0 → unsigned_abs (x +ℤ z) % 2 ≡ 0
even_sum x z e f = omega (arith, ints)

even_shift : (home : GridPoint) (by : ℤ × ℤ) → In by shifts → is_even home ≡ true → is_even (shifted home by) ≡ true
even_shift home by m e =
    let shift = and_parts _ _ (all_at (λ (b : ℤ × ℤ). even_number b.0 && even_number b.1) shifts by refl m) in
    let at = and_parts _ _ e in
    and_from _ _
    (eq-eqb _ _ (even_sum home.x by.0 (eqb-true _ _ at.0) (eqb-true _ _ shift.0)))
    (eq-eqb _ _ (even_sum home.y by.1 (eqb-true _ _ at.1) (eqb-true _ _ shift.1)))

-- a point at which an end of a walk may be put
pub record IsSeat (board : BoardParts) (end : End) (p : GridPoint) : Type 0 where
  pub of_settled : end.is_free ≡ false → p ≡ end.at
  pub own : end.is_free ≡ true → (are_one end.at p || not (board.is_node p)) ≡ true
  pub clear : end.is_free ≡ true → board.is_taken (doubled p) ≡ false
  pub even : is_even end.at ≡ true → is_even p ≡ true

pub seat_from : (board : BoardParts) (end : End) (p : GridPoint) → is_among (seats_of board end) p ≡ true → IsSeat board end p
seat_from board end p e = by_test end.is_free refl e
  where
    settled : In p (end.at ∷ []) → p ≡ end.at
    settled (inl h) = h
    settled (inr m) = absurd m

    by_test : (t : Bool) → end.is_free ≡ t → is_among (cond t (filter (is_free_seat board end.at) (map (shifted end.at) shifts)) (end.at ∷ [])) p ≡ true → IsSeat board end p
    by_test true is among =
        let kept = in_filter (is_free_seat board end.at) (map (shifted end.at) shifts) p (among_at (filter (is_free_seat board end.at) (map (shifted end.at) shifts)) p among) in
        let shift = in_map (shifted end.at) shifts p kept.1 in
        let parts = and_parts (is_inside board p && (are_one end.at p || not (board.is_node p))) (not (board.is_taken (doubled p))) kept.0 in
        record {
          of_settled = λ f. absurd (true≢false (sym is ∙ f));
          own = λ _. (and_parts (is_inside board p) (are_one end.at p || not (board.is_node p)) parts.0).1;
          clear = λ _. not-true _ parts.1;
          even = λ h. ap is_even shift.2 ∙ even_shift end.at shift.0 shift.1 h;
        }
    by_test false is among =
        let here : p ≡ end.at = settled (among_at (end.at ∷ []) p among) in
        record {
          of_settled = λ _. here;
          own = λ t. absurd (true≢false (sym t ∙ is));
          clear = λ t. absurd (true≢false (sym t ∙ is));
          even = λ h. ap is_even here ∙ h;
        }

-- the end of a way passes the test of its points
pub end_holds : (test : GridPoint → Bool) (p : GridPoint) (ds : List Dir) → list_all test (points_from p ds) ≡ true → test (after p ds) ≡ true
end_holds test p [] e = (and_parts _ _ e).0
end_holds test p (d ∷ ds) e = end_holds test (step_from p d) ds (and_parts _ _ e).1

pub start_holds : (test : GridPoint → Bool) (p : GridPoint) (ds : List Dir) → list_all test (points_from p ds) ≡ true → test p ≡ true
start_holds test p [] e = (and_parts _ _ e).0
start_holds test p (d ∷ ds) e = (and_parts _ _ e).0

-- a route, as facts
pub record IsRoute (board : BoardParts) (from to : End) (w : PlainWalk) : Type 0 where
  pub at_start : IsSeat board from w.start
  pub at_end : IsSeat board to (end_point w)
  pub moves : w.start ≡ end_point w → ⊥
  pub inside : list_all (is_inside board) (points_of w) ≡ true
  pub past_nodes : list_any board.is_node (inner_points w) ≡ false
  pub clear : (d : GridPoint) → In d (doubled_of w) → board.is_taken d ≡ true → is_settled_end from to w d ≡ true
  pub leaves : allows from.ports (start_port w) ≡ true
  pub arrives : allows to.ports (end_port w) ≡ true

clear_at : (taken : Bool) (other : Bool) → (not taken || other) ≡ true → taken ≡ true → other ≡ true
clear_at true other e h = e
clear_at false other e h = cc

pub free_parts : (board : BoardParts) (from to : End) (w : PlainWalk) → is_free board from to w ≡ true → IsRoute board from to w
free_parts board from to w e =
    let seven = and_parts _ _ e in
    let six = and_parts _ _ seven.0 in
    let five = and_parts _ _ six.0 in
    let four = and_parts _ _ five.0 in
    let three = and_parts _ _ four.0 in
    let two = and_parts _ _ three.0 in
    let one = and_parts _ _ two.0 in
    record {
      at_start = seat_from board from w.start one.0;
      at_end = seat_from board to (end_point w) one.1;
      moves = λ h. true≢false (sym (are_one_from w.start (end_point w) h) ∙ not-true _ two.1);
      inside = three.1;
      past_nodes = not-true _ four.1;
      clear = λ d m t. clear_at (board.is_taken d) (is_settled_end from to w d) (all_at (λ d. not (board.is_taken d) || is_settled_end from to w d) (doubled_of w) d five.1 m) t;
      leaves = six.1;
      arrives = seven.1;
    }

pub route_parts : (board : BoardParts) (from to : End) (w : PlainWalk) → route board from to ≡ Some w → IsRoute board from to w
route_parts board from to w e = free_parts board from to w (route_free (record { board = board; from = from; to = to }) w e)

-- where an end has no allowed port there is no route
no_filter : {X : Type 0} (test : X → Bool) (xs : List X) → ((x : X) → test x ≡ false) → filter test xs ≡ []
no_filter test [] f = refl
no_filter test (x ∷ xs) f = ap (λ t. cond t (x ∷ filter test xs) (filter test xs)) (f x) ∙ no_filter test xs f

pub no_route : (board : BoardParts) (from to : End) → ((w : PlainWalk) → is_free board from to w ≡ false) → route board from to ≡ None
no_route board from to f = ap (best_of (is_no_worse from to)) (no_filter (is_free board from to) (flat_map (walks_from (most_steps board)) (seats_of board from)) f)

none_allowed : (o : Option Dir) → allows 0 o ≡ false
none_allowed None = refl
none_allowed (Some d) = of_eight (λ e. allows 0 (Some e) ≡ false) refl refl refl refl refl refl refl refl d

pub no_route_from : (board : BoardParts) (from to : End) → from.ports ≡ 0 → route board from to ≡ None
no_route_from board from to e = no_route board from to (λ w. and_left _ _ (and_right _ _ (ap (λ m. allows m (start_port w)) e ∙ none_allowed (start_port w))))

pub no_route_to : (board : BoardParts) (from to : End) → to.ports ≡ 0 → route board from to ≡ None
no_route_to board from to e = no_route board from to (λ w. and_right _ _ (ap (λ m. allows m (end_port w)) e ∙ none_allowed (end_port w)))
