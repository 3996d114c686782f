-- Homes on a board, and in the list of all free points.
use Rattle.std.proofs.Common.{◌≡◌, refl, sym, ◌∙◌, ap, subst, ℕ, zero, suc, ◌+◌, ◌<◌, ◌⊎◌, inl, inr, Bool, true, false, cond, not, ◌&&◌, ◌||◌, List, [], ◌∷◌, ◌++◌, length, get_or, drop, filter, append_assoc, Option, Some, None, arith}
use Rattle.std.specs.List.{range_with_len, AllByRecursion}
use Rattle.std.proofs.lemmas.Bool.{and_parts, and_from, both_ways, false_from_ne_true}
use Rattle.std.proofs.lemmas.List.{drop_more}
use Rattle.least_path.specs.Least.{least_by}
use Rattle.least_path.proofs.Chosen.{StandsIn, AllAre, IsBetter, all-map, all-range, least-is, stands-map, stands-range}
use Rattle.octi_grid.specs.declared.point.GridPoint.{GridPoint}
use Rattle.octi_grid.specs.Ways.{are_one}
use Rattle.octi_grid.specs.Legal.{is_among, is_even}
use Rattle.grid_board.specs.declared.bounds.Bounds.{Bounds}
use Rattle.grid_board.specs.Boards.{cell_of, cells_of, contains, is_inside, point_of, with_node, BoardParts}
use Rattle.grid_board.specs.Frames.{IsFrame}
use Rattle.grid_board.proofs.Marks.{one_is, one_true}
use Rattle.grid_board.proofs.Within.{inside_facts, inside_test, point_below, point_inside, point_of-cell}
use Rattle.start_positions.specs.declared.spot.Spot.{Spot}
use Rattle.start_positions.specs.declared.placing.Offset.{Offset}
use Rattle.start_positions.specs.Homes.{home_of, homes_beside, points_within}
use Rattle.start_positions.specs.Nearest.{home_on, is_open, no_farther, with_home, HasHomes, IsNearest}
use Rattle.start_positions.proofs.Distances.{no_farther_same}
use Rattle.start_positions.proofs.Rows.{is_open_from, open_inside}

-- what a test keeps of a list
pub all_kept : {X : Type 0} (test : X → Bool) (P : X → Type 0) (xs : List X) → AllAre (λ x. test x ≡ true → P x) xs → AllAre P (filter test xs)
all_kept test P [] all = tt
all_kept {X = X} test P (x ∷ xs) all = of_test (test x) refl (all_kept test P xs all.1)
  where
    of_test : (t : Bool) → test x ≡ t → AllAre P (filter test xs) → AllAre P (cond t (x ∷ filter test xs) (filter test xs))
    of_test true e rest = (all.0 e, rest)
    of_test false e rest = rest

pub stands_kept : {X : Type 0} (test : X → Bool) (p : X) (xs : List X) → test p ≡ true → StandsIn p xs → StandsIn p (filter test xs)
stands_kept test p [] e stands = absurd stands
stands_kept {X = X} test p (x ∷ xs) e stands = of_test (test x) refl stands (stands_kept test p xs e)
  where
    of_test : (t : Bool) → test x ≡ t → StandsIn p (x ∷ xs) → (StandsIn p xs → StandsIn p (filter test xs)) → StandsIn p (cond t (x ∷ filter test xs) (filter test xs))
    of_test true f (inl same) later = inl same
    of_test true f (inr stands) later = inr (later stands)
    of_test false f (inl same) later = absurd (both_ways (test x) f (subst (λ (y : X). test y ≡ true) (sym same) e))
    of_test false f (inr stands) later = later stands

pub none_kept : {X : Type 0} (test : X → Bool) (xs : List X) → AllAre (λ x. test x ≡ false) xs → filter test xs ≡ []
none_kept test [] all = refl
none_kept test (x ∷ xs) all = ap (λ t. cond t (x ∷ filter test xs) (filter test xs)) all.0 ∙ none_kept test xs all.1

pub same_kept : {X : Type 0} (f g : X → Bool) (xs : List X) → AllAre (λ x. f x ≡ g x) xs → filter f xs ≡ filter g xs
same_kept f g [] all = refl
same_kept f g (x ∷ xs) all = ap (λ t. cond t (x ∷ filter f xs) (filter f xs)) all.0 ∙ ap (λ ys. cond (g x) (x ∷ ys) ys) (same_kept f g xs all.1)

-- the points within bounds
pub all_within : (b : Bounds) (P : GridPoint → Type 0) → IsFrame b → ((p : GridPoint) → contains b p ≡ true → P p) → AllAre P (points_within b)
all_within b P frame each =
    all-map P (point_of b) (range_with_len 0 (cells_of b))
    (all-range (λ i. P (point_of b i)) 0 (cells_of b) (λ i low high. each (point_of b i) (inside_test b (point_of b i) (point_inside b frame i (omega arith)))))

pub stands_within : (b : Bounds) (p : GridPoint) → contains b p ≡ true → StandsIn p (points_within b)
stands_within b p e =
    let inside = inside_facts b p e in
    let below = point_below b p inside in
    subst (λ (q : GridPoint). StandsIn q (points_within b)) (point_of-cell b p inside)
    (stands-map (point_of b) (cell_of b p) (range_with_len 0 (cells_of b)) (stands-range 0 (cells_of b) (cell_of b p) (omega arith) (omega arith)))

-- a test of a point within bounds
abbrev is_unused : BoardParts → GridPoint → Bool
is_unused board p = is_even p && not (board.is_node p)

abbrev pub corner_of : Bounds → GridPoint
corner_of b = record { x = b.left; y = b.bottom }

-- the nearest open point is the home
pub home_found : (board : BoardParts) (s : Spot) (h : GridPoint) → IsFrame board.bounds → IsNearest s (λ p. is_open board p ≡ true) None (Some h) → (home_on board s ≡ h) × (is_open board h ≡ true)
home_found board s h frame nearest = (least-is (no_farther s) (corner_of board.bounds) h (filter (is_unused board) (points_within board.bounds)) stands all, is_one)
  where
    is_such : ((let o : Option GridPoint = None in o) ≡ Some h) ⊎ (is_open board h ≡ true) → is_open board h ≡ true
    is_such (inl e) = (let clash : ⊥ = cc in absurd clash)
    is_such (inr e) = e

    is_one : is_open board h ≡ true
    is_one = is_such (nearest.stands h refl)

    stands : StandsIn h (filter (is_unused board) (points_within board.bounds))
    stands = stands_kept (is_unused board) h (points_within board.bounds) (and_parts (is_inside board h) (is_unused board h) is_one).1 (stands_within board.bounds h (open_inside board h is_one))

    all : AllAre (IsBetter (no_farther s) h) (filter (is_unused board) (points_within board.bounds))
    all =
        all_kept (is_unused board) (IsBetter (no_farther s) h) (points_within board.bounds)
        (all_within board.bounds (λ p. is_unused board p ≡ true → IsBetter (no_farther s) h p) frame
        (λ p inside unused. (let best : no_farther s h p ≡ true = nearest.least p (and_from (is_inside board p) (is_unused board p) inside unused) in record { no_worse = best; alone = λ e. no_farther_same s p h e best })))

pub home_none : (board : BoardParts) (s : Spot) → IsFrame board.bounds → IsNearest s (λ p. is_open board p ≡ true) None None → (home_on board s ≡ corner_of board.bounds) × (is_open board (corner_of board.bounds) ≡ false)
home_none board s frame nearest = (
  ap (least_by (no_farther s) (corner_of board.bounds)) (none_kept (is_unused board) (points_within board.bounds)
      (all_within board.bounds (λ p. is_unused board p ≡ false) frame
      (λ p inside. false_from_ne_true (is_unused board p) (λ e. nearest.least p (and_from (is_inside board p) (is_unused board p) inside e))))),
  false_from_ne_true (is_open board (corner_of board.bounds)) (λ e. nearest.least (corner_of board.bounds) e),
)

-- the board of homes gives the same home as the list of homes
pub home_same : (board : BoardParts) (s : Spot) (homes : List GridPoint) → IsFrame board.bounds → HasHomes board homes → home_on board s ≡ home_of board.bounds s.side s.fineness homes s.offset
home_same board s homes frame has =
    ap (least_by (no_farther s) (corner_of board.bounds))
    (same_kept (is_unused board) (λ p. is_even p && not (is_among homes p)) (points_within board.bounds)
    (all_within board.bounds (λ p. is_unused board p ≡ (is_even p && not (is_among homes p))) frame (λ p inside. by_even p inside (is_even p) refl)))
  where
    by_even : (p : GridPoint) → contains board.bounds p ≡ true → (t : Bool) → is_even p ≡ t → (t && not (board.is_node p)) ≡ (t && not (is_among homes p))
    by_even p inside true e = ap not (has p inside e)
    by_even p inside false e = refl

-- a board on which one more node has its home
pub with_home_bounds : (board : BoardParts) (h : GridPoint) → (with_home board h).bounds ≡ board.bounds
with_home_bounds board h = by_test (is_open board h)
  where
    by_test : (t : Bool) → (let b : BoardParts = cond t (with_node board h) board in b.bounds) ≡ board.bounds
    by_test true = refl
    by_test false = refl

pub one_flip : (p q : GridPoint) → are_one p q ≡ are_one q p
one_flip p q = by_test (are_one p q) refl (are_one q p) refl
  where
    by_test : (t : Bool) → are_one p q ≡ t → (u : Bool) → are_one q p ≡ u → t ≡ u
    by_test true e true f = refl
    by_test false e false f = refl
    by_test true e false f = absurd (both_ways (are_one q p) f (one_is q p (sym (one_true p q e))))
    by_test false e true f = absurd (both_ways (are_one p q) e (one_is p q (sym (one_true q p f))))

pub among_push : (homes : List GridPoint) (h p : GridPoint) → is_among (homes ++ h ∷ []) p ≡ (are_one h p || is_among homes p)
among_push [] h p = ap (λ t. t || false) (one_flip p h)
among_push (g ∷ homes) h p = ap (λ t. are_one p g || t) (among_push homes h p) ∙ swapped (are_one p g) (are_one h p) (is_among homes p)
  where
    swapped : (a b c : Bool) → (a || (b || c)) ≡ (b || (a || c))
    swapped true true c = refl
    swapped true false c = refl
    swapped false true c = refl
    swapped false false c = refl

pub has_homes_more : (board : BoardParts) (homes : List GridPoint) (h : GridPoint) → HasHomes board homes → HasHomes (with_home board h) (homes ++ h ∷ [])
has_homes_more board homes h has p = by_test (is_open board h) refl
  where
    put : (t : Bool) → board.is_node p ≡ is_among homes p → (are_one h p || board.is_node p) ≡ is_among (homes ++ h ∷ []) p
    put t e = ap (λ u. are_one h p || u) e ∙ sym (among_push homes h p)

    closed_even : is_open board h ≡ false → (u : Bool) → are_one h p ≡ u → is_inside board p ≡ true → is_even p ≡ true → board.is_node p ≡ (u || board.is_node p)
    closed_even shut false f inside even = refl
    closed_even shut true f inside even = taken (board.is_node p) refl
      where
        same : h ≡ p
        same = one_true h p f

        taken : (v : Bool) → board.is_node p ≡ v → board.is_node p ≡ true
        taken true e = e
        taken false e = absurd (both_ways (is_open board p) (subst (λ (q : GridPoint). is_open board q ≡ false) same shut) (is_open_from board p inside even e))

    by_test : (t : Bool) → is_open board h ≡ t → is_inside (cond t (with_node board h) board) p ≡ true → is_even p ≡ true → (let b : BoardParts = cond t (with_node board h) board in b.is_node p) ≡ is_among (homes ++ h ∷ []) p
    by_test true e inside even = put true (has p inside even)
    by_test false e inside even = closed_even e (are_one h p) refl inside even ∙ put true (has p inside even)

-- one of a list of which all are such
pub at_index : {X : Type 0} (P : X → Type 0) (xs : List X) (i : ℕ) (d : X) → AllByRecursion P xs → i < length xs → P (get_or xs i d)
at_index P [] i d all h = absurd (omega arith)
at_index P (x ∷ xs) zero d all h = all.0
at_index P (x ∷ xs) (suc i) d all h = at_index P xs i d all.1 (omega arith)

-- one home more
pub homes_more : (grid : Bounds) (side fineness : ℕ) (used : List GridPoint) (offsets : List Offset) (i : ℕ) (d : Offset) → i < length offsets
    → (used ++ home_of grid side fineness used (get_or offsets i d) ∷ []) ++ homes_beside grid side fineness (used ++ home_of grid side fineness used (get_or offsets i d) ∷ []) (drop (i + 1) offsets)
    ≡ used ++ homes_beside grid side fineness used (drop i offsets)
homes_more grid side fineness used offsets i d h =
    append_assoc used (home_of grid side fineness used (get_or offsets i d) ∷ []) (homes_beside grid side fineness (used ++ home_of grid side fineness used (get_or offsets i d) ∷ []) (drop (i + 1) offsets))
    ∙ ap (λ (os : List Offset). used ++ homes_beside grid side fineness used os) (sym (drop_more offsets i d h))

-- the same home by other names
pub home_along : (b c : Bounds) (s t f g : ℕ) (used : List GridPoint) (o p : Offset) → b ≡ c → s ≡ t → f ≡ g → o ≡ p → home_of b s f used o ≡ home_of c t g used p
home_along b c s t f g used o p e h k l =
    ap (λ (x : Bounds). home_of x s f used o) e ∙ ap (λ (x : ℕ). home_of c x f used o) h ∙ ap (λ (x : ℕ). home_of c t x used o) k ∙ ap (λ (x : Offset). home_of c t g used x) l
