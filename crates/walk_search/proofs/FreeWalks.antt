-- Free walks are the walks of paths, and the other way round.
use Rattle.std.proofs.Common.{◌≡◌, ◌≢◌, refl, sym, ◌∙◌, ap, ap₂, subst, ℕ, ◌+◌, ◌-◌, ◌<◌, ◌⊎◌, inl, inr, Bool, true, false, cond, eqb, leb, not, ◌&&◌, ◌||◌, List, [], ◌∷◌, map, filter, length, Some, ℤ, pos, negsuc, ◌+ℤ◌, arith}
use Rattle.std.specs.Prelude.{option_map}
use Rattle.std.specs.List.{list_any}
use Rattle.std.proofs.lemmas.Int.{ints}
use Rattle.std.proofs.lemmas.Bool.{and_parts, and_from, ne_eqb, not-true, not_from_false, or_left, or_right, or_cases, cases_Bool, le-leb, true≢false, false≢true, false_from_ne_true}
use Rattle.least_path.proofs.Chosen.{all-at}
use Rattle.octi_grid.specs.declared.dir.Dir.{Dir}
use Rattle.octi_grid.specs.declared.point.GridPoint.{GridPoint}
use Rattle.octi_grid.specs.Ways.{after, are_one, doubled, east_of, north_of, number_of, reverse_of, step_from}
use Rattle.octi_grid.specs.Costs.{way_cost}
use Rattle.octi_grid.specs.Walks.{PlainWalk, end_point, end_port, last_of, start_port}
use Rattle.octi_grid.specs.Legal.{is_among}
use Rattle.state_search.specs.Goals.{PathTo}
use Rattle.walk_search.specs.declared.ends.End.{End}
use Rattle.walk_search.specs.declared.spots.Spot.{Spot}
use Rattle.grid_board.specs.Boards.{BoardParts, is_inside}
use Rattle.walk_search.specs.Seats.{is_free_seat, seat_cost, seats_of, shifted, shifts}
use Rattle.walk_search.specs.Routes.{allows, inner_points, is_free, is_settled_end, total_of}
use Rattle.walk_search.specs.Spots.{IsSpot, number_of_spot, spots_of}
use Rattle.walk_search.specs.Moves.{Question, IsQuestion, direction, ends_of, group_of, is_end, is_other_end, is_own_start, is_shared_start, is_start, space_of, start_at, starts_of}
use Rattle.grid_board.proofs.Marks.{one_same, one_true}
use Rattle.walk_search.proofs.FreeWays.{Along, along_clear, along_from, along_inner, along_inside, inner_is}
use Rattle.walk_search.proofs.FreePaths.{IsOnward, onward_of_path, path_of_onward}
use Rattle.walk_search.proofs.Turning.{of_eight}
use Rattle.walk_search.proofs.SeatFacts.{HasPlace, all_passed, among_stands, place_of, place_stands, stands_among}
use Rattle.walk_search.proofs.Moving.{group_small, start_inside, landed, seat_of}
use Rattle.walk_search.proofs.Offering.{seat_move}

-- a seat of a free end is of no walk, and that of a settled end is its point
pub free_clear : (board : BoardParts) (end : End) (p : GridPoint) → end.is_free ≡ true → is_among (seats_of board end) p ≡ true → board.is_taken (doubled p) ≡ false
free_clear board end p free among =
    all-at (λ r. board.is_taken (doubled r) ≡ false) p (filter (is_free_seat board end.at) (map (shifted end.at) shifts))
    (all_passed (is_free_seat board end.at) (λ r. board.is_taken (doubled r) ≡ false) (map (shifted end.at) shifts)
    (λ r e. not-true (board.is_taken (doubled r)) (and_parts (is_inside board r && (are_one end.at r || not (board.is_node r))) (not (board.is_taken (doubled r))) e).1))
    (among_stands p (filter (is_free_seat board end.at) (map (shifted end.at) shifts))
    (subst (λ (t : Bool). is_among (cond t (filter (is_free_seat board end.at) (map (shifted end.at) shifts)) (end.at ∷ [])) p ≡ true) free among))

pub settled_at : (board : BoardParts) (end : End) (p : GridPoint) → end.is_free ≡ false → is_among (seats_of board end) p ≡ true → p ≡ end.at
settled_at board end p settled among =
    elim (among_stands p (end.at ∷ []) (subst (λ (t : Bool). is_among (cond t (filter (is_free_seat board end.at) (map (shifted end.at) shifts)) (end.at ∷ [])) p ≡ true) settled among)) [
      | inl e ↦ sym e
      | inr h ↦ absurd h
    ]

-- the test of the doubled points of a walk
abbrev clear_of : BoardParts → End → End → PlainWalk → GridPoint → Bool
clear_of board from to w d = not (board.is_taken d) || is_settled_end from to w d

clear_where : (board : BoardParts) (from to : End) (w : PlainWalk) (d : GridPoint) → board.is_taken d ≡ false → clear_of board from to w d ≡ true
clear_where board from to w d e = ap (λ t. not t || is_settled_end from to w d) e

clear_start : (board : BoardParts) (from to : End) (w : PlainWalk) → is_among (seats_of board from) w.start ≡ true → clear_of board from to w (doubled w.start) ≡ true
clear_start board from to w among = elim (cases_Bool from.is_free) [
  | inl free ↦ clear_where board from to w (doubled w.start) (free_clear board from w.start free among)
  | inr settled ↦ or_right (not (board.is_taken (doubled w.start))) (is_settled_end from to w (doubled w.start))
      (or_left (not from.is_free && are_one (doubled w.start) (doubled w.start)) (not to.is_free && are_one (doubled (end_point w)) (doubled w.start))
      (and_from (not from.is_free) (are_one (doubled w.start) (doubled w.start)) (not_from_false from.is_free settled) (one_same (doubled w.start))))
]

clear_end : (board : BoardParts) (from to : End) (w : PlainWalk) → is_among (seats_of board to) (end_point w) ≡ true → clear_of board from to w (doubled (end_point w)) ≡ true
clear_end board from to w among = elim (cases_Bool to.is_free) [
  | inl free ↦ clear_where board from to w (doubled (end_point w)) (free_clear board to (end_point w) free among)
  | inr settled ↦ or_right (not (board.is_taken (doubled (end_point w))))
      (is_settled_end from to w (doubled (end_point w)))
      (or_right (not from.is_free && are_one (doubled w.start) (doubled (end_point w))) (not to.is_free && are_one (doubled (end_point w)) (doubled (end_point w)))
      (and_from (not to.is_free) (are_one (doubled (end_point w)) (doubled (end_point w))) (not_from_false to.is_free settled) (one_same (doubled (end_point w)))))
]

-- no middle is a doubled point
pub odd_part : (d : Dir) → (east_of d ≢ pos 0) ⊎ (north_of d ≢ pos 0)
odd_part =
    of_eight (λ d. (east_of d ≢ pos 0) ⊎ (north_of d ≢ pos 0)) (inr (λ h. cc)) (inr (λ h. cc)) (inl (λ h. cc))
    (inr (λ h. cc)) (inr (λ h. cc)) (inr (λ h. cc)) (inl (λ h. cc)) (inr (λ h. cc))

pub data IsUnit : ℤ → Type 0 where
  none : IsUnit (pos 0)
  more : IsUnit (pos 1)
  less : IsUnit (negsuc 0)

pub east_unit : (d : Dir) → IsUnit (east_of d)
east_unit = of_eight (λ d. IsUnit (east_of d)) none more more more none less less less

pub north_unit : (d : Dir) → IsUnit (north_of d)
north_unit = of_eight (λ d. IsUnit (north_of d)) more more none less less less none more

odd_sum : (p s a : ℤ) → IsUnit a → a ≢ pos 0 → (s +ℤ s) ≡ ((p +ℤ p) +ℤ a) → ⊥
odd_sum p s a none odd e = odd refl
odd_sum p s a more odd e = omega (arith, ints)
odd_sum p s a less odd e = omega (arith, ints)

pub never_middle : (s p : GridPoint) (d : Dir) → doubled s ≡ step_from (doubled p) d → ⊥
never_middle s p d e = elim (odd_part d) [
  | inl odd ↦ odd_sum p.x s.x (east_of d) (east_unit d) odd (ap (λ (r : GridPoint). r.x) e)
  | inr odd ↦ odd_sum p.y s.y (north_of d) (north_unit d) odd (ap (λ (r : GridPoint). r.y) e)
]

half : (a b : ℤ) → (a +ℤ a) ≡ (b +ℤ b) → a ≡ b
half a b e = omega (arith, ints)

pub same_doubled : (p q : GridPoint) → doubled p ≡ doubled q → p ≡ q
same_doubled p q e = ap₂ (λ (x y : ℤ). record { x = x; y = y }) (half p.x q.x (ap (λ (r : GridPoint). r.x) e)) (half p.y q.y (ap (λ (r : GridPoint). r.y) e))

settled_cases : (from to : End) (w : PlainWalk) (d : GridPoint) → is_settled_end from to w d ≡ true → ((from.is_free ≡ false) × (doubled w.start ≡ d)) ⊎ ((to.is_free ≡ false) × (doubled (end_point w) ≡ d))
settled_cases from to w d e = elim (or_cases (not from.is_free && are_one (doubled w.start) d) (not to.is_free && are_one (doubled (end_point w)) d) e) [
  | inl h ↦ (let parts = and_parts (not from.is_free) (are_one (doubled w.start) d) h in inl (not-true from.is_free parts.0, one_true (doubled w.start) d parts.1))
  | inr h ↦ (let parts = and_parts (not to.is_free) (are_one (doubled (end_point w)) d) h in inr (not-true to.is_free parts.0, one_true (doubled (end_point w)) d parts.1))
]

middle_clear : (board : BoardParts) (from to : End) (w : PlainWalk) (r : GridPoint) (e : Dir) → clear_of board from to w (step_from (doubled r) e) ≡ true → board.is_taken (step_from (doubled r) e) ≡ false
middle_clear board from to w r e h = elim (or_cases (not (board.is_taken (step_from (doubled r) e))) (is_settled_end from to w (step_from (doubled r) e)) h) [
  | inl k ↦ not-true (board.is_taken (step_from (doubled r) e)) k
  | inr k ↦ elim (settled_cases from to w (step_from (doubled r) e) k) [
    | inl m ↦ absurd (never_middle w.start r e m.1)
    | inr m ↦ absurd (never_middle (end_point w) r e m.1)
  ]
]

point_clear : (q : Question) → IsQuestion q → (w : PlainWalk) → is_among (starts_of q) w.start ≡ true → is_among (ends_of q) (end_point w) ≡ true → (r : GridPoint) → q.board.is_node r ≡ false →
    clear_of q.board q.from q.to w (doubled r) ≡ true → q.board.is_taken (doubled r) ≡ false
point_clear q h w starts ends r no_node e =
    elim (or_cases (not (q.board.is_taken (doubled r))) (is_settled_end q.from q.to w (doubled r)) e) [
      | inl k ↦ not-true (q.board.is_taken (doubled r)) k
      | inr k ↦ of_end (settled_cases q.from q.to w (doubled r) k)
    ]
  where
    of_end : ((q.from.is_free ≡ false) × (doubled w.start ≡ doubled r)) ⊎ ((q.to.is_free ≡ false) × (doubled (end_point w) ≡ doubled r)) → q.board.is_taken (doubled r) ≡ false
    of_end (inl m) =
        let here : r ≡ q.from.at = sym (same_doubled w.start r m.1) ∙ settled_at q.board q.from w.start m.0 starts in
        absurd (true≢false (sym h.from_node ∙ ap q.board.is_node (sym here) ∙ no_node))
    of_end (inr m) =
        let here : r ≡ q.to.at = sym (same_doubled (end_point w) r m.1) ∙ settled_at q.board q.to (end_point w) m.0 ends in
        absurd (true≢false (sym h.to_node ∙ ap q.board.is_node (sym here) ∙ no_node))

-- what a free walk is, test by test
pub record IsFreeWalk (q : Question) (w : PlainWalk) (d : Dir) (ds : List Dir) : Type 0 where
  pub steps : w.steps ≡ d ∷ ds
  pub starts : is_among (starts_of q) w.start ≡ true
  pub ends : is_among (ends_of q) (after w.start (d ∷ ds)) ≡ true
  pub apart : are_one w.start (after w.start (d ∷ ds)) ≡ false
  pub along : Along q.board w.start (d ∷ ds)
  pub leaves : allows q.from.ports (Some d) ≡ true
  pub comes : allows q.to.ports (option_map reverse_of (last_of (d ∷ ds))) ≡ true

pub free_of_parts : (q : Question) (start : GridPoint) (d : Dir) (ds : List Dir) → IsFreeWalk q (record { start = start; steps = d ∷ ds }) d ds → is_free q.board q.from q.to (record { start = start; steps = d ∷ ds }) ≡ true
free_of_parts q start d ds f =
    and_from _ _
    (and_from _ _
    (and_from _ _
    (and_from _ _
    (and_from _ _
    (and_from _ _ (and_from _ _ f.starts f.ends) (not_from_false (are_one start (end_point w)) f.apart))
    (along_inside q.board start d ds f.along))
    (not_from_false (list_any q.board.is_node (inner_points w)) (ap (list_any q.board.is_node) (inner_is w d ds refl) ∙ along_inner q.board start d ds f.along)))
    (along_clear q.board (clear_of q.board q.from q.to w) start d ds (clear_where q.board q.from q.to w) (clear_start q.board q.from q.to w f.starts) (clear_end q.board q.from q.to w f.ends) f.along))
    f.leaves)
    f.comes
  where
    w : PlainWalk
    w = record { start = start; steps = d ∷ ds }

pub parts_of_free : (q : Question) → IsQuestion q → (start : GridPoint) (d : Dir) (ds : List Dir) → is_free q.board q.from q.to (record { start = start; steps = d ∷ ds }) ≡ true →
    IsFreeWalk q (record { start = start; steps = d ∷ ds }) d ds
parts_of_free q h start d ds free =
    let eight = and_parts _ _ free in
    let seven = and_parts _ _ eight.0 in
    let six = and_parts _ _ seven.0 in
    let five = and_parts _ _ six.0 in
    let four = and_parts _ _ five.0 in
    let three = and_parts _ _ four.0 in
    let two = and_parts _ _ three.0 in
    record {
      steps = refl;
      starts = two.0;
      ends = two.1;
      apart = not-true (are_one start (end_point w)) three.1;
      along =
          along_from q.board (clear_of q.board q.from q.to w) start d ds (middle_clear q.board q.from q.to w) (point_clear q h w two.0 two.1) four.1
          (sym (ap (list_any q.board.is_node) (inner_is w d ds refl)) ∙ not-true (list_any q.board.is_node (inner_points w)) five.1) six.1;
      leaves = seven.1;
      comes = eight.1;
    }
  where
    w : PlainWalk
    w = record { start = start; steps = d ∷ ds }

-- a walk without steps is not free
pub never_still : (q : Question) (start : GridPoint) → is_free q.board q.from q.to (record { start = start; steps = [] }) ≡ true → ⊥
never_still q start free =
    let w : PlainWalk = record { start = start; steps = [] } in
    false≢true
    (and_parts _ (allows q.from.ports (start_port w)) (and_parts _ (allows q.to.ports (end_port w)) free).0).1

-- the group of a seat
group_back : (i : ℕ) → i + 1 - 1 ≡ i
group_back i = omega arith

no_group : (i : ℕ) → eqb (i + 1) 0 ≡ false
no_group i = ne_eqb (i + 1) 0 (λ e. absurd (omega arith))

pub start_group : (q : Question) (i : ℕ) → i < length (starts_of q) → is_start q (start_at q i) (group_of q i) ≡ true
start_group q i below = of_test (is_among (ends_of q) (start_at q i)) refl
  where
    of_test : (t : Bool) → is_among (ends_of q) (start_at q i) ≡ t → is_start q (start_at q i) (cond t (i + 1) 0) ≡ true
    of_test true e =
        ap (λ t. cond t (is_own_start q (start_at q i)) (is_shared_start q (start_at q i) (i + 1))) (no_group i)
        ∙ and_from (leb (i + 1) (length (starts_of q)) && are_one (start_at q (i + 1 - 1)) (start_at q i)) (is_among (ends_of q) (start_at q i))
        (and_from (leb (i + 1) (length (starts_of q))) (are_one (start_at q (i + 1 - 1)) (start_at q i)) (le-leb (i + 1) (length (starts_of q)) (omega arith))
        (ap (λ n. are_one (start_at q n) (start_at q i)) (group_back i) ∙ one_same (start_at q i))) e
    of_test false e =
        and_from (is_among (starts_of q) (start_at q i)) (not (is_among (ends_of q) (start_at q i)))
        (stands_among (start_at q i) (starts_of q) (place_stands (starts_of q) i q.from.at below))
        (not_from_false (is_among (ends_of q) (start_at q i)) e)

pub end_group : (q : Question) (i : ℕ) (p : GridPoint) → i < length (starts_of q) → is_among (ends_of q) p ≡ true → are_one (start_at q i) p ≡ false → is_end q p (group_of q i) ≡ true
end_group q i p below among apart = of_test (is_among (ends_of q) (start_at q i)) refl
  where
    of_test : (t : Bool) → is_among (ends_of q) (start_at q i) ≡ t → is_end q p (cond t (i + 1) 0) ≡ true
    of_test true e =
        and_from (is_among (ends_of q) p) (eqb (i + 1) 0 || is_other_end q p (i + 1)) among
        (or_right (eqb (i + 1) 0) (is_other_end q p (i + 1))
        (and_from (leb (i + 1) (length (starts_of q)) && is_among (ends_of q) (start_at q (i + 1 - 1))) (not (are_one (start_at q (i + 1 - 1)) p))
        (and_from (leb (i + 1) (length (starts_of q))) (is_among (ends_of q) (start_at q (i + 1 - 1))) (le-leb (i + 1) (length (starts_of q)) (omega arith))
        (ap (λ n. is_among (ends_of q) (start_at q n)) (group_back i) ∙ e))
        (ap (λ n. not (are_one (start_at q n) p)) (group_back i) ∙ not_from_false (are_one (start_at q i) p) apart)))
    of_test false e = and_from (is_among (ends_of q) p) (eqb 0 0 || is_other_end q p 0) among refl

pub end_group_parts : (q : Question) (i : ℕ) (p : GridPoint) → is_end q p (group_of q i) ≡ true → (is_among (ends_of q) p ≡ true) × (are_one (start_at q i) p ≡ false)
end_group_parts q i p e = of_test (is_among (ends_of q) (start_at q i)) refl e
  where
    of_test : (t : Bool) → is_among (ends_of q) (start_at q i) ≡ t → is_end q p (cond t (i + 1) 0) ≡ true → (is_among (ends_of q) p ≡ true) × (are_one (start_at q i) p ≡ false)
    of_test true k h =
        let parts = and_parts (is_among (ends_of q) p) (eqb (i + 1) 0 || is_other_end q p (i + 1)) h in
        let other : is_other_end q p (i + 1) ≡ true = sym (ap (λ t. t || is_other_end q p (i + 1)) (no_group i)) ∙ parts.1 in
        let apart = and_parts (leb (i + 1) (length (starts_of q)) && is_among (ends_of q) (start_at q (i + 1 - 1))) (not (are_one (start_at q (i + 1 - 1)) p)) other in
        (parts.0, sym (ap (λ n. are_one (start_at q n) p) (group_back i)) ∙ not-true (are_one (start_at q (i + 1 - 1)) p) apart.1)
    of_test false k h =
        let parts = and_parts (is_among (ends_of q) p) (eqb 0 0 || is_other_end q p 0) h in
        (parts.0, false_from_ne_true (are_one (start_at q i) p) (λ one. true≢false (sym parts.0 ∙ ap (is_among (ends_of q)) (sym (one_true (start_at q i) p one)) ∙ k)))

-- the walk of a path is free, and costs one less
pub record IsPathWalk (q : Question) (i l : ℕ) (ls : List ℕ) (k : ℕ) : Type 0 where
  pub below : i < length (starts_of q)
  pub free : is_free q.board q.from q.to (record { start = start_at q i; steps = map direction (l ∷ ls) }) ≡ true
  pub cost : k ≡ total_of q.from q.to (record { start = start_at q i; steps = map direction (l ∷ ls) }) + 1

pub walk_of_path : (q : Question) → IsQuestion q → (i l : ℕ) (ls : List ℕ) (k : ℕ) → PathTo (space_of q) (spots_of q.board.bounds) (i ∷ l ∷ ls) k → IsPathWalk q i l ls k
walk_of_path q h i l ls k (to, c, rest, move, path, sum) =
    let seat = seat_of q i to c move in
    let o : IsOnward q (record { at = start_at q i; arrival = 8; group = group_of q i }) (direction l)
    (map direction ls) rest =
    subst (λ (x : Spot). IsOnward q x (direction l) (map direction ls) rest) seat.lands
    (onward_of_path q h to move.landing l ls rest (landed q h (spots_of q.board.bounds) i to c move) path) in
    let leaves = and_parts (is_start q (start_at q i) (group_of q i)) (allows q.from.ports (Some (direction l))) o.leaves in
    let ends = end_group_parts q i (after (start_at q i) (direction l ∷ map direction ls)) o.ends in
    record {
      below = seat.below;
      free = free_of_parts q (start_at q i) (direction l) (map direction ls)
          (record {
            steps = refl;
            starts = stands_among (start_at q i) (starts_of q) (place_stands (starts_of q) i q.from.at seat.below);
            ends = ends.0;
            apart = ends.1;
            along = o.along;
            leaves = leaves.1;
            comes = o.port;
          });
      cost =
          sums (seat_cost q.from.at (start_at q i)) c rest (way_cost (direction l ∷ map direction ls))
          (seat_cost q.to.at (after (start_at q i) (direction l ∷ map direction ls))) seat.cost o.cost sum;
    }
  where
    sums : (a c r w z : ℕ) → c ≡ a + 1 → r ≡ 0 + w + z → k ≡ c + r → k ≡ a + w + z + 1
    sums a c r w z x y v = omega arith

-- a free walk is that of a path
pub record HasPath (q : Question) (w : PlainWalk) : Type 0 where
  pub place : ℕ
  pub below : place < length (starts_of q)
  pub starts : start_at q place ≡ w.start
  pub path : PathTo (space_of q) (spots_of q.board.bounds) (place ∷ map number_of w.steps) (total_of q.from q.to w + 1)

pub path_of_walk : (q : Question) → IsQuestion q → (start : GridPoint) (steps : List Dir) → is_free q.board q.from q.to (record { start = start; steps = steps }) ≡ true → HasPath q (record { start = start; steps = steps })
path_of_walk q h start [] free = absurd (never_still q start free)
path_of_walk q h start (d ∷ ds) free = at_place (place_of (starts_of q) start q.from.at (among_stands start (starts_of q) f.starts))
  where
    f : IsFreeWalk q (record { start = start; steps = d ∷ ds }) d ds
    f = parts_of_free q h start d ds free

    at_place : HasPlace (starts_of q) start q.from.at → HasPath q (record { start = start; steps = d ∷ ds })
    at_place here = record {
      place = here.place;
      below = here.below;
      starts = here.is;
      path = (
        number_of_spot q.board.bounds spot,
        seat_cost q.from.at (start_at q here.place) + 1,
        rest,
        seat_move q h (number_of_spot q.board.bounds spot) spot refl refl here.place here.below refl refl,
        path_of_onward q h spot d ds rest on onward,
        subst (λ (p : GridPoint). total_of q.from q.to (record { start = p; steps = d ∷ ds }) + 1 ≡ seat_cost q.from.at (start_at q here.place) + 1 + rest) here.is
            (sums (seat_cost q.from.at (start_at q here.place)) (way_cost (d ∷ ds)) (seat_cost q.to.at (after (start_at q here.place) (d ∷ ds)))),
      );
    }
      where
        spot : Spot
        spot = record { at = start_at q here.place; arrival = 8; group = group_of q here.place }

        on : IsSpot q.board.bounds spot
        on = record { inside = start_inside q h here.place here.below; arrival = omega arith; group = group_small q here.place here.below }

        rest : ℕ
        rest = 0 + way_cost (d ∷ ds) + seat_cost q.to.at (after (start_at q here.place) (d ∷ ds))

        same : start ≡ start_at q here.place
        same = sym here.is

        onward : IsOnward q spot d ds rest
        onward = record {
          leaves = and_from (is_start q (start_at q here.place) (group_of q here.place)) (allows q.from.ports (Some d)) (start_group q here.place here.below) f.leaves;
          along = subst (λ (p : GridPoint). Along q.board p (d ∷ ds)) same f.along;
          ends = end_group q here.place (after (start_at q here.place) (d ∷ ds)) here.below (subst (λ (p : GridPoint). is_among (ends_of q) (after p (d ∷ ds)) ≡ true) same f.ends)
              (subst (λ (p : GridPoint). are_one p (after p (d ∷ ds)) ≡ false) same f.apart);
          port = f.comes;
          cost = refl;
        }

        sums : (a w z : ℕ) → a + w + z + 1 ≡ a + 1 + (0 + w + z)
        sums a w z = omega arith
