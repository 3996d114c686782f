-- What a board shows after a change, and that it stays a board.
use Rattle.std.proofs.Common.{◌≡◌, ◌≢◌, refl, sym, ◌∙◌, ap, ap₂, subst, ℕ, zero, suc, ◌⊎◌, inl, inr, Bool, true, false, cond, not, ◌&&◌, ◌||◌, List, [], ◌∷◌, length, get_or, set, replicate, ℤ, pos, negsuc, ◌+ℤ◌, ◌≤ℤ◌, arith, length-set}
use Rattle.std.specs.List.{list_all}
use Rattle.std.specs.Ordering.{int_eq}
use Rattle.std.proofs.lemmas.Int.{ints}
use Rattle.std.proofs.lemmas.Bool.{and_parts, and_from}
use Rattle.std.proofs.lemmas.List.{length-replicate}
use Rattle.octi_grid.specs.declared.dir.Dir.{Dir}
use Rattle.octi_grid.specs.declared.dir.Dir.TheVariants as dir
use Rattle.octi_grid.specs.declared.point.GridPoint.{GridPoint}
use Rattle.octi_grid.specs.Ways.{are_one, doubled, doubled_from, east_of, north_of, points_from, step_from}
use Rattle.octi_grid.specs.Costs.{step_cost}
use Rattle.octi_grid.specs.Walks.{PlainWalk, doubled_of, end_point, points_of}
use Rattle.octi_grid.specs.Legal.{is_among, is_even}
use Rattle.octi_grid.proofs.WayLemmas.{east_small, north_small}
use Rattle.grid_board.specs.declared.bounds.Bounds.{Bounds}
use Rattle.grid_board.specs.Boards.{BoardParts, BoardFlags, AreBounds, IsBoard, IsKept, contains, cells_of, cell_of, doubled_bounds, empty_board, is_inside, is_marked, parts_of, with_kept, with_node, with_node_moved, with_walk, without_node, without_walk}
use Rattle.grid_board.specs.Taking.{flagged}
use Rattle.grid_board.proofs.Within.{inside_facts}
use Rattle.grid_board.proofs.Marks.{cond_or, length-flagged, marked_set, one_same, one_true}
use Rattle.grid_board.proofs.Ways.{doubled_inside, first_holds, middle_inside, rest_holds}

cond_and : (t x : Bool) → cond t false x ≡ (not t && x)
cond_and true x = refl
cond_and false x = refl

int_eq-turned : (a b : ℤ) → int_eq a b ≡ int_eq b a
int_eq-turned a b = grind (arith, ints)

pub one_turned : (p q : GridPoint) → are_one p q ≡ are_one q p
one_turned p q = ap₂ (λ s t. s && t) (int_eq-turned p.x q.x) (int_eq-turned p.y q.y)

-- flags of points that were raised
pub record AreInside (b : Bounds) (ps : List GridPoint) : Type 0 where
  pub each : list_all (contains b) ps ≡ true

cond_twice : (s t v x : Bool) → cond s v (cond t v x) ≡ cond (t || s) v x
cond_twice true true v x = refl
cond_twice true false v x = refl
cond_twice false true v x = refl
cond_twice false false v x = refl

pub marked_flagged : (b : Bounds) (v : Bool) (ps : List GridPoint) (flags : List Bool) (d : GridPoint) → length flags ≡ cells_of b → list_all (contains b) ps ≡ true →
    is_marked b (flagged b v flags ps) d ≡ cond (is_among ps d) v (is_marked b flags d)
marked_flagged b v [] flags d each all = refl
marked_flagged b v (p ∷ ps) flags d each all =
    let parts = and_parts (contains b p) (list_all (contains b) ps) all in
    marked_flagged b v ps (set flags (cell_of b p) v) d (length-set flags (cell_of b p) v ∙ each) parts.1
    ∙ ap (cond (is_among ps d) v) (marked_set b flags p v d each (inside_facts b p parts.0) ∙ ap (λ t. cond t v (is_marked b flags d)) (one_turned p d))
    ∙ cond_twice (is_among ps d) (are_one d p) v (is_marked b flags d)

-- flags with that of a point raised where that is kept
abbrev pub kept_flags : Bounds → GridPoint → Bool → List Bool → List Bool
kept_flags b p is_kept flags = cond is_kept (flagged (doubled_bounds b) true flags (doubled p ∷ [])) flags

pub marked_kept : (b : Bounds) (flags : List Bool) (p : GridPoint) (is_kept : Bool) (d : GridPoint) → length flags ≡ cells_of (doubled_bounds b) → contains b p ≡ true →
    is_marked (doubled_bounds b) (cond is_kept (flagged (doubled_bounds b) true flags (doubled p ∷ [])) flags) d ≡ with_kept is_kept p (is_marked (doubled_bounds b) flags) d
marked_kept b flags p false d each inside = refl
marked_kept b flags p true d each inside =
    marked_set (doubled_bounds b) flags (doubled p) true d each (inside_facts (doubled_bounds b) (doubled p) (doubled_inside b p inside)) ∙ cond_or (are_one (doubled p) d) (is_marked (doubled_bounds b) flags d)

pub length-kept : (b : Bounds) (flags : List Bool) (p : GridPoint) (is_kept : Bool) → length (cond is_kept (flagged (doubled_bounds b) true flags (doubled p ∷ [])) flags) ≡ length flags
length-kept b flags p false = refl
length-kept b flags p true = length-set flags (cell_of (doubled_bounds b) (doubled p)) true

-- the doubled points of a walk on the board lie within its doubled bounds
pub taken_inside : (b : Bounds) (p : GridPoint) (ds : List Dir) → list_all (contains b) (points_from p ds) ≡ true → list_all (contains (doubled_bounds b)) (doubled_from p ds) ≡ true
taken_inside b p [] all = and_from (contains (doubled_bounds b) (doubled p)) true (doubled_inside b p (first_holds (contains b) p [] all)) refl
taken_inside b p (d ∷ ds) all =
    and_from (contains (doubled_bounds b) (doubled p)) (contains (doubled_bounds b) (step_from (doubled p) d) && list_all (contains (doubled_bounds b)) (doubled_from (step_from p d) ds))
    (doubled_inside b p (first_holds (contains b) p (d ∷ ds) all))
    (and_from (contains (doubled_bounds b) (step_from (doubled p) d)) (list_all (contains (doubled_bounds b)) (doubled_from (step_from p d) ds))
    (middle_inside b p d (first_holds (contains b) p (d ∷ ds) all) (first_holds (contains b) (step_from p d) ds (rest_holds (contains b) p d ds all)))
    (taken_inside b (step_from p d) ds (rest_holds (contains b) p d ds all)))

-- a board with a node more
or_cases : (s t : Bool) → (s || t) ≡ true → (s ≡ true) ⊎ (t ≡ true)
or_cases true t e = inl refl
or_cases false t e = inr e

pub board_with_node : (board : BoardParts) (at : GridPoint) → IsBoard board → is_inside board at ≡ true → is_even at ≡ true → IsBoard (with_node board at)
board_with_node board at h inside even = record {
  in_range = h.in_range;
  nodes_inside = λ p e. lies p (or_cases (are_one at p) (board.is_node p) e);
  nodes_even = λ p e. stands p (or_cases (are_one at p) (board.is_node p) e);
  ends_taken = h.ends_taken;
}
  where
    lies : (p : GridPoint) → (are_one at p ≡ true) ⊎ (board.is_node p ≡ true) → is_inside board p ≡ true
    lies p (inl e) = subst (λ (r : GridPoint). is_inside board r ≡ true) (one_true at p e) inside
    lies p (inr e) = h.nodes_inside p e

    stands : (p : GridPoint) → (are_one at p ≡ true) ⊎ (board.is_node p ≡ true) → is_even p ≡ true
    stands p (inl e) = subst (λ (r : GridPoint). is_even r ≡ true) (one_true at p e) even
    stands p (inr e) = h.nodes_even p e

pub board_node_moved : (board : BoardParts) (from to : GridPoint) → IsBoard board → is_inside board to ≡ true → is_even to ≡ true → IsBoard (with_node_moved board from to)
board_node_moved board from to h inside even = record {
  in_range = h.in_range;
  nodes_inside = λ p e. lies p (or_cases (are_one to p) (not (are_one from p) && board.is_node p) e);
  nodes_even = λ p e. stands p (or_cases (are_one to p) (not (are_one from p) && board.is_node p) e);
  ends_taken = h.ends_taken;
}
  where
    lies : (p : GridPoint) → (are_one to p ≡ true) ⊎ ((not (are_one from p) && board.is_node p) ≡ true) → is_inside board p ≡ true
    lies p (inl e) = subst (λ (r : GridPoint). is_inside board r ≡ true) (one_true to p e) inside
    lies p (inr e) = h.nodes_inside p ((and_parts (not (are_one from p)) (board.is_node p) e).1)

    stands : (p : GridPoint) → (are_one to p ≡ true) ⊎ ((not (are_one from p) && board.is_node p) ≡ true) → is_even p ≡ true
    stands p (inl e) = subst (λ (r : GridPoint). is_even r ≡ true) (one_true to p e) even
    stands p (inr e) = h.nodes_even p ((and_parts (not (are_one from p)) (board.is_node p) e).1)

pub board_empty : (b : Bounds) → AreBounds b → IsBoard (empty_board b)
board_empty b h = record {
  in_range = h;
  nodes_inside = λ p e. cc;
  nodes_even = λ p e. cc;
  ends_taken = λ p d axis e. cc;
}

-- where the middle of a step along an axis is the middle of a step, that step has the one's start as an end
record IsAlong (a b : ℤ) : Type 0 where
  low_a : negsuc 0 ≤ℤ a
  high_a : a ≤ℤ pos 1
  low_b : negsuc 0 ≤ℤ b
  high_b : b ≤ℤ pos 1

one_along : (d : Dir) → IsAlong (east_of d) (north_of d)
one_along d = record {
  low_a = omega (arith, ints, east_small d);
  high_a = omega (arith, ints, east_small d);
  low_b = omega (arith, ints, north_small d);
  high_b = omega (arith, ints, north_small d);
}

axis_parts : (d : Dir) → step_cost d ≡ 4 → ((east_of d ≡ pos 0) × (north_of d ≢ pos 0)) ⊎ ((north_of d ≡ pos 0) × (east_of d ≢ pos 0))
axis_parts dir.N e = inl (refl, λ h. cc)
axis_parts dir.NE e = absurd (omega arith)
axis_parts dir.E e = inr (refl, λ h. cc)
axis_parts dir.SE e = absurd (omega arith)
axis_parts dir.S e = inl (refl, λ h. cc)
axis_parts dir.SW e = absurd (omega arith)
axis_parts dir.W e = inr (refl, λ h. cc)
axis_parts dir.NW e = absurd (omega arith)

not_middle : (p s a : ℤ) → negsuc 0 ≤ℤ a → a ≤ℤ pos 1 → a ≢ pos 0 → ((p +ℤ p) +ℤ a) ≡ (s +ℤ s) → ⊥
not_middle p s a low high odd e = omega (arith, ints)

even_part : (p s x : ℤ) → negsuc 0 ≤ℤ x → x ≤ℤ pos 1 → ((p +ℤ p) +ℤ pos 0) ≡ ((s +ℤ s) +ℤ x) → (p ≡ s) × (x ≡ pos 0)
even_part p s x low high e = (omega (arith, ints), omega (arith, ints))

other_end : (p s b y : ℤ) → negsuc 0 ≤ℤ b → b ≤ℤ pos 1 → b ≢ pos 0 → negsuc 0 ≤ℤ y → y ≤ℤ pos 1 → ((p +ℤ p) +ℤ b) ≡ ((s +ℤ s) +ℤ y) → p ≢ s → p ≡ (s +ℤ y)
other_end p s b y low high odd low_y high_y e apart = omega (arith, ints)

same_or : (p s : ℤ) → (p ≡ s) ⊎ (p ≢ s)
same_or p s = of_test (int_eq p s) refl
  where
    of_test : (t : Bool) → int_eq p s ≡ t → (p ≡ s) ⊎ (p ≢ s)
    of_test true e = inl (grind (arith, ints))
    of_test false e = inr (λ h. grind (arith, ints))

points_from_parts : (p q : GridPoint) → p.x ≡ q.x → p.y ≡ q.y → p ≡ q
points_from_parts p q e f = ap₂ (λ (x y : ℤ). record { x = x; y = y }) e f

add_none : (z x : ℤ) → x ≡ pos 0 → z ≡ (z +ℤ x)
add_none z x e = omega (arith, ints)

pub middle_cases : (p s : GridPoint) (d e : Dir) → step_cost d ≡ 4 → step_from (doubled p) d ≡ step_from (doubled s) e → (p ≡ s) ⊎ (p ≡ step_from s e)
middle_cases p s d e axis same = of_parts (axis_parts d axis)
  where
    xs : ((p.x +ℤ p.x) +ℤ east_of d) ≡ ((s.x +ℤ s.x) +ℤ east_of e)
    xs = ap (λ (r : GridPoint). r.x) same

    ys : ((p.y +ℤ p.y) +ℤ north_of d) ≡ ((s.y +ℤ s.y) +ℤ north_of e)
    ys = ap (λ (r : GridPoint). r.y) same

    one : IsAlong (east_of d) (north_of d)
    one = one_along d

    two : IsAlong (east_of e) (north_of e)
    two = one_along e

    upright : (east_of d ≡ pos 0) × (north_of d ≢ pos 0) → (p.y ≡ s.y) ⊎ (p.y ≢ s.y) → (p ≡ s) ⊎ (p ≡ step_from s e)
    upright h (inl y) =
        let even = even_part p.x s.x (east_of e) two.low_a two.high_a (subst (λ (a : ℤ). ((p.x +ℤ p.x) +ℤ a) ≡ ((s.x +ℤ s.x) +ℤ east_of e)) h.0 xs) in
        inl (points_from_parts p s even.0 y)
    upright h (inr apart) =
        let even = even_part p.x s.x (east_of e) two.low_a two.high_a (subst (λ (a : ℤ). ((p.x +ℤ p.x) +ℤ a) ≡ ((s.x +ℤ s.x) +ℤ east_of e)) h.0 xs) in
        inr (points_from_parts p (step_from s e) (even.0 ∙ add_none s.x (east_of e) even.1) (other_end p.y s.y (north_of d) (north_of e) one.low_b one.high_b h.1 two.low_b two.high_b ys apart))

    level : (north_of d ≡ pos 0) × (east_of d ≢ pos 0) → (p.x ≡ s.x) ⊎ (p.x ≢ s.x) → (p ≡ s) ⊎ (p ≡ step_from s e)
    level h (inl x) =
        let even = even_part p.y s.y (north_of e) two.low_b two.high_b (subst (λ (a : ℤ). ((p.y +ℤ p.y) +ℤ a) ≡ ((s.y +ℤ s.y) +ℤ north_of e)) h.0 ys) in
        inl (points_from_parts p s x even.0)
    level h (inr apart) =
        let even = even_part p.y s.y (north_of e) two.low_b two.high_b (subst (λ (a : ℤ). ((p.y +ℤ p.y) +ℤ a) ≡ ((s.y +ℤ s.y) +ℤ north_of e)) h.0 ys) in
        inr (points_from_parts p (step_from s e) (other_end p.x s.x (east_of d) (east_of e) one.low_a one.high_a h.1 two.low_a two.high_a xs apart) (even.0 ∙ add_none s.y (north_of e) even.1))

    of_parts : ((east_of d ≡ pos 0) × (north_of d ≢ pos 0)) ⊎ ((north_of d ≡ pos 0) × (east_of d ≢ pos 0)) → (p ≡ s) ⊎ (p ≡ step_from s e)
    of_parts (inl h) = upright h (same_or p.y s.y)
    of_parts (inr h) = level h (same_or p.x s.x)

pub no_middle : (p s : GridPoint) (d : Dir) → step_cost d ≡ 4 → step_from (doubled p) d ≡ doubled s → ⊥
no_middle p s d axis same = of_parts (axis_parts d axis)
  where
    one : IsAlong (east_of d) (north_of d)
    one = one_along d

    of_parts : ((east_of d ≡ pos 0) × (north_of d ≢ pos 0)) ⊎ ((north_of d ≡ pos 0) × (east_of d ≢ pos 0)) → ⊥
    of_parts (inl h) = not_middle p.y s.y (north_of d) one.low_b one.high_b h.1 (ap (λ (r : GridPoint). r.y) same)
    of_parts (inr h) = not_middle p.x s.x (east_of d) one.low_a one.high_a h.1 (ap (λ (r : GridPoint). r.x) same)

-- so a walk that takes such a middle takes its ends
among_first : (d q : GridPoint) (rest : List GridPoint) → d ≡ q → is_among (q ∷ rest) d ≡ true
among_first d q rest e = ap (λ t. t || is_among rest d) (subst (λ (r : GridPoint). are_one d r ≡ true) e (one_same d))

among_later : (d q : GridPoint) (rest : List GridPoint) → is_among rest d ≡ true → is_among (q ∷ rest) d ≡ true
among_later d q rest e = or_later (are_one d q) (is_among rest d) e
  where
    or_later : (s t : Bool) → t ≡ true → (s || t) ≡ true
    or_later true t e = refl
    or_later false t e = e

starts_with : (s : GridPoint) (ds : List Dir) → is_among (doubled_from s ds) (doubled s) ≡ true
starts_with s [] = among_first (doubled s) (doubled s) [] refl
starts_with s (e ∷ es) = among_first (doubled s) (doubled s) (step_from (doubled s) e ∷ doubled_from (step_from s e) es) refl

pub ends_among : (s : GridPoint) (ds : List Dir) (p : GridPoint) (d : Dir) → step_cost d ≡ 4 → is_among (doubled_from s ds) (step_from (doubled p) d) ≡ true → is_among (doubled_from s ds) (doubled p) ≡ true
ends_among s [] p d axis e = absurd (no_middle p s d axis (here (or_cases (are_one (step_from (doubled p) d) (doubled s)) false e)))
  where
    here : (are_one (step_from (doubled p) d) (doubled s) ≡ true) ⊎ (false ≡ true) → step_from (doubled p) d ≡ doubled s
    here (inl h) = one_true (step_from (doubled p) d) (doubled s) h
    here (inr h) = cc
ends_among s (e ∷ es) p d axis found =
    of_first (or_cases (are_one m (doubled s)) (are_one m (step_from (doubled s) e) || is_among (doubled_from (step_from s e) es) m) found) (λ h. ends_among (step_from s e) es p d axis h)
  where
    m : GridPoint
    m = step_from (doubled p) d

    of_end : (p ≡ s) ⊎ (p ≡ step_from s e) → is_among (doubled_from s (e ∷ es)) (doubled p) ≡ true
    of_end (inl h) = subst (λ (q : GridPoint). is_among (doubled_from s (e ∷ es)) (doubled q) ≡ true) (sym h) (starts_with s (e ∷ es))
    of_end (inr h) =
        subst (λ (q : GridPoint). is_among (doubled_from s (e ∷ es)) (doubled q) ≡ true) (sym h)
        (among_later (doubled (step_from s e)) (doubled s) (step_from (doubled s) e ∷ doubled_from (step_from s e) es)
        (among_later (doubled (step_from s e)) (step_from (doubled s) e) (doubled_from (step_from s e) es) (starts_with (step_from s e) es)))

    of_later : (are_one m (step_from (doubled s) e) ≡ true) ⊎ (is_among (doubled_from (step_from s e) es) m ≡ true) → (is_among (doubled_from (step_from s e) es) m ≡ true → is_among (doubled_from (step_from s e) es) (doubled p) ≡ true) →
        is_among (doubled_from s (e ∷ es)) (doubled p) ≡ true
    of_later (inl h) later = of_end (middle_cases p s d e axis (one_true m (step_from (doubled s) e) h))
    of_later (inr h) later =
        among_later (doubled p) (doubled s) (step_from (doubled s) e ∷ doubled_from (step_from s e) es)
        (among_later (doubled p) (step_from (doubled s) e) (doubled_from (step_from s e) es) (later h))

    of_first : (are_one m (doubled s) ≡ true) ⊎ ((are_one m (step_from (doubled s) e) || is_among (doubled_from (step_from s e) es) m) ≡ true) →
        (is_among (doubled_from (step_from s e) es) m ≡ true → is_among (doubled_from (step_from s e) es) (doubled p) ≡ true) → is_among (doubled_from s (e ∷ es)) (doubled p) ≡ true
    of_first (inl h) later = absurd (no_middle p s d axis (one_true m (doubled s) h))
    of_first (inr h) later = of_later (or_cases (are_one m (step_from (doubled s) e)) (is_among (doubled_from (step_from s e) es) m) h) later

pub board_with_walk : (board : BoardParts) (w : PlainWalk) → IsBoard board → IsBoard (with_walk board w)
board_with_walk board w h = record {
  in_range = h.in_range;
  nodes_inside = h.nodes_inside;
  nodes_even = h.nodes_even;
  ends_taken = λ p d axis e. taken p d axis (or_cases (is_among (doubled_of w) (step_from (doubled p) d)) (board.is_taken (step_from (doubled p) d)) e);
}
  where
    either : (s t : Bool) → (s ≡ true) ⊎ (t ≡ true) → (s || t) ≡ true
    either true t h = refl
    either false t (inl h) = cc
    either false t (inr h) = h

    taken : (p : GridPoint) (d : Dir) → step_cost d ≡ 4 → (is_among (doubled_of w) (step_from (doubled p) d) ≡ true) ⊎ (board.is_taken (step_from (doubled p) d) ≡ true) →
        (is_among (doubled_of w) (doubled p) || board.is_taken (doubled p)) ≡ true
    taken p d axis (inl e) = either (is_among (doubled_of w) (doubled p)) (board.is_taken (doubled p)) (inl (ends_among w.start w.steps p d axis e))
    taken p d axis (inr e) = either (is_among (doubled_of w) (doubled p)) (board.is_taken (doubled p)) (inr (h.ends_taken p d axis e))

-- what is shown after each change
pub shown_node : (b : BoardFlags) (at : GridPoint) → length b.nodes ≡ cells_of b.bounds → contains b.bounds at ≡ true →
    parts_of (record { bounds = b.bounds; nodes = set b.nodes (cell_of b.bounds at) true; taken = b.taken }) ≡ with_node (parts_of b) at
unfolding parts_of
shown_node b at each inside = λ i. record {
  bounds = b.bounds;
  is_node = λ p. (marked_set b.bounds b.nodes at true p each (inside_facts b.bounds at inside) ∙ cond_or (are_one at p) (is_marked b.bounds b.nodes p)) i;
  is_taken = is_marked (doubled_bounds b.bounds) b.taken;
}

pub shown_moved : (b : BoardFlags) (from to : GridPoint) → length b.nodes ≡ cells_of b.bounds → contains b.bounds from ≡ true → contains b.bounds to ≡ true →
    parts_of (record { bounds = b.bounds; nodes = set (set b.nodes (cell_of b.bounds from) false) (cell_of b.bounds to) true; taken = b.taken }) ≡ with_node_moved (parts_of b) from to
unfolding parts_of
shown_moved b from to each inside to_inside = λ i. record {
  bounds = b.bounds;
  is_node = λ p. (marked_set b.bounds (set b.nodes (cell_of b.bounds from) false) to true p (length-set b.nodes (cell_of b.bounds from) false ∙ each) (inside_facts b.bounds to to_inside)
      ∙ cond_or (are_one to p) (is_marked b.bounds (set b.nodes (cell_of b.bounds from) false) p)
      ∙ ap (λ t. are_one to p || t) (marked_set b.bounds b.nodes from false p each (inside_facts b.bounds from inside) ∙ cond_and (are_one from p) (is_marked b.bounds b.nodes p))) i;
  is_taken = is_marked (doubled_bounds b.bounds) b.taken;
}

pub shown_walk : (b : BoardFlags) (w : PlainWalk) → length b.taken ≡ cells_of (doubled_bounds b.bounds) → list_all (contains b.bounds) (points_of w) ≡ true →
    parts_of (record { bounds = b.bounds; nodes = b.nodes; taken = flagged (doubled_bounds b.bounds) true b.taken (doubled_of w) }) ≡ with_walk (parts_of b) w
unfolding parts_of
shown_walk b w each inside = λ i. record {
  bounds = b.bounds;
  is_node = is_marked b.bounds b.nodes;
  is_taken = λ d. (marked_flagged (doubled_bounds b.bounds) true (doubled_of w) b.taken d each (taken_inside b.bounds w.start w.steps inside) ∙ cond_or (is_among (doubled_of w) d) (is_marked (doubled_bounds b.bounds) b.taken d)) i;
}

-- the flags of doubled points after a walk was taken away, but for its kept ends
abbrev pub freed : BoardFlags → PlainWalk → Bool → Bool → List Bool
freed b w keeps_start keeps_end =
    kept_flags b.bounds (end_point w) keeps_end (kept_flags b.bounds w.start keeps_start (flagged (doubled_bounds b.bounds) false b.taken (doubled_of w)))

pub freed_by : (b : BoardFlags) (w : PlainWalk) (s e : Bool) (start end : GridPoint) (none started ended : List Bool) → none ≡ flagged (doubled_bounds b.bounds) false b.taken (doubled_of w) → start ≡ w.start →
    started ≡ cond s (flagged (doubled_bounds b.bounds) true none (doubled start ∷ [])) none → end ≡ end_point w →
    ended ≡ cond e (flagged (doubled_bounds b.bounds) true started (doubled end ∷ [])) started → ended ≡ freed b w s e
freed_by b w s e start end none started ended cleared at_start first at_end last =
    last
    ∙ ap₂ (λ (p : GridPoint) (fs : List Bool). kept_flags b.bounds p e fs) at_end
    (first ∙ ap₂ (λ (p : GridPoint) (fs : List Bool). kept_flags b.bounds p s fs) at_start cleared)

pub shown_freed : (b : BoardFlags) (w : PlainWalk) (s e : Bool) → length b.taken ≡ cells_of (doubled_bounds b.bounds) → list_all (contains b.bounds) (points_of w) ≡ true →
    contains b.bounds (end_point w) ≡ true → parts_of (record { bounds = b.bounds; nodes = b.nodes; taken = freed b w s e }) ≡ without_walk (parts_of b) w s e
unfolding parts_of
shown_freed b w s e each inside end = λ i. record {
  bounds = b.bounds;
  is_node = is_marked b.bounds b.nodes;
  is_taken = λ d. (marked_kept b.bounds started (end_point w) e d length_started end ∙ ap (λ t. (e && are_one (doubled (end_point w)) d) || t) (marked_kept b.bounds none w.start s d length_none start ∙ ap (λ t. (s && are_one (doubled w.start) d) || t) (cleared d))) i;
}
  where
    none : List Bool
    none = flagged (doubled_bounds b.bounds) false b.taken (doubled_of w)

    length_none : length none ≡ cells_of (doubled_bounds b.bounds)
    length_none = length-flagged (doubled_bounds b.bounds) false (doubled_of w) b.taken ∙ each

    started : List Bool
    started = kept_flags b.bounds w.start s none

    length_started : length started ≡ cells_of (doubled_bounds b.bounds)
    length_started = length-kept b.bounds none w.start s ∙ length_none

    start : contains b.bounds w.start ≡ true
    start = first_holds (contains b.bounds) w.start w.steps inside

    cleared : (d : GridPoint) → is_marked (doubled_bounds b.bounds) none d ≡ (not (is_among (doubled_of w) d) && is_marked (doubled_bounds b.bounds) b.taken d)
    cleared d = marked_flagged (doubled_bounds b.bounds) false (doubled_of w) b.taken d each (taken_inside b.bounds w.start w.steps inside) ∙ cond_and (is_among (doubled_of w) d) (is_marked (doubled_bounds b.bounds) b.taken d)

pub shown_lifted : (b : BoardFlags) (at : GridPoint) → length b.nodes ≡ cells_of b.bounds → contains b.bounds at ≡ true →
    parts_of (record { bounds = b.bounds; nodes = set b.nodes (cell_of b.bounds at) false; taken = b.taken }) ≡ without_node (parts_of b) at
unfolding parts_of
shown_lifted b at each inside = λ i. record {
  bounds = b.bounds;
  is_node = λ p. (marked_set b.bounds b.nodes at false p each (inside_facts b.bounds at inside) ∙ cond_and (are_one at p) (is_marked b.bounds b.nodes p)) i;
  is_taken = is_marked (doubled_bounds b.bounds) b.taken;
}

get_or-lowered : (n k : ℕ) → get_or (replicate n false) k false ≡ false
get_or-lowered zero k = refl
get_or-lowered (suc n) zero = refl
get_or-lowered (suc n) (suc k) = get_or-lowered n k

and_false : (t x : Bool) → x ≡ false → (t && x) ≡ false
and_false true x e = e
and_false false x e = refl

pub shown_empty : (b : Bounds) (n m : ℕ) → parts_of (record { bounds = b; nodes = replicate n false; taken = replicate m false }) ≡ empty_board b
unfolding parts_of
shown_empty b n m = λ i. record {
  bounds = b;
  is_node = λ p. (and_false (contains b p) (get_or (replicate n false) (cell_of b p) false) (get_or-lowered n (cell_of b p))) i;
  is_taken = λ d. (and_false (contains (doubled_bounds b) d) (get_or (replicate m false) (cell_of (doubled_bounds b) d) false) (get_or-lowered m (cell_of (doubled_bounds b) d))) i;
}

-- and the flags stay those of a board
pub kept_node : (b : BoardFlags) (at : GridPoint) → IsKept b → contains b.bounds at ≡ true → is_inside (parts_of b) at ≡ true → is_even at ≡ true →
    IsKept (record { bounds = b.bounds; nodes = set b.nodes (cell_of b.bounds at) true; taken = b.taken })
kept_node b at h inside shown even = record {
  points = length-set b.nodes (cell_of b.bounds at) true ∙ h.points;
  doubled_points = h.doubled_points;
  board = subst (λ (board : BoardParts). IsBoard board) (sym (shown_node b at h.points inside)) (board_with_node (parts_of b) at h.board shown even);
}

pub kept_moved : (b : BoardFlags) (from to : GridPoint) → IsKept b → contains b.bounds from ≡ true → contains b.bounds to ≡ true → is_inside (parts_of b) to ≡ true → is_even to ≡ true →
    IsKept (record { bounds = b.bounds; nodes = set (set b.nodes (cell_of b.bounds from) false) (cell_of b.bounds to) true; taken = b.taken })
kept_moved b from to h inside to_inside shown even = record {
  points = length-set (set b.nodes (cell_of b.bounds from) false) (cell_of b.bounds to) true ∙ length-set b.nodes (cell_of b.bounds from) false ∙ h.points;
  doubled_points = h.doubled_points;
  board = subst (λ (board : BoardParts). IsBoard board) (sym (shown_moved b from to h.points inside to_inside)) (board_node_moved (parts_of b) from to h.board shown even);
}

pub kept_walk : (b : BoardFlags) (w : PlainWalk) → IsKept b → list_all (contains b.bounds) (points_of w) ≡ true →
    IsKept (record { bounds = b.bounds; nodes = b.nodes; taken = flagged (doubled_bounds b.bounds) true b.taken (doubled_of w) })
kept_walk b w h inside = record {
  points = h.points;
  doubled_points = length-flagged (doubled_bounds b.bounds) true (doubled_of w) b.taken ∙ h.doubled_points;
  board = subst (λ (board : BoardParts). IsBoard board) (sym (shown_walk b w h.doubled_points inside)) (board_with_walk (parts_of b) w h.board);
}

pub kept_freed : (b : BoardFlags) (w : PlainWalk) (s e : Bool) → IsKept b → list_all (contains b.bounds) (points_of w) ≡ true → contains b.bounds (end_point w) ≡ true →
    IsBoard (without_walk (parts_of b) w s e) → IsKept (record { bounds = b.bounds; nodes = b.nodes; taken = freed b w s e })
kept_freed b w s e h inside end board = record {
  points = h.points;
  doubled_points =
      length-kept b.bounds (kept_flags b.bounds w.start s (flagged (doubled_bounds b.bounds) false b.taken (doubled_of w))) (end_point w) e
      ∙ length-kept b.bounds (flagged (doubled_bounds b.bounds) false b.taken (doubled_of w)) w.start s
      ∙ length-flagged (doubled_bounds b.bounds) false (doubled_of w) b.taken
      ∙ h.doubled_points;
  board = subst (λ (x : BoardParts). IsBoard x) (sym (shown_freed b w s e h.doubled_points inside end)) board;
}

board_without_node : (board : BoardParts) (at : GridPoint) → IsBoard board → IsBoard (without_node board at)
board_without_node board at h = record {
  in_range = h.in_range;
  nodes_inside = λ p e. h.nodes_inside p (and_parts (not (are_one at p)) (board.is_node p) e).1;
  nodes_even = λ p e. h.nodes_even p (and_parts (not (are_one at p)) (board.is_node p) e).1;
  ends_taken = h.ends_taken;
}

pub kept_lifted : (b : BoardFlags) (at : GridPoint) → IsKept b → contains b.bounds at ≡ true → IsKept (record { bounds = b.bounds; nodes = set b.nodes (cell_of b.bounds at) false; taken = b.taken })
kept_lifted b at h inside = record {
  points = length-set b.nodes (cell_of b.bounds at) false ∙ h.points;
  doubled_points = h.doubled_points;
  board = subst (λ (board : BoardParts). IsBoard board) (sym (shown_lifted b at h.points inside)) (board_without_node (parts_of b) at h.board);
}

pub kept_empty : (b : Bounds) → AreBounds b → IsKept (record { bounds = b; nodes = replicate (cells_of b) false; taken = replicate (cells_of (doubled_bounds b)) false })
kept_empty b h = record {
  points = length-replicate (cells_of b) false;
  doubled_points = length-replicate (cells_of (doubled_bounds b)) false;
  board = subst (λ (board : BoardParts). IsBoard board) (sym (shown_empty b (cells_of b) (cells_of (doubled_bounds b)))) (board_empty b h);
}

-- what is shown of the flags
pub shown_bounds : (b : BoardFlags) → (parts_of b).bounds ≡ b.bounds
unfolding parts_of
shown_bounds b = refl

pub shown_is_node : (b : BoardFlags) (p : GridPoint) → contains b.bounds p ≡ true → (parts_of b).is_node p ≡ get_or b.nodes (cell_of b.bounds p) false
unfolding parts_of
shown_is_node b p e = ap (λ t. t && get_or b.nodes (cell_of b.bounds p) false) e

pub shown_is_taken : (b : BoardFlags) (p : GridPoint) → contains (doubled_bounds b.bounds) p ≡ true → (parts_of b).is_taken p ≡ get_or b.taken (cell_of (doubled_bounds b.bounds) p) false
unfolding parts_of
shown_is_taken b p e = ap (λ t. t && get_or b.taken (cell_of (doubled_bounds b.bounds) p) false) e

pub shown_inside : (b : BoardFlags) (p : GridPoint) → is_inside (parts_of b) p ≡ true → contains b.bounds p ≡ true
unfolding parts_of
shown_inside b p e = e

pub kept_bounds : (b : BoardFlags) → IsKept b → AreBounds b.bounds
unfolding parts_of
kept_bounds b h = h.board.in_range

-- the same for the board as it is seen
pub seen_inside : (b now : BoardFlags) (p : GridPoint) → b ≡ now → is_inside (parts_of now) p ≡ true → contains b.bounds p ≡ true
seen_inside b now p is e = shown_inside b p (subst (λ (x : BoardFlags). is_inside (parts_of x) p ≡ true) (sym is) e)

pub seen_all_inside : (b now : BoardFlags) (ps : List GridPoint) → b ≡ now → list_all (is_inside (parts_of now)) ps ≡ true → list_all (contains b.bounds) ps ≡ true
unfolding parts_of
seen_all_inside b now ps is e = subst (λ (x : BoardFlags). list_all (is_inside (parts_of x)) ps ≡ true) (sym is) e
