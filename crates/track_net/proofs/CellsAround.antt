-- The points near to a place lie in its cell and the cells around it.
use Rattle.std.proofs.Common.{◌≡◌, refl, sym, ◌∙◌, ap, subst, ℕ, zero, suc, ◌+◌, ◌*◌, ◌/◌, ◌%◌, ◌<◌, ◌≤◌, ◌⊎◌, inl, inr, Bool, true, nat_lt, ℤ, pos, negsuc, ◌+ℤ◌, ◌-ℤ◌, ◌*ℤ◌, ◌≤ℤ◌, ◌<ℤ◌, unsigned_abs, List, [], ◌∷◌, filter, length, get_or, All, Contains, arith}
use Rattle.std.specs.Ordering.{int_eq}
use Rattle.std.specs.List.{list_any, range_with_len, flat_map}
use Rattle.std.proofs.Math.Nat.{mul-le-mul}
use Rattle.std.proofs.lemmas.Int.{ints}
use Rattle.std.proofs.lemmas.Bool.{and_from, ltb-true, cases_lt}
use Rattle.std.proofs.lemmas.Bool.Decides.{Decides-int_eq}
use Rattle.std.proofs.lemmas.List.Folds.{Any-from_list_any}
use Rattle.std.proofs.lemmas.List.Elements.{All-contains, All-filter, filter_passes, Contains-append_left, Contains-append_right, Contains-append_cases}
use Rattle.map_base.specs.declared.point.Point.{Point}
use Rattle.whole_algebra.specs.Rounding.{floor_quotient}
use Rattle.whole_algebra.proofs.Rounding.{floor_quotient-lower, floor_quotient-upper}
use Rattle.whole_algebra.proofs.Products.{+ℤ-*ℤ, minus-*ℤ}
use Rattle.whole_algebra.proofs.Signs.{*ℤ-negative_factor}
use Rattle.fixed_plane.specs.Plane.{IsInPlane}
use Rattle.fixed_plane.specs.Measures.{square_of, dist2_of}
use Rattle.fixed_plane.proofs.Distances.{dist2_of_comm}
use Rattle.track_net.specs.Nearness.{HaveTheSame, point_at, is_nearer, has_near, numbers_near}
use Rattle.track_net.specs.Cells.{cell_of, is_cell, cell_around, CellMap, listed, numbers_in, AreListed, points_in, AreKept, has_near_around}
use Rattle.track_net.proofs.Lists.{range_below, any_found, any_in_filter, any_kept, same_tests}
use Rattle.track_net.proofs.EdgeFacts.{Contains-filter, Contains-range}

-- a square below another is that of a lesser number
less_than : (a w m : ℕ) → a * a ≤ m → m < w * w → a < w
less_than a w m square below = of_order (cases_lt a w)
  where
    of_order : (a < w) ⊎ (w ≤ a) → a < w
    of_order (inl h) = h
    of_order (inr h) = let more : w * w ≤ a * a = mul-le-mul h h in absurd (omega arith)

-- quotients of numbers that are less than a size apart differ by one at most
quotient_below : (x y : ℤ) (n : ℕ) → 0 < n → unsigned_abs (y -ℤ x) < n → floor_quotient y n ≤ℤ (floor_quotient x n +ℤ pos 1)
quotient_below x y n some near =
    next (floor_quotient y n) (floor_quotient x n)
    (*ℤ-negative_factor (floor_quotient y n -ℤ (floor_quotient x n +ℤ pos 2)) (pos n) (omega (arith, ints))
    (product (floor_quotient y n) (floor_quotient x n) (floor_quotient-lower y n some) (floor_quotient-upper x n some)))
  where
    next : (p q : ℤ) → (p -ℤ (q +ℤ pos 2)) <ℤ pos 0 → p ≤ℤ (q +ℤ pos 1)
    next p q h = omega (arith, ints)

    sums : (pn qn an : ℤ) → an ≡ pn -ℤ (qn +ℤ (pos n +ℤ pos n)) → pn ≤ℤ y → x <ℤ (qn +ℤ pos n) → an <ℤ pos 0
    sums pn qn an e h k = omega (arith, ints)

    product : (p q : ℤ) → (p *ℤ pos n) ≤ℤ y → x <ℤ (q *ℤ pos n +ℤ pos n) → ((p -ℤ (q +ℤ pos 2)) *ℤ pos n) <ℤ pos 0
    product p q h k =
        let twice : pos 2 *ℤ pos n ≡ pos n +ℤ pos n = omega (arith, ints) in
        sums (p *ℤ pos n) (q *ℤ pos n) ((p -ℤ (q +ℤ pos 2)) *ℤ pos n)
        (minus-*ℤ p (q +ℤ pos 2) (pos n) ∙ ap (λ z. p *ℤ pos n -ℤ z) (+ℤ-*ℤ q (pos 2) (pos n)) ∙ ap (λ z. p *ℤ pos n -ℤ (q *ℤ pos n +ℤ z)) twice) h k

back_apart : (x y : ℤ) (n : ℕ) → unsigned_abs (y -ℤ x) < n → unsigned_abs (x -ℤ y) < n
back_apart x y n h = omega (arith, ints)

-- so the one is the other, or the one before or after it
pub record IsBeside (p q : ℤ) : Type 0 where
  pub step : ℕ
  pub three : step < 3
  pub is : p +ℤ (pos step -ℤ pos 1) ≡ q

beside_of : (p q : ℤ) → q ≤ℤ (p +ℤ pos 1) → p ≤ℤ (q +ℤ pos 1) → IsBeside p q
beside_of p q h k = of_cases (cases p q h k)
  where
    cases : (p q : ℤ) → q ≤ℤ (p +ℤ pos 1) → p ≤ℤ (q +ℤ pos 1) → (q ≡ p -ℤ pos 1) ⊎ ((q ≡ p) ⊎ (q ≡ p +ℤ pos 1))
    cases p q h k = of_difference (q -ℤ p) refl
      where
        of_difference : (z : ℤ) → q -ℤ p ≡ z → (q ≡ p -ℤ pos 1) ⊎ ((q ≡ p) ⊎ (q ≡ p +ℤ pos 1))
        of_difference (pos zero) e = inr (inl (omega (arith, ints)))
        of_difference (pos (suc zero)) e = inr (inr (omega (arith, ints)))
        of_difference (pos (suc (suc n))) e = absurd (omega (arith, ints))
        of_difference (negsuc zero) e = inl (omega (arith, ints))
        of_difference (negsuc (suc n)) e = absurd (omega (arith, ints))

    of_cases : (q ≡ p -ℤ pos 1) ⊎ ((q ≡ p) ⊎ (q ≡ p +ℤ pos 1)) → IsBeside p q
    of_cases (inl e) = record { step = 0; three = omega arith; is = omega (arith, ints) }
    of_cases (inr (inl e)) = record { step = 1; three = omega arith; is = omega (arith, ints) }
    of_cases (inr (inr e)) = record { step = 2; three = omega arith; is = omega (arith, ints) }

-- the cell of a near point is one of the nine
pub near_cell : (size within : ℕ) (at q : Point) → 0 < size → within ≤ size → is_nearer within at q ≡ true → (i : ℕ) × (i < 9) × (cell_around (cell_of size at) i ≡ cell_of size q)
near_cell size within at q some small near =
    (3 * column.step + row.step, (omega (arith, column.three, row.three)), same)
  where
    below : dist2_of at q < within * within
    below = ltb-true (dist2_of at q) (within * within) near

    left : (a b : ℕ) → a ≤ a + b
    left a b = omega arith

    right : (a b : ℕ) → b ≤ a + b
    right a b = omega arith

    across : unsigned_abs (q.x -ℤ at.x) < within
    across = less_than (unsigned_abs (q.x -ℤ at.x)) within (dist2_of at q) (left (square_of (q.x -ℤ at.x)) (square_of (q.y -ℤ at.y))) below

    along : unsigned_abs (q.y -ℤ at.y) < within
    along = less_than (unsigned_abs (q.y -ℤ at.y)) within (dist2_of at q) (right (square_of (q.x -ℤ at.x)) (square_of (q.y -ℤ at.y))) below

    wide : (a : ℕ) → a < within → a < size
    wide a h = omega arith

    column : IsBeside (floor_quotient at.x size) (floor_quotient q.x size)
    column =
        beside_of (floor_quotient at.x size) (floor_quotient q.x size) (quotient_below at.x q.x size some (wide (unsigned_abs (q.x -ℤ at.x)) across))
        (quotient_below q.x at.x size some (back_apart at.x q.x size (wide (unsigned_abs (q.x -ℤ at.x)) across)))

    row : IsBeside (floor_quotient at.y size) (floor_quotient q.y size)
    row =
        beside_of (floor_quotient at.y size) (floor_quotient q.y size) (quotient_below at.y q.y size some (wide (unsigned_abs (q.y -ℤ at.y)) along))
        (quotient_below q.y at.y size some (back_apart at.y q.y size (wide (unsigned_abs (q.y -ℤ at.y)) along)))

    third : (a b : ℕ) → b < 3 → (3 * a + b) / 3 ≡ a
    third a b h = omega arith

    rest : (a b : ℕ) → b < 3 → (3 * a + b) % 3 ≡ b
    rest a b h = omega arith

    same : cell_around (cell_of size at) (3 * column.step + row.step) ≡ cell_of size q
    same =
        ap (λ (n : ℕ). (floor_quotient at.x size +ℤ (pos n -ℤ pos 1), floor_quotient at.y size +ℤ (pos ((3 * column.step + row.step) % 3) -ℤ pos 1))) (third column.step row.step row.three)
        ∙ ap (λ (n : ℕ). (floor_quotient at.x size +ℤ (pos column.step -ℤ pos 1), floor_quotient at.y size +ℤ (pos n -ℤ pos 1))) (rest column.step row.step row.three)
        ∙ ap (λ (z : ℤ). (z, floor_quotient at.y size +ℤ (pos row.step -ℤ pos 1))) column.is ∙ ap (λ (z : ℤ). (floor_quotient q.x size, z)) row.is

-- a number stands in lists joined where it stands in one of them
Contains-flat_map : (F : ℕ → List ℕ) (xs : List ℕ) (i k : ℕ) → Contains xs i → Contains (F i) k → Contains (flat_map F xs) k
Contains-flat_map F xs i k h g = at_place xs h.0 h.1 h.2
  where
    at_place : (xs : List ℕ) (j : ℕ) → j < length xs → get_or xs j i ≡ i → Contains (flat_map F xs) k
    at_place [] j below e = absurd (omega arith)
    at_place (x ∷ xs) zero below e = Contains-append_left (F x) (flat_map F xs) k (subst (λ (n : ℕ). Contains (F n) k) (sym e) g)
    at_place (x ∷ xs) (suc j) below e = Contains-append_right (F x) (flat_map F xs) k (at_place xs j (omega arith) e)

flat_map-member : (F : ℕ → List ℕ) (xs : List ℕ) (k : ℕ) → Contains (flat_map F xs) k → (i : ℕ) × Contains (F i) k
flat_map-member F [] k h = let none : h.0 < 0 = h.1 in absurd (omega arith)
flat_map-member F (x ∷ xs) k h = of_case (Contains-append_cases (F x) (flat_map F xs) k h) (flat_map-member F xs k)
  where
    of_case : Contains (F x) k ⊎ Contains (flat_map F xs) k → (Contains (flat_map F xs) k → (i : ℕ) × Contains (F i) k) → (i : ℕ) × Contains (F i) k
    of_case (inl g) later = (x, g)
    of_case (inr g) later = later g

int_eq-self : (x : ℤ) → int_eq x x ≡ true
int_eq-self x = (Decides-int_eq x x).1 refl

is_cell-self : (c d : ℤ × ℤ) → c ≡ d → is_cell c d ≡ true
is_cell-self c d e =
    subst (λ (b : ℤ × ℤ). is_cell c b ≡ true) e (and_from (int_eq c.0 c.0) (int_eq c.1 c.1) (int_eq-self c.0) (int_eq-self c.1))

-- what is found in the nine cells
abbrev pub found_of : ℕ → List Point → Point → ℕ → CellMap ℕ → List ℕ
found_of size ps at within cells =
    flat_map (λ i. filter (λ k. is_nearer within at (point_at ps k)) (listed cells (cell_around (cell_of size at) i))) (range_with_len 0 9)

pub listed_in_range : (size : ℕ) (ps : List Point) (cells : CellMap ℕ) → AreListed size ps (length ps) cells → (c : ℤ × ℤ) → All (λ k. k < length ps) (listed cells c)
listed_in_range size ps cells is c =
    subst (λ (ks : List ℕ). All (λ k. k < length ps) ks) (sym (is c))
    (All-filter (λ k. is_cell (cell_of size (point_at ps k)) c) (λ k. k < length ps) (range_with_len 0 (length ps)) (range_below (length ps)))

-- are numbers of near points
found_is_near : (size within : ℕ) (ps : List Point) (at : Point) (cells : CellMap ℕ) → AreListed size ps (length ps) cells → (k : ℕ) → Contains (found_of size ps at within cells) k →
    Contains (numbers_near within ps at) k
found_is_near size within ps at cells is k h =
    let near = (λ (j : ℕ). is_nearer within at (point_at ps j)) in
    let F = (λ (i : ℕ). filter near (listed cells (cell_around (cell_of size at) i))) in
    let member = flat_map-member F (range_with_len 0 9) k h in
    let c = cell_around (cell_of size at) member.0 in
    let passes : near k ≡ true = All-contains (λ j. near j ≡ true) (F member.0) k (filter_passes near (listed cells c)) member.1 in
    let below : k < length ps = All-contains (λ j. j < length ps) (F member.0) k (All-filter near (λ j. j < length ps) (listed cells c) (listed_in_range size ps cells is c)) member.1 in
    Contains-filter near (range_with_len 0 (length ps)) k (Contains-range (length ps) k below) passes

-- and all of them
near_is_found : (size within : ℕ) (ps : List Point) (at : Point) (cells : CellMap ℕ) → 0 < size → within ≤ size → AreListed size ps (length ps) cells → (k : ℕ) →
    Contains (numbers_near within ps at) k → Contains (found_of size ps at within cells) k
near_is_found size within ps at cells some small is k h =
    let near = (λ (j : ℕ). is_nearer within at (point_at ps j)) in
    let all = range_with_len 0 (length ps) in
    let F = (λ (i : ℕ). filter near (listed cells (cell_around (cell_of size at) i))) in
    let passes : near k ≡ true = All-contains (λ j. near j ≡ true) (filter near all) k (filter_passes near all) h in
    let below : k < length ps = All-contains (λ j. j < length ps) (filter near all) k (All-filter near (λ j. j < length ps) all (range_below (length ps))) h in
    let place = near_cell size within at (point_at ps k) some small passes in
    let c = cell_around (cell_of size at) place.0 in
    let inside : Contains (numbers_in size ps (length ps) c) k =
    Contains-filter (λ j. is_cell (cell_of size (point_at ps j)) c) all k (Contains-range (length ps) k below) (is_cell-self (cell_of size (point_at ps k)) c (sym place.2)) in
    let kept : Contains (listed cells c) k = subst (λ (ks : List ℕ). Contains ks k) (sym (is c)) inside in
    Contains-flat_map F (range_with_len 0 9) place.0 k (Contains-range 9 place.0 place.1) (Contains-filter near (listed cells c) k kept passes)

-- so these are the numbers of the near points
pub found_are_near : (size within : ℕ) (ps : List Point) (at : Point) (cells : CellMap ℕ) (found : List ℕ) → 0 < size → within ≤ size → AreListed size ps (length ps) cells →
    found ≡ found_of size ps at within cells → HaveTheSame found (numbers_near within ps at)
found_are_near size within ps at cells found some small is found_is =
    subst (λ (ks : List ℕ). HaveTheSame ks (numbers_near within ps at)) (sym found_is) (found_is_near size within ps at cells is, near_is_found size within ps at cells some small is)

-- a point that is kept for one of the nine cells is near exactly where some point is
pub has_near-around : (size within : ℕ) (ps : List Point) (at : Point) (cells : CellMap Point) → 0 < size → within ≤ size → AreKept size ps cells →
    has_near_around within at cells (cell_of size at) ≡ has_near within ps at
has_near-around size within ps at cells some small is =
    same_tests (has_near_around within at cells (cell_of size at)) (has_near within ps at) there back
  where
    near : Point → Bool
    near q = is_nearer within q at

    around : ℕ → ℤ × ℤ
    around i = cell_around (cell_of size at) ((i + 4) % 9)

    in_cell : (i : ℕ) → list_any near (listed cells (around i)) ≡ list_any near (points_in size ps (around i))
    in_cell i = ap (list_any near) (is (around i))

    there : has_near_around within at cells (cell_of size at) ≡ true → has_near within ps at ≡ true
    there e =
        let cell = Any-from_list_any (λ i. list_any near (listed cells (around i))) (range_with_len 0 9) e in
        any_in_filter near (λ (q : Point). is_cell (cell_of size q) (around cell.1)) ps (sym (in_cell cell.1) ∙ cell.4)

    found : (k : ℕ) (q : Point) → k < length ps → get_or ps k q ≡ q → near q ≡ true → has_near_around within at cells (cell_of size at) ≡ true
    found k q below here e =
        let turned : is_nearer within at q ≡ true = ap (λ d. nat_lt d (within * within)) (dist2_of_comm at q) ∙ e in
        let place = near_cell size within at q some small turned in
        let i = (place.0 + 5) % 9 in
        let turn : (i + 4) % 9 ≡ place.0 = omega (arith, place.1) in
        let same : around i ≡ cell_of size q = ap (cell_around (cell_of size at)) turn ∙ place.2 in
        let inside : list_any near (points_in size ps (around i)) ≡ true =
        any_kept near (λ (r : Point). is_cell (cell_of size r) (around i)) ps k q below (ap near here ∙ e)
        (ap (λ (r : Point). is_cell (cell_of size r) (around i)) here ∙ is_cell-self (cell_of size q) (around i) (sym same)) in
        any_found (λ j. list_any near (listed cells (around j))) i 9 (omega arith) (in_cell i ∙ inside)

    back : has_near within ps at ≡ true → has_near_around within at cells (cell_of size at) ≡ true
    back e = let some_near = Any-from_list_any near ps e in found some_near.0 some_near.1 some_near.2 some_near.3 some_near.4

-- the points that are kept for a cell lie in the plane
pub kept_in_plane : (size : ℕ) (ps : List Point) (cells : CellMap Point) → All IsInPlane ps → AreKept size ps cells → (c : ℤ × ℤ) → All IsInPlane (listed cells c)
kept_in_plane size ps cells all is c = subst (λ (qs : List Point). All IsInPlane qs) (sym (is c)) (All-filter (λ (q : Point). is_cell (cell_of size q) c) IsInPlane ps all)
