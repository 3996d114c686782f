-- The grid of a graph lies within 2,000 either way, and holds the offsets of its nodes.
use Rattle.std.proofs.Common.{◌≡◌, sym, ◌∙◌, ap, ap₂, subst, ℕ, ◌+◌, ◌-◌, ◌*◌, ◌/◌, ◌<◌, ◌≤◌, ◌⊎◌, inl, inr, true, false, not, cond, ◌&&◌, leb, ltb, max, List, [], ◌∷◌, length, map, ℤ, pos, neg_ℤ, ◌-ℤ◌, ◌≤ℤ◌, arith}
use Rattle.std.specs.Prelude.{unsigned_abs}
use Rattle.std.specs.List.{AllByRecursion}
use Rattle.std.proofs.lemmas.Int.{ints}
use Rattle.std.proofs.lemmas.Bool.{and_from, cases_eq, eq-eqb, le-leb, ltb-false, ne_eqb}
use Rattle.std.proofs.lemmas.Nat.{div_below, mul-le}
use Rattle.std.proofs.Math.Nat.{mul-le-mul_right}
use Rattle.map_base.specs.declared.point.Point.{Point}
use Rattle.grid_board.specs.declared.bounds.Bounds.{Bounds}
use Rattle.octi_grid.specs.declared.point.GridPoint.{GridPoint}
use Rattle.grid_board.specs.Boards.{contains, AreBounds, IsBound}
use Rattle.grid_board.specs.Points.{is_near}
use Rattle.grid_board.proofs.Within.{inside_facts}
use Rattle.start_positions.specs.declared.cells.Extents.{Extents}
use Rattle.start_positions.specs.declared.placing.Offset.{Offset}
use Rattle.start_positions.specs.Cells.{ceil_quotient, coordinate, extent_of, fine_cells, first_number, greater, greatest_beside, greatest_number, grid_of, grid_over, height_of, is_too_fine, least_beside, least_number, lesser, offset_of, offsets_of, root_up, side_of, width_of, AreExtents, IsOffset}
use Rattle.start_positions.specs.Nearest.{IsOver}
use Rattle.start_positions.proofs.Distances.{ceil_reaches}
use Rattle.start_positions.proofs.Rooms.{root_few, IsRoundOrigin}

-- quotients that are rounded up
ceil_few : (a n b : ℕ) → 0 < b → a ≤ n * b → ceil_quotient a b ≤ n
ceil_few a n b some h =
    let more : (n + 1) * b ≡ n * b + b = omega arith in
    let below : (a + b - 1) / b < n + 1 = div_below (a + b - 1) b (n + 1) some (omega arith) in
    omega arith

ceil_le : (a c b : ℕ) → 0 < b → a ≤ c → ceil_quotient a b ≤ ceil_quotient c b
ceil_le a c b some h = ceil_few a (ceil_quotient c b) b some (let reach = ceil_reaches c b some in omega arith)

-- under a cell that is not too small the extents take at most 400 cells, four times as fine
side_enough : (extent cell : ℕ) → (cell ≡ 0) ⊎ ((cell ≡ 0 → ⊥) × (ceil_quotient (4 * extent) cell ≤ 400)) → 4 * extent ≤ 400 * side_of extent cell
side_enough extent cell (inl e) =
    let chosen : side_of extent cell ≡ max 1 (ceil_quotient extent 50) = ap (λ t. cond t (max 1 (ceil_quotient extent 50)) cell) (eq-eqb cell 0 e) in
    let reach = ceil_reaches extent 50 (omega arith) in
    omega arith
side_enough extent cell (inr h) =
    let asked : side_of extent cell ≡ cell = ap (λ t. cond t (max 1 (ceil_quotient extent 50)) cell) (ne_eqb cell 0 h.0) in
    let some : 0 < cell = (by_cases (cases_eq cell 0)) in
    let reach = ceil_reaches (4 * extent) cell some in
    let most : ceil_quotient (4 * extent) cell * cell ≤ 400 * cell = mul-le-mul_right cell h.1 in
    omega arith
  where
    by_cases : (cell ≡ 0) ⊎ (cell ≡ 0 → ⊥) → 0 < cell
    by_cases (inl e) = absurd (h.0 e)
    by_cases (inr n) = omega arith

not_fine : (ps : List Point) (cell : ℕ) → is_too_fine ps cell ≡ false → (cell ≡ 0) ⊎ ((cell ≡ 0 → ⊥) × (ceil_quotient (4 * extent_of ps) cell ≤ 400))
not_fine ps cell e = by_cases (cases_eq cell 0)
  where
    by_cases : (cell ≡ 0) ⊎ (cell ≡ 0 → ⊥) → (cell ≡ 0) ⊎ ((cell ≡ 0 → ⊥) × (ceil_quotient (4 * extent_of ps) cell ≤ 400))
    by_cases (inl z) = inl z
    by_cases (inr n) = inr (n, ltb-false 400 (fine_cells ps cell) (ap (λ t. not t && ltb 400 (fine_cells ps cell)) (sym (ne_eqb cell 0 n)) ∙ e))

side_some : (extent cell : ℕ) → 0 < side_of extent cell
side_some extent cell = by_cases (cases_eq cell 0)
  where
    by_cases : (cell ≡ 0) ⊎ (cell ≡ 0 → ⊥) → 0 < side_of extent cell
    by_cases (inl e) =
        let chosen : side_of extent cell ≡ max 1 (ceil_quotient extent 50) = ap (λ t. cond t (max 1 (ceil_quotient extent 50)) cell) (eq-eqb cell 0 e) in
        omega arith
    by_cases (inr n) =
        let asked : side_of extent cell ≡ cell = ap (λ t. cond t (max 1 (ceil_quotient extent 50)) cell) (ne_eqb cell 0 n) in
        omega arith

lines_few : (extent wide fineness side : ℕ) → 0 < side → wide ≤ extent → fineness ≤ 16 → 4 * extent ≤ 400 * side → ceil_quotient (wide * fineness) side ≤ 1600
lines_few extent wide fineness side some h fine enough =
    ceil_few (wide * fineness) 1600 side some (let most : wide * fineness ≤ extent * 16 = mul-le wide fineness extent 16 h fine in omega arith)

-- what a placing needs of its grid
pub record IsFine (ps : List Point) (side fineness : ℕ) : Type 0 where
  pub some : 0 < side
  pub fine : fineness ≤ 16
  pub columns : ceil_quotient (width_of ps * fineness) side ≤ 1600
  pub rows : ceil_quotient (height_of ps * fineness) side ≤ 1600

pub fine_enough : (ps : List Point) (cell fineness : ℕ) → is_too_fine ps cell ≡ false → fineness ≤ 16 → IsFine ps (side_of (extent_of ps) cell) fineness
fine_enough ps cell fineness e fine =
    let enough = side_enough (extent_of ps) cell (not_fine ps cell e) in
    let some = side_some (extent_of ps) cell in
    record {
      some = some;
      fine = fine;
      columns = lines_few (extent_of ps) (width_of ps) fineness (side_of (extent_of ps) cell) some (omega arith) fine enough;
      rows = lines_few (extent_of ps) (height_of ps) fineness (side_of (extent_of ps) cell) some (omega arith) fine enough;
    }

-- the bounds of the grid
low_bound : (m : ℕ) → m ≤ 104 → IsBound (neg_ℤ (pos m))
low_bound m h = record { low = omega (arith, ints); high = omega (arith, ints) }

high_bound : (n m : ℕ) → n ≤ 1600 → m ≤ 104 → IsBound (pos (n + m))
high_bound n m h k = record { low = omega (arith, ints); high = omega (arith, ints) }

across : (m n : ℕ) → neg_ℤ (pos m) ≤ℤ pos n
across m n = omega (arith, ints)

pub grid_bounds : (ps : List Point) (side fineness : ℕ) → IsFine ps side fineness → AreBounds (grid_of ps side fineness)
grid_bounds ps side fineness f =
    let margin : 4 + root_up (length ps) ≤ 104 = (let few = root_few (length ps) in omega arith) in
    record {
      left = low_bound (4 + root_up (length ps)) margin;
      right = high_bound (ceil_quotient (width_of ps * fineness) side) (4 + root_up (length ps)) f.columns margin;
      bottom = low_bound (4 + root_up (length ps)) margin;
      top = high_bound (ceil_quotient (height_of ps * fineness) side) (4 + root_up (length ps)) f.rows margin;
      across = across (4 + root_up (length ps)) (ceil_quotient (width_of ps * fineness) side + (4 + root_up (length ps)));
      upwards = across (4 + root_up (length ps)) (ceil_quotient (height_of ps * fineness) side + (4 + root_up (length ps)));
    }

-- so its points lie near the origin
near_between : (m n : ℕ) (z : ℤ) → m ≤ 104 → n ≤ 1600 → neg_ℤ (pos m) ≤ℤ z → z ≤ℤ pos (n + m) → unsigned_abs z ≤ 1800
near_between m n z h k low high = omega (arith, ints)

pub grid_near : (ps : List Point) (side fineness : ℕ) → IsFine ps side fineness → (p : GridPoint) → contains (grid_of ps side fineness) p ≡ true → is_near 1800 p ≡ true
grid_near ps side fineness f p e =
    let margin : 4 + root_up (length ps) ≤ 104 = (let few = root_few (length ps) in omega arith) in
    let i = inside_facts (grid_of ps side fineness) p e in
    and_from (leb (unsigned_abs p.x) 1800) (leb (unsigned_abs p.y) 1800)
    (le-leb (unsigned_abs p.x) 1800 (near_between (4 + root_up (length ps)) (ceil_quotient (width_of ps * fineness) side) p.x margin f.columns i.west i.east))
    (le-leb (unsigned_abs p.y) 1800 (near_between (4 + root_up (length ps)) (ceil_quotient (height_of ps * fineness) side) p.y margin f.rows i.south i.north))

past_margin : (m n : ℕ) → pos m ≤ℤ pos (n + m)
past_margin m n = omega (arith, ints)

same_margin : (m : ℕ) → neg_ℤ (pos m) ≤ℤ neg_ℤ (pos m)
same_margin m = omega (arith, ints)

pub grid_round : (ps : List Point) (side fineness : ℕ) → IsRoundOrigin (4 + root_up (length ps)) (grid_of ps side fineness)
grid_round ps side fineness = record {
  left = same_margin (4 + root_up (length ps));
  right = past_margin (4 + root_up (length ps)) (ceil_quotient (width_of ps * fineness) side);
  bottom = same_margin (4 + root_up (length ps));
  top = past_margin (4 + root_up (length ps)) (ceil_quotient (height_of ps * fineness) side);
}

pub margin_low : (m : ℕ) → neg_ℤ (pos m) ≤ℤ pos 0
margin_low m = omega (arith, ints)

-- offsets within the extents lie within the grid
within_line : (at extent fineness side margin : ℕ) → 0 < side → at ≤ extent → 4 ≤ margin → pos (ceil_quotient (at * fineness) side + 1) ≤ℤ pos (ceil_quotient (extent * fineness) side + margin)
within_line at extent fineness side margin some h k =
    let less : at * fineness ≤ extent * fineness = mul-le-mul_right fineness h in
    let few = ceil_le (at * fineness) (extent * fineness) side some less in
    omega (arith, ints)

few_lines : (at extent fineness side : ℕ) → 0 < side → at ≤ extent → ceil_quotient (extent * fineness) side ≤ 1600 → ceil_quotient (at * fineness) side ≤ 1600
few_lines at extent fineness side some h k =
    let less : at * fineness ≤ extent * fineness = mul-le-mul_right fineness h in
    let few = ceil_le (at * fineness) (extent * fineness) side some less in
    omega arith

offset_over : (ps : List Point) (side fineness : ℕ) (o : Offset) → IsFine ps side fineness → width_of ps ≤ 600000000 → height_of ps ≤ 600000000 → IsOffset ps o → IsOver (grid_of ps side fineness) side fineness o
offset_over ps side fineness o f wide high is = record {
  wide = omega (arith, is.east);
  high = omega (arith, is.north);
  columns = few_lines o.east (width_of ps) fineness side f.some is.east f.columns;
  rows = few_lines o.north (height_of ps) fineness side f.some is.north f.rows;
  east = within_line o.east (width_of ps) fineness side (4 + root_up (length ps)) f.some is.east (omega arith);
  north = within_line o.north (height_of ps) fineness side (4 + root_up (length ps)) f.some is.north (omega arith);
}

pub offsets_over : (ps : List Point) (side fineness : ℕ) (os : List Offset) → IsFine ps side fineness → width_of ps ≤ 600000000 → height_of ps ≤ 600000000 → AllByRecursion (IsOffset ps) os
    → AllByRecursion (IsOver (grid_of ps side fineness) side fineness) os
offsets_over ps side fineness [] f wide high all = tt
offsets_over ps side fineness (o ∷ os) f wide high all = (offset_over ps side fineness o f wide high all.0, offsets_over ps side fineness os f wide high all.1)

-- the offsets of the nodes themselves lie within the extents
lesser_low : (a b : ℤ) → (lesser a b ≤ℤ a) × (lesser a b ≤ℤ b)
lesser_low a b = grind (arith, ints)

greater_high : (a b : ℤ) → (a ≤ℤ greater a b) × (b ≤ℤ greater a b)
greater_high a b = grind (arith, ints)

le_trans : (a b c : ℤ) → a ≤ℤ b → b ≤ℤ c → a ≤ℤ c
le_trans a b c h k = omega (arith, ints)

le_self : (a : ℤ) → a ≤ℤ a
le_self a = omega (arith, ints)

least_low : (a : ℤ) (zs : List ℤ) → (least_beside a zs ≤ℤ a) × AllByRecursion (λ z. least_beside a zs ≤ℤ z) zs
least_low a [] = (le_self a, tt)
least_low a (z ∷ zs) =
    let rest = least_low (lesser a z) zs in
    let low = lesser_low a z in
    (le_trans (least_beside (lesser a z) zs) (lesser a z) a rest.0 low.0, (le_trans (least_beside (lesser a z) zs) (lesser a z) z rest.0 low.1, rest.1))

-- the least of numbers is no greater than each
pub least_of_all : (zs : List ℤ) → AllByRecursion (λ z. least_number zs ≤ℤ z) zs
least_of_all zs = (least_low (first_number zs) zs).1

greatest_high : (a : ℤ) (zs : List ℤ) → (a ≤ℤ greatest_beside a zs) × AllByRecursion (λ z. z ≤ℤ greatest_beside a zs) zs
greatest_high a [] = (le_self a, tt)
greatest_high a (z ∷ zs) =
    let rest = greatest_high (greater a z) zs in
    let high = greater_high a z in
    (le_trans a (greater a z) (greatest_beside (greater a z) zs) high.0 rest.0, (le_trans z (greater a z) (greatest_beside (greater a z) zs) high.1 rest.0, rest.1))

spread_holds : (low z high : ℤ) → low ≤ℤ z → z ≤ℤ high → unsigned_abs (z -ℤ low) ≤ unsigned_abs (high -ℤ low)
spread_holds low z high h k = omega (arith, ints)

-- of nodes among all
among_all : (ps qs : List Point) → AllByRecursion (λ z. least_number (map (coordinate true) ps) ≤ℤ z) (map (coordinate true) qs)
    → AllByRecursion (λ z. z ≤ℤ greatest_number (map (coordinate true) ps)) (map (coordinate true) qs) → AllByRecursion (λ z. least_number (map (coordinate false) ps) ≤ℤ z) (map (coordinate false) qs)
    → AllByRecursion (λ z. z ≤ℤ greatest_number (map (coordinate false) ps)) (map (coordinate false) qs) → AllByRecursion (IsOffset ps) (map (offset_of ps) qs)
among_all ps [] a b c d = tt
among_all ps (q ∷ qs) a b c d = (
  record {
    east = spread_holds (least_number (map (coordinate true) ps)) q.x (greatest_number (map (coordinate true) ps)) a.0 b.0;
    north = spread_holds (least_number (map (coordinate false) ps)) q.y (greatest_number (map (coordinate false) ps)) c.0 d.0;
  },
  among_all ps qs a.1 b.1 c.1 d.1,
)

pub offsets_within : (ps : List Point) → AllByRecursion (IsOffset ps) (offsets_of ps)
offsets_within ps =
    among_all ps ps (least_low (first_number (map (coordinate true) ps)) (map (coordinate true) ps)).1 (greatest_high (first_number (map (coordinate true) ps)) (map (coordinate true) ps)).1
    (least_low (first_number (map (coordinate false) ps)) (map (coordinate false) ps)).1 (greatest_high (first_number (map (coordinate false) ps)) (map (coordinate false) ps)).1

-- the side and the grid by what the extents are
pub fine_here : (ps : List Point) (e : Extents) (cell side fineness : ℕ) → AreExtents ps e → side ≡ side_of (max e.width e.height) cell → is_too_fine ps cell ≡ false → fineness ≤ 16 → IsFine ps side fineness
fine_here ps e cell side fineness are is not_small fine =
    subst (λ (s : ℕ). IsFine ps s fineness) (sym (is ∙ ap₂ (λ (w h : ℕ). side_of (max w h) cell) are.width are.height)) (fine_enough ps cell fineness not_small fine)

pub grid_same : (ps : List Point) (e : Extents) (side fineness nodes : ℕ) (grid : Bounds) → AreExtents ps e → nodes ≡ length ps → grid ≡ grid_over e.width e.height side fineness nodes → grid ≡ grid_of ps side fineness
grid_same ps e side fineness nodes grid are each is =
    is ∙ ap₂ (λ (w h : ℕ). grid_over w h side fineness nodes) are.width are.height ∙ ap (λ (n : ℕ). grid_over (width_of ps) (height_of ps) side fineness n) each
