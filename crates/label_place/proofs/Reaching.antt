-- Where a box meets a thing, both reach into one cell.
use Rattle.std.proofs.Common.{◌≡◌, ℕ, ◌+◌, ◌-◌, ◌/◌, ◌<◌, ◌≤◌, Bool, true, false, ◌&&◌, ℤ, pos, ◌+ℤ◌, ◌-ℤ◌, ◌*ℤ◌, ◌≤ℤ◌, List, [], ◌∷◌, refl, ap, sym, ◌∙◌, arith}
use Rattle.std.specs.Prelude.{int_le}
use Rattle.std.specs.Int.{int_min, int_max}
use Rattle.std.specs.List.{list_any, range_with_len}
use Rattle.std.proofs.lemmas.Int.{ints, clamps}
use Rattle.std.proofs.Math.Bool.{and-false, and-true}
use Rattle.std.proofs.lemmas.Nat.{le-div, div-add-mod'}
use Rattle.std.proofs.lemmas.Bool.{and_parts, and_from, eq-eqb}
use Rattle.octi_grid.specs.declared.dir.Dir.{Dir}
use Rattle.octi_grid.specs.declared.dir.Dir.TheVariants as dir
use Rattle.octi_grid.specs.Ways.{east_of, north_of}
use Rattle.svg_writer.specs.declared.bounds.Bounds.{Bounds}
use Rattle.label_place.specs.declared.strokes.Stroke.{Stroke}
use Rattle.label_place.specs.declared.things.Thing.{Thing}
use Rattle.label_place.specs.declared.things.Thing.TheVariants.{Area, Line}
use Rattle.label_place.specs.declared.cells.Cell.{Cell}
use Rattle.label_place.specs.declared.cells.Cells.{Cells}
use Rattle.label_place.specs.Boxes.{holds, share_point, wider}
use Rattle.label_place.specs.Strokes.{point_on, units}
use Rattle.label_place.specs.Grids.{above, cells_in, cells_of, found_at, is_cell, line_of, meets, reach, row_cells, span}
use Rattle.label_place.proofs.Tests.{any_and, any_flat, any_in_range, any_map, any_never, any_or, or_same, some_of_range}
use Rattle.label_place.proofs.Orders.{le_true, le_from, le_trans, max_le, le_min, max_first, max_second, min_first, min_second}
use Rattle.label_place.proofs.Timing.{units_are}

-- no side of a box is past the opposite one
pub record IsUpright (b : Bounds) : Type 0 where
  pub across : b.left ≤ℤ b.right
  pub along : b.top ≤ℤ b.bottom

-- ---- a step that comes near

-- a number between two others, either way round
record IsBetween (a z b : ℤ) : Type 0 where
  low : int_min a b ≤ℤ z
  high : z ≤ℤ int_max a b

goes_up : (a z b : ℤ) (t : ℕ) → t ≤ 100 → z ≡ a +ℤ pos t → b ≡ a +ℤ pos 100 → IsBetween a z b
goes_up a z b t h e f = record { low = omega (arith, ints, clamps); high = omega (arith, ints, clamps) }

goes_down : (a z b : ℤ) (t : ℕ) → t ≤ 100 → z ≡ a -ℤ pos t → b ≡ a -ℤ pos 100 → IsBetween a z b
goes_down a z b t h e f = record { low = omega (arith, ints, clamps); high = omega (arith, ints, clamps) }

goes_nowhere : (a z b : ℤ) → z ≡ a → IsBetween a z b
goes_nowhere a z b e = record { low = omega (arith, ints, clamps); high = omega (arith, ints, clamps) }

on_way_across : (d : Dir) (from : ℤ) (t : ℕ) → t ≤ 100 → IsBetween from (from +ℤ (pos t *ℤ east_of d)) (from +ℤ (pos 100 *ℤ east_of d))
on_way_across dir.N from t h = goes_nowhere from _ _ (omega (arith, ints))
on_way_across dir.NE from t h = goes_up from _ _ t h (omega (arith, ints)) (omega (arith, ints))
on_way_across dir.E from t h = goes_up from _ _ t h (omega (arith, ints)) (omega (arith, ints))
on_way_across dir.SE from t h = goes_up from _ _ t h (omega (arith, ints)) (omega (arith, ints))
on_way_across dir.S from t h = goes_nowhere from _ _ (omega (arith, ints))
on_way_across d from t h = goes_down from _ _ t h (omega (arith, ints)) (omega (arith, ints))

on_way_down : (d : Dir) (from : ℤ) (t : ℕ) → t ≤ 100 → IsBetween from (from -ℤ (pos t *ℤ north_of d)) (from -ℤ (pos 100 *ℤ north_of d))
on_way_down dir.E from t h = goes_nowhere from _ _ (omega (arith, ints))
on_way_down dir.SE from t h = goes_up from _ _ t h (omega (arith, ints)) (omega (arith, ints))
on_way_down dir.S from t h = goes_up from _ _ t h (omega (arith, ints)) (omega (arith, ints))
on_way_down dir.SW from t h = goes_up from _ _ t h (omega (arith, ints)) (omega (arith, ints))
on_way_down dir.W from t h = goes_nowhere from _ _ (omega (arith, ints))
on_way_down d from t h = goes_down from _ _ t h (omega (arith, ints)) (omega (arith, ints))

-- a range, and one that is wider by a margin and has a number of it
overlap : (l r a b z : ℤ) (m : ℕ) → l ≤ℤ r → (l -ℤ pos m) ≤ℤ z → z ≤ℤ (r +ℤ pos m) → a ≤ℤ z → z ≤ℤ b → int_max l (a -ℤ pos m) ≤ℤ int_min r (b +ℤ pos m)
overlap l r a b z m h low high from till = max_le l (a -ℤ pos m) (int_min r (b +ℤ pos m))
    (le_min r (b +ℤ pos m) l h (omega (arith, ints)))
    (le_min r (b +ℤ pos m) (a -ℤ pos m) (omega (arith, ints)) (omega (arith, ints)))

near_step : (box : Bounds) (s : Stroke) (t : ℕ) → IsUpright box → t ≤ 100 → holds (wider s.margin box) (point_on s.start s.dir t) ≡ true → share_point box (wider s.margin (span s.start s.dir)) ≡ true
near_step box s t up h held =
    let p = point_on s.start s.dir t in
    let end = point_on s.start s.dir 100 in
    let wide = wider s.margin box in
    let one = and_parts (int_le wide.left p.x && int_le p.x wide.right && int_le wide.top p.y) (int_le p.y wide.bottom) held in
    let two = and_parts (int_le wide.left p.x && int_le p.x wide.right) (int_le wide.top p.y) one.0 in
    let three = and_parts (int_le wide.left p.x) (int_le p.x wide.right) two.0 in
    let x = on_way_across s.dir s.start.x t h in
    let y = on_way_down s.dir s.start.y t h in
    and_from _ _
    (le_true _ _ (overlap box.left box.right (int_min s.start.x end.x) (int_max s.start.x end.x) p.x s.margin up.across (le_from wide.left p.x three.0) (le_from p.x wide.right three.1) x.low x.high))
    (le_true _ _ (overlap box.top box.bottom (int_min s.start.y end.y) (int_max s.start.y end.y) p.y s.margin up.along (le_from wide.top p.y two.1) (le_from p.y wide.bottom one.1) y.low y.high))

-- what a box meets shares a point with it in its reach
pub meets_reach : (box : Bounds) (t : Thing) → IsUpright box → meets box t ≡ true → share_point box (reach t) ≡ true
meets_reach box (Area b) up e = e
meets_reach box (Line s) up e = by_count 101 refl
  where
    by_count : (n : ℕ) → n ≡ 101 → share_point box (wider s.margin (span s.start s.dir)) ≡ true
    by_count n is =
        let found = some_of_range (λ (t : ℕ). holds (wider s.margin box) (point_on s.start s.dir t)) 0 n (sym (ap (list_any (λ (t : ℕ). holds (wider s.margin box) (point_on s.start s.dir t))) (units_are n is)) ∙ sym (any_map (holds (wider s.margin box)) (point_on s.start s.dir) units) ∙ e) in
        near_step box s found.0 up (omega (arith, found.1)) found.2

-- ---- cells

div_mono : (a b k : ℕ) → 0 < k → a ≤ b → a / k ≤ b / k
div_mono a b k p h = le-div (a / k) b k p (omega (arith, div-add-mod' a k))

above_mono : (x y : ℤ) → x ≤ℤ y → above x ≤ above y
above_mono x y h = omega (arith, ints, clamps)

line_mono : (side : ℕ) (x y : ℤ) → 0 < side → x ≤ℤ y → line_of side x ≤ line_of side y
line_mono side x y p h = div_mono (above x) (above y) side p (above_mono x y h)

abbrev cell_of : ℕ → ℤ → ℤ → Cell
cell_of side x y = record { column = line_of side x; row = line_of side y }

-- a cell of a row passes, and a row of all rows
pub in_row : (cs : Cells) (row column : ℕ) (test : Cell → Bool) → cs.left ≤ column → column ≤ cs.right → test (record { column = column; row = row }) ≡ true → list_any test (row_cells cs row) ≡ true
in_row cs row column test l r e =
    any_map test (λ (k : ℕ). let q : Cell = record { column = k; row = row } in q) (range_with_len cs.left (cs.right + 1 - cs.left))
    ∙ any_in_range (λ (k : ℕ). test (record { column = k; row = row })) cs.left (cs.right + 1 - cs.left) column l (omega arith) e

pub in_rows_of : (cs : Cells) (row : ℕ) (test : Cell → Bool) → cs.top ≤ row → row ≤ cs.bottom → list_any test (row_cells cs row) ≡ true → list_any test (cells_in cs) ≡ true
in_rows_of cs row test t u e = any_flat test (row_cells cs) (range_with_len cs.top (cs.bottom + 1 - cs.top))
    ∙ any_in_range (λ (k : ℕ). list_any test (row_cells cs k)) cs.top (cs.bottom + 1 - cs.top) row t (omega arith) e

-- a cell of a point of a box passes
in_cells : (side : ℕ) (b : Bounds) (test : Cell → Bool) (x y : ℤ) → 0 < side → b.left ≤ℤ x → x ≤ℤ b.right → b.top ≤ℤ y → y ≤ℤ b.bottom → test (cell_of side x y) ≡ true
    → list_any test (cells_in (cells_of side b)) ≡ true
in_cells side b test x y p left right top bottom e =
    let cs = cells_of side b in
    let l = line_mono side b.left x p left in
    let r = line_mono side x b.right p right in
    let t = line_mono side b.top y p top in
    let u = line_mono side y b.bottom p bottom in
    in_rows_of cs (line_of side y) test t u (in_row cs (line_of side y) (line_of side x) test l r e)

is_cell_same : (q : Cell) → is_cell q q ≡ true
is_cell_same q = and_from _ _ (eq-eqb q.column q.column refl) (eq-eqb q.row q.row refl)

-- two boxes that share a point have a common cell
common : (side : ℕ) (a b : Bounds) → 0 < side → share_point a b ≡ true → list_any (λ (q : Cell). list_any (is_cell q) (cells_in (cells_of side b))) (cells_in (cells_of side a)) ≡ true
common side a b p e =
    let parts = and_parts _ _ e in
    let x = int_max a.left b.left in
    let y = int_max a.top b.top in
    let h = le_from x (int_min a.right b.right) parts.0 in
    let v = le_from y (int_min a.bottom b.bottom) parts.1 in
    in_cells side a (λ (q : Cell). list_any (is_cell q) (cells_in (cells_of side b))) x y p
    (max_first a.left b.left) (le_trans x _ a.right h (min_first a.right b.right)) (max_first a.top b.top) (le_trans y _ a.bottom v (min_first a.bottom b.bottom))
    (in_cells side b (is_cell (cell_of side x y)) x y p
    (max_second a.left b.left) (le_trans x _ b.right h (min_second a.right b.right)) (max_second a.top b.top) (le_trans y _ b.bottom v (min_second a.bottom b.bottom))
    (is_cell_same (cell_of side x y)))

-- a thing is found in the cells of a box exactly where the box meets it
one_found : (side : ℕ) (box : Bounds) (t : Thing) → 0 < side → IsUpright box → list_any (λ (q : Cell). found_at side box q t) (cells_in (cells_of side box)) ≡ meets box t
one_found side box t p up =
    any_and (λ (q : Cell). list_any (is_cell q) (cells_in (cells_of side (reach t)))) (meets box t) (cells_in (cells_of side box))
    ∙ by_test (meets box t) (λ e. common side box (reach t) p (meets_reach box t up e))
  where
    by_test : (b : Bool) → (b ≡ true → list_any (λ (q : Cell). list_any (is_cell q) (cells_in (cells_of side (reach t)))) (cells_in (cells_of side box)) ≡ true)
        → (list_any (λ (q : Cell). list_any (is_cell q) (cells_in (cells_of side (reach t)))) (cells_in (cells_of side box)) && b) ≡ b
    by_test true f = and-true _ ∙ f refl
    by_test false f = and-false _

-- some thing is found in the cells of a box exactly where the box meets one
pub all_found : (side : ℕ) (box : Bounds) (things : List Thing) → 0 < side → IsUpright box
    → list_any (λ (q : Cell). list_any (found_at side box q) things) (cells_in (cells_of side box)) ≡ list_any (meets box) things
all_found side box [] p up = any_never (cells_in (cells_of side box))
all_found side box (t ∷ ts) p up =
    any_or (λ (q : Cell). found_at side box q t) (λ (q : Cell). list_any (found_at side box q) ts) (cells_in (cells_of side box))
    ∙ or_same _ _ _ _ (one_found side box t p up) (all_found side box ts p up)
