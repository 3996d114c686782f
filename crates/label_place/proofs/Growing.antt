-- Tables that grow.
use Rattle.std.proofs.Common.{◌≡◌, ℕ, ◌+◌, ◌-◌, ◌≤◌, Bool, false, ◌&&◌, ◌||◌, List, [], ◌∷◌, ◌++◌, map, refl, ap, subst, sym, ◌∙◌, arith}
use Rattle.std.specs.List.{list_any, flat_map, range_with_len}
use Rattle.std.proofs.lemmas.List.{map-append}
use Rattle.std.proofs.Math.Bool.{and-or_distrib_right, or-false, or_assoc}
use Rattle.std.proofs.lemmas.List.Folds.{list_any-append}
use Rattle.svg_writer.specs.declared.bounds.Bounds.{Bounds}
use Rattle.svg_writer.proofs.Ranges.{range_more}
use Rattle.label_place.specs.declared.things.Thing.{Thing}
use Rattle.label_place.specs.declared.cells.Cell.{Cell}
use Rattle.label_place.specs.declared.cells.Cells.{Cells}
use Rattle.label_place.specs.declared.grid.Grid.{Grid}
use Rattle.label_place.specs.Grids.{cells_along, cells_in, cells_of, found_at, is_cell, meets, meets_at, put_in, reach, Adds, Grows, IsLinked}
use Rattle.label_place.proofs.Stepping.{numbered}

grows_not : (g : Grid) → IsLinked g → Grows g g (λ (box : Bounds) (q : Cell). false)
grows_not g h = record { linked = h; side = refl; found = λ box q. sym (or-false (meets_at g box q)) }

pub grows_same : (old new : Grid) (f g : Bounds → Cell → Bool) → ((box : Bounds) (q : Cell) → f box q ≡ g box q) → Grows old new f → Grows old new g
grows_same old new f g e h = record { linked = h.linked; side = h.side; found = λ box q. h.found box q ∙ ap (λ (b : Bool). meets_at old box q || b) (e box q) }

grows_then : (a b c : Grid) (f g : Bounds → Cell → Bool) → Grows a b f → Grows b c g → Grows a c (λ (box : Bounds) (q : Cell). f box q || g box q)
grows_then a b c f g h i = record {
  linked = i.linked;
  side = i.side ∙ h.side;
  found = λ box q. i.found box q ∙ ap (λ (t : Bool). t || g box q) (h.found box q) ∙ or_assoc (meets_at a box q) (f box q) (g box q);
}

-- ---- cells, one after another

pub put_none : (g : Grid) (t : Thing) (cells : List Cell) → cells ≡ [] → IsLinked g → Grows g g (put_in cells t)
put_none g t cells e h = subst (λ (cs : List Cell). Grows g g (put_in cs t)) (sym e) (grows_not g h)

pub put_more : (a b c : Grid) (t : Thing) (first second all : List Cell) → all ≡ first ++ second → Grows a b (put_in first t) → Grows b c (put_in second t) → Grows a c (put_in all t)
put_more a b c t first second all e h i =
    grows_same a c (λ (box : Bounds) (q : Cell). put_in first t box q || put_in second t box q) (put_in all t)
    (λ box q. sym (and-or_distrib_right (list_any (is_cell q) first) (list_any (is_cell q) second) (meets box t))
    ∙ ap (λ (x : Bool). x && meets box t) (sym (list_any-append (is_cell q) first second) ∙ ap (list_any (is_cell q)) (sym e)))
    (grows_then a b c (put_in first t) (put_in second t) h i)

abbrev pub cell_at : ℕ → ℕ → Cell
cell_at row column = record { column = column; row = row }

pub no_cells : (row from : ℕ) → cells_along row from (from - from) ≡ []
no_cells row from = let none : from - from ≡ 0 = omega arith in ap (cells_along row from) none

pub one_cell_more : (row from column : ℕ) → from ≤ column → cells_along row from (column + 1 - from) ≡ cells_along row from (column - from) ++ cell_at row column ∷ []
one_cell_more row from column h =
    let more : column + 1 - from ≡ (column - from) + 1 = omega arith in
    ap (cells_along row from) more ∙ ap (map (cell_at row)) (range_more from (column - from) column (omega arith))
    ∙ map-append (cell_at row) (range_with_len from (column - from)) (column ∷ [])

pub no_rows : {A : Type 0} (f : ℕ → List A) (from : ℕ) → flat_map f (range_with_len from (from - from)) ≡ []
no_rows f from = let none : from - from ≡ 0 = omega arith in ap (λ (n : ℕ). flat_map f (range_with_len from n)) none

pub one_row_more : {A : Type 0} (f : ℕ → List A) (from row : ℕ) → from ≤ row → flat_map f (range_with_len from (row + 1 - from)) ≡ flat_map f (range_with_len from (row - from)) ++ f row
one_row_more f from row h =
    let more : row + 1 - from ≡ (row - from) + 1 = omega arith in
    ap (λ (n : ℕ). flat_map f (range_with_len from n)) more ∙ numbered f from (row - from) row (omega arith)

-- ---- things, one after another

pub adds_none : (g : Grid) → IsLinked g → Adds g g []
adds_none g h = grows_not g h

pub adds_one : (old new : Grid) (t : Thing) (cells : Cells) → cells ≡ cells_of old.side (reach t) → Grows old new (put_in (cells_in cells) t) → Adds old new (t ∷ [])
adds_one old new t cells e h =
    grows_same old new (put_in (cells_in cells) t) (λ (box : Bounds) (q : Cell). list_any (found_at old.side box q) (t ∷ []))
    (λ box q. ap (λ (cs : Cells). put_in (cells_in cs) t box q) e ∙ sym (or-false (found_at old.side box q t))) h

pub adds_more : (a b c : Grid) (first second all : List Thing) → all ≡ first ++ second → Adds a b first → Adds b c second → Adds a c all
adds_more a b c first second all e h i =
    grows_same a c (λ (box : Bounds) (q : Cell). list_any (found_at a.side box q) first || list_any (found_at b.side box q) second) (λ (box : Bounds) (q : Cell). list_any (found_at a.side box q) all)
    (λ box q. ap (λ (side : ℕ). list_any (found_at a.side box q) first || list_any (found_at side box q) second) h.side
    ∙ sym (list_any-append (found_at a.side box q) first second) ∙ ap (list_any (found_at a.side box q)) (sym e))
    (grows_then a b c (λ (box : Bounds) (q : Cell). list_any (found_at a.side box q) first) (λ (box : Bounds) (q : Cell). list_any (found_at b.side box q) second) h i)
