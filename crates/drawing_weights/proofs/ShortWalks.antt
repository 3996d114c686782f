-- Walks that come to no point again have no more steps than a board has points.
use Rattle.std.proofs.Common.{◌≡◌, ◌∙◌, ℕ, suc, ◌≤◌, ◌<◌, true, false, eqb, pos, negsuc, List, [], ◌∷◌, length, map, sym, ap, refl, arith, ◌⊎◌, inl, inr}
use Rattle.std.proofs.lemmas.Bool.{and_from, and_parts, eqb-true, leb-true, ne_eqb, or_cases, false≢true}
use Rattle.std.specs.Prelude.{nat_le, unsigned_abs}
use Rattle.std.proofs.lemmas.Int.{ints}
use Rattle.std.proofs.lemmas.List.{length-map}
use Rattle.std.proofs.lemmas.Map.Keys.{IsDistinct-cons}
use Rattle.std.proofs.lemmas.Map.Steps.{length-le_from_distinct_below}
use Rattle.std.specs.List.{list_all, list_any, AllByRecursion, IsDistinct}
use Rattle.octi_grid.specs.declared.dir.Dir.{Dir}
use Rattle.octi_grid.specs.declared.point.GridPoint.{GridPoint}
use Rattle.octi_grid.specs.Ways.{doubled, doubled_from, points_from, step_from}
use Rattle.octi_grid.specs.Walks.{PlainWalk, doubled_of, points_of}
use Rattle.octi_grid.specs.Legal.{are_distinct}
use Rattle.octi_grid.proofs.Members.{In}
use Rattle.octi_grid.proofs.MeetsLemmas.{distinct_from, distinct_not_later, distinct_rest}
use Rattle.grid_board.specs.declared.bounds.Bounds.{Bounds}
use Rattle.grid_board.specs.Boards.{cell_of, cells_of, contains, point_of, AreBounds}
use Rattle.grid_board.proofs.Within.{few_cells, inside_facts, inside_test, point_below, point_of-cell}
use Rattle.drawing_weights.specs.Drawn.{IsShort}
use Rattle.grid_board.specs.Points.{is_near}

-- a point of a way is there doubled
pub doubled_there : (q p : GridPoint) (ds : List Dir) → In q (points_from p ds) → In (doubled q) (doubled_from p ds)
doubled_there q p [] (inl e) = inl (ap doubled e)
doubled_there q p [] (inr m) = absurd m
doubled_there q p (d ∷ ds) (inl e) = inl (ap doubled e)
doubled_there q p (d ∷ ds) (inr m) = inr (inr (doubled_there q (step_from p d) ds m))

-- so no point of a way is there twice where no doubled point is
distinct_points : (p : GridPoint) (ds : List Dir) → are_distinct (doubled_from p ds) ≡ true → are_distinct (points_from p ds) ≡ true
distinct_points p [] e = refl
distinct_points p (d ∷ ds) e =
    let rest = step_from (doubled p) d ∷ doubled_from (step_from p d) ds in
    distinct_from p (points_from (step_from p d) ds) (λ m. distinct_not_later (doubled p) rest e (inr (doubled_there p (step_from p d) ds m)))
    (distinct_points (step_from p d) ds (distinct_rest (step_from (doubled p) d) (doubled_from (step_from p d) ds) (distinct_rest (doubled p) rest e)))

-- points of a board have numbers of their own
module _ (b : Bounds) where
  one_number : (p q : GridPoint) → contains b p ≡ true → contains b q ≡ true → cell_of b p ≡ cell_of b q → p ≡ q
  one_number p q h k e = sym (point_of-cell b p (inside_facts b p h)) ∙ ap (point_of b) e ∙ point_of-cell b q (inside_facts b q k)

  number_apart : (p : GridPoint) (ps : List GridPoint) → contains b p ≡ true → list_all (contains b) ps ≡ true → (In p ps → ⊥) → AllByRecursion (λ n. eqb (cell_of b p) n ≡ false) (map (cell_of b) ps)
  number_apart p [] h a f = tt
  number_apart p (q ∷ ps) h a f =
      let parts = and_parts _ _ a in
      (ne_eqb _ _ (λ e. f (inl (one_number p q h parts.0 e))), number_apart p ps h parts.1 (λ m. f (inr m)))

  numbers_distinct : (ps : List GridPoint) → list_all (contains b) ps ≡ true → are_distinct ps ≡ true → IsDistinct eqb (map (cell_of b) ps)
  unfolding IsDistinct
  numbers_distinct [] a e = tt
  numbers_distinct (p ∷ ps) a e =
      let parts = and_parts _ _ a in
      IsDistinct-cons eqb (cell_of b p) (map (cell_of b) ps) (number_apart p ps parts.0 parts.1 (distinct_not_later p ps e)) (numbers_distinct ps parts.1 (distinct_rest p ps e))

  numbers_below : (ps : List GridPoint) (n : ℕ) → list_all (contains b) ps ≡ true → list_any (eqb n) (map (cell_of b) ps) ≡ true → n < cells_of b
  numbers_below [] n a e = absurd (false≢true e)
  numbers_below (p ∷ ps) n a e =
      by_place (or_cases (eqb n (cell_of b p)) (list_any (eqb n) (map (cell_of b) ps)) e) (point_below b p (inside_facts b p (and_parts (contains b p) (list_all (contains b) ps) a).0))
      (numbers_below ps n (and_parts (contains b p) (list_all (contains b) ps) a).1)
    where
      by_place : (eqb n (cell_of b p) ≡ true) ⊎ (list_any (eqb n) (map (cell_of b) ps) ≡ true) → cell_of b p < cells_of b → (list_any (eqb n) (map (cell_of b) ps) ≡ true → n < cells_of b) → n < cells_of b
      by_place (inl h) here rest = omega (arith, eqb-true n (cell_of b p) h, here)
      by_place (inr h) here rest = rest h

  few_points : (ps : List GridPoint) → list_all (contains b) ps ≡ true → are_distinct ps ≡ true → length ps ≤ cells_of b
  few_points ps a e =
      let few = length-le_from_distinct_below (map (cell_of b) ps) (cells_of b) (numbers_distinct ps a e) (λ n. numbers_below ps n a) in
      omega (arith, few, length-map ps (cell_of b))

length-points : (p : GridPoint) (ds : List Dir) → length (points_from p ds) ≡ suc (length ds)
length-points p [] = refl
length-points p (d ∷ ds) = ap suc (length-points (step_from p d) ds)

pub short_inside : (b : Bounds) → AreBounds b → (w : PlainWalk) → are_distinct (doubled_of w) ≡ true → list_all (contains b) (points_of w) ≡ true → IsShort w
short_inside b h w once within = omega (arith, few_points b (points_of w) within (distinct_points w.start w.steps once), few_cells b h, length-points w.start w.steps)

-- the widest board
abbrev widest : Bounds
widest = record { left = negsuc 1999; right = pos 2000; bottom = negsuc 1999; top = pos 2000 }

are_widest : AreBounds widest
are_widest = record {
  left = record { low = omega (arith, ints); high = omega (arith, ints) };
  right = record { low = omega (arith, ints); high = omega (arith, ints) };
  bottom = record { low = omega (arith, ints); high = omega (arith, ints) };
  top = record { low = omega (arith, ints); high = omega (arith, ints) };
  across = omega (arith, ints);
  upwards = omega (arith, ints);
}

near_inside : (p : GridPoint) → is_near 1904 p ≡ true → contains widest p ≡ true
near_inside p e =
    let parts = and_parts (nat_le (unsigned_abs p.x) 1904) (nat_le (unsigned_abs p.y) 1904) e in
    let x = leb-true (unsigned_abs p.x) 1904 parts.0 in
    let y = leb-true (unsigned_abs p.y) 1904 parts.1 in
    inside_test widest p (record { west = omega (arith, ints, x); east = omega (arith, ints, x); south = omega (arith, ints, y); north = omega (arith, ints, y) })

all_inside : (ps : List GridPoint) → list_all (is_near 1904) ps ≡ true → list_all (contains widest) ps ≡ true
all_inside [] e = refl
all_inside (p ∷ ps) e = let parts = and_parts _ _ e in and_from _ _ (near_inside p parts.0) (all_inside ps parts.1)

pub short_walk : (w : PlainWalk) → are_distinct (doubled_of w) ≡ true → list_all (is_near 1904) (points_from w.start w.steps) ≡ true → IsShort w
short_walk w e near = short_inside widest are_widest w e (all_inside (points_from w.start w.steps) near)
