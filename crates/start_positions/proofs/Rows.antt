-- The nearest of open points, row by row.
use Rattle.std.proofs.Common.{◌≡◌, refl, sym, ◌∙◌, ap, subst, ◌%◌, ◌⊎◌, inl, inr, Bool, true, false, cond, not, ◌&&◌, eqb, Option, Some, None, ℤ, pos, ◌-ℤ◌, ◌≤ℤ◌, ◌<ℤ◌, arith}
use Rattle.std.specs.Prelude.{unsigned_abs}
use Rattle.std.proofs.lemmas.Int.{ints}
use Rattle.std.proofs.lemmas.Bool.{and_parts, and_from, eqb-true, eq-eqb, not-true}
use Rattle.octi_grid.specs.declared.point.GridPoint.{GridPoint}
use Rattle.octi_grid.specs.Legal.{is_even}
use Rattle.grid_board.specs.declared.bounds.Bounds.{Bounds}
use Rattle.grid_board.specs.Boards.{is_inside, BoardParts}
use Rattle.grid_board.proofs.Within.{IsInside, inside_facts}
use Rattle.start_positions.specs.declared.spot.Spot.{Spot}
use Rattle.start_positions.specs.Homes.{square_apart}
use Rattle.start_positions.specs.Nearest.{is_open, nearer_of, nearer_or, no_farther, IsEast, IsEvenLine, IsFirstEast, IsFirstWest, IsInRow, IsNearest, IsNoFarther, IsNotEast, IsNotWest, IsSpot, IsTooFar, IsWest}
use Rattle.start_positions.proofs.Distances.{even_gap, in_row, nearer_is, no_farther_other, no_farther_trans, square_before, square_beyond, square_past, tied_is}

-- what an open point is
pub open_inside : (board : BoardParts) (p : GridPoint) → is_open board p ≡ true → is_inside board p ≡ true
open_inside board p e = (and_parts (is_inside board p) (is_even p && not (board.is_node p)) e).0

pub open_even : (board : BoardParts) (p : GridPoint) → is_open board p ≡ true → is_even p ≡ true
open_even board p e = (and_parts (is_even p) (not (board.is_node p)) (and_parts (is_inside board p) (is_even p && not (board.is_node p)) e).1).0

pub open_free : (board : BoardParts) (p : GridPoint) → is_open board p ≡ true → board.is_node p ≡ false
open_free board p e = not-true (board.is_node p) (and_parts (is_even p) (not (board.is_node p)) (and_parts (is_inside board p) (is_even p && not (board.is_node p)) e).1).1

pub is_open_from : (board : BoardParts) (p : GridPoint) → is_inside board p ≡ true → is_even p ≡ true → board.is_node p ≡ false → is_open board p ≡ true
is_open_from board p inside even free =
    and_from (is_inside board p) (is_even p && not (board.is_node p)) inside (and_from (is_even p) (not (board.is_node p)) even (ap not free))

pub even_lines : (p : GridPoint) → is_even p ≡ true → IsEvenLine p.x × IsEvenLine p.y
even_lines p e =
    let parts = and_parts (eqb (unsigned_abs p.x % 2) 0) (eqb (unsigned_abs p.y % 2) 0) e in
    (eqb-true (unsigned_abs p.x % 2) 0 parts.0, eqb-true (unsigned_abs p.y % 2) 0 parts.1)

pub even_point : (p : GridPoint) → IsEvenLine p.x → IsEvenLine p.y → is_even p ≡ true
even_point p e f =
    and_from (eqb (unsigned_abs p.x % 2) 0) (eqb (unsigned_abs p.y % 2) 0) (eq-eqb (unsigned_abs p.x % 2) 0 e) (eq-eqb (unsigned_abs p.y % 2) 0 f)

pub open_row : (board : BoardParts) (p : GridPoint) → is_open board p ≡ true → IsEvenLine p.y
open_row board p e = (even_lines p (open_even board p e)).1

pub open_column : (board : BoardParts) (p : GridPoint) → is_open board p ≡ true → IsEvenLine p.x
open_column board p e = (even_lines p (open_even board p e)).0

pub open_lines : (board : BoardParts) (p : GridPoint) → is_open board p ≡ true → IsInside board.bounds p
open_lines board p e = inside_facts board.bounds p (open_inside board p e)

-- one that is found no farther than another, which is no farther than a third
pub no_farther_through : (s : Spot) (mid found : Option GridPoint) (q : GridPoint) → IsNoFarther s mid q → ((p : GridPoint) → mid ≡ Some p → IsNoFarther s found p) → IsNoFarther s found q
no_farther_through s None found q h later = absurd h
no_farther_through s (Some m) None q h later = absurd (later m refl)
no_farther_through s (Some m) (Some p) q h later = no_farther_trans s p m q (later m refl) h

-- the nearer of two
nearer_first : (s : Spot) (p q : GridPoint) (t : Bool) → no_farther s p q ≡ t → no_farther s (cond t p q) p ≡ true → no_farther s (cond t p q) p ≡ true
nearer_first s p q t e h = h

or_of_first : (s : Spot) (p : GridPoint) (other : Option GridPoint) → no_farther s (nearer_or s p other) p ≡ true
or_of_first s p None = tied_is s p p (omega arith) (in_row p p refl (omega (arith, ints)))
or_of_first s p (Some q) = by_test (no_farther s p q) refl
  where
    by_test : (t : Bool) → no_farther s p q ≡ t → no_farther s (cond t p q) p ≡ true
    by_test true e = tied_is s p p (omega arith) (in_row p p refl (omega (arith, ints)))
    by_test false e = no_farther_other s p q e

or_of_second : (s : Spot) (p q : GridPoint) → no_farther s (nearer_or s p (Some q)) q ≡ true
or_of_second s p q = by_test (no_farther s p q) refl
  where
    by_test : (t : Bool) → no_farther s p q ≡ t → no_farther s (cond t p q) q ≡ true
    by_test true e = e
    by_test false e = tied_is s q q (omega arith) (in_row q q refl (omega (arith, ints)))

or_stands : (s : Spot) (p : GridPoint) (other : Option GridPoint) (r : GridPoint) → nearer_or s p other ≡ r → (p ≡ r) ⊎ (other ≡ Some r)
or_stands s p None r e = inl e
or_stands s p (Some q) r e = by_test (no_farther s p q) e
  where
    by_test : (t : Bool) → cond t p q ≡ r → (p ≡ r) ⊎ ((let o : Option GridPoint = Some q in o) ≡ Some r)
    by_test true e = inl e
    by_test false e = inr (ap Some e)

-- one more point, the nearest of some
pub joined : (s : Spot) (Such : GridPoint → Type 0) (before other : Option GridPoint) → ((p : GridPoint) → other ≡ Some p → Such p) → ((q : GridPoint) → Such q → IsNoFarther s other q)
    → IsNearest s Such before (nearer_of s before other)
joined s Such None other stands least = record { stands = λ p e. inr (stands p e); as_before = λ q e. (let clash : ⊥ = cc in absurd clash); least = least }
joined s Such (Some b) other stands least = record {
  stands = λ p e. from_either p (or_stands s b other p (let same : nearer_or s b other ≡ p = cc in same));
  as_before = λ q e. (let same : b ≡ q = cc in subst (λ r. no_farther s (nearer_or s b other) r ≡ true) same (or_of_first s b other));
  least = λ q such. from_other other q (least q such);
}
  where
    from_either : (p : GridPoint) → (b ≡ p) ⊎ (other ≡ Some p) → ((let o : Option GridPoint = Some b in o) ≡ Some p) ⊎ Such p
    from_either p (inl e) = inl (ap Some e)
    from_either p (inr e) = inr (stands p e)

    from_other : (o : Option GridPoint) (q : GridPoint) → IsNoFarther s o q → no_farther s (nearer_or s b o) q ≡ true
    from_other None q h = absurd h
    from_other (Some p) q h = no_farther_trans s (nearer_or s b (Some p)) p q (or_of_second s b p) h

-- the nearest of some points and then of others is that of both
pub both : (s : Spot) (These Those All : GridPoint → Type 0) (before mid found : Option GridPoint) → IsNearest s These before mid → IsNearest s Those mid found → ((p : GridPoint) → These p → All p)
    → ((p : GridPoint) → Those p → All p) → ((p : GridPoint) → All p → These p ⊎ Those p) → IsNearest s All before found
both s These Those All before mid found one two these those split = record {
  stands = λ p e. from_second p (two.stands p e);
  as_before = λ q e. no_farther_through s mid found q (one.as_before q e) two.as_before;
  least = λ q h. from_split q (split q h);
}
  where
    from_first : (p : GridPoint) → (before ≡ Some p) ⊎ These p → (before ≡ Some p) ⊎ All p
    from_first p (inl e) = inl e
    from_first p (inr h) = inr (these p h)

    from_second : (p : GridPoint) → (mid ≡ Some p) ⊎ Those p → (before ≡ Some p) ⊎ All p
    from_second p (inl e) = from_first p (one.stands p e)
    from_second p (inr h) = inr (those p h)

    from_split : (q : GridPoint) → These q ⊎ Those q → IsNoFarther s found q
    from_split q (inl h) = no_farther_through s mid found q (one.least q h) two.as_before
    from_split q (inr h) = two.least q h

-- where there are no such points, or all are too far
pub none_more : (s : Spot) (Such : GridPoint → Type 0) (before : Option GridPoint) → ((p : GridPoint) → Such p → ⊥) → IsNearest s Such before before
none_more s Such before none = record { stands = λ p e. inl e; as_before = λ q e. itself before q e; least = λ q h. absurd (none q h) }
  where
    itself : (o : Option GridPoint) (q : GridPoint) → o ≡ Some q → IsNoFarther s o q
    itself None q e = let clash : ⊥ = cc in absurd clash
    itself (Some p) q e = let same : p ≡ q = cc in subst (λ r. no_farther s p r ≡ true) same (tied_is s p p (omega arith) (in_row p p refl (omega (arith, ints))))

pub all_far : (s : Spot) (Such : GridPoint → Type 0) (before : Option GridPoint) → ((p : GridPoint) → Such p → IsNoFarther s before p) → IsNearest s Such before before
all_far s Such before far = record { stands = λ p e. inl e; as_before = (none_more s (λ p. ⊥) before (λ p h. h)).as_before; least = far }

-- rows that are farther than a point make all their points farther
pub too_far_above : (grid : Bounds) (s : Spot) (found : Option GridPoint) (y : ℤ) (q : GridPoint) → IsSpot grid s → IsTooFar s found y → s.row ≤ℤ y → y ≤ℤ q.y → IsNoFarther s found q
too_far_above grid s None y q spot far low high = absurd far
too_far_above grid s (Some p) y q spot far low high =
    let more = square_past s.side s.fineness s.offset.north s.row y q.y spot.row.past low high in
    nearer_is s p q (omega arith)

pub too_far_below : (grid : Bounds) (s : Spot) (found : Option GridPoint) (y : ℤ) (q : GridPoint) → IsSpot grid s → IsTooFar s found y → y ≤ℤ (s.row -ℤ pos 2) → q.y ≤ℤ y → IsNoFarther s found q
too_far_below grid s None y q spot far low high = absurd far
too_far_below grid s (Some p) y q spot far low high =
    let more = square_before s.side s.fineness s.offset.north (s.row -ℤ pos 2) y q.y spot.row.before low high in
    nearer_is s p q (omega arith)

-- in a row the first open point on either side is the nearest of that side
same_row : (s : Spot) (p q : GridPoint) → p.y ≡ q.y → square_apart s.side s.fineness p.y s.offset.north ≡ square_apart s.side s.fineness q.y s.offset.north
same_row s p q e = ap (λ (y : ℤ). square_apart s.side s.fineness y s.offset.north) e

pub east_nearest : (grid : Bounds) (board : BoardParts) (s : Spot) (y : ℤ) (found : Option GridPoint) (q : GridPoint) → IsSpot grid s → IsFirstEast board y s.column found → IsEast board y s.column q → IsNoFarther s found q
east_nearest grid board s y found q spot first such = by_found found first.stands (first.first q such)
  where
    by_found : (o : Option GridPoint) → ((p : GridPoint) → o ≡ Some p → IsEast board y s.column p) → IsNotEast o q → IsNoFarther s o q
    by_found None stands h = absurd h
    by_found (Some p) stands h =
        let stood = stands p refl in
        let row : p.y ≡ q.y = stood.in_row.row ∙ sym such.in_row.row in
        let rows = same_row s p q row in
        let columns = square_past s.side s.fineness s.offset.east s.column p.x q.x spot.column.past stood.past h in
        tied_is s p q (omega arith) (in_row p q row h)

pub west_nearest : (grid : Bounds) (board : BoardParts) (s : Spot) (y : ℤ) (found : Option GridPoint) (q : GridPoint) → IsSpot grid s → IsFirstWest board y (s.column -ℤ pos 2) found
    → IsWest board y (s.column -ℤ pos 2) q → IsNoFarther s found q
west_nearest grid board s y found q spot first such = by_found found first.stands (first.first q such)
  where
    le_cases : (a b : ℤ) → a ≤ℤ b → (a <ℤ b) ⊎ (a ≡ b)
    le_cases a b h = grind (arith, ints)

    by_found : (o : Option GridPoint) → ((p : GridPoint) → o ≡ Some p → IsWest board y (s.column -ℤ pos 2) p) → IsNotWest o q → IsNoFarther s o q
    by_found None stands h = absurd h
    by_found (Some p) stands h = by_order (le_cases q.x p.x h)
      where
        row : p.y ≡ q.y
        row = (stands p refl).in_row.row ∙ sym such.in_row.row

        by_order : (q.x <ℤ p.x) ⊎ (q.x ≡ p.x) → no_farther s p q ≡ true
        by_order (inl less) =
            let rows = same_row s p q row in
            let columns = square_beyond s.side s.fineness s.offset.east (s.column -ℤ pos 2) p.x q.x spot.some spot.column.before (stands p refl).past less in
            nearer_is s p q (omega arith)
        by_order (inr same) =
            let rows = same_row s p q row in
            let columns = ap (λ (x : ℤ). square_apart s.side s.fineness x s.offset.east) same in
            tied_is s p q (omega arith) (in_row p q row (omega (arith, ints)))

-- the nearest of a row
pub row_nearest : (grid : Bounds) (board : BoardParts) (s : Spot) (y : ℤ) (before east west : Option GridPoint) → IsSpot grid s → IsFirstEast board y s.column east → IsFirstWest board y (s.column -ℤ pos 2) west
    → IsNearest s (IsInRow board y) before (nearer_of s (nearer_of s before east) west)
row_nearest grid board s y before east west spot first_east first_west =
    both s (IsEast board y s.column) (IsWest board y (s.column -ℤ pos 2)) (IsInRow board y) before (nearer_of s before east) (nearer_of s (nearer_of s before east) west)
    (joined s (IsEast board y s.column) before east first_east.stands (λ q such. east_nearest grid board s y east q spot first_east such))
    (joined s (IsWest board y (s.column -ℤ pos 2)) (nearer_of s before east) west first_west.stands (λ q such. west_nearest grid board s y west q spot first_west such))
    (λ p such. such.in_row) (λ p such. such.in_row) split
  where
    by_order : (a b : ℤ) → (b ≤ℤ a) ⊎ (a <ℤ b)
    by_order a b = grind (arith, ints)

    on_side : (p : GridPoint) → IsInRow board y p → (s.column ≤ℤ p.x) ⊎ (p.x <ℤ s.column) → IsEast board y s.column p ⊎ IsWest board y (s.column -ℤ pos 2) p
    on_side p such (inl h) = inl (record { in_row = such; past = h })
    on_side p such (inr h) = inr (record { in_row = such; past = even_gap p.x s.column (open_column board p such.is_open) spot.column.even h })

    split : (p : GridPoint) → IsInRow board y p → IsEast board y s.column p ⊎ IsWest board y (s.column -ℤ pos 2) p
    split p such = on_side p such (by_order p.x s.column)
