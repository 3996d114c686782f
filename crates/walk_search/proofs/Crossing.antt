-- Two steps with one middle: they join the same points, or they are the two diagonals of a cell.
use Rattle.std.proofs.Common.{◌≡◌, ◌≢◌, refl, sym, ◌∙◌, ap, ap₂, subst, ℕ, ◌+◌, ◌%◌, ◌≤◌, min, leb, ◌⊎◌, inl, inr, Bool, true, false, eqb, not, ◌&&◌, ◌||◌, List, [], ◌∷◌, ℤ, pos, ◌+ℤ◌, arith}
use Rattle.std.specs.Prelude.{unsigned_abs}
use Rattle.std.specs.List.{list_all}
use Rattle.std.proofs.lemmas.Int.{ints}
use Rattle.std.proofs.lemmas.Bool.{and_parts, eq-eqb, eqb-true, le-leb, leb-true, and_from, false≢true}
use Rattle.least_path.proofs.Chosen.{StandsIn}
use Rattle.octi_grid.specs.declared.dir.Dir.{Dir}
use Rattle.octi_grid.specs.declared.dir.Dir.TheVariants as dir
use Rattle.octi_grid.specs.declared.point.GridPoint.{GridPoint}
use Rattle.octi_grid.specs.Ways.{doubled, east_of, north_of, step_from}
use Rattle.octi_grid.specs.Costs.{clockwise_from, step_cost, turn_between}
use Rattle.octi_grid.specs.Legal.{is_even}
use Rattle.walk_search.specs.Routes.{directions}
use Rattle.walk_search.proofs.FreeWalks.{IsUnit, none, more, less, east_unit, north_unit, odd_part}
use Rattle.walk_search.proofs.Routing.{a_direction}

-- tables of turns
all_stands : {A : Type 0} (test : A → Bool) (x : A) (xs : List A) → list_all test xs ≡ true → StandsIn x xs → test x ≡ true
all_stands test x [] all h = absurd h
all_stands test x (y ∷ ys) all (inl e) = ap test (sym e) ∙ (and_parts (test y) (list_all test ys) all).0
all_stands test x (y ∷ ys) all (inr h) = all_stands test x ys (and_parts (test y) (list_all test ys) all).1 h

at_direction : (test : Dir → Bool) → list_all test directions ≡ true → (d : Dir) → test d ≡ true
at_direction test all d = all_stands test d directions all (a_direction d)

where_true : (s t : Bool) → (not s || t) ≡ true → s ≡ true → t ≡ true
where_true true t e f = e
where_true false t e f = absurd (false≢true f)

is_slant_turn : Dir → Dir → Bool
is_slant_turn d f = not (eqb (step_cost d) 5 && eqb (step_cost f) 4) || leb (turn_between d f) 3

slant_turns : list_all (λ d. list_all (is_slant_turn d) directions) directions ≡ true
unfolding is_slant_turn
slant_turns = refl

-- a turn from a diagonal to an axis is no reversal
slant_turn : (d f : Dir) → step_cost d ≡ 5 → step_cost f ≡ 4 → turn_between d f ≤ 3
unfolding is_slant_turn
slant_turn d f slant axis =
    leb-true (turn_between d f) 3
    (where_true (eqb (step_cost d) 5 && eqb (step_cost f) 4) (leb (turn_between d f) 3) (at_direction (is_slant_turn d) (at_direction (λ e. list_all (is_slant_turn e) directions) slant_turns d) f)
    (and_from (eqb (step_cost d) 5) (eqb (step_cost f) 4) (eq-eqb (step_cost d) 5 slant) (eq-eqb (step_cost f) 4 axis)))

is_near_turn : Dir → Dir → Dir → Bool
is_near_turn f e x = not (leb (turn_between f e) 1) || leb (turn_between f x) (turn_between e x + 1)

near_turns : list_all (λ f. list_all (λ e. list_all (is_near_turn f e) directions) directions) directions ≡ true
unfolding is_near_turn
near_turns = refl

-- directions that are no more than 45 degrees apart make turns that differ by no more
pub near_turn : (f e x : Dir) → turn_between f e ≤ 1 → turn_between f x ≤ turn_between e x + 1
unfolding is_near_turn
near_turn f e x near =
    leb-true (turn_between f x) (turn_between e x + 1)
    (where_true (leb (turn_between f e) 1) (leb (turn_between f x) (turn_between e x + 1))
    (at_direction (is_near_turn f e) (at_direction (λ c. list_all (is_near_turn f c) directions) (at_direction (λ g. list_all (λ c. list_all (is_near_turn g c) directions) directions) near_turns f) e) x)
    (le-leb (turn_between f e) 1 near))

pub turn_back : (a b : Dir) → turn_between a b ≡ turn_between b a
turn_back a b = swapped (clockwise_from a b) (clockwise_from b a)
  where
    swapped : (m n : ℕ) → min m n ≡ min n m
    swapped m n = omega arith

-- the part of a diagonal along an axis
abbrev upright_of : Dir → Dir
upright_of dir.N = dir.N
upright_of dir.NE = dir.N
upright_of dir.E = dir.N
upright_of dir.SE = dir.S
upright_of dir.S = dir.S
upright_of dir.SW = dir.S
upright_of dir.W = dir.N
upright_of dir.NW = dir.N

abbrev level_of : Dir → Dir
level_of dir.N = dir.E
level_of dir.NE = dir.E
level_of dir.E = dir.E
level_of dir.SE = dir.E
level_of dir.S = dir.E
level_of dir.SW = dir.W
level_of dir.W = dir.W
level_of dir.NW = dir.W

record AreParts (d u l : Dir) : Type 0 where
  slant : step_cost d ≡ 5
  upright : step_cost u ≡ 4
  no_east : east_of u ≡ pos 0
  north : north_of u ≡ north_of d
  up_near : turn_between u d ≤ 1
  level : step_cost l ≡ 4
  no_north : north_of l ≡ pos 0
  east : east_of l ≡ east_of d
  level_near : turn_between l d ≤ 1

parts : (d : Dir) → east_of d ≢ pos 0 → north_of d ≢ pos 0 → AreParts d (upright_of d) (level_of d)
parts dir.N e n = absurd (e refl)
parts dir.NE e n = record { slant = refl; upright = refl; no_east = refl; north = refl; up_near = omega arith; level = refl; no_north = refl; east = refl; level_near = omega arith }
parts dir.E e n = absurd (n refl)
parts dir.SE e n = record { slant = refl; upright = refl; no_east = refl; north = refl; up_near = omega arith; level = refl; no_north = refl; east = refl; level_near = omega arith }
parts dir.S e n = absurd (e refl)
parts dir.SW e n = record { slant = refl; upright = refl; no_east = refl; north = refl; up_near = omega arith; level = refl; no_north = refl; east = refl; level_near = omega arith }
parts dir.W e n = absurd (n refl)
parts dir.NW e n = record { slant = refl; upright = refl; no_east = refl; north = refl; up_near = omega arith; level = refl; no_north = refl; east = refl; level_near = omega arith }

-- the steps are the two diagonals of a cell: a step along an axis leads from the end of the first to the end of the
-- second, and one from the start of the first to the start of the second
pub record Crosses (p : GridPoint) (d : Dir) (q : GridPoint) (e : Dir) : Type 0 where
  pub slant : step_cost d ≡ 5
  pub slant_too : step_cost e ≡ 5
  pub over : Dir
  pub over_axis : step_cost over ≡ 4
  pub over_leads : step_from (step_from p d) over ≡ step_from q e
  pub over_turn : turn_between d over ≤ 3
  pub over_near : turn_between over e ≤ 1
  pub back : Dir
  pub back_axis : step_cost back ≡ 4
  pub back_leads : step_from p back ≡ q
  pub back_turn : turn_between back e ≤ 3
  pub back_near : turn_between back d ≤ 1
  pub off : step_from p d ≢ q
  pub not_even : is_even p ≡ true → is_even (step_from q e) ≡ true → ⊥

-- one coordinate
nothing_or_not : (z : ℤ) → IsUnit z → (z ≡ pos 0) ⊎ (z ≢ pos 0)
nothing_or_not z none = inl refl
nothing_or_not z more = inr (λ h. cc)
nothing_or_not z less = inr (λ h. cc)

-- twice a number and a unit: either of two such sums that are the same has the same number, or the numbers are neighbours
abbrev AreHalves : ℤ → ℤ → ℤ → ℤ → Type 0
AreHalves a u b v = ((a ≡ b) × (u ≡ v)) ⊎ (((a +ℤ u) ≡ b) × ((b +ℤ v) ≡ a) × (u ≢ pos 0))

halves : (a u b v : ℤ) → IsUnit u → IsUnit v → ((a +ℤ a) +ℤ u) ≡ ((b +ℤ b) +ℤ v) → AreHalves a u b v
halves a u b v none none e = inl (omega (arith, ints), refl)
halves a u b v none more e = absurd (omega (arith, ints))
halves a u b v none less e = absurd (omega (arith, ints))
halves a u b v more none e = absurd (omega (arith, ints))
halves a u b v more more e = inl (omega (arith, ints), refl)
halves a u b v more less e = inr (omega (arith, ints), omega (arith, ints), λ h. cc)
halves a u b v less none e = absurd (omega (arith, ints))
halves a u b v less more e = inr (omega (arith, ints), omega (arith, ints), λ h. cc)
halves a u b v less less e = inl (omega (arith, ints), refl)

-- a number and the one beside it are not both even
not_both_even : (z u : ℤ) → IsUnit u → u ≢ pos 0 → unsigned_abs z % 2 ≡ 0 → unsigned_abs (z +ℤ u) % 2 ≡ 0 → ⊥
not_both_even z u none some e f = some refl
not_both_even z u more some e f = omega (arith, ints)
not_both_even z u less some e f = omega (arith, ints)

even_parts : (p : GridPoint) → is_even p ≡ true → (unsigned_abs p.x % 2 ≡ 0) × (unsigned_abs p.y % 2 ≡ 0)
even_parts p e =
    let both = and_parts (eqb (unsigned_abs p.x % 2) 0) (eqb (unsigned_abs p.y % 2) 0) e in
    (eqb-true (unsigned_abs p.x % 2) 0 both.0, eqb-true (unsigned_abs p.y % 2) 0 both.1)

point_is : (p q : GridPoint) → p.x ≡ q.x → p.y ≡ q.y → p ≡ q
point_is p q e f = ap₂ (λ (x y : ℤ). record { x = x; y = y }) e f

no_sum : (a u : ℤ) → (a +ℤ u) ≡ a → u ≡ pos 0
no_sum a u e = omega (arith, ints)

same_change : (a b u v w : ℤ) → a ≡ b → u ≡ v → w ≡ pos 0 → ((a +ℤ u) +ℤ w) ≡ (b +ℤ v)
same_change a b u v w e f g = omega (arith, ints)

changed_on : (a b u v w : ℤ) → (a +ℤ u) ≡ b → w ≡ v → ((a +ℤ u) +ℤ w) ≡ (b +ℤ v)
changed_on a b u v w e f = omega (arith, ints)

stays : (a b w : ℤ) → a ≡ b → w ≡ pos 0 → (a +ℤ w) ≡ b
stays a b w e f = omega (arith, ints)

changes : (a b u w : ℤ) → (a +ℤ u) ≡ b → w ≡ u → (a +ℤ w) ≡ b
changes a b u w e f = omega (arith, ints)

down_too : (a b u v : ℤ) → (a +ℤ u) ≡ b → (b +ℤ v) ≡ a → v ≡ pos 0 → u ≡ pos 0
down_too a b u v f g h = omega (arith, ints)

-- one goes up where the other goes down
upright_cross : (p : GridPoint) (d : Dir) (q : GridPoint) (e : Dir) → p.x ≡ q.x → east_of d ≡ east_of e → east_of d ≢ pos 0 → (p.y +ℤ north_of d) ≡ q.y → (q.y +ℤ north_of e) ≡ p.y → north_of d ≢ pos 0 → Crosses p d q e
upright_cross p d q e here east some_east up down some_north = record {
  slant = mine.slant;
  slant_too = other.slant;
  over = upright_of e;
  over_axis = other.upright;
  over_leads = point_is (step_from (step_from p d) (upright_of e)) (step_from q e) (same_change p.x q.x (east_of d) (east_of e) (east_of (upright_of e)) here east other.no_east)
      (changed_on p.y q.y (north_of d) (north_of e) (north_of (upright_of e)) up other.north);
  over_turn = slant_turn d (upright_of e) mine.slant other.upright;
  over_near = other.up_near;
  back = upright_of d;
  back_axis = mine.upright;
  back_leads = point_is (step_from p (upright_of d)) q (stays p.x q.x (east_of (upright_of d)) here mine.no_east) (changes p.y q.y (north_of d) (north_of (upright_of d)) up mine.north);
  back_turn = subst (λ (n : ℕ). n ≤ 3) (turn_back e (upright_of d)) (slant_turn e (upright_of d) other.slant mine.upright);
  back_near = mine.up_near;
  off = λ same. some_east (no_sum p.x (east_of d) (ap (λ (r : GridPoint). r.x) same ∙ sym here));
  not_even = λ k l. not_both_even p.x (east_of d) (east_unit d) some_east (even_parts p k).0
      (subst (λ (z : ℤ). unsigned_abs z % 2 ≡ 0) (ap₂ (λ (a u : ℤ). a +ℤ u) (sym here) (sym east)) (even_parts (step_from q e) l).0);
}
  where
    mine : AreParts d (upright_of d) (level_of d)
    mine = parts d some_east some_north

    other : AreParts e (upright_of e) (level_of e)
    other = parts e (λ h. some_east (east ∙ h)) (λ h. some_north (down_too p.y q.y (north_of d) (north_of e) up down h))

-- one goes east where the other goes west
level_cross : (p : GridPoint) (d : Dir) (q : GridPoint) (e : Dir) → (p.x +ℤ east_of d) ≡ q.x → (q.x +ℤ east_of e) ≡ p.x → east_of d ≢ pos 0 → p.y ≡ q.y → north_of d ≡ north_of e → north_of d ≢ pos 0 → Crosses p d q e
level_cross p d q e up down some_east here north some_north = record {
  slant = mine.slant;
  slant_too = other.slant;
  over = level_of e;
  over_axis = other.level;
  over_leads = point_is (step_from (step_from p d) (level_of e)) (step_from q e) (changed_on p.x q.x (east_of d) (east_of e) (east_of (level_of e)) up other.east)
      (same_change p.y q.y (north_of d) (north_of e) (north_of (level_of e)) here north other.no_north);
  over_turn = slant_turn d (level_of e) mine.slant other.level;
  over_near = other.level_near;
  back = level_of d;
  back_axis = mine.level;
  back_leads = point_is (step_from p (level_of d)) q (changes p.x q.x (east_of d) (east_of (level_of d)) up mine.east) (stays p.y q.y (north_of (level_of d)) here mine.no_north);
  back_turn = subst (λ (n : ℕ). n ≤ 3) (turn_back e (level_of d)) (slant_turn e (level_of d) other.slant mine.level);
  back_near = mine.level_near;
  off = λ same. some_north (no_sum p.y (north_of d) (ap (λ (r : GridPoint). r.y) same ∙ sym here));
  not_even = λ k l. not_both_even p.y (north_of d) (north_unit d) some_north (even_parts p k).1
      (subst (λ (z : ℤ). unsigned_abs z % 2 ≡ 0) (ap₂ (λ (a u : ℤ). a +ℤ u) (sym here) (sym north)) (even_parts (step_from q e) l).1);
}
  where
    mine : AreParts d (upright_of d) (level_of d)
    mine = parts d some_east some_north

    other : AreParts e (upright_of e) (level_of e)
    other = parts e (λ h. some_east (down_too p.x q.x (east_of d) (east_of e) up down h)) (λ h. some_north (north ∙ h))

-- steps with one middle start at one point, or the first starts where the second ends, or they cross
pub meeting : (p : GridPoint) (d : Dir) (q : GridPoint) (e : Dir) → step_from (doubled p) d ≡ step_from (doubled q) e → (p ≡ q) ⊎ ((p ≡ step_from q e) ⊎ Crosses p d q e)
meeting p d q e m =
    of_both (halves p.x (east_of d) q.x (east_of e) (east_unit d) (east_unit e) (ap (λ (r : GridPoint). r.x) m))
    (halves p.y (north_of d) q.y (north_of e) (north_unit d) (north_unit e) (ap (λ (r : GridPoint). r.y) m))
  where
    stays_back : (a b u v : ℤ) → a ≡ b → u ≡ v → u ≡ pos 0 → a ≡ (b +ℤ v)
    stays_back a b u v f g h = omega (arith, ints)

    of_upright : p.x ≡ q.x → east_of d ≡ east_of e → (p.y +ℤ north_of d) ≡ q.y → (q.y +ℤ north_of e) ≡ p.y → north_of d ≢ pos 0 → (east_of d ≡ pos 0) ⊎ (east_of d ≢ pos 0) → (p ≡ q) ⊎ ((p ≡ step_from q e) ⊎ Crosses p d q e)
    of_upright here east up down some (inl zero) = inr (inl (point_is p (step_from q e) (stays_back p.x q.x (east_of d) (east_of e) here east zero) (sym down)))
    of_upright here east up down some (inr turns) = inr (inr (upright_cross p d q e here east turns up down some))

    of_level : (p.x +ℤ east_of d) ≡ q.x → (q.x +ℤ east_of e) ≡ p.x → east_of d ≢ pos 0 → p.y ≡ q.y → north_of d ≡ north_of e → (north_of d ≡ pos 0) ⊎ (north_of d ≢ pos 0) → (p ≡ q) ⊎ ((p ≡ step_from q e) ⊎ Crosses p d q e)
    of_level up down some here north (inl zero) = inr (inl (point_is p (step_from q e) (sym down) (stays_back p.y q.y (north_of d) (north_of e) here north zero)))
    of_level up down some here north (inr turns) = inr (inr (level_cross p d q e up down some here north turns))

    of_both : AreHalves p.x (east_of d) q.x (east_of e) → AreHalves p.y (north_of d) q.y (north_of e) → (p ≡ q) ⊎ ((p ≡ step_from q e) ⊎ Crosses p d q e)
    of_both (inl a) (inl b) = inl (point_is p q a.0 b.0)
    of_both (inl a) (inr b) = of_upright a.0 a.1 b.0 b.1 b.2 (nothing_or_not (east_of d) (east_unit d))
    of_both (inr a) (inl b) = of_level a.0 a.1 a.2 b.0 b.1 (nothing_or_not (north_of d) (north_unit d))
    of_both (inr a) (inr b) = inr (inl (point_is p (step_from q e) (sym a.1) (sym b.1)))

-- no step stays at its point
pub no_step : (p : GridPoint) (d : Dir) → step_from p d ≡ p → ⊥
no_step p d e = elim (odd_part d) [
  | inl odd ↦ odd (no_sum p.x (east_of d) (ap (λ (r : GridPoint). r.x) e))
  | inr odd ↦ odd (no_sum p.y (north_of d) (ap (λ (r : GridPoint). r.y) e))
]
