-- What it costs at least rises by no more than a step costs.
use Rattle.std.proofs.Common.{◌≡◌, sym, ap₂, subst, ℕ, ◌+◌, ◌*◌, ◌≤◌, ℤ, pos, negsuc, ◌+ℤ◌, ◌-ℤ◌, ◌≤ℤ◌, List, [], ◌∷◌, arith}
use Rattle.std.specs.Prelude.{unsigned_abs}
use Rattle.std.proofs.lemmas.Int.{ints}
use Rattle.octi_grid.specs.declared.dir.Dir.{Dir}
use Rattle.octi_grid.specs.declared.dir.Dir.TheVariants as dir
use Rattle.octi_grid.specs.declared.point.GridPoint.{GridPoint}
use Rattle.octi_grid.specs.Ways.{after, step_from}
use Rattle.octi_grid.specs.Costs.{step_cost, way_cost}
use Rattle.walk_search.specs.Reaching.{across, reach_of}
use Rattle.walk_search.specs.Seats.{seat_cost}

across_wide : (m n k : ℕ) → m ≤ k + 1 → k ≤ m + 1 → across m n ≤ across k n + 4
across_wide m n k h g = omega arith

across_high : (m n k : ℕ) → n ≤ k + 1 → k ≤ n + 1 → across m n ≤ across m k + 4
across_high m n k h g = omega arith

across_both : (m n k l : ℕ) → m ≤ k + 1 → k ≤ m + 1 → n ≤ l + 1 → l ≤ n + 1 → across m n ≤ across k l + 5
across_both m n k l h g i j = omega arith

nearly : (a b e : ℤ) → negsuc 0 ≤ℤ e → e ≤ℤ pos 1 → unsigned_abs ((b +ℤ e) -ℤ a) ≤ unsigned_abs (b -ℤ a) + 1
nearly a b e h g = omega (arith, ints)

nearly_back : (a b e : ℤ) → negsuc 0 ≤ℤ e → e ≤ℤ pos 1 → unsigned_abs (b -ℤ a) ≤ unsigned_abs ((b +ℤ e) -ℤ a) + 1
nearly_back a b e h g = omega (arith, ints)

same_far : (a b : ℤ) → unsigned_abs ((b +ℤ pos 0) -ℤ a) ≡ unsigned_abs (b -ℤ a)
same_far a b = omega (arith, ints)

upright : (a b : GridPoint) (e : ℤ) → negsuc 0 ≤ℤ e → e ≤ℤ pos 1 → across (unsigned_abs ((b.x +ℤ pos 0) -ℤ a.x)) (unsigned_abs ((b.y +ℤ e) -ℤ a.y)) ≤ reach_of a b + 4
upright a b e h g =
    subst (λ (m : ℕ). across m (unsigned_abs ((b.y +ℤ e) -ℤ a.y)) ≤ reach_of a b + 4) (sym (same_far a.x b.x))
    (across_high (unsigned_abs (b.x -ℤ a.x)) (unsigned_abs ((b.y +ℤ e) -ℤ a.y)) (unsigned_abs (b.y -ℤ a.y)) (nearly a.y b.y e h g) (nearly_back a.y b.y e h g))

level : (a b : GridPoint) (e : ℤ) → negsuc 0 ≤ℤ e → e ≤ℤ pos 1 → across (unsigned_abs ((b.x +ℤ e) -ℤ a.x)) (unsigned_abs ((b.y +ℤ pos 0) -ℤ a.y)) ≤ reach_of a b + 4
level a b e h g =
    subst (λ (n : ℕ). across (unsigned_abs ((b.x +ℤ e) -ℤ a.x)) n ≤ reach_of a b + 4) (sym (same_far a.y b.y))
    (across_wide (unsigned_abs ((b.x +ℤ e) -ℤ a.x)) (unsigned_abs (b.y -ℤ a.y)) (unsigned_abs (b.x -ℤ a.x)) (nearly a.x b.x e h g) (nearly_back a.x b.x e h g))

slanting : (a b : GridPoint) (e f : ℤ) → negsuc 0 ≤ℤ e → e ≤ℤ pos 1 → negsuc 0 ≤ℤ f → f ≤ℤ pos 1 → across (unsigned_abs ((b.x +ℤ e) -ℤ a.x)) (unsigned_abs ((b.y +ℤ f) -ℤ a.y)) ≤ reach_of a b + 5
slanting a b e f h g i j =
    across_both (unsigned_abs ((b.x +ℤ e) -ℤ a.x)) (unsigned_abs ((b.y +ℤ f) -ℤ a.y)) (unsigned_abs (b.x -ℤ a.x)) (unsigned_abs (b.y -ℤ a.y))
    (nearly a.x b.x e h g) (nearly_back a.x b.x e h g) (nearly a.y b.y f i j) (nearly_back a.y b.y f i j)

pub reach_step : (a b : GridPoint) (d : Dir) → reach_of a (step_from b d) ≤ reach_of a b + step_cost d
reach_step a b dir.N = upright a b (pos 1) (omega (arith, ints)) (omega (arith, ints))
reach_step a b dir.NE = slanting a b (pos 1) (pos 1) (omega (arith, ints)) (omega (arith, ints)) (omega (arith, ints)) (omega (arith, ints))
reach_step a b dir.E = level a b (pos 1) (omega (arith, ints)) (omega (arith, ints))
reach_step a b dir.SE = slanting a b (pos 1) (negsuc 0) (omega (arith, ints)) (omega (arith, ints)) (omega (arith, ints)) (omega (arith, ints))
reach_step a b dir.S = upright a b (negsuc 0) (omega (arith, ints)) (omega (arith, ints))
reach_step a b dir.SW = slanting a b (negsuc 0) (negsuc 0) (omega (arith, ints)) (omega (arith, ints)) (omega (arith, ints)) (omega (arith, ints))
reach_step a b dir.W = level a b (negsuc 0) (omega (arith, ints)) (omega (arith, ints))
reach_step a b dir.NW = slanting a b (negsuc 0) (pos 1) (omega (arith, ints)) (omega (arith, ints)) (omega (arith, ints)) (omega (arith, ints))

pub reach_seat : (home p : GridPoint) → reach_of home p ≤ seat_cost home p
reach_seat home p = at_most (unsigned_abs (p.x -ℤ home.x)) (unsigned_abs (p.y -ℤ home.y))
  where
    at_most : (m n : ℕ) → across m n ≤ 5 * (m + n)
    at_most m n = omega arith

pub reach_none : (a : GridPoint) → reach_of a a ≡ 0
reach_none a = ap₂ across (none a.x) (none a.y)
  where
    none : (z : ℤ) → unsigned_abs (z -ℤ z) ≡ 0
    none z = omega (arith, ints)

-- so no walk costs less than it costs at least to come to its end
steps_cost : (d : Dir) (ds : List Dir) → step_cost d + way_cost ds ≤ way_cost (d ∷ ds)
steps_cost d [] = omega arith
steps_cost d (e ∷ ds) = omega arith

pub reach_way : (a b : GridPoint) (ds : List Dir) → reach_of a (after b ds) ≤ reach_of a b + way_cost ds
reach_way a b [] = omega arith
reach_way a b (d ∷ ds) = omega (arith, reach_way a (step_from b d) ds, reach_step a b d, steps_cost d ds)

pub reach_walk : (a : GridPoint) (ds : List Dir) → reach_of a (after a ds) ≤ way_cost ds
reach_walk a ds = omega (arith, reach_way a a ds, reach_none a)
