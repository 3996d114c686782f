-- What a name takes up can be reckoned with.
use Rattle.std.proofs.Common.{ℕ, ◌+◌, ◌*◌, ◌≤◌, ◌<◌, ℤ, pos, ◌+ℤ◌, ◌-ℤ◌, ◌*ℤ◌, ◌≤ℤ◌, refl, arith}
use Rattle.std.specs.Prelude.{unsigned_abs}
use Rattle.std.proofs.lemmas.Int.{ints}
use Rattle.eight_sides.specs.declared.interval.Interval.{Interval}
use Rattle.eight_sides.specs.Shapes.{around, half_above, half_below, slanted, IsNear}
use Rattle.eight_sides.proofs.Computed.{half_parts}
use Rattle.poster_plan.specs.declared.sign.Sign.{Sign}
use Rattle.poster_plan.specs.declared.layout.Step.{Step}
use Rattle.poster_plan.specs.declared.layout.Step.TheVariants.{Full, Small, Over}
use Rattle.poster_plan.specs.declared.place.Place.{Place}
use Rattle.poster_plan.specs.declared.place.Place.TheVariants as place
use Rattle.poster_plan.specs.Places.{backwards, corner_gap, gap, half_width, lean, long, onwards, place_shape, size, slant, tenth, width}
use Rattle.name_places.specs.Near.{IsNearBy, IsNearShape}

-- ---- intervals of level names

onwards_near : (z : ℤ) (from long : ℕ) → unsigned_abs z ≤ 429496729600 → from + long ≤ 60000000000 → IsNearBy (onwards z from long)
onwards_near z from long near few = record { least = omega (arith, ints); greatest = omega (arith, ints) }

backwards_near : (z : ℤ) (from long : ℕ) → unsigned_abs z ≤ 429496729600 → from + long ≤ 60000000000 → IsNearBy (backwards z from long)
backwards_near z from long near few = record { least = omega (arith, ints); greatest = omega (arith, ints) }

around_near : (z : ℤ) (by : ℕ) → unsigned_abs z ≤ 429496729600 → by ≤ 60000000000 → IsNearBy (around z by)
around_near z by near few = record { least = omega (arith, ints); greatest = omega (arith, ints) }

-- ---- slanted names

half_near : (z : ℤ) → unsigned_abs z ≤ 1000000000000 → unsigned_abs (half_below z) ≤ 500000000001
half_near z near =
    let parts = half_parts z (half_below z) refl in
    let low : (pos 2 *ℤ half_below z) ≤ℤ z = parts.0 in
    let high : z ≤ℤ (pos 2 *ℤ half_below z +ℤ pos 1) = parts.1 in
    omega (arith, ints, low, high)

half_above_near : (z : ℤ) → unsigned_abs z ≤ 999999999999 → unsigned_abs (half_above z) ≤ 500000000001
half_above_near z near = half_near (z +ℤ pos 1) (omega (arith, ints))

slanted_near : (d s : Interval) → unsigned_abs (s.least +ℤ d.least) ≤ 999999999999 → unsigned_abs (s.greatest +ℤ d.greatest) ≤ 999999999999
    → unsigned_abs (s.least -ℤ d.greatest) ≤ 999999999999 → unsigned_abs (s.greatest -ℤ d.least) ≤ 999999999999 → IsNearShape (slanted d s)
slanted_near d s a b c e =
    let left : unsigned_abs (half_below (s.least +ℤ d.least)) ≤ 500000000001 = half_near (s.least +ℤ d.least) (omega (arith, a)) in
    let right : unsigned_abs (half_above (s.greatest +ℤ d.greatest)) ≤ 500000000001 = half_above_near (s.greatest +ℤ d.greatest) b in
    let top : unsigned_abs (half_below (s.least -ℤ d.greatest)) ≤ 500000000001 = half_near (s.least -ℤ d.greatest) (omega (arith, c)) in
    let bottom : unsigned_abs (half_above (s.greatest -ℤ d.least)) ≤ 500000000001 = half_above_near (s.greatest -ℤ d.least) e in
    record {
      across = record { least = omega (arith, left); greatest = omega (arith, right) };
      down = record { least = omega (arith, top); greatest = omega (arith, bottom) };
    }

module _ (x y : ℤ) (from long by : ℕ) (across : unsigned_abs x ≤ 429496729600) (down : unsigned_abs y ≤ 429496729600) (few : from + (long + by) ≤ 120000000000) where
  up_east : IsNearShape (slanted (onwards (x -ℤ y) from long) (around (x +ℤ y) by))
  up_east = slanted_near (onwards (x -ℤ y) from long) (around (x +ℤ y) by) (omega (arith, ints)) (omega (arith, ints)) (omega (arith, ints)) (omega (arith, ints))

  down_west : IsNearShape (slanted (backwards (x -ℤ y) from long) (around (x +ℤ y) by))
  down_west = slanted_near (backwards (x -ℤ y) from long) (around (x +ℤ y) by) (omega (arith, ints)) (omega (arith, ints)) (omega (arith, ints)) (omega (arith, ints))

  down_east : IsNearShape (slanted (around (x -ℤ y) by) (onwards (x +ℤ y) from long))
  down_east = slanted_near (around (x -ℤ y) by) (onwards (x +ℤ y) from long) (omega (arith, ints)) (omega (arith, ints)) (omega (arith, ints)) (omega (arith, ints))

  up_west : IsNearShape (slanted (around (x -ℤ y) by) (backwards (x +ℤ y) from long))
  up_west = slanted_near (around (x -ℤ y) by) (backwards (x +ℤ y) from long) (omega (arith, ints)) (omega (arith, ints)) (omega (arith, ints)) (omega (arith, ints))

-- ---- how far names reach

pub width_small : (s : Sign) (z : Step) → s.tenths ≤ 17179869184 → width s z ≤ 51539607552
width_small s Full few = omega (arith, few)
width_small s Small few = omega (arith, few)
width_small s Over few = omega (arith, few)

size_small : (z : Step) → size z ≤ 30
size_small Full = omega arith
size_small Small = omega arith
size_small Over = omega arith

slant_small : (z : Step) → slant z ≤ 11
slant_small Full = omega arith
slant_small Small = omega arith
slant_small Over = omega arith

half_small : (z : Step) → 5 * tenth z ≤ 15
half_small Full = omega arith
half_small Small = omega arith
half_small Over = omega arith

-- a name takes up what can be reckoned with
pub place_near : (s : Sign) (z : Step) (p : Place) → IsNear s.centre → s.radius < 4294967296 → s.tenths ≤ 17179869184 → IsNearShape (place_shape s z p)
place_near s z p near radius tenths = by_place p
  where
    w : width s z ≤ 51539607552
    w = width_small s z tenths

    h : size z ≤ 30
    h = size_small z

    g : gap s ≤ 4294967301
    g = omega (arith, radius)

    k : corner_gap s ≤ 4294967301
    k = omega (arith, radius)

    half : half_width s z ≤ 25769803776
    half = omega (arith, w)

    far : 2 * lean s z + (long s z + 2 * slant z) ≤ 120000000000
    far = omega (arith, w, radius, slant_small z)

    level : IsNearBy (around s.centre.y (5 * tenth z))
    level = around_near s.centre.y (5 * tenth z) near.down (omega (arith, half_small z))

    middle : IsNearBy (around s.centre.x (half_width s z))
    middle = around_near s.centre.x (half_width s z) near.across (omega (arith, half))

    right_of : (from : ℕ) → from ≤ 4294967301 → IsNearBy (onwards s.centre.x from (width s z))
    right_of from few = onwards_near s.centre.x from (width s z) near.across (omega (arith, few, w))

    left_of : (from : ℕ) → from ≤ 4294967301 → IsNearBy (backwards s.centre.x from (width s z))
    left_of from few = backwards_near s.centre.x from (width s z) near.across (omega (arith, few, w))

    below : (from : ℕ) → from ≤ 4294967301 → IsNearBy (onwards s.centre.y from (size z))
    below from few = onwards_near s.centre.y from (size z) near.down (omega (arith, few, h))

    over : (from : ℕ) → from ≤ 4294967301 → IsNearBy (backwards s.centre.y from (size z))
    over from few = backwards_near s.centre.y from (size z) near.down (omega (arith, few, h))

    by_place : (q : Place) → IsNearShape (place_shape s z q)
    by_place place.E = record { across = right_of (gap s) g; down = level }
    by_place place.W = record { across = left_of (gap s) g; down = level }
    by_place place.SE = record { across = right_of (corner_gap s) k; down = below (corner_gap s) k }
    by_place place.NE = record { across = right_of (corner_gap s) k; down = over (corner_gap s) k }
    by_place place.NW = record { across = left_of (corner_gap s) k; down = over (corner_gap s) k }
    by_place place.SW = record { across = left_of (corner_gap s) k; down = below (corner_gap s) k }
    by_place place.N = record { across = middle; down = over (gap s) g }
    by_place place.S = record { across = middle; down = below (gap s) g }
    by_place place.UpEast = up_east s.centre.x s.centre.y (2 * lean s z) (long s z) (2 * slant z) near.across near.down far
    by_place place.DownWest = down_west s.centre.x s.centre.y (2 * lean s z) (long s z) (2 * slant z) near.across near.down far
    by_place place.DownEast = down_east s.centre.x s.centre.y (2 * lean s z) (long s z) (2 * slant z) near.across near.down far
    by_place place.UpWest = up_west s.centre.x s.centre.y (2 * lean s z) (long s z) (2 * slant z) near.across near.down far
