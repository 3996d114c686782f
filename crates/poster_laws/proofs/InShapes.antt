-- What is drawn lies in its shape.
use Rattle.std.proofs.Common.{◌≡◌, ℕ, ℤ, pos, ◌+ℤ◌, ◌-ℤ◌, ◌*ℤ◌, ◌≤ℤ◌, refl, arith}
use Rattle.std.proofs.lemmas.Int.{ints}
use Rattle.eight_sides.specs.declared.interval.Interval.{Interval}
use Rattle.eight_sides.specs.Shapes.{half_above, half_below, slanted, upright}
use Rattle.eight_sides.specs.Points.{IsIn, LiesIn}
use Rattle.eight_sides.proofs.Computed.{half_parts}
use Rattle.whole_algebra.proofs.Products.{*ℤ-minus, *ℤ-+ℤ}
use Rattle.whole_algebra.proofs.Signs.{*ℤ-not_negative}

-- a greater number stays greater at a scale
pub scaled : (s : ℕ) (a b : ℤ) → a ≤ℤ b → (pos s *ℤ a) ≤ℤ (pos s *ℤ b)
scaled s a b h =
    let room = *ℤ-not_negative (pos s) (b -ℤ a) (omega (arith, ints)) (omega (arith, ints)) in
    omega (arith, ints, *ℤ-minus (pos s) b a)

-- a point of a rectangle along the axes
pub level : (a d : Interval) (s : ℕ) (x y : ℤ) → LiesIn s x a → LiesIn s y d → IsIn s x y (upright a d)
level a d s x y h i = record {
  across = h;
  down = i;
  difference = (omega (arith, ints, *ℤ-minus (pos s) a.least d.greatest, h.0, i.1), omega (arith, ints, *ℤ-minus (pos s) a.greatest d.least, h.1, i.0));
  sum = (omega (arith, ints, *ℤ-+ℤ (pos s) a.least d.least, h.0, i.0), omega (arith, ints, *ℤ-+ℤ (pos s) a.greatest d.greatest, h.1, i.1));
}

-- twice a number at a scale
twice : (s : ℕ) (a : ℤ) → pos s *ℤ (a +ℤ a) ≡ pos s *ℤ a +ℤ pos s *ℤ a
twice s a = *ℤ-+ℤ (pos s) a a

-- half of a sum, rounded outwards, at a scale
half_lower : (s : ℕ) (t z : ℤ) → (pos s *ℤ t) ≤ℤ (z +ℤ z) → (pos s *ℤ half_below t) ≤ℤ z
half_lower s t z h =
    let parts = half_parts t (half_below t) refl in
    let room = scaled s (half_below t +ℤ half_below t) t (omega (arith, ints, parts.0)) in
    omega (arith, ints, twice s (half_below t), room, h)

half_upper : (s : ℕ) (t z : ℤ) → (z +ℤ z) ≤ℤ (pos s *ℤ t) → z ≤ℤ (pos s *ℤ half_above t)
half_upper s t z h =
    let parts = half_parts (t +ℤ pos 1) (half_above t) refl in
    let room = scaled s t (half_above t +ℤ half_above t) (omega (arith, ints, parts.1)) in
    omega (arith, ints, twice s (half_above t), room, h)

-- a point of a rectangle along the slants
pub on_slants : (d m : Interval) (s : ℕ) (x y : ℤ) → LiesIn s (x -ℤ y) d → LiesIn s (x +ℤ y) m → IsIn s x y (slanted d m)
on_slants d m s x y h i = record {
  across = (
    half_lower s (m.least +ℤ d.least) x (omega (arith, ints, *ℤ-+ℤ (pos s) m.least d.least, h.0, i.0)),
    half_upper s (m.greatest +ℤ d.greatest) x (omega (arith, ints, *ℤ-+ℤ (pos s) m.greatest d.greatest, h.1, i.1)),
  );
  down = (
    half_lower s (m.least -ℤ d.greatest) y (omega (arith, ints, *ℤ-minus (pos s) m.least d.greatest, h.1, i.0)),
    half_upper s (m.greatest -ℤ d.least) y (omega (arith, ints, *ℤ-minus (pos s) m.greatest d.least, h.0, i.1)),
  );
  difference = h;
  sum = i;
}
