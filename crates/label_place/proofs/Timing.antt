-- Which of the points of a step lie in a box.
use Rattle.std.proofs.Common.{◌≡◌, ℕ, ◌≤◌, Bool, true, false, ◌&&◌, cond, ℤ, pos, negsuc, ◌+ℤ◌, ◌-ℤ◌, ◌*ℤ◌, ◌≤ℤ◌, refl, ap, sym, ◌∙◌, inl, inr, arith}
use Rattle.std.specs.Prelude.{int_le, unsigned_abs}
use Rattle.std.specs.Int.{int_min, int_max}
use Rattle.std.specs.List.{list_any, range_with_len}
use Rattle.std.proofs.lemmas.Int.{ints}
use Rattle.std.proofs.Math.Bool.{and_assoc, and_comm}
use Rattle.std.proofs.lemmas.Bool.{and_parts, and_from, cases_Bool, both_ways, false_from_ne_true}
use Rattle.octi_grid.specs.declared.dir.Dir.{Dir}
use Rattle.octi_grid.specs.declared.dir.Dir.TheVariants as dir
use Rattle.octi_grid.specs.Ways.{east_of, north_of}
use Rattle.line_offsets.specs.declared.corner.Corner.{Corner}
use Rattle.svg_writer.specs.declared.bounds.Bounds.{Bounds}
use Rattle.label_place.specs.declared.strokes.Times.{Times}
use Rattle.label_place.specs.Boxes.{holds}
use Rattle.label_place.specs.Strokes.{point_on, step_points, units}
use Rattle.label_place.specs.Grids.{south_of, times, some_time, holds_some}
use Rattle.label_place.proofs.Tests.{and_same, any_map, same_in_range, any_in_range, none_in_range}
use Rattle.label_place.proofs.Orders.{le_true, le_from, le_same, le_trans, max_le, le_min, max_first, max_second, min_first, min_second}

abbrev between : ℤ → ℤ → ℤ → Bool
between low z high = int_le low z && int_le z high

abbrev at_time : Times → ℕ → Bool
at_time w t = int_le w.first (pos t) && int_le (pos t) w.last

rises : (from low high z : ℤ) (t : ℕ) → z ≡ from +ℤ pos t → between low z high ≡ at_time (times from (pos 1) low high) t
rises from low high z t e =
    and_same (int_le low z) (int_le z high) (int_le (low -ℤ from) (pos t)) (int_le (pos t) (high -ℤ from))
    (le_same low z (low -ℤ from) (pos t) (λ h. omega (arith, ints)) (λ h. omega (arith, ints)))
    (le_same z high (pos t) (high -ℤ from) (λ h. omega (arith, ints)) (λ h. omega (arith, ints)))

falls : (from low high z : ℤ) (t : ℕ) → z ≡ from -ℤ pos t → between low z high ≡ at_time (times from (negsuc 0) low high) t
falls from low high z t e =
    and_same (int_le low z) (int_le z high) (int_le (pos t) (from -ℤ low)) (int_le (from -ℤ high) (pos t))
    (le_same low z (pos t) (from -ℤ low) (λ h. omega (arith, ints)) (λ h. omega (arith, ints)))
    (le_same z high (from -ℤ high) (pos t) (λ h. omega (arith, ints)) (λ h. omega (arith, ints)))
    ∙ and_comm (int_le (pos t) (from -ℤ low)) (int_le (from -ℤ high) (pos t))

abbrev always : Times
always = record { first = pos 0; last = pos 100 }

abbrev never : Times
never = record { first = pos 1; last = pos 0 }

stays : (from low high z : ℤ) (t : ℕ) → t ≤ 100 → z ≡ from → between low z high ≡ at_time (times from (pos 0) low high) t
stays from low high z t h e = ap (λ (v : ℤ). between low v high) e ∙ by_test (between low from high)
  where
    by_test : (b : Bool) → b ≡ at_time (cond b always never) t
    by_test true = sym (and_from _ _ (le_true (pos 0) (pos t) (omega (arith, ints))) (le_true (pos t) (pos 100) (omega (arith, ints))))
    by_test false = sym (false_from_ne_true (at_time never t) (λ both. let parts = and_parts _ _ both in let low_t = le_from (pos 1) (pos t) parts.0 in let high_t = le_from (pos t) (pos 0) parts.1 in omega (arith, ints)))

across : (d : Dir) (from low high : ℤ) (t : ℕ) → t ≤ 100 → between low (from +ℤ (pos t *ℤ east_of d)) high ≡ at_time (times from (east_of d) low high) t
across dir.N from low high t h = stays from low high _ t h (omega (arith, ints))
across dir.NE from low high t h = rises from low high _ t (omega (arith, ints))
across dir.E from low high t h = rises from low high _ t (omega (arith, ints))
across dir.SE from low high t h = rises from low high _ t (omega (arith, ints))
across dir.S from low high t h = stays from low high _ t h (omega (arith, ints))
across d from low high t h = falls from low high _ t (omega (arith, ints))

down : (d : Dir) (from low high : ℤ) (t : ℕ) → t ≤ 100 → between low (from -ℤ (pos t *ℤ north_of d)) high ≡ at_time (times from (south_of d) low high) t
down dir.E from low high t h = stays from low high _ t h (omega (arith, ints))
down dir.SE from low high t h = rises from low high _ t (omega (arith, ints))
down dir.S from low high t h = rises from low high _ t (omega (arith, ints))
down dir.SW from low high t h = rises from low high _ t (omega (arith, ints))
down dir.W from low high t h = stays from low high _ t h (omega (arith, ints))
down d from low high t h = falls from low high _ t (omega (arith, ints))

-- a point lies in a box at the times at which both coordinates do
held_when : (b : Bounds) (start : Corner) (d : Dir) (t : ℕ) → t ≤ 100
    → holds b (point_on start d t) ≡ (at_time (times start.x (east_of d) b.left b.right) t && at_time (times start.y (south_of d) b.top b.bottom) t)
held_when b start d t h =
    let p = point_on start d t in
    and_assoc (between b.left p.x b.right) (int_le b.top p.y) (int_le p.y b.bottom)
    ∙ and_same (between b.left p.x b.right) (between b.top p.y b.bottom) (at_time (times start.x (east_of d) b.left b.right) t) (at_time (times start.y (south_of d) b.top b.bottom) t)
    (across d start.x b.left b.right t h) (down d start.y b.top b.bottom t h)

from_start : (z : ℤ) → pos 0 ≤ℤ z → pos (unsigned_abs z) ≡ z
from_start z h = omega (arith, ints)

-- both have the first time at which either could be
at_first : (a b : Times) (n t : ℕ) → n ≡ 101 → pos t ≡ int_max (int_max a.first b.first) (pos 0) → int_max (int_max a.first b.first) (pos 0) ≤ℤ int_min (int_min a.last b.last) (pos 100)
    → list_any (λ (u : ℕ). at_time a u && at_time b u) (range_with_len 0 n) ≡ true
at_first a b n t is e h =
    let low = int_max a.first b.first in
    let high = int_min a.last b.last in
    let top = int_min high (pos 100) in
    let here : pos t ≤ℤ top = omega (arith, ints) in
    let past : low ≤ℤ pos t = let m = max_first low (pos 0) in omega (arith, ints) in
    let till : pos t ≤ℤ high = le_trans (pos t) top high here (min_first high (pos 100)) in
    let most : pos t ≤ℤ pos 100 = le_trans (pos t) top (pos 100) here (min_second high (pos 100)) in
    any_in_range (λ (u : ℕ). at_time a u && at_time b u) 0 n t (omega arith) (omega (arith, ints))
    (and_from (at_time a t) (at_time b t)
    (and_from _ _ (le_true a.first (pos t) (le_trans a.first low (pos t) (max_first a.first b.first) past)) (le_true (pos t) a.last (le_trans (pos t) high a.last till (min_first a.last b.last))))
    (and_from _ _ (le_true b.first (pos t) (le_trans b.first low (pos t) (max_second a.first b.first) past)) (le_true (pos t) b.last (le_trans (pos t) high b.last till (min_second a.last b.last)))))

-- a time that is one of both shows that there is one
meeting : (a b : Times) (t : ℕ) → t ≤ 100 → (at_time a t ≡ true) × (at_time b t ≡ true) → some_time a b ≡ true
meeting a b t h both =
    let one = and_parts _ _ both.0 in
    let two = and_parts _ _ both.1 in
    let a_low = le_from a.first (pos t) one.0 in
    let a_high = le_from (pos t) a.last one.1 in
    let b_low = le_from b.first (pos t) two.0 in
    let b_high = le_from (pos t) b.last two.1 in
    let low : int_max (int_max a.first b.first) (pos 0) ≤ℤ pos t = max_le (int_max a.first b.first) (pos 0) (pos t) (max_le a.first b.first (pos t) a_low b_low) (omega (arith, ints)) in
    let high : pos t ≤ℤ int_min (int_min a.last b.last) (pos 100) = le_min (int_min a.last b.last) (pos 100) (pos t) (le_min a.last b.last (pos t) a_high b_high) (omega (arith, ints)) in
    le_true _ _ (le_trans (int_max (int_max a.first b.first) (pos 0)) (pos t) (int_min (int_min a.last b.last) (pos 100)) low high)

-- some time is one of both
timed : (a b : Times) (n : ℕ) → n ≡ 101 → list_any (λ (t : ℕ). at_time a t && at_time b t) (range_with_len 0 n) ≡ some_time a b
timed a b n is = elim (cases_Bool (some_time a b)) [ inl e ↦ when e ∙ sym e | inr e ↦ unless e ∙ sym e ]
  where
    when : some_time a b ≡ true → list_any (λ (t : ℕ). at_time a t && at_time b t) (range_with_len 0 n) ≡ true
    when e =
        let start = int_max (int_max a.first b.first) (pos 0) in
        at_first a b n (unsigned_abs start) is (from_start start (max_second (int_max a.first b.first) (pos 0))) (le_from start (int_min (int_min a.last b.last) (pos 100)) e)

    unless : some_time a b ≡ false → list_any (λ (t : ℕ). at_time a t && at_time b t) (range_with_len 0 n) ≡ false
    unless e = none_in_range (λ (t : ℕ). at_time a t && at_time b t) 0 n (λ t low high. false_from_ne_true _ (λ h. both_ways (some_time a b) e (meeting a b t (omega arith) (and_parts (at_time a t) (at_time b t) h))))

-- the times of a step
pub units_are : (n : ℕ) → n ≡ 101 → units ≡ range_with_len 0 n
unfolding units
units_are n e = ap (range_with_len 0) (sym e)

pub held_some : (b : Bounds) (start : Corner) (d : Dir) → holds_some b start d ≡ list_any (holds b) (step_points start d)
held_some b start d = by_count 101 refl
  where
    by_count : (n : ℕ) → n ≡ 101 → holds_some b start d ≡ list_any (holds b) (step_points start d)
    by_count n e =
        sym (timed (times start.x (east_of d) b.left b.right) (times start.y (south_of d) b.top b.bottom) n e)
        ∙ sym (same_in_range (λ (t : ℕ). holds b (point_on start d t)) (λ (t : ℕ). at_time (times start.x (east_of d) b.left b.right) t && at_time (times start.y (south_of d) b.top b.bottom) t) 0 n (λ t high. held_when b start d t (omega arith)))
        ∙ sym (ap (list_any (λ (t : ℕ). holds b (point_on start d t))) (units_are n e))
        ∙ sym (any_map (holds b) (point_on start d) units)
