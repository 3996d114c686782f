-- How far grid lines and points are from where a node lies, and which of two points is the nearer one.
use Rattle.std.proofs.Common.{◌≡◌, refl, sym, ◌∙◌, ap₂, subst, ℕ, zero, suc, ◌+◌, ◌-◌, ◌*◌, ◌/◌, ◌%◌, ◌<◌, ◌≤◌, ◌⊎◌, inl, inr, Bool, true, false, not, ◌&&◌, ◌||◌, eqb, ltb, ℤ, pos, negsuc, ◌+ℤ◌, ◌-ℤ◌, ◌*ℤ◌, ◌≤ℤ◌, ◌<ℤ◌, arith}
use Rattle.std.specs.Prelude.{unsigned_abs}
use Rattle.std.proofs.lemmas.Int.{ints}
use Rattle.std.proofs.lemmas.Bool.Decides.{nat_tests}
use Rattle.std.proofs.lemmas.Nat.{div-add-mod', mod_below, mul-le, mul-lt}
use Rattle.std.proofs.Math.Nat.{mul-le-mul_right}
use Rattle.octi_grid.specs.declared.point.GridPoint.{GridPoint}
use Rattle.grid_board.specs.Points.{is_lower}
use Rattle.start_positions.specs.declared.spot.Spot.{Spot}
use Rattle.start_positions.specs.Cells.{ceil_quotient}
use Rattle.start_positions.specs.Homes.{distance2, square_apart}
use Rattle.start_positions.specs.Nearest.{no_farther, IsEvenLine, IsLineAt}

-- products with a side
pub times_le : (a b : ℤ) (s : ℕ) → a ≤ℤ b → (a *ℤ pos s) ≤ℤ (b *ℤ pos s)
times_le (pos m) (pos n) s h =
    let order : m ≤ n = omega (arith, ints) in
    let k : m * s ≤ n * s = mul-le-mul_right s order in
    omega (arith, ints)
times_le (pos m) (negsuc n) s h = absurd (omega (arith, ints))
times_le (negsuc m) (pos n) s h = omega (arith, ints)
times_le (negsuc m) (negsuc n) s h =
    let order : suc n ≤ suc m = omega (arith, ints) in
    let k : suc n * s ≤ suc m * s = mul-le-mul_right s order in
    omega (arith, ints)

pub times_less : (a b : ℤ) (s : ℕ) → 0 < s → a <ℤ b → (a *ℤ pos s) <ℤ (b *ℤ pos s)
times_less (pos m) (pos n) s some h =
    let order : suc m ≤ n = omega (arith, ints) in
    let k : suc m * s ≤ n * s = mul-le-mul_right s order in
    let more : suc m * s ≡ m * s + s = omega arith in
    omega (arith, ints)
times_less (pos m) (negsuc n) s some h = absurd (omega (arith, ints))
times_less (negsuc m) (pos n) s some h =
    let more : suc m * s ≡ m * s + s = omega arith in
    omega (arith, ints)
times_less (negsuc m) (negsuc n) s some h =
    let order : suc (suc n) ≤ suc m = omega (arith, ints) in
    let k : suc (suc n) * s ≤ suc m * s = mul-le-mul_right s order in
    let more : suc (suc n) * s ≡ suc n * s + s = omega arith in
    omega (arith, ints)

-- past a place lines get farther, and so they do going back before it
apart_past : (a : ℕ) (g h : ℤ) → pos a ≤ℤ g → g ≤ℤ h → unsigned_abs (g -ℤ pos a) ≤ unsigned_abs (h -ℤ pos a)
apart_past a g h k l = omega (arith, ints)

apart_before : (a : ℕ) (g h : ℤ) → g ≤ℤ pos a → h ≤ℤ g → unsigned_abs (g -ℤ pos a) ≤ unsigned_abs (h -ℤ pos a)
apart_before a g h k l = omega (arith, ints)

apart_beyond : (a : ℕ) (g h : ℤ) → g ≤ℤ pos a → h <ℤ g → unsigned_abs (g -ℤ pos a) < unsigned_abs (h -ℤ pos a)
apart_beyond a g h k l = omega (arith, ints)

pub square_past : (side fineness at : ℕ) (c g h : ℤ) → pos (at * fineness) ≤ℤ (c *ℤ pos side) → c ≤ℤ g → g ≤ℤ h → square_apart side fineness g at ≤ square_apart side fineness h at
square_past side fineness at c g h past k l =
    let first = times_le c g side k in
    let reached : pos (at * fineness) ≤ℤ (g *ℤ pos side) = omega (arith, ints) in
    let less = apart_past (at * fineness) (g *ℤ pos side) (h *ℤ pos side) reached (times_le g h side l) in
    mul-le (unsigned_abs (g *ℤ pos side -ℤ pos (at * fineness))) (unsigned_abs (g *ℤ pos side -ℤ pos (at * fineness))) (unsigned_abs (h *ℤ pos side -ℤ pos (at * fineness))) (unsigned_abs (h *ℤ pos side -ℤ pos (at * fineness))) less less

pub square_before : (side fineness at : ℕ) (c g h : ℤ) → (c *ℤ pos side) ≤ℤ pos (at * fineness) → g ≤ℤ c → h ≤ℤ g → square_apart side fineness g at ≤ square_apart side fineness h at
square_before side fineness at c g h before k l =
    let first = times_le g c side k in
    let reached : (g *ℤ pos side) ≤ℤ pos (at * fineness) = omega (arith, ints) in
    let less = apart_before (at * fineness) (g *ℤ pos side) (h *ℤ pos side) reached (times_le h g side l) in
    mul-le (unsigned_abs (g *ℤ pos side -ℤ pos (at * fineness))) (unsigned_abs (g *ℤ pos side -ℤ pos (at * fineness))) (unsigned_abs (h *ℤ pos side -ℤ pos (at * fineness))) (unsigned_abs (h *ℤ pos side -ℤ pos (at * fineness))) less less

pub square_beyond : (side fineness at : ℕ) (c g h : ℤ) → 0 < side → (c *ℤ pos side) ≤ℤ pos (at * fineness) → g ≤ℤ c → h <ℤ g → square_apart side fineness g at < square_apart side fineness h at
square_beyond side fineness at c g h some before k l =
    let first = times_le g c side k in
    let reached : (g *ℤ pos side) ≤ℤ pos (at * fineness) = omega (arith, ints) in
    let less = apart_beyond (at * fineness) (g *ℤ pos side) (h *ℤ pos side) reached (times_less h g side some l) in
    mul-lt (unsigned_abs (g *ℤ pos side -ℤ pos (at * fineness))) (unsigned_abs (g *ℤ pos side -ℤ pos (at * fineness))) (unsigned_abs (h *ℤ pos side -ℤ pos (at * fineness))) (unsigned_abs (h *ℤ pos side -ℤ pos (at * fineness))) less less

-- a quotient that is rounded up
pub ceil_reaches : (a b : ℕ) → 0 < b → a ≤ ceil_quotient a b * b
ceil_reaches a b some =
    let whole : (a + b - 1) / b * b + (a + b - 1) % b ≡ a + b - 1 = div-add-mod' (a + b - 1) b in
    let small : (a + b - 1) % b < b = mod_below (a + b - 1) b some in
    omega arith

pub ceil_within : (a b : ℕ) → 0 < b → ceil_quotient a b * b ≤ a + b - 1
ceil_within a b some =
    let whole : (a + b - 1) / b * b + (a + b - 1) % b ≡ a + b - 1 = div-add-mod' (a + b - 1) b in
    omega arith

-- the first even line at a place or past it
pub line_is : (side fineness at q : ℕ) → 0 < side → q ≡ ceil_quotient (at * fineness) side → IsLineAt side fineness at (pos (q + q % 2))
line_is side fineness at q some e = record {
  even = omega arith;
  least = omega (arith, ints);
  most = omega (arith, ints);
  past = past;
  before = before (q + q % 2) (omega arith);
}
  where
    reaches : at * fineness ≤ q * side
    reaches = subst (λ (n : ℕ). at * fineness ≤ n * side) (sym e) (ceil_reaches (at * fineness) side some)

    within : q * side ≤ at * fineness + side - 1
    within = subst (λ (n : ℕ). n * side ≤ at * fineness + side - 1) (sym e) (ceil_within (at * fineness) side some)

    past : pos (at * fineness) ≤ℤ (pos (q + q % 2) *ℤ pos side)
    past =
        let more : q * side ≤ (q + q % 2) * side = mul-le-mul_right side (let k : q ≤ q + q % 2 = omega arith in k) in
        omega (arith, ints, reaches)

    before : (n : ℕ) → n ≤ q + 1 → ((pos n -ℤ pos 2) *ℤ pos side) ≤ℤ pos (at * fineness)
    before zero h = omega (arith, ints)
    before (suc zero) h = omega (arith, ints)
    before (suc (suc m)) h =
        let more : suc m * side ≤ q * side = mul-le-mul_right side (let k : suc m ≤ q = omega arith in k) in
        let one : suc m * side ≡ m * side + side = omega arith in
        let less : m * side ≤ at * fineness = omega (arith, within) in
        let same : pos (suc (suc m)) -ℤ pos 2 ≡ pos m = omega (arith, ints) in
        subst (λ (z : ℤ). (z *ℤ pos side) ≤ℤ pos (at * fineness)) (sym same) (let k : pos (m * side) ≤ℤ pos (at * fineness) = omega (arith, ints) in k)

-- two even lines lie two apart at least
pub even_gap : (a b : ℤ) → IsEvenLine a → IsEvenLine b → a <ℤ b → a ≤ℤ (b -ℤ pos 2)
even_gap (pos m) (pos n) e f h = omega (arith, ints)
even_gap (pos m) (negsuc n) e f h = absurd (omega (arith, ints))
even_gap (negsuc m) (pos n) e f h = omega (arith, ints)
even_gap (negsuc m) (negsuc n) e f h = omega (arith, ints)

pub even_next : (a : ℤ) → IsEvenLine a → IsEvenLine (a +ℤ pos 2)
even_next (pos m) e = omega (arith, ints)
even_next (negsuc zero) e = absurd (omega arith)
even_next (negsuc (suc zero)) e = refl
even_next (negsuc (suc (suc m))) e = omega (arith, ints)

pub even_last : (a : ℤ) → IsEvenLine a → IsEvenLine (a -ℤ pos 2)
even_last (pos zero) e = refl
even_last (pos (suc zero)) e = absurd (omega arith)
even_last (pos (suc (suc m))) e = omega (arith, ints)
even_last (negsuc m) e = omega (arith, ints)

-- which of two points is the nearer one
by_less : (a b : ℕ) (l : Bool) → a < b → (ltb a b || (eqb a b && not l)) ≡ true
by_less a b l h = grind (arith, nat_tests)

by_tie : (a b : ℕ) (l : Bool) → a ≤ b → l ≡ false → (ltb a b || (eqb a b && not l)) ≡ true
by_tie a b l h e = grind (arith, nat_tests)

what_tells : (a b : ℕ) (l : Bool) → (ltb a b || (eqb a b && not l)) ≡ true → (a < b) ⊎ ((a ≡ b) × (l ≡ false))
what_tells a b l h = grind (arith, nat_tests)

pub nearer_is : (s : Spot) (p q : GridPoint) → distance2 s.side s.fineness s.offset p < distance2 s.side s.fineness s.offset q → no_farther s p q ≡ true
nearer_is s p q h = by_less (distance2 s.side s.fineness s.offset p) (distance2 s.side s.fineness s.offset q) (is_lower q p) h

pub tied_is : (s : Spot) (p q : GridPoint) → distance2 s.side s.fineness s.offset p ≤ distance2 s.side s.fineness s.offset q → is_lower q p ≡ false → no_farther s p q ≡ true
tied_is s p q h e = by_tie (distance2 s.side s.fineness s.offset p) (distance2 s.side s.fineness s.offset q) (is_lower q p) h e

no_farther_tells : (s : Spot) (p q : GridPoint) → no_farther s p q ≡ true
    → (distance2 s.side s.fineness s.offset p < distance2 s.side s.fineness s.offset q) ⊎ ((distance2 s.side s.fineness s.offset p ≡ distance2 s.side s.fineness s.offset q) × (is_lower q p ≡ false))
no_farther_tells s p q h = what_tells (distance2 s.side s.fineness s.offset p) (distance2 s.side s.fineness s.offset q) (is_lower q p) h

-- a point that is not lower than another
lower_tells : (p q : GridPoint) → is_lower q p ≡ false → (p.y <ℤ q.y) ⊎ ((p.y ≡ q.y) × (p.x ≤ℤ q.x))
lower_tells p q e = grind (arith, ints)

pub in_row : (p q : GridPoint) → p.y ≡ q.y → p.x ≤ℤ q.x → is_lower q p ≡ false
in_row p q e h = grind (arith, ints)

above_row : (p q : GridPoint) → p.y <ℤ q.y → is_lower q p ≡ false
above_row p q h = grind (arith, ints)

lower_trans : (p q r : GridPoint) → is_lower q p ≡ false → is_lower r q ≡ false → is_lower r p ≡ false
lower_trans p q r e f = by_cases (lower_tells p q e) (lower_tells q r f)
  where
    by_cases : (p.y <ℤ q.y) ⊎ ((p.y ≡ q.y) × (p.x ≤ℤ q.x)) → (q.y <ℤ r.y) ⊎ ((q.y ≡ r.y) × (q.x ≤ℤ r.x)) → is_lower r p ≡ false
    by_cases (inl h) (inl k) = above_row p r (omega (arith, ints))
    by_cases (inl h) (inr k) = above_row p r (omega (arith, ints, k.0))
    by_cases (inr h) (inl k) = above_row p r (omega (arith, ints, h.0))
    by_cases (inr h) (inr k) = in_row p r (h.0 ∙ k.0) (omega (arith, ints, h.1, k.1))

pub no_farther_trans : (s : Spot) (p q r : GridPoint) → no_farther s p q ≡ true → no_farther s q r ≡ true → no_farther s p r ≡ true
no_farther_trans s p q r h k = by_cases (no_farther_tells s p q h) (no_farther_tells s q r k)
  where
    P : ℕ
    P = distance2 s.side s.fineness s.offset p

    Q : ℕ
    Q = distance2 s.side s.fineness s.offset q

    R : ℕ
    R = distance2 s.side s.fineness s.offset r

    by_cases : (P < Q) ⊎ ((P ≡ Q) × (is_lower q p ≡ false)) → (Q < R) ⊎ ((Q ≡ R) × (is_lower r q ≡ false)) → no_farther s p r ≡ true
    by_cases (inl h) (inl k) = nearer_is s p r (omega arith)
    by_cases (inl h) (inr k) = nearer_is s p r (omega (arith, k.0))
    by_cases (inr h) (inl k) = nearer_is s p r (omega (arith, h.0))
    by_cases (inr h) (inr k) = tied_is s p r (omega (arith, h.0, k.0)) (lower_trans p q r h.1 k.1)

-- of two points one is no farther
not_lower_both : (p q : GridPoint) → is_lower q p ≡ true → is_lower p q ≡ false
not_lower_both p q e = grind (arith, ints)

by_other : (a b : ℕ) (l m : Bool) → (l ≡ true → m ≡ false) → (ltb a b || (eqb a b && not l)) ≡ false → (ltb b a || (eqb b a && not m)) ≡ true
by_other a b true m h e = let low : m ≡ false = h refl in grind (arith, nat_tests)
by_other a b false m h e = let far : b < a = grind (arith, nat_tests) in by_less b a m far

pub no_farther_other : (s : Spot) (p q : GridPoint) → no_farther s p q ≡ false → no_farther s q p ≡ true
no_farther_other s p q e =
    by_other (distance2 s.side s.fineness s.offset p) (distance2 s.side s.fineness s.offset q) (is_lower q p) (is_lower p q) (not_lower_both p q) e

pub no_farther_self : (s : Spot) (p : GridPoint) → no_farther s p p ≡ true
no_farther_self s p = tied_is s p p (omega arith) (in_row p p refl (omega (arith, ints)))

-- two points of which each is no farther than the other are one
pub no_farther_same : (s : Spot) (p q : GridPoint) → no_farther s p q ≡ true → no_farther s q p ≡ true → p ≡ q
no_farther_same s p q h k = by_cases (no_farther_tells s p q h) (no_farther_tells s q p k)
  where
    P : ℕ
    P = distance2 s.side s.fineness s.offset p

    Q : ℕ
    Q = distance2 s.side s.fineness s.offset q

    by_lines : (p.y <ℤ q.y) ⊎ ((p.y ≡ q.y) × (p.x ≤ℤ q.x)) → (q.y <ℤ p.y) ⊎ ((q.y ≡ p.y) × (q.x ≤ℤ p.x)) → p ≡ q
    by_lines (inl a) (inl b) = absurd (omega (arith, ints))
    by_lines (inl a) (inr b) = absurd (omega (arith, ints, b.0))
    by_lines (inr a) (inl b) = absurd (omega (arith, ints, a.0))
    by_lines (inr a) (inr b) = ap₂ (λ (x y : ℤ). record { x = x; y = y }) (let e : p.x ≡ q.x = omega (arith, ints, a.1, b.1) in e) a.0

    by_cases : (P < Q) ⊎ ((P ≡ Q) × (is_lower q p ≡ false)) → (Q < P) ⊎ ((Q ≡ P) × (is_lower p q ≡ false)) → p ≡ q
    by_cases (inl a) (inl b) = absurd (omega arith)
    by_cases (inl a) (inr b) = absurd (omega (arith, b.0))
    by_cases (inr a) (inl b) = absurd (omega (arith, a.0))
    by_cases (inr a) (inr b) = by_lines (lower_tells p q a.1) (lower_tells q p b.1)
