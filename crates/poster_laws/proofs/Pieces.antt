-- What is near a straight piece of a walk lies in the piece's shape.
use Rattle.std.proofs.Common.{◌≡◌, ℕ, ◌*◌, ◌≤◌, Bool, true, false, if◌then◌else◌, ℤ, pos, ◌+ℤ◌, ◌-ℤ◌, ◌*ℤ◌, ◌≤ℤ◌, [], ◌∷◌, refl, sym, subst, arith}
use Rattle.std.specs.Int.{int_min, int_max}
use Rattle.std.proofs.lemmas.Int.{ints}
use Rattle.line_offsets.specs.declared.corner.Corner.{Corner}
use Rattle.eight_sides.specs.Shapes.{around, is_upright, mark_shape, piece_shape, slanted_length}
use Rattle.eight_sides.specs.Points.{IsIn, IsInDisc, LiesIn, squared}
use Rattle.whole_algebra.proofs.Products.{*ℤ-minus, *ℤ-+ℤ}
use Rattle.whole_algebra.proofs.Identities.{var, num, ◌⊛◌, identity}
use Rattle.poster_laws.proofs.InShapes.{scaled}

once : (z : ℤ) → pos 1 *ℤ z ≡ z
once z = omega (arith, ints)

-- a number that is near one of an interval lies in the interval, widened by as much
wider : (s k r : ℕ) (m n : ℤ) (none : ℕ) (w z : ℤ) → none ≡ 0 → pos r ≤ℤ (pos s *ℤ pos k)
    → LiesIn s w (record { least = m -ℤ pos none; greatest = n +ℤ pos none }) → LiesIn 1 z (around w r)
    → LiesIn s z (record { least = m -ℤ pos k; greatest = n +ℤ pos k })
wider s k r m n none w z is few h i = (
  omega (arith, ints, is, few, *ℤ-minus (pos s) m (pos none), *ℤ-minus (pos s) m (pos k), nothing, h.0, i.0, once (w -ℤ pos r)),
  omega (arith, ints, is, few, *ℤ-+ℤ (pos s) n (pos none), *ℤ-+ℤ (pos s) n (pos k), nothing, h.1, i.1, once (w +ℤ pos r)),
)
  where
    nothing : pos s *ℤ pos none ≡ pos 0
    nothing = subst (λ (o : ℕ). pos s *ℤ pos o ≡ pos 0) (sym is) (omega (arith, ints))

-- how far sums and differences reach, at a scale
reach : (s h : ℕ) → pos (slanted_length (s * h)) ≤ℤ (pos s *ℤ pos (slanted_length h))
reach s h =
    let k = slanted_length h in
    let more : 17 * h ≤ 12 * k = omega arith in
    let room = scaled s (pos 17 *ℤ pos h) (pos 12 *ℤ pos k) (omega (arith, ints, more)) in
    let left : pos s *ℤ (pos 17 *ℤ pos h) ≡ pos 17 *ℤ (pos s *ℤ pos h) =
    identity (pos s ∷ pos h ∷ []) (var 0 ⊛ (num (pos 17) ⊛ var 1)) (num (pos 17) ⊛ (var 0 ⊛ var 1)) refl in
    let right : pos s *ℤ (pos 12 *ℤ pos k) ≡ pos 12 *ℤ (pos s *ℤ pos k) =
    identity (pos s ∷ pos k ∷ []) (var 0 ⊛ (num (pos 12) ⊛ var 1)) (num (pos 12) ⊛ (var 0 ⊛ var 1)) refl in
    ends (s * h) (s * k) (omega (arith, ints, room, left, right))
  where
    ends : (n m : ℕ) → (pos 17 *ℤ pos n) ≤ℤ (pos 12 *ℤ pos m) → pos (slanted_length n) ≤ℤ pos m
    ends n m h = let few : 17 * n ≤ 12 * m = omega (arith, ints, h) in let is : slanted_length n ≤ m = omega arith in omega (arith, ints, is)

reach_along : (s h : ℕ) → pos (slanted_length (s * h)) ≤ℤ (pos s *ℤ pos (2 * h))
reach_along s h =
    let twice : pos s *ℤ (pos 2 *ℤ pos h) ≡ pos 2 *ℤ (pos s *ℤ pos h) =
    identity (pos s ∷ pos h ∷ []) (var 0 ⊛ (num (pos 2) ⊛ var 1)) (num (pos 2) ⊛ (var 0 ⊛ var 1)) refl in
    ends (s * h) (s * (2 * h)) (omega (arith, ints, twice))
  where
    ends : (n m : ℕ) → pos m ≡ pos 2 *ℤ pos n → pos (slanted_length n) ≤ℤ pos m
    ends n m e = let is : m ≡ 2 * n = omega (arith, ints, e) in let few : slanted_length n ≤ 2 * n = omega arith in omega (arith, ints, is, few)

reach_by : (up : Bool) (s h : ℕ) → pos (slanted_length (s * h)) ≤ℤ (pos s *ℤ pos (if up then 2 * h else slanted_length h))
reach_by true s h = reach_along s h
reach_by false s h = reach s h

none_by : (up : Bool) → (if up then 2 * 0 else slanted_length 0) ≡ 0
none_by true = refl
none_by false = refl

-- what is near a point of a piece lies in its shape
pub near_piece : (a b : Corner) (h s : ℕ) (u v x y : ℤ) → IsIn s u v (piece_shape a b 0)
    → IsIn 1 x y (mark_shape (record { x = u; y = v }) (s * h)) → IsIn s x y (piece_shape a b h)
near_piece a b h s u v x y on near =
    let up = is_upright a b in
    record {
      across = wider s h (s * h) (int_min a.x b.x) (int_max a.x b.x) 0 u x refl (omega (arith, ints)) on.across near.across;
      down = wider s h (s * h) (int_min a.y b.y) (int_max a.y b.y) 0 v y refl (omega (arith, ints)) on.down near.down;
      difference = wider s (if up then 2 * h else slanted_length h) (slanted_length (s * h)) (int_min (a.x -ℤ a.y) (b.x -ℤ b.y)) (int_max (a.x -ℤ a.y) (b.x -ℤ b.y))
          (if up then 2 * 0 else slanted_length 0) (u -ℤ v) (x -ℤ y) (none_by up) (reach_by up s h) on.difference near.difference;
      sum = wider s (if up then 2 * h else slanted_length h) (slanted_length (s * h)) (int_min (a.x +ℤ a.y) (b.x +ℤ b.y)) (int_max (a.x +ℤ a.y) (b.x +ℤ b.y))
          (if up then 2 * 0 else slanted_length 0) (u +ℤ v) (x +ℤ y) (none_by up) (reach_by up s h) on.sum near.sum;
    }

-- the disc at scale 1
pub as_disc : (h s : ℕ) (u v x y : ℤ) → (squared (x -ℤ u) +ℤ squared (y -ℤ v)) ≤ℤ squared (pos s *ℤ pos h) → IsInDisc 1 x y (record { x = u; y = v }) (s * h)
as_disc h s u v x y near =
    subst (λ (r : ℤ). (squared (x -ℤ (pos 1 *ℤ u)) +ℤ squared (y -ℤ (pos 1 *ℤ v))) ≤ℤ squared r) (sym (once (pos (s * h))))
    (subst (λ (b : ℤ). (squared (x -ℤ (pos 1 *ℤ u)) +ℤ squared (y -ℤ b)) ≤ℤ squared (pos (s * h))) (sym (once v))
    (subst (λ (a : ℤ). (squared (x -ℤ a) +ℤ squared (y -ℤ v)) ≤ℤ squared (pos (s * h))) (sym (once u)) near))
