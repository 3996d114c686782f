-- The points of a disc lie in the shape of its mark.
use Rattle.std.proofs.Common.{◌≡◌, ℕ, ◌+◌, ◌*◌, ◌≤◌, ℤ, pos, neg_ℤ, ◌+ℤ◌, ◌-ℤ◌, ◌*ℤ◌, ◌≤ℤ◌, [], ◌∷◌, refl, arith}
use Rattle.std.proofs.lemmas.Int.{ints}
use Rattle.line_offsets.specs.declared.corner.Corner.{Corner}
use Rattle.whole_algebra.proofs.Products.{*ℤ-minus, *ℤ-+ℤ}
use Rattle.whole_algebra.proofs.Signs.{*ℤ-not_negative, square-not_negative}
use Rattle.whole_algebra.proofs.Identities.{var, num, minus, ◌⊕◌, ◌⊖◌, ◌⊛◌, identity}
use Rattle.eight_sides.specs.Shapes.{around, mark_shape, slanted_length}
use Rattle.eight_sides.specs.Points.{IsIn, IsInDisc, LiesIn}
use Rattle.eight_sides.proofs.Orders.{le_by_squares}

-- ---- squares

turned_square : (d : ℤ) → neg_ℤ d *ℤ neg_ℤ d ≡ d *ℤ d
turned_square d = identity (d ∷ []) (minus (var 0) ⊛ minus (var 0)) (var 0 ⊛ var 0) refl

difference_square : (d e : ℤ) → (d -ℤ e) *ℤ (d -ℤ e) +ℤ (d +ℤ e) *ℤ (d +ℤ e) ≡ pos 2 *ℤ (d *ℤ d) +ℤ pos 2 *ℤ (e *ℤ e)
difference_square d e =
    identity (d ∷ e ∷ []) ((var 0 ⊖ var 1) ⊛ (var 0 ⊖ var 1) ⊕ (var 0 ⊕ var 1) ⊛ (var 0 ⊕ var 1))
    (num (pos 2) ⊛ (var 0 ⊛ var 0) ⊕ num (pos 2) ⊛ (var 1 ⊛ var 1)) refl

twelve_square : (t : ℤ) → (pos 12 *ℤ t) *ℤ (pos 12 *ℤ t) ≡ pos 144 *ℤ (t *ℤ t)
twelve_square t = identity (t ∷ []) ((num (pos 12) ⊛ var 0) ⊛ (num (pos 12) ⊛ var 0)) (num (pos 144) ⊛ (var 0 ⊛ var 0)) refl

seventeen_square : (t : ℤ) → (pos 17 *ℤ t) *ℤ (pos 17 *ℤ t) ≡ pos 289 *ℤ (t *ℤ t)
seventeen_square t = identity (t ∷ []) ((num (pos 17) ⊛ var 0) ⊛ (num (pos 17) ⊛ var 0)) (num (pos 289) ⊛ (var 0 ⊛ var 0)) refl

-- ---- how far a point of a disc is from the centre

-- across or down: no further than the radius
across : (d e r : ℤ) → pos 0 ≤ℤ r → (d *ℤ d +ℤ e *ℤ e) ≤ℤ (r *ℤ r) → d ≤ℤ r
across d e r some h = let other = square-not_negative e in le_by_squares d r some (omega (arith, ints))

-- on a slant: no further than 17 / 12 of it
slanted : (t v r : ℤ) (sum : ℤ) → pos 0 ≤ℤ r → t *ℤ t +ℤ v *ℤ v ≡ pos 2 *ℤ sum → sum ≤ℤ (r *ℤ r) → (pos 12 *ℤ t) ≤ℤ (pos 17 *ℤ r)
slanted t v r sum some e h =
    let other = square-not_negative v in
    let own = square-not_negative r in
    le_by_squares (pos 12 *ℤ t) (pos 17 *ℤ r) (omega (arith, ints)) (omega (arith, ints, twelve_square t, seventeen_square r))

enough : (n : ℕ) → 17 * n ≤ 12 * slanted_length n
enough n = omega arith

-- the same at a scale, by the length on a slant that shapes have
within : (s r : ℕ) (t : ℤ) → (pos 12 *ℤ t) ≤ℤ (pos 17 *ℤ (pos s *ℤ pos r)) → t ≤ℤ (pos s *ℤ pos (slanted_length r))
within s r t h =
    let k = slanted_length r in
    let more : 17 * r ≤ 12 * k = enough r in
    let room = *ℤ-not_negative (pos s) (pos 12 *ℤ pos k -ℤ pos 17 *ℤ pos r) (omega (arith, ints)) (omega (arith, ints)) in
    let is : pos s *ℤ (pos 12 *ℤ pos k -ℤ pos 17 *ℤ pos r) ≡ pos 12 *ℤ (pos s *ℤ pos k) -ℤ pos 17 *ℤ (pos s *ℤ pos r) =
    identity (pos s ∷ pos k ∷ pos r ∷ []) (var 0 ⊛ (num (pos 12) ⊛ var 1 ⊖ num (pos 17) ⊛ var 2)) (num (pos 12) ⊛ (var 0 ⊛ var 1) ⊖ num (pos 17) ⊛ (var 0 ⊛ var 2)) refl in
    omega (arith, ints)

-- ---- intervals

lies_around : (s by : ℕ) (z c : ℤ) → (z -ℤ pos s *ℤ c) ≤ℤ (pos s *ℤ pos by) → neg_ℤ (z -ℤ pos s *ℤ c) ≤ℤ (pos s *ℤ pos by) → LiesIn s z (around c by)
lies_around s by z c h i = (omega (arith, ints, *ℤ-minus (pos s) c (pos by)), omega (arith, ints, *ℤ-+ℤ (pos s) c (pos by)))

-- a point of a disc lies in its mark
pub disc_lies : (c : Corner) (r s : ℕ) (x y : ℤ) → IsInDisc s x y c r → IsIn s x y (mark_shape c r)
disc_lies c r s x y h =
    let d = x -ℤ (pos s *ℤ c.x) in
    let e = y -ℤ (pos s *ℤ c.y) in
    let f = pos s *ℤ pos r in
    let some : pos 0 ≤ℤ f = *ℤ-not_negative (pos s) (pos r) (omega (arith, ints)) (omega (arith, ints)) in
    let both : (d *ℤ d +ℤ e *ℤ e) ≤ℤ (f *ℤ f) = h in
    let turned_d = turned_square d in
    let turned_e = turned_square e in
    let twice : pos 2 *ℤ (d *ℤ d +ℤ e *ℤ e) ≡ pos 2 *ℤ (d *ℤ d) +ℤ pos 2 *ℤ (e *ℤ e) = *ℤ-+ℤ (pos 2) (d *ℤ d) (e *ℤ e) in
    let less = d -ℤ e in
    let more = d +ℤ e in
    let squares = difference_square d e in
    let turned_less = turned_square less in
    let turned_more = turned_square more in
    let centre_less = *ℤ-minus (pos s) c.x c.y in
    let centre_more = *ℤ-+ℤ (pos s) c.x c.y in
    record {
      across = lies_around s r x c.x (across d e f some both) (across (neg_ℤ d) e f some (omega (arith, ints)));
      down = lies_around s r y c.y (across e d f some (omega (arith, ints))) (across (neg_ℤ e) d f some (omega (arith, ints)));
      difference =
          let out : less ≤ℤ (pos s *ℤ pos (slanted_length r)) = within s r less (slanted less more f (d *ℤ d +ℤ e *ℤ e) some (omega (arith, ints)) both) in
          let back : neg_ℤ less ≤ℤ (pos s *ℤ pos (slanted_length r)) = within s r (neg_ℤ less) (slanted (neg_ℤ less) more f (d *ℤ d +ℤ e *ℤ e) some (omega (arith, ints)) both) in
          lies_around s (slanted_length r) (x -ℤ y) (c.x -ℤ c.y) (omega (arith, ints)) (omega (arith, ints));
      sum =
          let out : more ≤ℤ (pos s *ℤ pos (slanted_length r)) = within s r more (slanted more less f (d *ℤ d +ℤ e *ℤ e) some (omega (arith, ints)) both) in
          let back : neg_ℤ more ≤ℤ (pos s *ℤ pos (slanted_length r)) = within s r (neg_ℤ more) (slanted (neg_ℤ more) less f (d *ℤ d +ℤ e *ℤ e) some (omega (arith, ints)) both) in
          lies_around s (slanted_length r) (x +ℤ y) (c.x +ℤ c.y) (omega (arith, ints)) (omega (arith, ints));
    }
