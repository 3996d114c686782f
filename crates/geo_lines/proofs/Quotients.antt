-- Quotients that are cut towards zero, and the shifts that are made of them.
use Rattle.std.proofs.Common.{◌≡◌, refl, sym, ◌∙◌, ap, subst, ℕ, zero, suc, ◌+◌, ◌*◌, ◌/◌, ◌<◌, ◌≤◌, ℤ, pos, negsuc, ◌+ℤ◌, ◌-ℤ◌, ◌*ℤ◌, ◌≤ℤ◌, ◌<ℤ◌, neg_ℤ, unsigned_abs, arith}
use Rattle.std.specs.Prelude.{int_div, ◌≢◌}
use Rattle.std.proofs.Math.Nat.{div-le_of_le-mul}
use Rattle.std.proofs.lemmas.Int.{ints, unsigned_abs-mul}
use Rattle.std.proofs.lemmas.Nat.{mul-le}
use Rattle.map_base.specs.declared.point.Point.{Point}
use Rattle.fixed_plane.specs.Measures.{square_of, dist2_of}
use Rattle.track_net.proofs.Squares.{same_where_none}
use Rattle.whole_algebra.proofs.Signs.{square-unsigned_abs}
use Rattle.geo_lines.specs.declared.shift.Shift.{Shift}
use Rattle.geo_lines.specs.Roots.{IsRoot, root}
use Rattle.geo_lines.specs.Shifts.{length_of, shift_of, onward_of, meeting_of, IsWithin}
use Rattle.geo_lines.proofs.Roots.{root-is, below_root}

abs_neg : (n : ℕ) → unsigned_abs (neg_ℤ (pos n)) ≡ n
abs_neg zero = refl
abs_neg (suc n) = refl

-- a quotient is at most m in size where the number is at most m times the divisor
pub quotient_within : (z : ℤ) (n m : ℕ) → unsigned_abs z ≤ m * n → unsigned_abs (int_div z (pos n)) ≤ m
quotient_within (pos a) n m within = div-le_of_le-mul n (omega (arith, within))
quotient_within (negsuc a) n m within = subst (λ s. s ≤ m) (sym (abs_neg (suc a / n))) (div-le_of_le-mul n (omega (arith, within)))

-- the same by a divisor above 0
pub quotient_small : (z d : ℤ) (m : ℕ) → pos 0 <ℤ d → unsigned_abs z ≤ m * unsigned_abs d → unsigned_abs (int_div z d) ≤ m
quotient_small z (pos n) m some within = quotient_within z n m within
quotient_small z (negsuc n) m some within = absurd (omega (arith, ints))

-- a way is no longer than the piece of which it is a coordinate
pub across_short : (a b : Point) → unsigned_abs (a.x -ℤ b.x) ≤ length_of a b
across_short a b =
    below_root (dist2_of a b) (length_of a b) (unsigned_abs (a.x -ℤ b.x)) (root-is (dist2_of a b))
    (covered (unsigned_abs (a.x -ℤ b.x)) (unsigned_abs (b.x -ℤ a.x)) (square_of (b.y -ℤ a.y)) (omega (arith, ints)))
  where
    covered : (m n rest : ℕ) → m ≡ n → m * m ≤ n * n + rest
    covered m n rest e = subst (λ k. m * m ≤ k * k + rest) e (omega arith)

pub along_short : (a b : Point) → unsigned_abs (b.y -ℤ a.y) ≤ length_of a b
along_short a b = below_root (dist2_of a b) (length_of a b) (unsigned_abs (b.y -ℤ a.y)) (root-is (dist2_of a b)) (omega arith)

-- points that lie apart have a piece of some length between them
pub some_length : (a b : Point) → a ≢ b → 0 < length_of a b
some_length a b apart = by_size (dist2_of a b) refl
  where
    by_size : (n : ℕ) → dist2_of a b ≡ n → 0 < length_of a b
    by_size zero e = absurd (apart (same_where_none a b e))
    by_size (suc n) e = below_root (dist2_of a b) (length_of a b) 1 (root-is (dist2_of a b)) (omega (arith, e))

-- a share of a way that is no longer than the piece is no longer than the width
share_product : (way w : ℤ) (l : ℕ) → unsigned_abs way ≤ l → unsigned_abs (way *ℤ w) ≤ unsigned_abs w * l
share_product way w l short =
    let product : unsigned_abs way * unsigned_abs w ≤ l * unsigned_abs w = mul-le (unsigned_abs way) (unsigned_abs w) l (unsigned_abs w) short (omega arith) in
    omega (arith, unsigned_abs-mul way w, product)

pub share_within : (way w : ℤ) (l : ℕ) → unsigned_abs way ≤ l → unsigned_abs (int_div (way *ℤ w) (pos l)) ≤ unsigned_abs w
share_within way w l short = quotient_within (way *ℤ w) l (unsigned_abs w) (share_product way w l short)

pub share_small : (way w d : ℤ) → pos 0 <ℤ d → unsigned_abs way ≤ unsigned_abs d → unsigned_abs (int_div (way *ℤ w) d) ≤ unsigned_abs w
share_small way w d some short = quotient_small (way *ℤ w) d (unsigned_abs w) some (share_product way w (unsigned_abs d) short)

pub shift_within : (w : ℤ) (a b : Point) → IsWithin (unsigned_abs w) (shift_of w a b)
shift_within w a b = record {
  across = share_within (b.y -ℤ a.y) w (length_of a b) (along_short a b);
  along = share_within (a.x -ℤ b.x) w (length_of a b) (across_short a b);
}

-- half of a square that is not above a number
half_square : (n : ℕ) (square onward : ℤ) → pos n ≡ square → pos 0 <ℤ onward → square ≤ℤ (pos 2 *ℤ onward) → n ≤ 2 * unsigned_abs onward
half_square n square onward e some near = omega (arith, ints, e, some, near)

fours : (n s : ℕ) → (2 * n) * (2 * s) ≡ 4 * n * s
fours n s = grind arith

-- one coordinate of the point at which shifted pieces meet
pub meeting_within : (both w onward : ℤ) → unsigned_abs both ≤ 2 * unsigned_abs w → pos 0 <ℤ onward → (w *ℤ w) ≤ℤ (pos 2 *ℤ onward)
    → unsigned_abs (int_div (both *ℤ (w *ℤ w)) onward) ≤ 4 * unsigned_abs w
meeting_within both w onward small some near =
    let n = unsigned_abs w in
    let s = unsigned_abs onward in
    let half : n * n ≤ 2 * s = half_square (n * n) (w *ℤ w) onward (square-unsigned_abs w) some near in
    let product : unsigned_abs both * (n * n) ≤ (2 * n) * (2 * s) = mul-le (unsigned_abs both) (n * n) (2 * n) (2 * s) small half in
    let is : unsigned_abs (both *ℤ (w *ℤ w)) ≡ unsigned_abs both * (n * n) = unsigned_abs-mul both (w *ℤ w) ∙ ap (λ k. unsigned_abs both * k) (unsigned_abs-mul w w) in
    quotient_small (both *ℤ (w *ℤ w)) onward (4 * n) some (subst (λ k. k ≤ 4 * n * s) (sym is) (subst (λ k. unsigned_abs both * (n * n) ≤ k) (fours n s) product))

pub meeting_shift_within : (w : ℤ) (o q : Shift) → IsWithin (unsigned_abs w) o → IsWithin (unsigned_abs w) q → pos 0 <ℤ onward_of w o q
    → (w *ℤ w) ≤ℤ (pos 2 *ℤ onward_of w o q) → IsWithin (4 * unsigned_abs w) (meeting_of w o q)
meeting_shift_within w o q p r some near = record {
  across = meeting_within (o.x +ℤ q.x) w (onward_of w o q) (both o.x q.x (unsigned_abs w) p.across r.across) some near;
  along = meeting_within (o.y +ℤ q.y) w (onward_of w o q) (both o.y q.y (unsigned_abs w) p.along r.along) some near;
}
  where
    both : (a b : ℤ) (n : ℕ) → unsigned_abs a ≤ n → unsigned_abs b ≤ n → unsigned_abs (a +ℤ b) ≤ 2 * n
    both a b n h k = omega (arith, ints, h, k)
