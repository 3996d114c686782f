use mir.Syntax.{w32}
use mir.Val.{of_z, to_z}
use Rattle.std.proofs.Common.{◌≡◌, ◌∙◌, ◌≤◌, ◌+ℤ◌, ◌-ℤ◌, ℕ, ℤ, pos, unsigned_abs, ap, arith}
use Rattle.std.proofs.lemmas.Int.{ints}
use Rattle.drawing_weights.proofs.BoundParts.{same_bounds}
use Rattle.drawing_weights.proofs.bounds.wider.Goals as goal

read : (z : ℤ) → unsigned_abs z ≤ 1920 → to_z w32 (of_z w32 z) ≡ z
read z h = omega (arith, ints)

less : (z : ℤ) (m : ℕ) → unsigned_abs z ≤ 1900 → m ≤ 20 → unsigned_abs (z -ℤ pos m) ≤ 1920
less z m h k = omega (arith, ints)

more : (z : ℤ) (m : ℕ) → unsigned_abs z ≤ 1900 → m ≤ 20 → unsigned_abs (z +ℤ pos m) ≤ 1920
more z m h k = omega (arith, ints)

lower : (r z : ℤ) (m : ℕ) → unsigned_abs z ≤ 1900 → m ≤ 20 → r ≡ (to_z w32 (of_z w32 z) -ℤ pos m) → to_z w32 (of_z w32 r) ≡ (z -ℤ pos m)
lower r z m h k e = ap (λ (y : ℤ). to_z w32 (of_z w32 y)) (e ∙ ap (λ (y : ℤ). y -ℤ pos m) (read z (omega (arith, h)))) ∙ read (z -ℤ pos m) (less z m h k)

higher : (r z : ℤ) (m : ℕ) → unsigned_abs z ≤ 1900 → m ≤ 20 → r ≡ (to_z w32 (of_z w32 z) +ℤ pos m) → to_z w32 (of_z w32 r) ≡ (z +ℤ pos m)
higher r z m h k e = ap (λ (y : ℤ). to_z w32 (of_z w32 y)) (e ∙ ap (λ (y : ℤ). y +ℤ pos m) (read z (omega (arith, h)))) ∙ read (z +ℤ pos m) (more z m h k)

pub returns : goal.returns
returns c =
    let b = c.args.b in
    let m = c.args.margin in
    same_bounds _ _ _ _ _ _ _ _ (lower c.lower.result b.left m c.requires.left c.requires.margin c.lower.ensures) (higher c.higher.result b.right m c.requires.right c.requires.margin c.higher.ensures)
    (lower c.lower-2.result b.bottom m c.requires.bottom c.requires.margin c.lower-2.ensures) (higher c.higher-2.result b.top m c.requires.top c.requires.margin c.higher-2.ensures)
