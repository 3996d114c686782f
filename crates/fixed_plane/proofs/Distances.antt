-- Squares of distances, as whole numbers of either sign and the other way round.
use Rattle.std.proofs.Common.{◌≡◌, ◌∙◌, ap, ◌+◌, ◌*◌, ℤ, pos, ◌+ℤ◌, ◌-ℤ◌, ◌*ℤ◌, unsigned_abs, arith}
use Rattle.std.proofs.lemmas.Int.{ints}
use Rattle.map_base.specs.declared.point.Point.{Point}
use Rattle.whole_algebra.specs.Turns.{square_between}
use Rattle.whole_algebra.proofs.Signs.{square-unsigned_abs}
use Rattle.fixed_plane.specs.Measures.{square_of, dist2_of}

-- the square of a distance is the sum of two squares
pub dist2_of-square_between : (a b : Point) → pos (dist2_of a b) ≡ square_between a.x a.y b.x b.y
dist2_of-square_between a b =
    ap (λ s. s +ℤ pos (square_of (b.y -ℤ a.y))) (square-unsigned_abs (b.x -ℤ a.x))
    ∙ ap (λ s. (b.x -ℤ a.x) *ℤ (b.x -ℤ a.x) +ℤ s) (square-unsigned_abs (b.y -ℤ a.y))

size_back : (x y : ℤ) → unsigned_abs (y -ℤ x) ≡ unsigned_abs (x -ℤ y)
size_back x y = omega (arith, ints)

-- it is as far back as there
pub dist2_of_comm : (a b : Point) → dist2_of a b ≡ dist2_of b a
dist2_of_comm a b =
    ap (λ n. n * n + square_of (b.y -ℤ a.y)) (size_back a.x b.x) ∙ ap (λ n. square_of (a.x -ℤ b.x) + n * n) (size_back a.y b.y)
