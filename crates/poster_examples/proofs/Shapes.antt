-- Shapes, and whether they meet.
use Rattle.std.proofs.Common.{◌≡◌, ℤ, pos, negsuc, true, false, refl}
use Rattle.line_offsets.specs.declared.corner.Corner.{Corner}
use Rattle.eight_sides.specs.declared.interval.Interval.{Interval}
use Rattle.eight_sides.specs.Shapes.{mark_shape, meet, piece_shape, slanted, upright}

abbrev from : ℤ → ℤ → Interval
from a b = record { least = a; greatest = b }

abbrev at : ℤ → ℤ → Corner
at x y = record { x = x; y = y }

-- as far as 10 from a point: 15 on a slant, no less than 14.14
mark : mark_shape (at (pos 100) (pos 40)) 10
    ≡ record { across = from (pos 90) (pos 110); down = from (pos 30) (pos 50); difference = from (pos 45) (pos 75); sum = from (pos 125) (pos 155) }
mark = refl

-- a piece to the left, with 7 on each side
level : piece_shape (at (pos 50) (pos 0)) (at (pos 0) (pos 0)) 7
    ≡ record { across = from (negsuc 6) (pos 57); down = from (negsuc 6) (pos 7); difference = from (negsuc 13) (pos 64); sum = from (negsuc 13) (pos 64) }
level = refl

-- a rising one: 10 on each side of it in x + y
rising : piece_shape (at (pos 0) (pos 0)) (at (pos 50) (negsuc 49)) 7
    ≡ record { across = from (negsuc 6) (pos 57); down = from (negsuc 56) (pos 7); difference = from (negsuc 9) (pos 110); sum = from (negsuc 9) (pos 10) }
rising = refl

-- a slanted box is rounded outwards
rounded : slanted (from (pos 1) (pos 4)) (from (negsuc 2) (pos 2))
    ≡ record { across = from (negsuc 0) (pos 3); down = from (negsuc 3) (pos 1); difference = from (pos 1) (pos 4); sum = from (negsuc 2) (pos 2) }
rounded = refl

-- boxes that touch meet, and a box in the corner between two rims of a slanted one does not meet it
touch : meet (upright (from (pos 0) (pos 10)) (from (pos 0) (pos 10))) (upright (from (pos 10) (pos 20)) (from (pos 10) (pos 20))) ≡ true
touch = refl

apart : meet (slanted (from (pos 0) (pos 40)) (from (pos 0) (pos 4))) (upright (from (pos 0) (pos 5)) (from (negsuc 19) (negsuc 9))) ≡ false
apart = refl
