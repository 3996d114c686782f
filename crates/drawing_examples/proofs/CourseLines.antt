-- Small cases of lines beside courses in the plane.
use Rattle.std.proofs.Common.{◌≡◌, ℤ, pos, negsuc, List, [], ◌∷◌, refl}
use Rattle.map_base.specs.declared.point.Point.{Point}
use Rattle.geo_lines.specs.Roots.{root}
use Rattle.geo_lines.specs.Courses.{shifted_path}

abbrev point : ℤ → ℤ → Point
point x y = record { x = x; y = y }

-- east, then north
abbrev corner_course : List Point
corner_course = point (pos 0) (pos 0) ∷ point (pos 1000) (pos 0) ∷ point (pos 1000) (pos 1000) ∷ []

-- one place to the right, and one to the left
right : shifted_path (pos 1) corner_course ≡ point (pos 0) (negsuc 29) ∷ point (pos 1030) (negsuc 29) ∷ point (pos 1030) (pos 1000) ∷ []
right = refl

left : shifted_path (negsuc 0) corner_course ≡ point (pos 0) (pos 30) ∷ point (pos 970) (pos 30) ∷ point (pos 970) (pos 1000) ∷ []
left = refl

-- the middle line runs over the points
middle : shifted_path (pos 0) corner_course ≡ corner_course
middle = refl

-- a turn that is sharper than 120 degrees has two corners
sharp : shifted_path (pos 1) (point (pos 0) (pos 0) ∷ point (pos 1000) (pos 0) ∷ point (pos 0) (pos 100) ∷ [])
    ≡ point (pos 0) (negsuc 29) ∷ point (pos 1000) (negsuc 29) ∷ point (pos 1002) (pos 29) ∷ point (pos 2) (pos 129) ∷ []
sharp = refl

-- straight on
straight : shifted_path (pos 2) (point (pos 0) (pos 0) ∷ point (pos 0) (pos 7) ∷ point (pos 0) (pos 9) ∷ [])
    ≡ point (pos 60) (pos 0) ∷ point (pos 60) (pos 7) ∷ point (pos 60) (pos 9) ∷ []
straight = refl

-- roots at the edge of a square
root_below : root 999999 ≡ 999
root_below = refl

root_at : root 1000000 ≡ 1000
root_at = refl
