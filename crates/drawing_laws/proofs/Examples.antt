-- Points along a way, computed.
use Rattle.std.proofs.Common.{◌≡◌, refl, ℕ, pos, [], ◌∷◌}
use Rattle.octi_grid.specs.declared.dir.Dir.TheVariants as dir
use Rattle.octi_grid.specs.declared.point.GridPoint.{GridPoint}
use Rattle.drawing_laws.specs.Plane.{PlanePoint, along}

abbrev origin : GridPoint
origin = record { x = pos 0; y = pos 0 }

-- a way of two steps, by halves of steps
abbrev walked : ℕ → PlanePoint
walked t = along 2 origin (dir.N ∷ dir.NE ∷ []) t

in_the_first_step : walked 1 ≡ record { across = pos 0; up = pos 1 }
in_the_first_step = refl

in_the_second_step : walked 3 ≡ record { across = pos 1; up = pos 3 }
in_the_second_step = refl

at_the_end : walked 4 ≡ record { across = pos 2; up = pos 4 }
at_the_end = refl

past_the_end : walked 9 ≡ record { across = pos 2; up = pos 4 }
past_the_end = refl
