-- Small cases of the definitions.
use Rattle.std.proofs.Common.{◌≡◌, ℤ, pos, negsuc, List, [], ◌∷◌, refl}
use Rattle.octi_grid.specs.declared.dir.Dir.{Dir}
use Rattle.octi_grid.specs.declared.dir.Dir.TheVariants as dir
use Rattle.octi_grid.specs.Walks.{PlainWalk}
use Rattle.line_offsets.specs.declared.corner.Corner.{Corner}
use Rattle.line_offsets.specs.Shifts.{turn_of}
use Rattle.line_offsets.specs.Paths.{line_path}

abbrev walk_from : ℤ → ℤ → List Dir → PlainWalk
walk_from x y steps = record { start = record { x = x; y = y }; steps = steps }

abbrev corner : ℤ → ℤ → Corner
corner x y = record { x = x; y = y }

-- two steps north-east, one east, one place to the right
turned : line_path (walk_from (pos 0) (pos 0) (dir.NE ∷ dir.NE ∷ dir.E ∷ [])) (pos 1) ≡ corner (pos 5) (pos 5) ∷ corner (pos 203) (negsuc 192) ∷ corner (pos 300) (negsuc 192) ∷ []
turned = refl

-- two lines on one segment, one to the left and one to the right
left : line_path (walk_from (pos 0) (pos 2) (dir.E ∷ dir.E ∷ [])) (negsuc 0) ≡ corner (pos 0) (negsuc 206) ∷ corner (pos 200) (negsuc 206) ∷ []
left = refl

right : line_path (walk_from (pos 0) (pos 2) (dir.E ∷ dir.E ∷ [])) (pos 1) ≡ corner (pos 0) (negsuc 192) ∷ corner (pos 200) (negsuc 192) ∷ []
right = refl

-- the middle line, at a right angle and at a sharp one
middle : line_path (walk_from (negsuc 0) (pos 0) (dir.N ∷ dir.E ∷ dir.SE ∷ [])) (pos 0) ≡ corner (negsuc 99) (pos 0) ∷ corner (negsuc 99) (negsuc 99) ∷ corner (pos 0) (negsuc 99) ∷ corner (pos 100) (pos 0) ∷ []
middle = refl

sharp : turn_of dir.N dir.SE ≡ (pos 7, pos 17)
sharp = refl

diagonal : turn_of dir.NE dir.NW ≡ (pos 10, pos 0)
diagonal = refl
