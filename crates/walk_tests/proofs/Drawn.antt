-- The points of the bent line lie near the origin.
use Rattle.std.proofs.Common.{◌≡◌, ℕ, true, pos, List, [], ◌∷◌, Some, subst}
use Rattle.octi_grid.specs.declared.dir.Dir.TheVariants as dir
use Rattle.octi_grid.specs.declared.point.GridPoint.{GridPoint}
use Rattle.octi_grid.specs.declared.walk.Run.{Run}
use Rattle.octi_grid.specs.Walks.{PlainWalk, walk_by, walk_of}
use Rattle.grid_board.specs.Points.{are_near}

abbrev pub origin : GridPoint
origin = record { x = pos 0; y = pos 0 }

abbrev pub middle : GridPoint
middle = record { x = pos 16; y = pos 2 }

abbrev pub up : List Run
up = record { dir = dir.NE; count = 2 } ∷ record { dir = dir.E; count = 14 } ∷ []

abbrev pub down : List Run
down = record { dir = dir.E; count = 14 } ∷ record { dir = dir.SE; count = 2 } ∷ []

told : {X : Type 0} (x y : X) → Some x ≡ Some y → x ≡ y
told x y e = cc

pub bent_near : (far : ℕ) → are_near far (walk_of origin up ∷ walk_of middle down ∷ []) ≡ true → (v w : PlainWalk) → walk_by origin up ≡ Some v → walk_by middle down ≡ Some w → are_near far (v ∷ w ∷ []) ≡ true
bent_near far near v w e f =
    subst (λ (p : PlainWalk). are_near far (p ∷ w ∷ []) ≡ true) (told (walk_of origin up) v e)
    (subst (λ (p : PlainWalk). are_near far (walk_of origin up ∷ p ∷ []) ≡ true) (told (walk_of middle down) w f) near)
