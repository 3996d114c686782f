-- The points of a way are its start and those after it.
use Rattle.std.proofs.Common.{◌≡◌, List, [], ◌∷◌, ap, refl}
use Rattle.octi_grid.specs.declared.dir.Dir.{Dir}
use Rattle.octi_grid.specs.declared.point.GridPoint.{GridPoint}
use Rattle.octi_grid.specs.Taking.{trail}
use Rattle.octi_grid.specs.Ways.{points_from, step_from}

pub points_trail : (p : GridPoint) (ds : List Dir) → points_from p ds ≡ p ∷ trail p ds
points_trail p [] = refl
points_trail p (d ∷ ds) = ap (λ (ps : List GridPoint). p ∷ ps) (points_trail (step_from p d) ds)
