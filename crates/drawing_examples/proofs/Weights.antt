-- Small cases of the definitions.
use Rattle.std.proofs.Common.{◌≡◌, ℤ, pos, List, [], ◌∷◌, ◌++◌, replicate, refl}
use Rattle.graph_core.specs.declared.parts.NodeKind.TheVariants.{Station}
use Rattle.graph_core.specs.declared.parts.GraphParts.{GraphParts}
use Rattle.octi_grid.specs.declared.dir.Dir.TheVariants as dir
use Rattle.octi_grid.specs.declared.point.GridPoint.{GridPoint}
use Rattle.octi_grid.specs.Walks.{PlainWalk}
use Rattle.drawing_weights.specs.Scales.{walk_weight_by, weight_by}
use Rattle.drawing_weights.specs.Weights.{point_of}
use Rattle.kept_walks.specs.Moves.{moves_scale}

abbrev at : ℤ → ℤ → GridPoint
at x y = record { x = x; y = y }

-- three stations in a row, a line over both segments
abbrev row : GraphParts
row = record {
  kinds = Station (record { 0 = 0 }) ∷ Station (record { 0 = 1 }) ∷ Station (record { 0 = 2 }) ∷ [];
  places = replicate 3 (record { x = pos 0; y = pos 0 });
  ends = (record { 0 = 0 }, record { 0 = 1 }) ∷ (record { 0 = 1 }, record { 0 = 2 }) ∷ [];
  lines = replicate 2 (record { 0 = 0 } ∷ []);
  rounds = (record { 0 = 0 } ∷ []) ∷ (record { 0 = 0 } ∷ record { 0 = 1 } ∷ []) ∷ (record { 0 = 1 } ∷ []) ∷ [];
  joins = [] ∷ [] ∷ [] ∷ [];
}

-- the middle one stands two steps north of the others
abbrev bent : List PlainWalk
bent =
    record { start = at (pos 0) (pos 0); steps = replicate 2 dir.NE ++ replicate 14 dir.E }
    ∷ record { start = at (pos 16) (pos 2); steps = replicate 14 dir.E ++ replicate 2 dir.SE } ∷ []

abbrev straight : List PlainWalk
straight =
    record { start = at (pos 0) (pos 0); steps = replicate 16 dir.E }
    ∷ record { start = at (pos 16) (pos 0); steps = replicate 16 dir.E } ∷ []

bent_weighs : weight_by moves_scale row bent bent ≡ 150
bent_weighs = refl

-- 128 for the walks, and 12 for the node that moved by two steps
straight_weighs : weight_by moves_scale row bent straight ≡ 140
straight_weighs = refl

-- a turn by 90 degrees counts 2, and eight times that
corner : walk_weight_by moves_scale (record { start = at (pos 0) (pos 0); steps = dir.N ∷ dir.N ∷ dir.E ∷ dir.E ∷ [] }) ≡ 34
corner = refl

middle : point_of row bent 1 ≡ at (pos 16) (pos 2)
middle = refl
