-- Moves that make a drawing straighter.
use Rattle.std.specs.Prelude.{ℕ, List}
use Rattle.graph_core.specs.declared.parts.GraphParts.{GraphParts}
use Rattle.octi_grid.specs.Walks.{PlainWalk}
use Rattle.drawing_weights.specs.Scales.{weight_by}
use Rattle.kept_walks.specs.Moves.{improved, moves_scale}
use Rattle.graph_maps.specs.declared.improvement.Improvement.{Improvement}
use Rattle.graph_maps.specs.Problems.{Drawn}

-- the walks after at most so many moves
abbrev pub walks_after : ℕ → GraphParts → List PlainWalk → List PlainWalk
walks_after moves graph walks = (improved graph walks moves).walks

-- a drawing after at most so many moves; its line graph and its problem stay
abbrev pub after_moves : ℕ → Drawn → Drawn
after_moves moves drawn = record drawn { walks = walks_after moves drawn.graph drawn.walks }

-- what a drawing weighs before at most so many moves and after them, and how many are made
abbrev pub improvement_of : ℕ → GraphParts → List PlainWalk → Improvement
improvement_of moves graph walks = record {
  before = weight_by moves_scale graph walks walks;
  after = weight_by moves_scale graph walks (walks_after moves graph walks);
  made = (improved graph walks moves).made;
}
