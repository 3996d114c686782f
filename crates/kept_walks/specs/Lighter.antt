-- What a search makes of a drawing.
use Rattle.std.specs.Prelude.{◌≡◌, ◌≤◌, ◌⊎◌, ℕ, ◌+◌, true, List, length, None, All}
use Rattle.graph_core.specs.declared.parts.GraphParts.{GraphParts}
use Rattle.octi_grid.specs.Walks.{PlainWalk}
use Rattle.octi_grid.specs.Legal.{legal}
use Rattle.grid_board.specs.Points.{are_near}
use Rattle.drawing_weights.specs.Scales.{weight_by, Scale}
use Rattle.run_laying.specs.Attempts.{bounds_past, improving, Attempt}
use Rattle.run_laying.specs.Searches.{searched}
use Rattle.drawing_search.specs.declared.searching.Searched.{Searched}

-- none of these attempts makes a drawing lighter than it is, on the board that reaches so many steps past the first one
abbrev pub NoneImproves : GraphParts → Scale → ℕ → List Attempt → List PlainWalk → List PlainWalk → Type 0
NoneImproves graph scale margin attempts first walks =
    All (λ (a : Attempt). improving graph (bounds_past margin first) (weight_by scale graph first) walks a ≡ None) attempts

-- What comes of a search: the defined drawing, how many attempts were made, and what the drawing weighed before them and
-- weighs now. It is legal, with a walk for each segment, lies at most as many steps farther out as the board reaches past
-- the first one, and is no heavier; and as many attempts were made as may be, or none is left that makes it lighter.
pub record IsMadeLighter (graph : GraphParts) (scale : Scale) (margin : ℕ) (attempts : List Attempt) (at_once most : ℕ)
    (first : List PlainWalk) (s : Searched) : Type 0 where
  pub drawing : s.drawing.walks ≡ (searched graph scale margin attempts at_once most first).walks
  pub made : s.made ≡ (searched graph scale margin attempts at_once most first).made
  pub before : s.before ≡ weight_by scale graph first first
  pub after : s.after ≡ weight_by scale graph first s.drawing.walks
  pub legal : legal graph s.drawing.walks ≡ true
  pub each : length s.drawing.walks ≡ length graph.ends
  pub near : (far : ℕ) → are_near far first ≡ true → are_near (far + margin) s.drawing.walks ≡ true
  pub no_heavier : s.after ≤ s.before
  pub to_the_end : (s.made ≡ most) ⊎ NoneImproves graph scale margin attempts first s.drawing.walks
