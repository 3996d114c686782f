-- What a search promises.
use Rattle.std.specs.Prelude.{◌≡◌, ◌≤◌, ℕ, ◌==◌, List, [], ◌∷◌, if◌then◌else◌}
use Rattle.std.specs.List.{flat_map}
use Rattle.graph_core.specs.declared.parts.GraphParts.{GraphParts}
use Rattle.octi_grid.specs.declared.dir.Dir.TheVariants as dir
use Rattle.octi_grid.specs.Walks.{PlainWalk}
use Rattle.drawing_weights.specs.Scales.{weight_by, Scale}
use Rattle.grid_board.specs.declared.bounds.Bounds.{Bounds}
use Rattle.run_laying.specs.Attempts.{bounds_past, improving, Attempt}
use Rattle.run_laying.specs.Drawings.{IsOnBoard}
use Rattle.run_laying.specs.Searches.{after_passes, attempts_by, Found}
use Rattle.drawing_search.specs.declared.group.Group.{Group}
use Rattle.drawing_search.specs.declared.searching.Searched.{Searched}

-- the attempts of a group: one where nothing moves, else one for each vector
abbrev pub attempts_in : Group → List Attempt
attempts_in g = if g.lengths == 0 then record { nodes = g.nodes; dir = dir.N; count = 0; runs = g.runs } ∷ [] else attempts_by g.lengths g.nodes g.runs

abbrev pub attempts_of : List Group → List Attempt
attempts_of groups = flat_map attempts_in groups

-- What comes of a search on a board: the defined drawing, how many attempts were made, and what the drawing weighed before
-- them and weighs now. It is legal, lies on the board, and is no heavier than before.
abbrev pub found_on : GraphParts → Scale → Bounds → List Attempt → ℕ → ℕ → List PlainWalk → Found
found_on graph scale bounds attempts at_once most first =
    after_passes (improving graph bounds (weight_by scale graph first)) attempts at_once most most (record { walks = first; made = 0 })

pub record IsSearchedOn (graph : GraphParts) (scale : Scale) (bounds : Bounds) (attempts : List Attempt) (at_once most : ℕ) (first : List PlainWalk) (s : Searched) : Type 0 where
  pub drawing : s.drawing.walks ≡ (found_on graph scale bounds attempts at_once most first).walks
  pub made : s.made ≡ (found_on graph scale bounds attempts at_once most first).made
  pub before : s.before ≡ weight_by scale graph first first
  pub after : s.after ≡ weight_by scale graph first s.drawing.walks
  pub on_board : IsOnBoard graph bounds s.drawing.walks
  pub no_heavier : s.after ≤ s.before

-- the same on the board that reaches so many steps past the drawing: the walks are those that `searched` gives
abbrev pub IsSearched : GraphParts → Scale → ℕ → List Attempt → ℕ → ℕ → List PlainWalk → Searched → Type 0
IsSearched graph scale margin attempts at_once most first s = IsSearchedOn graph scale (bounds_past margin first) attempts at_once most first s
