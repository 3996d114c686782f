-- Moves: nodes move one at a time.
use Rattle.std.specs.Prelude.{ℕ, true, List, [], ◌∷◌}
use Rattle.std.specs.List.{flat_map}
use Rattle.graph_core.specs.declared.parts.GraphParts.{GraphParts}
use Rattle.line_chains.specs.Chains.{nodes_of}
use Rattle.octi_grid.specs.Walks.{PlainWalk}
use Rattle.drawing_weights.specs.Scales.{Scale}
use Rattle.run_laying.specs.Attempts.{Attempt}
use Rattle.run_laying.specs.Searches.{searched, Found}
use Rattle.drawing_search.specs.declared.searching.Searched.{Searched}
use Rattle.kept_walks.specs.Lighter.{IsMadeLighter, NoneImproves}
use Rattle.kept_walks.specs.Straightening.{moves_of, single_runs}

-- a drawing is weighed by what its walks cost and eight times their turns, and three times the squares of the distances of
-- all nodes from where they first stood
abbrev pub moves_scale : Scale
moves_scale = record { turns = 8; overs = 0; aparts = 3; is_held = λ n. true }

-- by number each node moves by two steps, and its segments are laid anew by number
abbrev pub move_attempts : GraphParts → List Attempt
move_attempts graph = flat_map (λ n. moves_of 1 (single_runs graph) (n ∷ [])) (nodes_of graph)

-- the drawing after at most so many moves, each the first attempt that makes it lighter
abbrev pub improved : GraphParts → List PlainWalk → ℕ → Found
improved graph first moves = searched graph moves_scale 4 (move_attempts graph) 1 moves first

-- no move makes a drawing lighter
abbrev pub NoMoveImproves : GraphParts → List PlainWalk → List PlainWalk → Type 0
NoMoveImproves graph first walks = NoneImproves graph moves_scale 4 (move_attempts graph) first walks

-- what moves promise of the drawing that they make
abbrev pub IsImproved : GraphParts → List PlainWalk → ℕ → Searched → Type 0
IsImproved graph first moves s = IsMadeLighter graph moves_scale 4 (move_attempts graph) 1 moves first s
