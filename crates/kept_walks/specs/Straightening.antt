-- Which attempts straighten lines, and by what a drawing is weighed.
use Rattle.std.specs.Prelude.{ℕ, ◌||◌, Bool, false, List, [], ◌∷◌, ◌++◌, length, map, filter, slice_index_or}
use Rattle.std.specs.List.{flat_map, range_with_len}
use Rattle.map_base.specs.declared.ids.NodeId.{NodeId}
use Rattle.graph_core.specs.declared.parts.GraphParts.{GraphParts}
use Rattle.line_chains.specs.declared.chain.Chain.{Chain}
use Rattle.line_chains.specs.Chains.{chains_of, end_of, is_corner, nodes_of}
use Rattle.line_chains.specs.Bends.{corners_of}
use Rattle.octi_grid.specs.Walks.{PlainWalk}
use Rattle.drawing_weights.specs.Scales.{Scale}
use Rattle.run_laying.specs.Attempts.{has_node, run_of, Attempt}
use Rattle.run_laying.specs.Searches.{attempts_alone, attempts_by, searched, Found}
use Rattle.drawing_search.specs.declared.searching.Searched.{Searched}
use Rattle.kept_walks.specs.Lighter.{IsMadeLighter}

-- a drawing is weighed by what its walks cost and twelve times their turns, twelve times the turns that lines make over
-- nodes, and the squares of the distances of corners from where they first stood
abbrev pub straight_scale : List Bool → Scale
straight_scale corners = record { turns = 12; overs = 12; aparts = 1; is_held = λ n. slice_index_or corners n false }

-- the runs of single segments, by number
abbrev pub single_runs : GraphParts → List Chain
single_runs graph = map (λ s. run_of graph (record { 0 = s })) (range_with_len 0 (length graph.ends))

-- a run ends at one of these nodes, or begins there
abbrev pub ends_at : List NodeId → Chain → Bool
ends_at nodes c = has_node nodes c.from.0 || has_node nodes (end_of c).0

-- those that do
abbrev pub runs_at : List NodeId → List Chain → List Chain
runs_at nodes runs = filter (ends_at nodes) runs

-- nodes move together by vectors of so many lengths, 2, 4 and so on, and all runs that end at one of them are laid anew
abbrev pub moves_of : ℕ → List Chain → List NodeId → List Attempt
moves_of lengths runs nodes = attempts_by lengths nodes (runs_at nodes runs)

-- each of these nodes moves by 2, 4, 6 or 8 steps, and then the two ends of each run
abbrev pub moves_over : List Chain → List NodeId → List Attempt
moves_over runs nodes = flat_map (λ n. moves_of 4 runs (n ∷ [])) nodes ++ flat_map (λ (c : Chain). moves_of 4 runs (c.from ∷ end_of c ∷ [])) runs

-- all attempts of a pass: each chain is laid anew; corners move, and the ends of chains; nodes move, and the ends of
-- segments
abbrev pub straight_attempts : GraphParts → List Bool → List Attempt
straight_attempts graph corners =
    map attempts_alone (chains_of graph corners)
    ++ (moves_over (chains_of graph corners) (filter (is_corner corners) (nodes_of graph)) ++ moves_over (single_runs graph) (nodes_of graph))

-- the drawing after at most so many improving attempts, on cells of a side
abbrev pub straightened : GraphParts → ℕ → ℕ → List PlainWalk → Found
straightened graph cell most walks = searched graph (straight_scale (corners_of graph cell)) 20 (straight_attempts graph (corners_of graph cell)) most most walks

-- what straightening on cells of a side promises of the drawing that it makes
abbrev pub IsStraightened : GraphParts → ℕ → ℕ → List PlainWalk → Searched → Type 0
IsStraightened graph cell most first s =
    IsMadeLighter graph (straight_scale (corners_of graph cell)) 20 (straight_attempts graph (corners_of graph cell)) most most first s
