-- What a drawing in the making weighs, and what a run adds to it.
use Rattle.std.specs.Prelude.{◌≡◌, ℕ, ◌+◌, ◌*◌, ◌<◌, ◌≤◌, ◌==◌, ◌||◌, ◌&&◌, Bool, true, false, pos, List, [], ◌∷◌, length, map, drop, All, if◌then◌else◌, Option, Some, None, slice_index_or, vec_items}
use Rattle.std.specs.List.{range_with_len, sum_by}
use Rattle.map_base.specs.declared.ids.SegId.{SegId}
use Rattle.graph_core.specs.declared.parts.GraphParts.{GraphParts}
use Rattle.graph_core.specs.declared.parts.Join.{Join}
use Rattle.graph_core.specs.Consistent.{IsConsistent}
use Rattle.grid_board.specs.Points.{is_near}
use Rattle.octi_grid.specs.declared.dir.Dir.{Dir}
use Rattle.octi_grid.specs.declared.point.GridPoint.{GridPoint}
use Rattle.octi_grid.specs.Walks.{PlainWalk}
use Rattle.line_chains.specs.declared.chain.Chain.{Chain}
use Rattle.line_chains.specs.declared.chain.ChainStep.{ChainStep}
use Rattle.line_chains.specs.Chains.{end_of}
use Rattle.segment_router.specs.Routes.{port_at_node}
use Rattle.drawing_weights.specs.Scales.{apart_weight_by, joined_pairs, turn_over, walk_weight_by, Scale}
use Rattle.run_laying.specs.Laying.{board_under, first_seg_of, last_seg_of, Sketch}
use Rattle.run_laying.specs.Sketches.{is_standing, point_of_node, walk_in}
use Rattle.drawing_search.specs.declared.gains.Field.{Field}

-- ---- segments and nodes

-- a segment weighs its walk, if it has one
abbrev pub walk_weight_if : Scale → Option PlainWalk → ℕ
walk_weight_if scale None = 0
walk_weight_if scale (Some w) = walk_weight_by scale w

abbrev pub segment_weight : Scale → Sketch → SegId → ℕ
segment_weight scale k s = walk_weight_if scale (walk_in k s)

-- the pairs of segments at node n that lines join
abbrev pub pairs_at : GraphParts → ℕ → List (SegId × SegId)
pairs_at graph n = joined_pairs (slice_index_or graph.joins n [])

-- the turn that lines make over node n between two segments, if both have walks
abbrev pub turn_in : GraphParts → Sketch → ℕ → SegId × SegId → ℕ
turn_in graph k n pair = turn_over (port_at_node graph (board_under k) n pair.0) (port_at_node graph (board_under k) n pair.1)

-- the turns over node n together, and those of lines from one of its segments
abbrev pub turns_in : GraphParts → Sketch → ℕ → ℕ
turns_in graph k n = sum_by (turn_in graph k n) (pairs_at graph n)

abbrev pub has_segment : SegId → SegId × SegId → Bool
has_segment s pair = pair.0.0 == s.0 || pair.1.0 == s.0

abbrev pub turn_if : GraphParts → Sketch → ℕ → SegId → SegId × SegId → ℕ
turn_if graph k n s pair = if has_segment s pair then turn_in graph k n pair else 0

abbrev pub turns_from : GraphParts → Sketch → ℕ → SegId → ℕ
turns_from graph k n s = sum_by (turn_if graph k n s) (pairs_at graph n)

-- the turns of lines from a segment without a walk, where it had this port there
abbrev pub turn_by : GraphParts → Sketch → ℕ → SegId → Dir → SegId × SegId → ℕ
turn_by graph k n s port pair =
    if pair.0.0 == s.0 then turn_over (Some port) (port_at_node graph (board_under k) n pair.1)
    else if pair.1.0 == s.0 then turn_over (Some port) (port_at_node graph (board_under k) n pair.0)
    else 0

abbrev pub turns_by : GraphParts → Sketch → ℕ → SegId → Dir → ℕ
turns_by graph k n s port = sum_by (turn_by graph k n s port) (pairs_at graph n)

-- where node n stood first
abbrev pub first_point : List GridPoint → ℕ → GridPoint
first_point first n = slice_index_or first n (record { x = pos 0; y = pos 0 })

-- a node weighs for its distance where it stands
abbrev pub apart_in : Scale → List GridPoint → Sketch → ℕ → ℕ
apart_in scale first k n = apart_weight_by scale n (first_point first n) (point_of_node k n)

abbrev pub node_weight_in : Scale → GraphParts → List GridPoint → Sketch → ℕ → ℕ
node_weight_in scale graph first k n = scale.overs * turns_in graph k n + (if is_standing k n then apart_in scale first k n else 0)

-- a drawing in the making weighs its segments and its nodes
abbrev pub sketch_weight : Scale → GraphParts → List GridPoint → Sketch → ℕ
sketch_weight scale graph first k =
    sum_by (λ s. segment_weight scale k (record { 0 = s })) (range_with_len 0 (length graph.ends)) + sum_by (node_weight_in scale graph first k) (range_with_len 0 (length graph.kinds))

-- ---- runs

-- a step adds its walk, and where it leads to a node between the ends the turns over that, and its distance
abbrev pub step_gain : Scale → GraphParts → List GridPoint → Sketch → ChainStep → Bool → ℕ
step_gain scale graph first k t is_inner =
    if is_inner then segment_weight scale k t.seg + scale.overs * turns_from graph k t.to.0 t.seg + apart_in scale first k t.to.0 else segment_weight scale k t.seg

abbrev pub steps_gain : Scale → GraphParts → List GridPoint → Sketch → List ChainStep → ℕ
steps_gain scale graph first k [] = 0
steps_gain scale graph first k (t ∷ []) = step_gain scale graph first k t false
steps_gain scale graph first k (t ∷ u ∷ ts) = step_gain scale graph first k t true + steps_gain scale graph first k (u ∷ ts)

-- steps over segments of the graph, to nodes of it
abbrev pub AreOnGraph : GraphParts → List ChainStep → Type 0
AreOnGraph graph steps = All (λ (t : ChainStep). (t.seg.0 < length graph.ends) × (t.to.0 < length graph.kinds)) steps

-- a run adds its steps, and the turns of lines that go on from it at both ends
abbrev pub run_gain : Scale → GraphParts → List GridPoint → Sketch → Chain → ℕ
run_gain scale graph first k c =
    scale.overs * turns_from graph k c.from.0 (first_seg_of c.steps) + steps_gain scale graph first k c.steps + scale.overs * turns_from graph k (end_of c).0 (last_seg_of c)

-- ---- what stays while attempts are made

-- past the end of joins
abbrev pub no_join : Join
no_join = record { e = record { 0 = 0 }; f = record { 0 = 0 }; line = record { 0 = 0 } }

-- the join behind a place joins the same segments
abbrev pub same_as_next : Join → List Join → Bool
same_as_next j [] = false
same_as_next j (next ∷ rest) = next.e.0 == j.e.0 && next.f.0 == j.f.0

abbrev pub is_followed : List Join → ℕ → Bool
is_followed joins i = same_as_next (slice_index_or joins i no_join) (drop (i + 1) joins)

-- The field of a search: a graph with its joined pairs, a scale whose numbers are small, a flag for each node, and where
-- each node stood first, near the origin.
pub record IsField (f : Field) : Type 0 where
  pub graph : IsConsistent f.graph.now
  pub pairs : map vec_items f.pairs.now.held.items ≡ map joined_pairs f.graph.now.joins
  pub turns : f.by.turns ≤ 100
  pub overs : f.by.overs ≤ 100
  pub aparts : f.by.aparts ≤ 100
  pub held : length f.by.held.now ≡ length f.graph.now.kinds
  pub first : length f.first.now ≡ length f.graph.now.kinds
  pub near : All (λ (p : GridPoint). is_near 1920 p ≡ true) f.first.now
