-- What a run adds at least, by the ports that its ends may have.
use Rattle.std.specs.Prelude.{ℕ, ◌+◌, ◌*◌, ◌==◌, ◌||◌, ◌&&◌, nat_lt, max, min, Bool, List, [], length, map, filter, fold, if◌then◌else◌, slice_index_or, ◌-ℤ◌, int_lt, unsigned_abs}
use Rattle.std.specs.Int.{bit_at}
use Rattle.std.specs.List.{flat_map}
use Rattle.map_base.specs.declared.ids.NodeId.{NodeId}
use Rattle.map_base.specs.declared.ids.SegId.{SegId}
use Rattle.graph_core.specs.declared.parts.GraphParts.{GraphParts}
use Rattle.line_chains.specs.declared.chain.Chain.{Chain}
use Rattle.line_chains.specs.declared.chain.ChainStep.{ChainStep}
use Rattle.line_chains.specs.Chains.{end_of}
use Rattle.octi_grid.specs.declared.dir.Dir.{Dir}
use Rattle.octi_grid.specs.declared.point.GridPoint.{GridPoint}
use Rattle.octi_grid.specs.Costs.{turn_between}
use Rattle.octi_grid.specs.Ways.{number_of, reverse_of}
use Rattle.walk_search.specs.Routes.{directions}
use Rattle.segment_router.specs.Ports.{allowed_mask}
use Rattle.segment_router.specs.Routes.{port_at_node}
use Rattle.drawing_weights.specs.Scales.{Scale}
use Rattle.run_laying.specs.Attempts.{inner_nodes}
use Rattle.run_laying.specs.Laying.{board_under, first_seg_of, last_seg_of, Sketch}
use Rattle.drawing_search.specs.Gains.{pairs_at, turns_by}

-- more than any drawing weighs
abbrev pub never : ℕ
never = 1125899906842624

-- ---- straight ways

-- the number of a diagonal direction
abbrev pub diagonal : Bool → Bool → ℕ
diagonal is_east is_north = if is_east then (if is_north then 1 else 3) else (if is_north then 7 else 5)

-- the number of the direction in which a straight way leads from one point to another; 8 where none does
abbrev pub straight_way : GridPoint → GridPoint → ℕ
straight_way a b =
    if unsigned_abs (b.x -ℤ a.x) == 0 then (if int_lt a.y b.y then 0 else 4)
    else if unsigned_abs (b.y -ℤ a.y) == 0 then (if int_lt a.x b.x then 2 else 6)
    else if unsigned_abs (b.x -ℤ a.x) == unsigned_abs (b.y -ℤ a.y) then diagonal (int_lt a.x b.x) (int_lt a.y b.y)
    else 8

-- how many turns of 45 degrees a walk makes at least that leaves by one direction, comes in another, and ends where a
-- straight way in the direction of a number leads, or none
abbrev pub turns_at_least : Dir → Dir → ℕ → ℕ
turns_at_least first last k = if number_of first == k && number_of last == k then turn_between first last else max 1 (turn_between first last)

-- ---- runs

-- the ports that a segment may have at node n beside the walks that there are
abbrev pub ports_for : GraphParts → Sketch → ℕ → SegId → ℕ
ports_for graph k n s = allowed_mask (slice_index_or graph.rounds n []) (port_at_node graph (board_under k) n) s

abbrev pub allowed_dirs : GraphParts → Sketch → ℕ → SegId → List Dir
allowed_dirs graph k n s = filter (λ d. bit_at (ports_for graph k n s) (number_of d) == 1) directions

-- no line goes over a node of a run, or that weighs nothing
abbrev pub is_free_node : Scale → GraphParts → NodeId → Bool
is_free_node scale graph n = (length (pairs_at graph n.0) == 0) || (scale.overs == 0)

abbrev pub free_nodes : Scale → GraphParts → List ChainStep → ℕ
free_nodes scale graph steps = length (filter (is_free_node scale graph) (inner_nodes steps))

-- what a turn of 45 degrees in the walk of a run weighs at least: it may lie at a node between its steps
abbrev pub turn_price : Scale → GraphParts → List ChainStep → ℕ
turn_price scale graph steps =
    if length steps == 1 then 1 + scale.turns
    else if nat_lt 0 (free_nodes scale graph steps) then 0
    else min scale.overs (1 + scale.turns)

-- what a run adds at least beside what it costs to come over, where its walk leaves by one port and comes by another
abbrev pub least_by : Scale → GraphParts → Sketch → Chain → ℕ → Dir → Dir → ℕ
least_by scale graph k c way d e =
    scale.overs * turns_by graph k c.from.0 (first_seg_of c.steps) d
    + scale.overs * turns_by graph k (end_of c).0 (last_seg_of c) e
    + turn_price scale graph c.steps * turns_at_least d (reverse_of e) way

-- the least of that over all ports that are allowed
abbrev pub least_beside : Scale → GraphParts → Sketch → Chain → ℕ → ℕ
least_beside scale graph k c way =
    fold min never (flat_map (λ d. map (least_by scale graph k c way d) (allowed_dirs graph k (end_of c).0 (last_seg_of c))) (allowed_dirs graph k c.from.0 (first_seg_of c.steps)))
