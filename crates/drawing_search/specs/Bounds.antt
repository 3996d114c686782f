-- Lower bounds of runs, as they are kept.
use Rattle.std.specs.Prelude.{◌≡◌, ℕ, ◌+◌, ◌*◌, ◌-◌, ◌/◌, ◌≤◌, ◌^◌, ◌==◌, min, List, [], ◌∷◌, length, map, fold, if◌then◌else◌, Option, Some, None, slice_index, slice_index_or}
use Rattle.std.specs.Int.{bit_at}
use Rattle.std.specs.List.{range_with_len}
use Rattle.map_base.specs.declared.ids.NodeId.{NodeId}
use Rattle.map_base.specs.declared.ids.SegId.{SegId}
use Rattle.graph_core.specs.declared.parts.GraphParts.{GraphParts}
use Rattle.line_chains.specs.declared.chain.Chain.{Chain}
use Rattle.line_chains.specs.Chains.{end_of}
use Rattle.octi_grid.specs.declared.dir.Dir.{Dir}
use Rattle.octi_grid.specs.declared.point.GridPoint.{GridPoint}
use Rattle.octi_grid.specs.Ways.{number_of, reverse_of}
use Rattle.walk_search.specs.Reaching.{reach_of}
use Rattle.walk_search.specs.Routes.{directions}
use Rattle.drawing_weights.specs.Scales.{Scale}
use Rattle.run_laying.specs.Laying.{Sketch}
use Rattle.drawing_search.specs.declared.least.LeastTurns.{LeastTurns}
use Rattle.drawing_search.specs.Gains.{turns_by}
use Rattle.drawing_search.specs.Least.{free_nodes, least_beside, never, ports_for, straight_way, turn_price, turns_at_least}

-- the bounds of a run beside the walks of a sketch
pub record IsLeastOf (scale : Scale) (graph : GraphParts) (k : Sketch) (c : Chain) (l : LeastTurns) : Type 0 where
  pub by : l.by ≡ map (least_beside scale graph k c) (range_with_len 0 9)
  pub price : l.per_turn ≡ turn_price scale graph c.steps
  pub free : l.free_turns ≡ 4 * free_nodes scale graph c.steps

-- how many they are, and how large at most
pub record IsSmallLeast (l : LeastTurns) : Type 0 where
  pub each : length l.by ≡ 9
  pub by : (k : ℕ) → slice_index l.by k ≤ never
  pub price : l.per_turn ≤ 101
  pub free : l.free_turns ≤ 80000

-- the least of bounds and of a walk that leaves by one direction, comes in another, and makes lines turn over its ends by so
-- much
abbrev pub with_walk_by : LeastTurns → Dir → Dir → ℕ → LeastTurns
with_walk_by l first last overs =
    record l { by = map (λ k. min (slice_index l.by k) (overs + l.per_turn * turns_at_least first last k)) (range_with_len 0 9) }

-- the same of walks that come by one port, if it is allowed; and of walks that leave by one port, if it is, and come by any
abbrev pub with_last_by : LeastTurns → Dir → ℕ → Dir → Option ℕ → LeastTurns
with_last_by l first here e None = l
with_last_by l first here e (Some there) = with_walk_by l first (reverse_of e) (here + there)

abbrev pub with_first_by : LeastTurns → Dir → Option ℕ → List (Option ℕ) → LeastTurns
with_first_by l first None to = l
with_first_by l first (Some here) to = fold (λ (m : LeastTurns) (e : Dir). with_last_by m first here e (slice_index_or to (number_of e) None)) l directions

-- what turns weigh for a port that is allowed is a number that can be added to
abbrev pub IsSmallOver : Option ℕ → Type 0
IsSmallOver None = Unit {0}
IsSmallOver (Some weight) = weight ≤ 2 ^ 39

-- for each port that a segment may have at node n, what the turns of lines from it weigh; none for the others
abbrev pub overs_by : Scale → GraphParts → Sketch → ℕ → SegId → Dir → Option ℕ
overs_by scale graph k n s d = if bit_at (ports_for graph k n s) (number_of d) == 1 then Some (scale.overs * turns_by graph k n s d) else None

abbrev pub AreOvers : Scale → GraphParts → Sketch → ℕ → SegId → List (Option ℕ) → Type 0
AreOvers scale graph k n s overs = overs ≡ map (overs_by scale graph k n s) directions

-- what a run adds at least between two points
abbrev pub least_between : LeastTurns → GridPoint → GridPoint → ℕ
least_between l a b = reach_of a b + slice_index l.by (straight_way a b)

-- what its walk may cost at most between them where it may add so much
abbrev pub limit_between : LeastTurns → ℕ → GridPoint → GridPoint → ℕ
limit_between l may_add a b =
    if l.per_turn == 0 then may_add - slice_index l.by (straight_way a b) + l.free_turns
    else may_add - slice_index l.by (straight_way a b) + slice_index l.by (straight_way a b) / l.per_turn

-- what runs add at least together, where nodes stand at these points
abbrev pub gains_at_least : (NodeId → GridPoint) → List Chain → List LeastTurns → ℕ
gains_at_least at [] ls = 0
gains_at_least at (c ∷ cs) [] = 0
gains_at_least at (c ∷ cs) (l ∷ ls) = least_between l (at c.from) (at (end_of c)) + gains_at_least at cs ls

-- bounds of a run that were made beside no more walks than a sketch has: those beside its walks are no less
pub record IsBoundOf (scale : Scale) (graph : GraphParts) (k : Sketch) (c : Chain) (l : LeastTurns) : Type 0 where
  pub by : (way : ℕ) → way ≤ 8 → slice_index l.by way ≤ least_beside scale graph k c way
  pub price : l.per_turn ≡ turn_price scale graph c.steps
  pub free : l.free_turns ≡ 4 * free_nodes scale graph c.steps

-- each run has its bounds beside the walks of a sketch
abbrev pub HaveLeast : Scale → GraphParts → Sketch → List Chain → List LeastTurns → Type 0
HaveLeast scale graph k [] ls = Unit {0}
HaveLeast scale graph k (c ∷ cs) [] = ⊥
HaveLeast scale graph k (c ∷ cs) (l ∷ ls) = IsLeastOf scale graph k c l × HaveLeast scale graph k cs ls

-- or bounds that were made beside no more walks
abbrev pub HaveBounds : Scale → GraphParts → Sketch → List Chain → List LeastTurns → Type 0
HaveBounds scale graph k [] ls = Unit {0}
HaveBounds scale graph k (c ∷ cs) [] = ⊥
HaveBounds scale graph k (c ∷ cs) (l ∷ ls) = IsBoundOf scale graph k c l × HaveBounds scale graph k cs ls
