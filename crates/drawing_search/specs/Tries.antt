-- Attempts on a drawing in the making.
use Rattle.std.specs.Prelude.{◌≡◌, ℕ, ◌+◌, ◌<◌, ◌≤◌, ◌^◌, ◌&&◌, nat_le, nat_lt, not, Bool, List, length, map, fold, replicate, if◌then◌else◌, Option, Some, None}
use Rattle.std.specs.List.{range_with_len}
use Rattle.map_base.specs.declared.ids.NodeId.{NodeId}
use Rattle.graph_core.specs.declared.parts.GraphParts.{GraphParts}
use Rattle.line_chains.specs.declared.chain.Chain.{Chain}
use Rattle.octi_grid.specs.declared.point.GridPoint.{GridPoint}
use Rattle.octi_grid.specs.Ways.{after}
use Rattle.octi_grid.specs.Walks.{PlainWalk}
use Rattle.drawing_weights.specs.Scales.{Scale}
use Rattle.run_laying.specs.Attempts.{attempted_on, has_node, is_inner, is_on_runs, Attempt}
use Rattle.run_laying.specs.Laying.{all_laid, laid, Sketch}
use Rattle.run_laying.specs.Sketches.{is_standing, point_of_node, walk_in, IsLegalSketch}
use Rattle.drawing_search.specs.Alike.{AreAlike}
use Rattle.drawing_search.specs.Gains.{run_gain, sketch_weight}
use Rattle.drawing_search.specs.Trying.{IsWhole}

-- ---- what is taken off the board

-- a node stands that stood, if it is no inner one of a run and doesn't move
abbrev pub stays_standing : Sketch → List NodeId → List Chain → ℕ → Bool
stays_standing k nodes runs n = is_standing k n && (not (is_inner runs n) && not (has_node nodes n))

-- a segment keeps its walk, if it is on no run
abbrev pub walk_left : Sketch → List Chain → ℕ → Option PlainWalk
walk_left k runs s = if is_on_runs runs s then None else walk_in k (record { 0 = s })

-- a sketch without runs, and without nodes that are to move; these keep their points
abbrev pub taken_off : GraphParts → Sketch → List NodeId → List Chain → Sketch
taken_off graph k nodes runs = record {
  bounds = k.bounds;
  points = k.points;
  stand = map (stays_standing k nodes runs) (range_with_len 0 (length graph.kinds));
  walks = map (walk_left k runs) (range_with_len 0 (length graph.ends));
}

-- ---- attempts

-- where a node stands in an attempt
abbrev pub point_then : Sketch → Attempt → ℕ → GridPoint
point_then k a n = if has_node a.nodes n then after (point_of_node k n) (replicate a.count a.dir) else point_of_node k n

-- a node stands that stood, if it is no inner one of a run
abbrev pub stands_then : Sketch → List Chain → ℕ → Bool
stands_then k runs n = is_standing k n && not (is_inner runs n)

-- a sketch without the runs of an attempt, where its nodes have moved
abbrev pub without : GraphParts → Sketch → Attempt → Sketch
without graph k a = record {
  bounds = k.bounds;
  points = map (point_then k a) (range_with_len 0 (length graph.kinds));
  stand = map (stands_then k a.runs) (range_with_len 0 (length graph.kinds));
  walks = map (walk_left k a.runs) (range_with_len 0 (length graph.ends));
}

-- a new sketch, if there is one and it weighs less than so much
abbrev pub if_below : (Sketch → ℕ) → ℕ → Option Sketch → Option Sketch
if_below weigh weight None = None
if_below weigh weight (Some new) = if nat_lt (weigh new) weight then Some new else None

-- the sketch after an attempt that makes it lighter
abbrev pub tried : Scale → GraphParts → List GridPoint → Sketch → Attempt → Option Sketch
tried scale graph first k a = if_below (sketch_weight scale graph first) (sketch_weight scale graph first k) (attempted_on graph (without graph k a) a)

-- the sketch after attempts, and how many of them were made
pub record Tried : Type 0 where
  pub sketch : Sketch
  pub made : ℕ

abbrev pub with_tried : Tried → Option Sketch → Tried
with_tried f None = f
with_tried f (Some k) = record { sketch = k; made = f.made + 1 }

-- an attempt is made where it makes the drawing lighter, if not so many were made before
abbrev pub after_try : Scale → GraphParts → List GridPoint → ℕ → Tried → Attempt → Tried
after_try scale graph first most f a = if nat_le most f.made then f else with_tried f (tried scale graph first f.sketch a)

abbrev pub after_tries : Scale → GraphParts → List GridPoint → ℕ → List Attempt → Tried → Tried
after_tries scale graph first most attempts f = fold (after_try scale graph first most) f attempts

-- runs were laid, and the drawing then weighs so much, which is less than a weight; else nothing that stands has changed
abbrev pub AreAllLaid : Scale → GraphParts → List GridPoint → ℕ → List Chain → Sketch → Sketch → Option ℕ → Type 0
AreAllLaid scale graph first weight runs old new None = (if_below (sketch_weight scale graph first) weight (all_laid graph runs old) ≡ None) × AreAlike new old
AreAllLaid scale graph first weight runs old new (Some less) =
    (if_below (sketch_weight scale graph first) weight (all_laid graph runs old) ≡ Some new) × (less ≡ sketch_weight scale graph first new)

-- a run was laid, and it and the rest weigh so much, which leaves room below a limit for what is ahead; or nothing that stands
-- has changed, and the run would leave no room
abbrev pub IsRunLaid : Scale → GraphParts → List GridPoint → ℕ → ℕ → ℕ → Chain → Sketch → Sketch → Option ℕ → Type 0
IsRunLaid scale graph first limit weight ahead c old new None =
    AreAlike new old × ((mid : Sketch) → laid graph c old ≡ Some mid → limit ≤ weight + run_gain scale graph first mid c + ahead)
IsRunLaid scale graph first limit weight ahead c old new (Some more) =
    (laid graph c old ≡ Some new) × (more ≡ weight + run_gain scale graph first new c) × (more + ahead < limit)

-- a search between two attempts: a whole legal drawing, and what it weighs, which is a number that can be added to
pub record IsSettled (scale : Scale) (graph : GraphParts) (first : List GridPoint) (k : Sketch) (weight : ℕ) : Type 0 where
  pub legal : IsLegalSketch graph k
  pub whole : IsWhole k
  pub weight_is : weight ≡ sketch_weight scale graph first k
  pub small : weight ≤ 2 ^ 57
