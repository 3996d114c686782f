-- What a group of attempts takes off the board.
use Rattle.std.specs.Prelude.{◌≡◌, ◌≤◌, ℕ, List, length, map, fold, All, Option, Some, None, option_map}
use Rattle.std.specs.List.{filter_map}
use Rattle.map_base.specs.declared.ids.NodeId.{NodeId}
use Rattle.map_base.specs.declared.ids.SegId.{SegId}
use Rattle.graph_core.specs.declared.parts.GraphParts.{GraphParts}
use Rattle.line_chains.specs.declared.chain.ChainStep.{ChainStep}
use Rattle.octi_grid.specs.declared.point.GridPoint.{GridPoint}
use Rattle.octi_grid.specs.Walks.{PlainWalk}
use Rattle.drawing_weights.specs.Scales.{Scale}
use Rattle.run_laying.specs.Attempts.{inner_nodes, Attempt}
use Rattle.run_laying.specs.Laying.{Sketch}
use Rattle.run_laying.specs.Runs.{IsFitting}
use Rattle.run_laying.specs.Sketches.{point_of_node, walk_in}
use Rattle.drawing_search.specs.declared.group.Group.{Group}
use Rattle.drawing_search.specs.declared.group.Vector.{Vector}
use Rattle.drawing_search.specs.declared.lifting.Lifted.{Lifted}
use Rattle.drawing_search.specs.Alike.{AreAlike}
use Rattle.drawing_search.specs.Bounds.{HaveLeast, IsSmallLeast}
use Rattle.drawing_search.specs.Changes.{stood_at, walked_by, AreApart, CanStandEach, CanWalkEach}
use Rattle.drawing_search.specs.Gains.{sketch_weight}
use Rattle.drawing_search.specs.Tries.{after_try, taken_off, tried, IsSettled, Tried}

-- nodes stand again, and segments have their walks again
abbrev pub put_back : Sketch → List (NodeId × GridPoint) → List (NodeId × GridPoint) → List (SegId × PlainWalk) → Sketch
put_back k moved inner walks = fold walked_by (fold stood_at (fold stood_at k moved) inner) walks

-- the walks that steps have, and the points of the nodes between them
abbrev pub walk_along : Sketch → ChainStep → Option (SegId × PlainWalk)
walk_along k t = option_map (λ (w : PlainWalk). (t.seg, w)) (walk_in k t.seg)

abbrev pub walks_along : Sketch → List ChainStep → List (SegId × PlainWalk)
walks_along k steps = filter_map (walk_along k) steps

abbrev pub points_along : Sketch → List ChainStep → List (NodeId × GridPoint)
points_along k steps = map (λ (n : NodeId). (n, point_of_node k n.0)) (inner_nodes steps)

-- all of that can be put back
pub record CanPutBack (k : Sketch) (ms ns : List (NodeId × GridPoint)) (ws : List (SegId × PlainWalk)) : Type 0 where
  pub moved : CanStandEach k ms
  pub inner : CanStandEach (fold stood_at k ms) ns
  pub walks : CanWalkEach (fold stood_at (fold stood_at k ms) ns) ws

-- The runs of a group and the nodes that move were taken off a drawing: the rest weighs so much, the points of the nodes
-- are known, all of it can be put back, wherever nodes lie meanwhile that don't stand, and each run has its bounds beside
-- the rest.
pub record IsLifted (scale : Scale) (graph : GraphParts) (first : List GridPoint) (g : Group) (old new : Sketch) (l : Lifted) : Type 0 where
  pub off : AreAlike new (taken_off graph old g.nodes g.runs)
  pub moved : l.moved.items ≡ map (λ (n : NodeId). (n, point_of_node old n.0)) g.nodes
  pub can : (k : Sketch) → AreAlike k new → CanPutBack k l.moved.items l.inner.items l.walks.items
  pub back : (k : Sketch) → AreAlike k new → put_back k l.moved.items l.inner.items l.walks.items ≡ old
  pub rest : l.rest ≡ sketch_weight scale graph first new
  pub light : l.rest ≤ sketch_weight scale graph first old
  pub each : length l.least.items ≡ length g.runs
  pub least : HaveLeast scale graph new g.runs l.least.items
  pub small : All IsSmallLeast l.least.items

-- What came of an attempt of a group by a vector, where its runs and nodes had been taken off a drawing of this weight: the
-- drawing after it, and what that weighs, if it makes the drawing lighter; else nothing that stands has changed.
abbrev pub attempt_by : Group → Vector → Attempt
attempt_by g v = record { nodes = g.nodes; dir = v.dir; count = v.count; runs = g.runs }

abbrev pub CameOf : Scale → GraphParts → List GridPoint → Group → Vector → Sketch → Sketch → Sketch → Option ℕ → Type 0
CameOf scale graph first g v whole old new None = (tried scale graph first whole (attempt_by g v) ≡ None) × AreAlike new old
CameOf scale graph first g v whole old new (Some weight) = (tried scale graph first whole (attempt_by g v) ≡ Some new) × IsSettled scale graph first new weight

abbrev pub IsAttempted : Scale → GraphParts → List GridPoint → Group → Lifted → Vector → Sketch → ℕ → Sketch → Option ℕ → Type 0
IsAttempted scale graph first g l v old weight new found =
    (whole : Sketch) → IsSettled scale graph first whole weight → IsFitting graph (attempt_by g v) → IsLifted scale graph first g whole old l → CameOf scale graph first g v whole old new found

-- what is off the board was taken off some drawing of this weight, and an attempt by a vector fits the graph and moves no node twice
pub record IsOff (scale : Scale) (graph : GraphParts) (first : List GridPoint) (g : Group) (l : Lifted) (v : Vector) (old : Sketch) (weight : ℕ) : Type 0 where
  pub whole : Sketch
  pub settled : IsSettled scale graph first whole weight
  pub fitting : IsFitting graph (attempt_by g v)
  pub lifted : IsLifted scale graph first g whole old l
  pub apart : AreApart g.nodes

-- what the attempts of a group change was taken off a whole drawing of this weight, and so many attempts were made
pub record IsTaken (scale : Scale) (graph : GraphParts) (first : List GridPoint) (g : Group) (most : ℕ) (whole k : Sketch) (weight made : ℕ) (l : Lifted) : Type 0 where
  pub settled : IsSettled scale graph first whole weight
  pub lifted : IsLifted scale graph first g whole k l
  pub few : made ≤ most

-- an attempt by a vector was made from a whole drawing, if it makes that lighter and not too many were made before; what its group
-- changes is off the drawing that came of it
pub record IsTriedFrom (scale : Scale) (graph : GraphParts) (first : List GridPoint) (g : Group) (most : ℕ) (v : Vector) (whole : Sketch) (before : ℕ) (k : Sketch) (weight made : ℕ) (l : Lifted) : Type 0 where
  pub next : Sketch
  pub taken : IsTaken scale graph first g most next k weight made l
  pub is : (let f : Tried = record { sketch = next; made = made } in f) ≡ after_try scale graph first most (record { sketch = whole; made = before }) (attempt_by g v)
