-- Nodes and walks that are put on the board of a drawing in the making, and taken off it.
use Rattle.std.specs.Prelude.{◌≡◌, ◌<◌, ◌==◌, ◌&&◌, not, Bool, true, false, ℕ, List, [], ◌∷◌, length, map, fold, replicate, if◌then◌else◌, Some, None, All, Contains}
use Rattle.std.specs.List.{list_all}
use Rattle.map_base.specs.declared.ids.NodeId.{NodeId}
use Rattle.map_base.specs.declared.ids.SegId.{SegId}
use Rattle.graph_core.specs.declared.parts.GraphParts.{GraphParts}
use Rattle.line_chains.specs.declared.chain.Chain.{Chain}
use Rattle.line_chains.specs.declared.chain.ChainStep.{ChainStep}
use Rattle.octi_grid.specs.declared.point.GridPoint.{GridPoint}
use Rattle.octi_grid.specs.Legal.{is_even}
use Rattle.octi_grid.specs.Ways.{after, doubled}
use Rattle.octi_grid.specs.Walks.{points_of, PlainWalk}
use Rattle.grid_board.specs.Boards.{contains}
use Rattle.run_laying.specs.Attempts.{inner_nodes}
use Rattle.run_laying.specs.Laying.{board_of, Sketch}
use Rattle.run_laying.specs.Runs.{AreBeside, IsRun}
use Rattle.run_laying.specs.Sketches.{is_standing, lifted, point_of_node, stood, walk_in, with_walk_of, IsEndOf, IsFreeFor, IsLegalSketch}
use Rattle.drawing_search.specs.declared.group.Vector.{Vector}

-- ---- nodes and walks that are put on the board

-- nodes stand, and segments have walks
abbrev pub stood_at : Sketch → NodeId × GridPoint → Sketch
stood_at k known = stood k known.0 known.1

abbrev pub walked_by : Sketch → SegId × PlainWalk → Sketch
walked_by k known = with_walk_of k known.0 (Some known.1)

-- a node that doesn't stand may be put on a point
pub record CanStand (k : Sketch) (n : NodeId) (p : GridPoint) : Type 0 where
  pub node : n.0 < length k.points
  pub flag : n.0 < length k.stand
  pub lifted : is_standing k n.0 ≡ false
  pub inside : contains k.bounds p ≡ true
  pub even : is_even p ≡ true

-- a segment that has no walk may have one
pub record CanWalk (k : Sketch) (s : SegId) (w : PlainWalk) : Type 0 where
  pub segment : s.0 < length k.walks
  pub free : walk_in k s ≡ None
  pub inside : list_all (contains k.bounds) (points_of w) ≡ true

-- the same of some, one after another
abbrev pub CanStandEach : Sketch → List (NodeId × GridPoint) → Type 0
CanStandEach k [] = Unit {0}
CanStandEach k (m ∷ ms) = CanStand k m.0 m.1 × CanStandEach (stood_at k m) ms

abbrev pub CanWalkEach : Sketch → List (SegId × PlainWalk) → Type 0
CanWalkEach k [] = Unit {0}
CanWalkEach k (m ∷ ms) = CanWalk k m.0 m.1 × CanWalkEach (walked_by k m) ms

-- ---- what is taken off

-- a node may be taken off that stands, and at which no walk ends
pub record IsLiftable (graph : GraphParts) (k : Sketch) (n : NodeId) : Type 0 where
  pub legal : IsLegalSketch graph k
  pub stands : is_standing k n.0 ≡ true
  pub bare : (t : SegId) → (v : PlainWalk) → walk_in k t ≡ Some v → IsEndOf graph t n.0 → ⊥

-- no node is one of these twice
abbrev pub AreApart : List NodeId → Type 0
AreApart [] = Unit {0}
AreApart (n ∷ ns) = ((m : NodeId) → Contains ns m → m.0 ≡ n.0 → ⊥) × AreApart ns

abbrev pub AreLiftable : GraphParts → Sketch → List NodeId → Type 0
AreLiftable graph k [] = Unit {0}
AreLiftable graph k (n ∷ ns) = IsLiftable graph k n × AreLiftable graph (lifted k n) ns

-- steps lose their walks, and then the nodes between them are taken off
abbrev pub without_walks : Sketch → List ChainStep → Sketch
without_walks k [] = k
without_walks k (t ∷ ts) = without_walks (with_walk_of k t.seg None) ts

abbrev pub without_run : Sketch → Chain → Sketch
without_run k c = fold lifted (without_walks k c.steps) (inner_nodes c.steps)

-- a run may be taken off whose nodes between the ends stand
pub record IsTakable (graph : GraphParts) (k : Sketch) (c : Chain) : Type 0 where
  pub legal : IsLegalSketch graph k
  pub run : IsRun graph c
  pub inner : AreLiftable graph (without_walks k c.steps) (inner_nodes c.steps)

abbrev pub AreTakable : GraphParts → Sketch → List Chain → Type 0
AreTakable graph k [] = Unit {0}
AreTakable graph k (c ∷ cs) = IsTakable graph k c × AreTakable graph (without_run k c) cs

-- runs may be laid, one after another: their ends stand, the nodes between them don't, and their segments have no walk
pub record AreLayable (graph : GraphParts) (k : Sketch) (cs : List Chain) : Type 0 where
  pub legal : IsLegalSketch graph k
  pub runs : All (IsRun graph) cs
  pub beside : AreBeside cs
  pub free : All (IsFreeFor k) cs

-- ---- nodes that move

abbrev pub moved_by : Vector → GridPoint → GridPoint
moved_by v p = after p (replicate v.count v.dir)

-- nodes with the points to which they move
abbrev pub all_moved : Vector → List (NodeId × GridPoint) → List (NodeId × GridPoint)
all_moved v moved = map (λ (m : NodeId × GridPoint). (m.0, moved_by v m.1)) moved

-- a point lies on the board, and no node and no walk has it
abbrev pub is_open : Sketch → GridPoint → Bool
is_open k p = contains k.bounds p && (not ((board_of k).is_node p) && not ((board_of k).is_taken (doubled p)))

abbrev pub has_room : Sketch → Vector → List (NodeId × GridPoint) → Bool
has_room k v moved = list_all (λ (m : NodeId × GridPoint). is_open k (moved_by v m.1)) moved

-- where a node stands once these have moved
abbrev pub point_after : Sketch → Vector → List (NodeId × GridPoint) → NodeId → GridPoint
point_after k v [] n = point_of_node k n.0
point_after k v (m ∷ ms) n = if m.0.0 == n.0 then moved_by v m.1 else point_after k v ms n

-- a node stands after a step of a run that lies between its ends, or it stood at that point before
abbrev pub StandsAfter : Bool → Sketch → ℕ → GridPoint → Type 0
StandsAfter true k n p = is_standing k n ≡ false
StandsAfter false k n p = (is_standing k n ≡ true) × (point_of_node k n ≡ p)
