-- Walks as curves in the plane.
use Rattle.std.specs.Prelude.{◌≡◌, ◌≢◌, ℕ, ◌-◌, ◌*◌, ◌<◌, ◌≤◌, ◌⊎◌, nat_le, true, ℤ, pos, ◌+ℤ◌, ◌*ℤ◌, List, [], ◌∷◌, length, slice_index_or, if◌then◌else◌, Some, slice_get, Contains}
use Rattle.std.specs.List.{filter_map}
use Rattle.map_base.specs.declared.ids.SegId.{SegId}
use Rattle.octi_grid.specs.declared.dir.Dir.{Dir}
use Rattle.octi_grid.specs.declared.point.GridPoint.{GridPoint}
use Rattle.octi_grid.specs.Ways.{east_of, north_of, step_from}
use Rattle.octi_grid.specs.Walks.{PlainWalk}
use Rattle.octi_grid.specs.Costs.{clockwise_from}
use Rattle.octi_grid.specs.Legal.{is_even, port_of, puts_by, puts_of, Leg, Put}

-- a point of the plane, by its coordinates in n-th parts of a grid step
pub record PlanePoint : Type 0 where
  pub across : ℤ
  pub up : ℤ

-- a grid point in n-th parts
abbrev pub in_parts : ℕ → GridPoint → PlanePoint
in_parts n p = record { across = pos n *ℤ p.x; up = pos n *ℤ p.y }

-- the point t n-th parts of a step from p in a direction
abbrev pub on_step : ℕ → GridPoint → Dir → ℕ → PlanePoint
on_step n p d t = record {
  across = (pos n *ℤ p.x) +ℤ (pos t *ℤ east_of d);
  up = (pos n *ℤ p.y) +ℤ (pos t *ℤ north_of d);
}

-- the point t n-th parts of a step past the start of a way, along its steps
abbrev pub along : ℕ → GridPoint → List Dir → ℕ → PlanePoint
along n p [] t = in_parts n p
along n p (d ∷ ds) t = if nat_le t n then on_step n p d t else along n (step_from p d) ds (t - n)

-- The point t n-th parts of a step past the start of a walk. As t goes from 0 to the walk's length, this goes over all
-- points of the walk whose coordinates are whole in n-th parts, and then stays at its end. Each point of the walk with
-- rational coordinates is one of these for some n, so what holds for each n holds of all of them.
abbrev pub point_at : ℕ → PlainWalk → ℕ → PlanePoint
point_at n w t = along n w.start w.steps t

-- how long a walk is, in n-th parts of a step
abbrev pub length_in : ℕ → PlainWalk → ℕ
length_in n w = n * length w.steps

-- both segments end at a node, and their walks put it at this point
pub record IsCommonEnd (n : ℕ) (l m : Leg) (q : PlanePoint) : Type 0 where
  pub node : ℕ
  pub at : GridPoint
  pub of_one : Contains (puts_by l) (node, at)
  pub of_other : Contains (puts_by m) (node, at)
  pub there : q ≡ in_parts n at

-- the ports of the segments at a node that have a walk, in the order of its round
abbrev pub ports_round : List (List SegId) → List Leg → ℕ → List Dir
ports_round rounds legs n = filter_map (port_of legs n) (slice_index_or rounds n [])

-- a drawing that is clear in the plane, by the rounds of its nodes and its segments with their walks, in order
pub record IsPlaneDrawing (rounds : List (List SegId)) (legs : List Leg) : Type 0 where
  -- all walks that end at a node put it at one point, which is even, and no two nodes share a point
  pub one_point : (p q : Put) → Contains (puts_of legs) p → Contains (puts_of legs) q → p.0 ≡ q.0 → p.1 ≡ q.1
  pub one_node : (p q : Put) → Contains (puts_of legs) p → Contains (puts_of legs) q → p.1 ≡ q.1 → p.0 ≡ q.0
  pub even : (p : Put) → Contains (puts_of legs) p → is_even p.1 ≡ true
  -- no walk meets itself
  pub simple : (l : Leg) (n s t : ℕ) → Contains legs l → 0 < n → s ≤ length_in n l.1 → t ≤ length_in n l.1
      → point_at n l.1 s ≡ point_at n l.1 t → s ≡ t
  -- two walks share a point only where both their segments end at one node, and the point is the node's
  pub apart : (i j : ℕ) (l m : Leg) (n s t : ℕ) → slice_get legs i ≡ Some l → slice_get legs j ≡ Some m → i ≢ j → 0 < n
      → point_at n l.1 s ≡ point_at n m.1 t → IsCommonEnd n l m (point_at n l.1 s)
  -- no node lies on the walk of a segment that doesn't end there
  pub clear : (l : Leg) (p : Put) (n s : ℕ) → Contains legs l → Contains (puts_of legs) p → 0 < n
      → point_at n l.1 s ≡ in_parts n p.1 → (l.0.0.0 ≡ p.0) ⊎ (l.0.1.0 ≡ p.0)
  -- the ports round a node are distinct; and seen from any of them, of two later ones in the round the second is the
  -- farther one clockwise
  pub distinct : (n i j : ℕ) (a b : Dir) → n < length rounds → i < j → slice_get (ports_round rounds legs n) i ≡ Some a
      → slice_get (ports_round rounds legs n) j ≡ Some b → a ≢ b
  pub clockwise : (n i j k : ℕ) (a b c : Dir) → n < length rounds → i < j → j < k
      → slice_get (ports_round rounds legs n) i ≡ Some a → slice_get (ports_round rounds legs n) j ≡ Some b
      → slice_get (ports_round rounds legs n) k ≡ Some c → clockwise_from a b < clockwise_from a c
