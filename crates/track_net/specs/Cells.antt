-- Points by square cells of the plane.
use Rattle.std.specs.Prelude.{◌≡◌, ℕ, ◌+◌, ◌<◌, ◌/◌, ◌%◌, Bool, false, ◌&&◌, ℤ, pos, ◌+ℤ◌, ◌-ℤ◌, Vec, List, [], Option, Some, None, filter, length, All}
use Rattle.std.specs.Global.{Global}
use Rattle.std.specs.Ordering.{int_eq}
use Rattle.std.specs.List.{list_any, range_with_len}
use Rattle.std.specs.declared.hash.FoldHasher.{FoldHasher}
use Rattle.std.specs.declared.hash.BuildHasherDefault.{BuildHasherDefault}
use Rattle.std.specs.HashMap.{get, HashMap}
use Rattle.map_base.specs.declared.point.Point.{Point}
use Rattle.whole_algebra.specs.Rounding.{floor_quotient}
use Rattle.fixed_plane.specs.Plane.{IsInPlane}
use Rattle.track_net.specs.Nearness.{FindsNear, point_at, has_near}

-- the column and the row of the square cell, of a size, in which a point lies
abbrev pub cell_of : ℕ → Point → ℤ × ℤ
cell_of size p = (floor_quotient p.x size, floor_quotient p.y size)

abbrev pub is_cell : ℤ × ℤ → ℤ × ℤ → Bool
is_cell c d = int_eq c.0 d.0 && int_eq c.1 d.1

-- the nine cells that are a cell and those around it, by number
abbrev pub cell_around : ℤ × ℤ → ℕ → ℤ × ℤ
cell_around c i = (c.0 +ℤ (pos (i / 3) -ℤ pos 1), c.1 +ℤ (pos (i % 3) -ℤ pos 1))

-- lists by cells
abbrev pub CellMap : Type 0 → Type 0
CellMap X = HashMap (ℤ × ℤ) (Vec X Global) (BuildHasherDefault FoldHasher)

abbrev pub items_or_none : {X : Type 0} → Option (Vec X Global) → List X
items_or_none None = []
items_or_none (Some v) = v.items

-- what is kept for a cell
abbrev pub listed : {X : Type 0} → HashMap (ℤ × ℤ) (Vec X Global) (BuildHasherDefault FoldHasher) → ℤ × ℤ → List X
listed cells c = items_or_none (get is_cell cells c)

-- the numbers below n of the points that lie in a cell
abbrev pub numbers_in : ℕ → List Point → ℕ → ℤ × ℤ → List ℕ
numbers_in size ps n c = filter (λ k. is_cell (cell_of size (point_at ps k)) c) (range_with_len 0 n)

-- for each cell the numbers of its points are kept
abbrev pub AreListed : ℕ → List Point → ℕ → CellMap ℕ → Type 0
AreListed size ps n cells = (c : ℤ × ℤ) → listed cells c ≡ numbers_in size ps n c

-- points in buckets, as contracts see them: the points and the size
pub record BucketParts : Type 0 where
  pub points : List Point
  pub size : ℕ

-- the buckets hold what they are to
pub record AreBuckets (size : ℕ) (ps : List Point) (cells : CellMap ℕ) : Type 0 where
  pub some : 0 < size
  pub in_plane : All IsInPlane ps
  pub listed_each : AreListed size ps (length ps) cells

-- the points that lie in a cell
abbrev pub points_in : ℕ → List Point → ℤ × ℤ → List Point
points_in size ps c = filter (λ p. is_cell (cell_of size p) c) ps

-- for each cell its points are kept
abbrev pub AreKept : ℕ → List Point → CellMap Point → Type 0
AreKept size ps cells = (c : ℤ × ℤ) → listed cells c ≡ points_in size ps c

-- the cells hold what they are to
pub record KeepPoints (size : ℕ) (ps : List Point) (cells : CellMap Point) : Type 0 where
  pub some : 0 < size
  pub in_plane : All IsInPlane ps
  pub kept_each : AreKept size ps cells

-- some point that is kept for a cell or for those around it is nearer to a place than a distance; its own comes first
abbrev pub has_near_around : ℕ → Point → CellMap Point → ℤ × ℤ → Bool
has_near_around distance p cells c = list_any (λ i. has_near distance (listed cells (cell_around c ((i + 4) % 9))) p) (range_with_len 0 9)

-- what is found for one of the nine is near, and where nothing is found nothing is near
abbrev pub FindsAround : ℕ → Point → CellMap Point → ℤ × ℤ → Option Point → Type 0
FindsAround distance p cells c None = has_near_around distance p cells c ≡ false
FindsAround distance p cells c (Some q) = (cell : ℤ × ℤ) × FindsNear distance (listed cells cell) p (Some q)
