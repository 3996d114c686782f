-- Runs of taken points, from one to the right.
use Rattle.std.specs.Prelude.{◌≡◌, ℕ, ◌<◌, ◌≤◌, true, false, pos, ◌+ℤ◌, unsigned_abs, List, Option, Some, None, All}
use Rattle.std.specs.HashMap.{get, HashMap}
use Rattle.std.specs.declared.hash.FoldHasher.{FoldHasher}
use Rattle.std.specs.declared.hash.BuildHasherDefault.{BuildHasherDefault}
use Rattle.map_base.specs.declared.point.Point.{Point}
use Rattle.fixed_plane.specs.Plane.{IsInPlane}
use Rattle.shape_track.specs.Samples.{is_point}
use Rattle.feed_courses.specs.Places.{is_taken}
use Rattle.feed_courses.specs.Fit.{AreDistinct}

-- the point of a place on earth, before it is moved
pub record IsOnEarth (p : Point) : Type 0 where
  pub across : unsigned_abs p.x ≤ 200376000
  pub along : unsigned_abs p.y ≤ 100188000

-- so many units to the right
abbrev pub moved_right : Point → ℕ → Point
moved_right p steps = record { x = p.x +ℤ pos steps; y = p.y }

-- q lies so many units to the right of p, and all points from p on before it are taken
pub record IsRun (taken : List Point) (p q : Point) (steps : ℕ) : Type 0 where
  pub there : q ≡ moved_right p steps
  pub all : (k : ℕ) → k < steps → is_taken taken (moved_right p k) ≡ true

-- where p is not taken, nothing is known past it; else all points from p on before the known one are taken
abbrev pub LeadsPast : List Point → Point → Option Point → Type 0
LeadsPast taken p None = is_taken taken p ≡ false
LeadsPast taken p (Some q) = (steps : ℕ) × (0 < steps) × IsRun taken p q steps

-- points by points
abbrev pub PointMap : Type 0
PointMap = HashMap Point Point (BuildHasherDefault FoldHasher)

-- the taken points are different and in the plane, and the map leads past each of them
pub record AreKept (taken : List Point) (past : PointMap) : Type 0 where
  pub distinct : AreDistinct taken
  pub in_plane : All IsInPlane taken
  pub leads : (p : Point) → LeadsPast taken p (get is_point past p)
