-- The order of directions clockwise from north, and when two directions are one.
use Rattle.std.specs.Prelude.{◌≡◌, ℕ, ℤ, pos, ◌-ℤ◌, ◌*ℤ◌, ◌<ℤ◌}
use Rattle.std.specs.Ordering.{int_cmp, nat_cmp, ordering_then}
use Rattle.std.specs.declared.cmp.Ordering.{Ordering}
use Rattle.std.specs.declared.cmp.Ordering.TheVariants.{Less, Equal, Greater}
use Rattle.map_base.specs.declared.point.Point.{Point}
use Rattle.whole_algebra.specs.Turns.{cross_of}

-- the way from one point to another: how far east, and how far north
abbrev pub way_of : Point → Point → Point
way_of p q = record { x = q.x -ℤ p.x; y = q.y -ℤ p.y }

-- the half turn of a way, by how it compares with none eastwards, and then northwards
abbrev pub half_by : Ordering → Ordering → ℕ
half_by Greater north = 1
half_by Less north = 2
half_by Equal Greater = 1
half_by Equal Less = 2
half_by Equal Equal = 0

-- the half turn in which a way points, clockwise from north: the first goes from north to just before
-- south, the second from south to just before north. 0 stands for no way at all
abbrev pub half_of : Point → ℕ
half_of way = half_by (int_cmp way.x (pos 0)) (int_cmp way.y (pos 0))

-- the order of two ways clockwise from north: by half turn, and in one half turn the way from which the
-- other turns right is the earlier
abbrev pub clockwise_of : Point → Point → Ordering
clockwise_of a b = ordering_then (nat_cmp (half_of a) (half_of b)) (int_cmp (cross_of a.x a.y b.x b.y) (pos 0))

-- the order of the directions from one point to two others
abbrev pub clockwise_from : Point → Point → Point → Ordering
clockwise_from from a b = clockwise_of (way_of from a) (way_of from b)

-- two ways point one way: s times the one is t times the other
pub record PointOneWay (a b : Point) : Type 0 where
  pub s : ℤ
  pub t : ℤ
  pub s_above : pos 0 <ℤ s
  pub t_above : pos 0 <ℤ t
  pub across : s *ℤ a.x ≡ t *ℤ b.x
  pub along : s *ℤ a.y ≡ t *ℤ b.y

-- two points lie in one direction from a third
abbrev pub LieInOneDirection : Point → Point → Point → Type 0
LieInOneDirection from a b = PointOneWay (way_of from a) (way_of from b)
