-- The range of the plane, and the point of a place in microdegrees.
use Rattle.std.specs.Prelude.{ℕ, ◌+◌, ◌*◌, ◌/◌, ◌≤◌, ℤ, pos, ◌*ℤ◌, unsigned_abs, List, [], ◌∷◌, slice_index}
use Rattle.map_base.specs.declared.point.Point.{Point}
use Rattle.whole_algebra.specs.Rounding.{floor_quotient}

-- the point lies within 300,000,000 decimetres of the origin, either way along each axis
pub record IsInPlane (p : Point) : Type 0 where
  pub across : unsigned_abs p.x ≤ 300000000
  pub along : unsigned_abs p.y ≤ 300000000

-- the band of a latitude in microdegrees: the whole degrees nearest to it, in steps of five degrees
abbrev pub band_at : ℤ → ℕ
band_at lat = (unsigned_abs lat + 2500000) / 5000000

-- for each band how long a degree of longitude is there, per mille of a degree of latitude
abbrev pub per_mille_table : List ℕ
per_mille_table = 1000 ∷ 996 ∷ 985 ∷ 966 ∷ 940 ∷ 906 ∷ 866 ∷ 819 ∷ 766 ∷ 707 ∷ 643 ∷ 574 ∷ 500 ∷ 423 ∷ 342 ∷ 259 ∷ 174 ∷ 87 ∷ 1 ∷ []

abbrev pub per_mille : ℕ → ℕ
per_mille band = slice_index per_mille_table band

-- the point of a place in microdegrees: 11,132 decimetres for each 10,000 microdegrees northwards, and of
-- that as much per mille eastwards as its band has
abbrev pub projected : ℤ → ℤ → ℕ → Point
projected lat lon band = record {
  x = floor_quotient (lon *ℤ pos (11132 * per_mille band)) 10000000;
  y = floor_quotient (lat *ℤ pos 11132) 10000;
}
