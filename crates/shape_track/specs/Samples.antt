-- The samples of a list of points, and what it is for points to join two ends.
use Rattle.std.specs.Prelude.{◌≡◌, ℕ, zero, suc, ◌+◌, ◌*◌, ◌≤◌, Bool, true, false, ◌&&◌, if◌then◌else◌, nat_le, pos, ◌+ℤ◌, ◌-ℤ◌, ◌*ℤ◌, List, [], ◌∷◌, ◌++◌, map, Option, Some, None, slice_index_or}
use Rattle.std.specs.List.{range_with_len}
use Rattle.std.specs.Ordering.{int_eq}
use Rattle.map_base.specs.declared.point.Point.{Point}
use Rattle.whole_algebra.specs.Rounding.{floor_quotient}
use Rattle.fixed_plane.specs.Measures.{dist2_of}

-- n parts of half of `near` reach as far as two points are apart, the square of whose distance is d
abbrev pub reaches : ℕ → ℕ → ℕ → Bool
reaches near d n = nat_le (4 * d) (n * n * (near * near))

-- the first number from n on that reaches, sought among that many numbers
abbrev pub first_that_reaches : ℕ → ℕ → ℕ → ℕ → ℕ
first_that_reaches near d n zero = n
first_that_reaches near d n (suc more) = elim (reaches near d n) [ true ↦ n | false ↦ first_that_reaches near d (n + 1) more ]

-- into how many parts a piece is cut: the least number, at least 1, that reaches
abbrev pub parts_of : ℕ → ℕ → ℕ
parts_of near d = first_that_reaches near d 1 (2 * d)

-- where part i of n begins on the way from a to b, rounded downwards
abbrev pub part_point : Point → Point → ℕ → ℕ → Point
part_point a b n i = record {
  x = a.x +ℤ floor_quotient ((b.x -ℤ a.x) *ℤ pos i) n;
  y = a.y +ℤ floor_quotient ((b.y -ℤ a.y) *ℤ pos i) n;
}

-- where the n parts of the way from a to b begin
abbrev pub part_points : Point → Point → ℕ → List Point
part_points a b n = map (part_point a b n) (range_with_len 0 n)

-- the same for the least number of parts
abbrev pub piece_points : ℕ → Point → Point → List Point
piece_points near a b = part_points a b (parts_of near (dist2_of a b))

-- the beginnings of the parts of each piece, and then the last point
abbrev pub cut_points : ℕ → List Point → List Point
cut_points near [] = []
cut_points near (p ∷ []) = p ∷ []
cut_points near (p ∷ q ∷ ps) = piece_points near p q ++ cut_points near (q ∷ ps)

-- the point at a place
abbrev pub point_at : List Point → ℕ → Point
point_at points place = slice_index_or points place (record { x = pos 0; y = pos 0 })

abbrev pub is_point : Point → Point → Bool
is_point p q = int_eq p.x q.x && int_eq p.y q.y

-- a point is a repeat where it equals the one before it
abbrev pub is_repeat : Option Point → Point → Bool
is_repeat None p = false
is_repeat (Some q) p = is_point q p

-- the points after one of them, or from the first on, less each that equals the one before it
abbrev pub without_repeats : Option Point → List Point → List Point
without_repeats before [] = []
without_repeats before (p ∷ ps) = (if is_repeat before p then [] else p ∷ []) ++ without_repeats (Some p) ps

-- the samples of a list of points
abbrev pub samples_of : ℕ → List Point → List Point
samples_of near ps = without_repeats None (cut_points near ps)

-- each point is at most `near` from the next
abbrev pub AreClose : ℕ → List Point → Type 0
AreClose near [] = Unit {0}
AreClose near (p ∷ []) = Unit {0}
AreClose near (p ∷ q ∷ ps) = (dist2_of p q ≤ near * near) × AreClose near (q ∷ ps)

abbrev pub first_of : List Point → Option Point
first_of [] = None
first_of (p ∷ ps) = Some p

abbrev pub last_of : List Point → Option Point
last_of [] = None
last_of (p ∷ []) = Some p
last_of (p ∷ q ∷ ps) = last_of (q ∷ ps)

-- the points begin and end with these two, and each is at most `near` from the next
pub record Joins (near : ℕ) (from to : Option Point) (ps : List Point) : Type 0 where
  pub begins : first_of ps ≡ from
  pub ends : last_of ps ≡ to
  pub close : AreClose near ps
