-- Points that are near to others.
use Rattle.std.specs.Prelude.{◌≡◌, ℕ, ◌*◌, Bool, true, false, nat_lt, pos, List, filter, length, slice_index_or, Contains, Option, Some, None}
use Rattle.std.specs.List.{list_any, range_with_len}
use Rattle.map_base.specs.declared.point.Point.{Point}
use Rattle.fixed_plane.specs.Measures.{dist2_of}

-- the point of a number
abbrev pub point_at : List Point → ℕ → Point
point_at ps i = slice_index_or ps i (record { x = pos 0; y = pos 0 })

-- two points are nearer to one another than a distance
abbrev pub is_nearer : ℕ → Point → Point → Bool
is_nearer distance p q = nat_lt (dist2_of p q) (distance * distance)

-- some point of a list is nearer to p than a distance
abbrev pub has_near : ℕ → List Point → Point → Bool
has_near distance ps p = list_any (λ q. is_nearer distance q p) ps

-- the numbers of the points that are nearer to p than a distance, rising
abbrev pub numbers_near : ℕ → List Point → Point → List ℕ
numbers_near distance ps p = filter (λ k. is_nearer distance p (point_at ps k)) (range_with_len 0 (length ps))

-- each number of either list stands in the other
abbrev pub HaveTheSame : List ℕ → List ℕ → Type 0
HaveTheSame xs ys = ((k : ℕ) → Contains xs k → Contains ys k) × ((k : ℕ) → Contains ys k → Contains xs k)

-- what is found is a point of a list that is nearer to p than a distance, and nothing where there is none
abbrev pub FindsNear : ℕ → List Point → Point → Option Point → Type 0
FindsNear distance ps p None = has_near distance ps p ≡ false
FindsNear distance ps p (Some q) = Contains ps q × (is_nearer distance q p ≡ true)
