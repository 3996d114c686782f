-- The net over stations and samples: its points, and its edges.
use Rattle.std.specs.Prelude.{◌≡◌, ℕ, ◌+◌, ◌*◌, ◌<◌, ◌≤◌, Bool, ◌==◌, nat_le, not, ◌&&◌, if◌then◌else◌, List, [], ◌∷◌, ◌++◌, filter, fold, map, length, slice_index_or, All, Contains}
use Rattle.std.specs.List.{list_any, range_with_len}
use Rattle.map_base.specs.declared.point.Point.{Point}
use Rattle.fixed_plane.specs.Plane.{IsInPlane}
use Rattle.fixed_plane.specs.Measures.{dist2_of}
use Rattle.track_net.specs.Nearness.{point_at, is_nearer, has_near}

-- the net points with one more sample: it becomes a net point where no earlier one is nearer than `near`
abbrev pub with_sample : ℕ → List Point → Point → List Point
with_sample near ps sample = if has_near near ps sample then ps else ps ++ sample ∷ []

-- the net points: the stations, and then, sample by sample, each that becomes one
abbrev pub net_points : ℕ → List Point → List Point → List Point
net_points near stations samples = fold (with_sample near) stations samples

-- p lies in the disk over a and b, its rim included
abbrev pub is_in_disk : Point → Point → Point → Bool
is_in_disk a b p = nat_le (dist2_of a p + dist2_of p b) (dist2_of a b)

-- net point k is a third one, and lies in the disk over i and j
abbrev pub parts_them : List Point → ℕ → ℕ → ℕ → Bool
parts_them ps i j k = (not (k == i) && not (k == j)) && is_in_disk (point_at ps i) (point_at ps j) (point_at ps k)

-- net points i and j have an edge: they are two, they are nearer than three times `near`, and no third net point
-- lies in the disk over them
abbrev pub has_edge : ℕ → List Point → ℕ → ℕ → Bool
has_edge near ps i j =
    is_nearer (3 * near) (point_at ps i) (point_at ps j) && (not (i == j) && not (list_any (parts_them ps i j) (range_with_len 0 (length ps))))

-- the net points with which one has an edge, rising
abbrev pub edges_at : ℕ → List Point → ℕ → List ℕ
edges_at near ps i = filter (has_edge near ps i) (range_with_len 0 (length ps))

-- the same for each net point
abbrev pub all_edges : ℕ → List Point → List (List ℕ)
all_edges near ps = map (edges_at near ps) (range_with_len 0 (length ps))

-- a net: its points, and for each the numbers of the points with which it has an edge, rising
pub record NetParts : Type 0 where
  pub points : List Point
  pub edges : List (List ℕ)

-- the net over these points
abbrev pub net_over : ℕ → List Point → NetParts
net_over near ps = record { points = ps; edges = all_edges near ps }

-- the net over stations and samples
abbrev pub net_of_samples : ℕ → List Point → List Point → NetParts
net_of_samples near stations samples = net_over near (net_points near stations samples)

-- points of different numbers are different
abbrev pub AreDistinct : List Point → Type 0
AreDistinct ps = (i j : ℕ) → i < length ps → j < length ps → point_at ps i ≡ point_at ps j → i ≡ j

-- it is the net over its points, for some `near` from 20 to 20,000: at most 100,000 points of the plane, all of
-- them different
pub record IsNet (net : NetParts) : Type 0 where
  pub near : ℕ
  pub near_low : 20 ≤ near
  pub near_high : near ≤ 20000
  pub few : length net.points ≤ 100000
  pub in_plane : All IsInPlane net.points
  pub distinct : AreDistinct net.points
  pub edges : net.edges ≡ all_edges near net.points

-- the edges of a net point, none where there is no such point
abbrev pub edges_of_point : NetParts → ℕ → List ℕ
edges_of_point net i = slice_index_or net.edges i []

-- net points i and j have an edge
abbrev pub HasEdge : NetParts → ℕ → ℕ → Type 0
HasEdge net i j = Contains (edges_of_point net i) j

-- the numbers lead from i to j, each having an edge with the next
abbrev pub Leads : NetParts → ℕ → ℕ → List ℕ → Type 0
Leads net i j [] = i ≡ j
Leads net i j (k ∷ ks) = HasEdge net i k × Leads net k j ks

-- the net joins i and j
abbrev pub Joins : NetParts → ℕ → ℕ → Type 0
Joins net i j = (ks : List ℕ) × Leads net i j ks
