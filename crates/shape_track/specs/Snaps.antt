-- The snap of stations on samples.
use Rattle.std.specs.Prelude.{◌≡◌, ℕ, ◌+◌, ◌<◌, ◌≤◌, IsTrue, pos, List, [], ◌∷◌, length, slice_index_or}
use Rattle.map_base.specs.declared.point.Point.{Point}
use Rattle.fixed_plane.specs.Measures.{dist2_of}
pub use Rattle.least_path.specs.Least.{is_not_after}

-- the sample at a place
abbrev pub sample_at : List Point → ℕ → Point
sample_at samples place = slice_index_or samples place (record { x = pos 0; y = pos 0 })

-- the places are one per station, in range, and none is below the one before it, nor the first below a floor
abbrev pub ArePlacesFrom : ℕ → ℕ → List Point → List ℕ → Type 0
ArePlacesFrom floor n [] [] = Unit {0}
ArePlacesFrom floor n [] (i ∷ is) = ⊥
ArePlacesFrom floor n (s ∷ ss) [] = ⊥
ArePlacesFrom floor n (s ∷ ss) (i ∷ is) = (floor ≤ i) × (i < n) × ArePlacesFrom i n ss is

-- the sum of the squares of the distances from each station to the sample at its place
abbrev pub cost_of : List Point → List Point → List ℕ → ℕ
cost_of samples [] is = 0
cost_of samples (s ∷ ss) [] = 0
cost_of samples (s ∷ ss) (i ∷ is) = dist2_of s (sample_at samples i) + cost_of samples ss is

-- the snap of stations on samples, from a floor on: non-falling places whose cost no such list undercuts,
-- and of those of that cost the first
pub record IsSnapFrom (floor : ℕ) (samples stations : List Point) (places : List ℕ) : Type 0 where
  pub placed : ArePlacesFrom floor (length samples) stations places
  pub least : (others : List ℕ) → ArePlacesFrom floor (length samples) stations others → cost_of samples stations places ≤ cost_of samples stations others
  pub first : (others : List ℕ) → ArePlacesFrom floor (length samples) stations others → cost_of samples stations others ≡ cost_of samples stations places → IsTrue (is_not_after places others)

-- the snap
abbrev pub IsSnap : List Point → List Point → List ℕ → Type 0
IsSnap samples stations places = IsSnapFrom 0 samples stations places

-- two lists that are both the snap of the same stations on the same samples are one list
abbrev pub IsOneSnap : List Point → List Point → List ℕ → List ℕ → Type 0
IsOneSnap samples stations places others = IsSnap samples stations places → IsSnap samples stations others → places ≡ others
