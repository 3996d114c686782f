-- The hops from each station to the next.
use Rattle.std.specs.Prelude.{ℕ, ◌+◌, List, [], ◌∷◌, ◌++◌, Some, length, slice_range, sum_by}
use Rattle.map_base.specs.declared.point.Point.{Point}
use Rattle.shape_track.specs.Samples.{samples_of, Joins}

-- the points of a hop: its station, the samples from its place to the next station's, and that station
abbrev pub hop_points : List Point → Point → ℕ → Point → ℕ → List Point
hop_points samples from i to j = from ∷ (slice_range samples i (j + 1) ++ to ∷ [])

-- the hops from each station to the next, each as the samples of its points
abbrev pub hops_of : ℕ → List Point → List Point → List ℕ → List (List Point)
hops_of near samples [] is = []
hops_of near samples (s ∷ []) is = []
hops_of near samples (s ∷ t ∷ ss) [] = []
hops_of near samples (s ∷ t ∷ ss) (i ∷ []) = []
hops_of near samples (s ∷ t ∷ ss) (i ∷ j ∷ is) = samples_of near (hop_points samples s i t j) ∷ hops_of near samples (t ∷ ss) (j ∷ is)

-- how many samples the hops have in all
abbrev pub total_of : List (List Point) → ℕ
total_of hops = sum_by length hops

-- there is a hop from each station to the next, which begins and ends with the two, and in which each sample
-- is at most `near` from the next
abbrev pub AreJoined : ℕ → List Point → List (List Point) → Type 0
AreJoined near [] [] = Unit {0}
AreJoined near [] (hop ∷ hops) = ⊥
AreJoined near (s ∷ []) [] = Unit {0}
AreJoined near (s ∷ []) (hop ∷ hops) = ⊥
AreJoined near (s ∷ t ∷ ss) [] = ⊥
AreJoined near (s ∷ t ∷ ss) (hop ∷ hops) = Joins near (Some s) (Some t) hop × AreJoined near (t ∷ ss) hops
