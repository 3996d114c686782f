-- The definitions at small values.
use Rattle.std.proofs.Common.{◌≡◌, refl, ℕ, pos, negsuc, Bool, true, false, List, [], ◌∷◌, map}
use Rattle.map_base.specs.declared.point.Point.{Point}
use Rattle.track_net.specs.Nearness.{has_near, numbers_near}
use Rattle.track_net.specs.Nets.{net_points, all_edges, NetParts, edges_of_point, net_of_samples, net_over}

abbrev at : ℕ → ℕ → Point
at x y = record { x = pos x; y = pos y }

-- point 2 lies on the rim of the disk over points 0 and 1, so these have no edge
rim : all_edges 500 (at 0 0 ∷ at 1000 0 ∷ at 500 500 ∷ []) ≡ (2 ∷ []) ∷ (2 ∷ []) ∷ (0 ∷ 1 ∷ []) ∷ []
rim = refl

-- just outside the disk it parts them no more
outside_rim : all_edges 500 (at 0 0 ∷ at 1000 0 ∷ at 500 501 ∷ []) ≡ (1 ∷ 2 ∷ []) ∷ (0 ∷ 2 ∷ []) ∷ (0 ∷ 1 ∷ []) ∷ []
outside_rim = refl

-- at exactly three times `near` there is no edge, and just below there is one
three_times : all_edges 500 (at 0 0 ∷ at 1500 0 ∷ []) ≡ [] ∷ [] ∷ []
three_times = refl

below_three_times : all_edges 500 (at 0 0 ∷ at 1499 0 ∷ []) ≡ (1 ∷ []) ∷ (0 ∷ []) ∷ []
below_three_times = refl

-- a sample at exactly `near` from each net point becomes one, and a nearer one does not
exactly_near : net_points 500 (at 0 0 ∷ []) (at 500 0 ∷ at 999 0 ∷ at 0 500 ∷ []) ≡ at 0 0 ∷ at 500 0 ∷ at 0 500 ∷ []
exactly_near = refl

-- samples become net points in their order, and each is looked at against those before it
in_order : net_points 500 [] (at 0 0 ∷ at 400 0 ∷ at 800 0 ∷ at 400 0 ∷ []) ≡ at 0 0 ∷ at 800 0 ∷ []
in_order = refl

-- stations stay as they are, however near
stations_stay : net_of_samples 500 (at 0 0 ∷ at 10 0 ∷ []) (at 0 0 ∷ []) ≡ net_over 500 (at 0 0 ∷ at 10 0 ∷ [])
stations_stay = refl

near_ones : numbers_near 500 (at 0 0 ∷ at 499 0 ∷ at 500 0 ∷ []) (at 0 0) ≡ 0 ∷ 1 ∷ []
near_ones = refl

-- stations three times `near` apart, and samples of which the nearer one is left out
abbrev with_samples : NetParts
with_samples = net_of_samples 500 (at 0 0 ∷ at 1500 0 ∷ []) (at 499 0 ∷ at 500 0 ∷ at 1500 500 ∷ [])

samples_stand : with_samples.points ≡ at 0 0 ∷ at 1500 0 ∷ at 500 0 ∷ at 1500 500 ∷ []
samples_stand = refl

edges_stand : map (edges_of_point with_samples) (1 ∷ 2 ∷ []) ≡ (2 ∷ 3 ∷ []) ∷ (0 ∷ 1 ∷ []) ∷ []
edges_stand = refl

-- nearer than the distance, and at it
abbrev are_near : List Point → List Bool
are_near = map (has_near 500 (at 500 0 ∷ record { x = negsuc 0; y = negsuc 0 } ∷ []))

near_and_not : are_near (at 999 0 ∷ at 1000 0 ∷ record { x = negsuc 499; y = negsuc 0 }
    ∷ record { x = negsuc 500; y = negsuc 0 } ∷ [])
    ≡ true ∷ false ∷ true ∷ false ∷ []
near_and_not = refl
