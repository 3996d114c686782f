-- Small cases, worked by hand.
use Rattle.std.proofs.Common.{◌≡◌, pos, negsuc, refl, ℕ, true, false, List, [], ◌∷◌, map}
use Rattle.map_base.specs.declared.point.Point.{Point}
use Rattle.shape_track.specs.Samples.{parts_of, samples_of}
use Rattle.shape_track.specs.Snaps.{cost_of, is_not_after}
use Rattle.shape_track.specs.Choices.{snap_of}
use Rattle.shape_track.specs.Hops.{hop_points, hops_of, total_of}

abbrev at : ℕ → Point
at x = record { x = pos x; y = pos 0 }

-- half of 500 goes four times into 1000, and five times into 1001
four_parts : parts_of 500 1000000 ≡ 4
four_parts = refl

five_parts : parts_of 500 1002001 ≡ 5
five_parts = refl

-- no distance is one part
one_part : parts_of 20 0 ≡ 1
one_part = refl

quarters : samples_of 500 (at 0 ∷ at 1000 ∷ []) ≡ at 0 ∷ at 250 ∷ at 500 ∷ at 750 ∷ at 1000 ∷ []
quarters = refl

-- a point that stands twice is one sample, and one that comes again later is another
repeated : samples_of 20 (at 0 ∷ at 0 ∷ at 10 ∷ at 0 ∷ []) ≡ at 0 ∷ at 10 ∷ at 0 ∷ []
repeated = refl

-- the parts of an odd way are rounded downwards, also below zero
below_zero : samples_of 20 (record { x = pos 0; y = pos 0 } ∷ record { x = negsuc 14; y = pos 0 } ∷ []) ≡ at 0 ∷ record { x = negsuc 7; y = pos 0 } ∷ record { x = negsuc 14; y = pos 0 } ∷ []
below_zero = refl

-- both stations at one sample cost less than in the order of the way
together : cost_of (at 0 ∷ at 100 ∷ at 200 ∷ at 300 ∷ []) (at 290 ∷ at 110 ∷ []) (2 ∷ 2 ∷ []) ≡ 16200
together = refl

in_turn : cost_of (at 0 ∷ at 100 ∷ at 200 ∷ at 300 ∷ []) (at 290 ∷ at 110 ∷ []) (3 ∷ 3 ∷ []) ≡ 36200
in_turn = refl

-- the places of stations among samples, all of them on the axis
abbrev places : List ℕ → List ℕ → List ℕ
places samples stations = snap_of (map at samples) (map at stations)

-- both at one sample, a tie, no station, and samples on one point
both_at_one : places (0 ∷ 100 ∷ 200 ∷ 300 ∷ []) (290 ∷ 110 ∷ []) ≡ 2 ∷ 2 ∷ []
both_at_one = refl

half_way : places (0 ∷ 100 ∷ []) (50 ∷ []) ≡ 0 ∷ []
half_way = refl

no_station : places (5 ∷ []) [] ≡ []
no_station = refl

on_one_point : places (0 ∷ 0 ∷ 0 ∷ []) (0 ∷ 0 ∷ []) ≡ 0 ∷ 0 ∷ []
on_one_point = refl

-- against the way, from its end, and half way each
against : places (0 ∷ 20 ∷ []) (20 ∷ 0 ∷ []) ≡ 0 ∷ 0 ∷ []
against = refl

from_the_second : places (10 ∷ 0 ∷ 10 ∷ []) (0 ∷ 10 ∷ []) ≡ 1 ∷ 2 ∷ []
from_the_second = refl

half_way_back : places (0 ∷ 10 ∷ 20 ∷ []) (15 ∷ 5 ∷ []) ≡ 1 ∷ 1 ∷ []
half_way_back = refl

-- there and back
there_and_back : places (0 ∷ 10 ∷ 20 ∷ 10 ∷ 0 ∷ []) (0 ∷ 20 ∷ 0 ∷ []) ≡ 0 ∷ 2 ∷ 4 ∷ []
there_and_back = refl

-- the order of dictionaries
earlier : is_not_after (0 ∷ 3 ∷ []) (1 ∷ 1 ∷ []) ≡ true
earlier = refl

later : is_not_after (1 ∷ 2 ∷ []) (1 ∷ 1 ∷ []) ≡ false
later = refl

-- a hop has the samples from the one place to the other, with both
hop : hop_points (at 0 ∷ at 10 ∷ at 20 ∷ []) (at 9) 1 (at 21) 2 ≡ at 9 ∷ at 10 ∷ at 20 ∷ at 21 ∷ []
hop = refl

-- there is a hop less than there are stations
one_hop : hops_of 100 (at 0 ∷ at 10 ∷ at 20 ∷ []) (at 0 ∷ at 20 ∷ []) (0 ∷ 2 ∷ []) ≡ (at 0 ∷ at 10 ∷ at 20 ∷ []) ∷ []
one_hop = refl

-- two hops share the sample of the station between them, and the last one ends at its station
abbrev two_hops : List (List Point)
two_hops = hops_of 500 (map at (0 ∷ 100 ∷ 200 ∷ 300 ∷ [])) (map at (0 ∷ 200 ∷ 310 ∷ [])) (places (0 ∷ 100 ∷ 200 ∷ 300
    ∷ []) (0 ∷ 200 ∷ 310 ∷ []))

both_hops : two_hops ≡ map at (0 ∷ 100 ∷ 200 ∷ []) ∷ map at (200 ∷ 300 ∷ 310 ∷ []) ∷ []
both_hops = refl

samples_of_both : total_of two_hops ≡ 6
samples_of_both = refl
