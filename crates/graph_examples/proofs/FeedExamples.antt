-- Which patterns and places fit into a feed.
use Rattle.std.proofs.Common.{ℕ, pos, neg_ℤ, [], ◌∷◌, Some, None, arith}
use Rattle.map_base.specs.declared.ids.StationId.{StationId}
use Rattle.transit_feed.specs.declared.station.Station.{Station}
use Rattle.transit_feed.specs.Feeds.{AreApart, IsPlaced, NamesShape}

abbrev at : ℕ → StationId
at n = record { 0 = n }

-- a station may come again, but not twice in a row
comes_again : AreApart (at 4 ∷ at 2 ∷ at 4 ∷ [])
comes_again = (omega arith, (omega arith, tt))

twice_in_a_row : ¬ AreApart (at 4 ∷ at 2 ∷ at 2 ∷ [])
twice_in_a_row apart = apart.1.0 (λ i. 2)

-- the poles and the date line are places, and nothing beyond
abbrev station : ℕ → ℕ → Station
station lat lon = record { id = 65 ∷ []; name = []; lat = neg_ℤ (pos lat); lon = pos lon }

at_the_pole : IsPlaced (station 90000000 180000000)
at_the_pole = record { latitude = omega arith; longitude = omega arith }

past_the_pole : ¬ IsPlaced (station 90000001 0)
past_the_pole placed = let high = placed.latitude in absurd (omega (arith, high))

-- of three shapes the last has number 2
last_shape : NamesShape 3 (Some 2)
last_shape = omega arith

no_such_shape : ¬ NamesShape 3 (Some 3)
no_such_shape h = absurd (omega (arith, h))

no_shape : NamesShape 0 None
no_shape = tt
