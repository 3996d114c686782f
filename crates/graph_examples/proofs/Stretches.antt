-- The definitions at small values.
use Rattle.std.proofs.Common.{◌≡◌, refl, ℕ, true, false, pos, [], ◌∷◌}
use Rattle.map_base.specs.declared.point.Point.{Point}
use Rattle.net_paths.specs.Corridors.{is_in_corridor, edge_cost}

abbrev at : ℕ → ℕ → Point
at x y = record { x = pos x; y = pos y }

-- at exactly four times `near` a point lies outside, and just below inside
exactly_four_times : is_in_corridor 500 (at 0 0 ∷ []) (at 2000 0) ≡ false
exactly_four_times = refl

below_four_times : is_in_corridor 500 (at 0 0 ∷ []) (at 1999 0) ≡ true
below_four_times = refl

-- any sample of the corridor serves
second_sample : is_in_corridor 500 (at 0 0 ∷ at 3000 0 ∷ []) (at 2000 0) ≡ true
second_sample = refl

-- an edge costs the square of its length, and eight times that where one end lies outside
inside : edge_cost 500 (at 0 0 ∷ []) (at 300 0) (at 300 400) ≡ 160000
inside = refl

one_outside : edge_cost 500 (at 0 0 ∷ []) (at 1999 0) (at 2000 0) ≡ 8
one_outside = refl

no_corridor : edge_cost 500 [] (at 0 0) (at 10 0) ≡ 800
no_corridor = refl
