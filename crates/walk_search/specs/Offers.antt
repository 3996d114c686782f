-- What a search offers to the spots from which others are reached.
use Rattle.std.specs.Prelude.{ℕ, ◌+◌, ◌/◌, ◌%◌, ◌==◌, ◌&&◌, List, [], ◌∷◌, ◌++◌, length, map, if◌then◌else◌, Option, Some, None}
use Rattle.std.specs.List.{flat_map, range_with_len}
use Rattle.octi_grid.specs.declared.dir.Dir.{Dir}
use Rattle.octi_grid.specs.declared.point.GridPoint.{GridPoint}
use Rattle.octi_grid.specs.Ways.{are_one, step_from, reverse_of}
use Rattle.octi_grid.specs.Costs.{step_cost}
use Rattle.walk_search.specs.declared.spots.Spot.{Spot}
use Rattle.walk_search.specs.Routes.{allows}
use Rattle.walk_search.specs.Seats.{seat_cost}
use Rattle.walk_search.specs.Spots.{spots_of, number_of_spot}
use Rattle.walk_search.specs.Moves.{Question, start_at, starts_of, end_at, direction, group_of, is_start, end_cost, is_passable, is_open, turn_from}

-- a cost is offered to a spot
abbrev pub offered : Question → Spot → ℕ → ℕ × ℕ
offered q s cost = (number_of_spot q.board.bounds s, cost)

-- what is offered where a walk may end
abbrev pub offer_where : Question → Spot → Option ℕ → List (ℕ × ℕ)
offer_where q s None = []
offer_where q s (Some cost) = offered q s cost ∷ []

-- what is offered where a walk of a group may end at a point, by the direction of arrival
abbrev pub end_offer : Question → GridPoint → ℕ → ℕ → List (ℕ × ℕ)
end_offer q p group arrival = offer_where q (record { at = p; arrival = arrival; group = group }) (end_cost q (Some (record { at = p; arrival = arrival; group = group })))

abbrev pub offers_at_end : Question → GridPoint → ℕ → ℕ → List (ℕ × ℕ)
offers_at_end q p group count = flat_map (end_offer q p group) (range_with_len 0 count)

-- the same at each seat of the end, by a count through seats and groups
abbrev pub place_offers : Question → ℕ → List (ℕ × ℕ)
place_offers q k = offers_at_end q (end_at q (k / 10)) (k % 10) 8

abbrev pub end_offers : Question → ℕ → List (ℕ × ℕ)
end_offers q count = flat_map (place_offers q) (range_with_len 0 count)

-- what a spot at a start offers to what comes before the choice of a seat
abbrev pub seat_offer : Question → Spot → ℕ → ℕ → List (ℕ × ℕ)
seat_offer q s cost i =
    if are_one (start_at q i) s.at && group_of q i == s.group
    then (spots_of q.board.bounds, cost + (seat_cost q.from.at (start_at q i) + 1)) ∷ [] else []

abbrev pub seat_offers : Question → Spot → ℕ → ℕ → List (ℕ × ℕ)
seat_offers q s cost count = flat_map (seat_offer q s cost) (range_with_len 0 count)

-- what is offered to the spots at a point from which a step in a direction leads on, by the direction of arrival
abbrev pub arrival_offer : Question → GridPoint → ℕ → Dir → ℕ → ℕ → ℕ × ℕ
arrival_offer q p group d cost arrival =
    offered q (record { at = p; arrival = arrival; group = group }) (cost + (step_cost d + turn_from arrival d))

abbrev pub arrival_offers : Question → GridPoint → ℕ → Dir → ℕ → ℕ → List (ℕ × ℕ)
arrival_offers q p group d cost count = map (arrival_offer q p group d cost) (range_with_len 0 count)

-- what is offered at a point from which a step leads on
abbrev pub passing_offers : Question → GridPoint → ℕ → Dir → ℕ → List (ℕ × ℕ)
passing_offers q p group d cost = if is_passable q.board p then arrival_offers q p group d cost 8 else []

abbrev pub start_offers : Question → GridPoint → ℕ → Dir → ℕ → List (ℕ × ℕ)
start_offers q p group d cost = if is_start q p group && allows q.from.ports (Some d) then arrival_offer q p group d cost 8 ∷ [] else []

abbrev pub back_offers : Question → GridPoint → ℕ → Dir → ℕ → List (ℕ × ℕ)
back_offers q p group d cost = if is_open q.board p d then passing_offers q p group d cost ++ start_offers q p group d cost else []

-- what a spot offers
abbrev pub spot_offers : Question → Option Spot → ℕ → List (ℕ × ℕ)
spot_offers q None cost = []
spot_offers q (Some s) cost =
    if s.arrival == 8 then seat_offers q s cost (length (starts_of q))
    else back_offers q (step_from s.at (reverse_of (direction s.arrival))) s.group (direction s.arrival) cost
