-- How walks go on from spot to spot, and where they may end.
use Rattle.std.specs.Prelude.{◌≡◌, ◌≢◌, ℕ, zero, suc, ◌+◌, ◌-◌, ◌<◌, ◌==◌, ◌||◌, ◌&&◌, nat_lt, nat_le, Bool, true, not, List, length, map, if◌then◌else◌, Option, Some, None, slice_index_or, max, min}
use Rattle.octi_grid.specs.declared.dir.Dir.{Dir}
use Rattle.octi_grid.specs.declared.dir.Dir.TheVariants as dir
use Rattle.octi_grid.specs.declared.point.GridPoint.{GridPoint}
use Rattle.octi_grid.specs.Ways.{are_one, doubled, step_from, reverse_of}
use Rattle.octi_grid.specs.Costs.{step_cost, turn_between}
use Rattle.octi_grid.specs.Legal.{is_among}
use Rattle.state_search.specs.Goals.{Space}
use Rattle.walk_search.specs.declared.ends.End.{End}
use Rattle.walk_search.specs.declared.spots.Spot.{Spot}
use Rattle.grid_board.specs.Boards.{BoardParts, IsBoard, is_inside}
use Rattle.walk_search.specs.Seats.{seats_of, seat_cost}
use Rattle.walk_search.specs.Routes.{allows, directions}
use Rattle.walk_search.specs.Reaching.{lies_along, reach_of}
use Rattle.walk_search.specs.Spots.{spots_of, spot_of, number_of_spot}

-- what is asked: the least free walk on a board between two ends
pub record Question : Type 0 where
  pub board : BoardParts
  pub from : End
  pub to : End

abbrev pub starts_of : Question → List GridPoint
starts_of q = seats_of q.board q.from

abbrev pub ends_of : Question → List GridPoint
ends_of q = seats_of q.board q.to

-- a start's place in the list of starts
abbrev pub start_at : Question → ℕ → GridPoint
start_at q i = slice_index_or (starts_of q) i q.from.at

-- an end's place in the list of ends
abbrev pub end_at : Question → ℕ → GridPoint
end_at q i = slice_index_or (ends_of q) i q.to.at

-- the mask allows all ports or none
abbrev pub is_all_or_none : ℕ → Bool
is_all_or_none mask = mask == 0 || mask == 255

-- what may be asked: two different nodes of a board; where an end is free, all its ports are allowed or none
pub record IsQuestion (q : Question) : Type 0 where
  pub board : IsBoard q.board
  pub from_node : q.board.is_node q.from.at ≡ true
  pub to_node : q.board.is_node q.to.at ≡ true
  pub apart : q.from.at ≢ q.to.at
  pub from_ports : q.from.is_free ≡ true → is_all_or_none q.from.ports ≡ true
  pub to_ports : q.to.is_free ≡ true → is_all_or_none q.to.ports ≡ true

-- the direction of a number
abbrev pub direction : ℕ → Dir
direction n = slice_index_or directions n dir.N

-- walks from a start that is a seat of the other end too are in a group of their own, since they must not end there;
-- all other walks are in group 0
abbrev pub group_of : Question → ℕ → ℕ
group_of q i = if is_among (ends_of q) (start_at q i) then i + 1 else 0

-- walks of group 0 may start at a point: it is a seat of the start alone
abbrev pub is_own_start : Question → GridPoint → Bool
is_own_start q p = is_among (starts_of q) p && not (is_among (ends_of q) p)

-- walks of another group may start at a point: it is the group's seat, and one of the end too
abbrev pub is_shared_start : Question → GridPoint → ℕ → Bool
is_shared_start q p group = nat_le group (length (starts_of q)) && are_one (start_at q (group - 1)) p && is_among (ends_of q) p

-- the walks of a group may start at a point
abbrev pub is_start : Question → GridPoint → ℕ → Bool
is_start q p group = if group == 0 then is_own_start q p else is_shared_start q p group

-- the walks of a group other than 0 may end at a seat: their start is a seat of the end too, and another point
abbrev pub is_other_end : Question → GridPoint → ℕ → Bool
is_other_end q p group =
    nat_le group (length (starts_of q)) && is_among (ends_of q) (start_at q (group - 1)) && not (are_one (start_at q (group - 1)) p)

-- there are walks of a group, and they may end at a point
abbrev pub is_end : Question → GridPoint → ℕ → Bool
is_end q p group = is_among (ends_of q) p && (group == 0 || is_other_end q p group)

-- a walk that stands at a spot may end there
abbrev pub may_end : Question → Spot → Bool
may_end q s = is_end q s.at s.group && allows q.to.ports (Some (reverse_of (direction s.arrival)))

-- what a walk that stands at a spot pays to end there, where it may
abbrev pub end_cost : Question → Option Spot → Option ℕ
end_cost q None = None
end_cost q (Some s) =
    if nat_lt s.arrival 8 && may_end q s
    then Some (seat_cost q.to.at s.at) else None

-- a walk may go on from the point: it is no node's, and of no walk
abbrev pub is_passable : BoardParts → GridPoint → Bool
is_passable board p = not (board.is_node p) && not (board.is_taken (doubled p))

-- a step from a point stays on the board, and no walk has its middle
abbrev pub is_open : BoardParts → GridPoint → Dir → Bool
is_open board p d = is_inside board p && (is_inside board (step_from p d) && not (board.is_taken (step_from (doubled p) d)))

-- a walk may leave a spot in a direction: at its start by an allowed port, and elsewhere where it may go on
abbrev pub may_leave : Question → Spot → Dir → Bool
may_leave q s d = if s.arrival == 8 then is_start q s.at s.group && allows q.from.ports (Some d) else is_passable q.board s.at

-- the turn from the direction of arrival; at a start there is none
abbrev pub turn_from : ℕ → Dir → ℕ
turn_from arrival d = if arrival == 8 then 0 else turn_between (direction arrival) d

-- a seat is chosen by its place in the list, at what it costs and 1 more
abbrev pub chosen_seat : Question → ℕ → Option (Spot × ℕ)
chosen_seat q i =
    if nat_lt i (length (starts_of q))
    then Some (record { at = start_at q i; arrival = 8; group = group_of q i }, seat_cost q.from.at (start_at q i) + 1)
    else None

-- a step is made by the number of its direction
abbrev pub stepped : Question → Spot → ℕ → Option (Spot × ℕ)
stepped q s l =
    if nat_lt l 8 && (may_leave q s (direction l) && is_open q.board s.at (direction l))
    then Some (record { at = step_from s.at (direction l); arrival = l; group = s.group }, step_cost (direction l) + turn_from s.arrival (direction l))
    else None

-- where a label leads to, and at what cost
abbrev pub move_of : Question → Option Spot → ℕ → Option (Spot × ℕ)
move_of q None l = chosen_seat q l
move_of q (Some s) l = stepped q s l

-- the same by numbers
pub record IsMove (q : Question) (n l m c : ℕ) : Type 0 where
  pub from_spot : n < spots_of q.board.bounds + 1
  pub landing : Spot
  pub goes : move_of q (spot_of q.board.bounds n) l ≡ Some (landing, c)
  pub lands : m ≡ number_of_spot q.board.bounds landing

-- the least turn from one of the first so many directions, as far as their ports are allowed, to a direction; 4 where
-- none is
unfoldable pub least_of_turns : ℕ → Dir → ℕ → ℕ
least_of_turns ports d zero = 4
least_of_turns ports d (suc n) = min (least_of_turns ports d n) (if allows ports (Some (direction n)) then turn_between (direction n) d else 4)

-- the least turn from an allowed port to each direction, by its number
unfoldable pub least_turns : ℕ → List ℕ
least_turns ports = map (λ d. least_of_turns ports d 8) directions

-- the seats are those of both ends, and the turns the least from the ports of the start
pub record IsAsked (q : Question) (starts ends : List GridPoint) (turns : List ℕ) : Type 0 where
  pub asked : IsQuestion q
  pub starts_are : starts ≡ starts_of q
  pub ends_are : ends ≡ ends_of q
  pub turns_are : turns ≡ least_turns q.from.ports

-- the turns that a walk makes at least that leaves its start by an allowed port and comes to a point by the direction of a
-- number: where the point does not lie in that direction from the start, straight on, there is one at least
unfoldable pub turns_due : Question → GridPoint → ℕ → ℕ
turns_due q p l =
    if lies_along q.from.at p (direction l) then slice_index_or (least_turns q.from.ports) l 0
    else max 1 (slice_index_or (least_turns q.from.ports) l 0)

-- what it costs at least to choose a point as the seat that a walk starts at; one less at its home
unfoldable pub seat_ahead : Question → GridPoint → ℕ
seat_ahead q p = if are_one q.from.at p then reach_of q.from.at p else reach_of q.from.at p + 1

-- what it costs at least to come to a point by the direction of a number
unfoldable pub step_ahead : Question → GridPoint → ℕ → ℕ
step_ahead q p l = reach_of q.from.at (step_from p (reverse_of (direction l))) + (step_cost (direction l) + turns_due q p l)

-- the same by the number of an arrival
unfoldable pub ahead_at : Question → GridPoint → ℕ → ℕ
ahead_at q p arrival = if arrival == 8 then seat_ahead q p else step_ahead q p arrival

-- what it costs at least to come to a spot
abbrev pub spot_ahead : Question → Option Spot → ℕ
spot_ahead q None = 0
spot_ahead q (Some s) = ahead_at q s.at s.arrival

-- the spots as states of a search
abbrev pub space_of : Question → Space
space_of q = record {
  step = IsMove q;
  goal = λ n. if nat_lt n (spots_of q.board.bounds + 1) then end_cost q (spot_of q.board.bounds n) else None;
  ahead = λ n. spot_ahead q (spot_of q.board.bounds n);
  count = spots_of q.board.bounds + 1;
  dearest = 21;
}
