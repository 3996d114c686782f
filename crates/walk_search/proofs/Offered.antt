-- What was looked at, as offers by their definitions.
use Rattle.std.proofs.Common.{◌≡◌, refl, sym, ◌∙◌, ap, subst, ℕ, ◌+◌, ◌*◌, ◌<◌, ◌≤◌, Bool, true, false, cond, eqb, ◌&&◌, List, [], ◌∷◌, ◌++◌, length, Option, Some, None, arith}
use Rattle.std.specs.declared.cmp.Reverse.{Reverse}
use Rattle.std.proofs.lemmas.Int.{ints}
use Rattle.std.proofs.lemmas.Bool.{and_parts, lt-ltb, ne_eqb}
use Rattle.least_path.proofs.Chosen.{all-at}
use Rattle.octi_grid.specs.declared.dir.Dir.{Dir}
use Rattle.octi_grid.specs.declared.point.GridPoint.{GridPoint}
use Rattle.octi_grid.specs.Ways.{CanStep, are_one, reverse_of, step_from}
use Rattle.octi_grid.proofs.WayLemmas.{east_small, north_small}
use Rattle.state_search.specs.Searching.{AreLowered, IsLowered}
use Rattle.state_search.proofs.Lowering.{lowered_both}
use Rattle.grid_board.specs.declared.bounds.Bounds.{Bounds}
use Rattle.walk_search.specs.declared.spots.Spot.{Spot}
use Rattle.grid_board.specs.Boards.{AreBounds, contains}
use Rattle.walk_search.specs.Seats.{seat_cost}
use Rattle.walk_search.specs.Routes.{allows}
use Rattle.walk_search.specs.Spots.{IsSpot, number_of_place, number_of_spot, spots_of}
use Rattle.walk_search.specs.Moves.{Question, ahead_at, direction, end_cost, ends_of, group_of, is_end, is_open, is_start, may_end, space_of, spot_ahead, start_at, starts_of}
use Rattle.octi_grid.specs.Legal.{is_among}
use Rattle.state_search.specs.Rows.{IsRowLowered, IsRowOffered, with_row}
use Rattle.walk_search.specs.Offers.{arrival_offer, back_offers, end_offer, offer_where, passing_offers, seat_offer, seat_offers, spot_offers, start_offers}
use Rattle.grid_board.proofs.Within.{inside_facts}
use Rattle.walk_search.proofs.Numbered.{spot_of-none, spot_of-number}
use Rattle.state_search.proofs.RowLowering.{row_lowered}
use Rattle.walk_search.proofs.SeatFacts.{among_stands, seats_cheap}
use Rattle.walk_search.proofs.Moving.{end_among}

abbrev Table : Type 0
Table = List (Option ℕ)

abbrev Waiting : Type 0
Waiting = List (Reverse (ℕ × ℕ))

-- one state
pub lowered_one : (ahead : ℕ → ℕ) (old new : Table) (queue longer : Waiting) (at cost : ℕ) → IsLowered (ahead at) old new queue longer at cost → AreLowered ahead old new queue longer ((at, cost) ∷ [])
lowered_one ahead old new queue longer at cost h = (new, longer, h, (refl, refl))

-- a spot, by its number and by what it costs at least to come to it
pub offered_spot : (q : Question) (s : Spot) (old new : Table) (queue longer : Waiting) (ahead at cost : ℕ) → IsSpot q.board.bounds s → ahead ≡ ahead_at q s.at s.arrival → at ≡ number_of_spot q.board.bounds s →
    IsLowered ahead old new queue longer at cost → IsLowered ((space_of q).ahead (number_of_spot q.board.bounds s)) old new queue longer (number_of_spot q.board.bounds s) cost
offered_spot q s old new queue longer ahead at cost on is number h =
    let same : ahead ≡ (space_of q).ahead (number_of_spot q.board.bounds s) = is ∙ sym (ap (spot_ahead q) (spot_of-number q.board.bounds s on)) in
    subst (λ (m : ℕ). IsLowered m old new queue longer (number_of_spot q.board.bounds s) cost) same (subst (λ (n : ℕ). IsLowered ahead old new queue longer n cost) number h)

-- a spot, by the row of its place
pub offered_in_row : (q : Question) (s : Spot) (table row new : Table) (queue longer : Waiting) (place ahead cost : ℕ) → IsSpot q.board.bounds s → ahead ≡ ahead_at q s.at s.arrival → place ≡ number_of_place q.board.bounds s.at s.group →
    place * 9 + 9 ≤ length table → length row ≡ 9 → IsRowLowered place ahead row new queue longer s.arrival cost →
    IsLowered ((space_of q).ahead (number_of_spot q.board.bounds s)) (with_row table place row) (with_row table place new) queue longer (number_of_spot q.board.bounds s) cost
offered_in_row q s table row new queue longer place ahead cost on is number fits nine h =
    offered_spot q s (with_row table place row) (with_row table place new) queue longer ahead (place * 9 + s.arrival) cost on is (ap (λ (n : ℕ). n * 9 + s.arrival) number)
    (row_lowered table row new queue longer place ahead s.arrival cost fits nine on.arrival h)

-- where a walk may end
pub offered_end : (q : Question) (p : GridPoint) (group arrival : ℕ) (table row new : Table) (queue longer : Waiting) (place ahead cost : ℕ) → is_end q p group ≡ true → arrival < 8 → IsSpot q.board.bounds (record { at = p; arrival = arrival; group = group }) →
    ahead ≡ ahead_at q p arrival → place ≡ number_of_place q.board.bounds p group → cost ≡ seat_cost q.to.at p → place * 9 + 9 ≤ length table → length row ≡ 9 →
    IsRowOffered (allows q.to.ports (Some (reverse_of (direction arrival)))) place ahead row new queue longer arrival cost →
    AreLowered (space_of q).ahead (with_row table place row) (with_row table place new) queue longer (end_offer q p group arrival)
offered_end q p group arrival table row new queue longer place ahead cost ends small on is number pays fits nine h =
    subst (λ (o : Option ℕ). AreLowered (space_of q).ahead (with_row table place row) (with_row table place new) queue longer (offer_where q s o)) (sym costs) (of_port (allows q.to.ports (Some (reverse_of (direction arrival)))) h)
  where
    s : Spot
    s = record { at = p; arrival = arrival; group = group }

    costs : end_cost q (Some s) ≡ cond (allows q.to.ports (Some (reverse_of (direction arrival)))) (Some (seat_cost q.to.at p)) None
    costs =
        ap (λ t. cond (t && (is_end q p group && allows q.to.ports (Some (reverse_of (direction arrival))))) (Some (seat_cost q.to.at p)) None) (lt-ltb arrival 8 small)
        ∙ ap (λ t. cond (t && allows q.to.ports (Some (reverse_of (direction arrival)))) (Some (seat_cost q.to.at p)) None) ends

    of_port : (t : Bool) → IsRowOffered t place ahead row new queue longer arrival cost →
        AreLowered (space_of q).ahead (with_row table place row) (with_row table place new) queue longer (offer_where q s (cond t (Some (seat_cost q.to.at p)) None))
    of_port true l =
        lowered_one (space_of q).ahead (with_row table place row) (with_row table place new) queue longer (number_of_spot q.board.bounds s) (seat_cost q.to.at p)
        (subst (λ (c : ℕ). IsLowered ((space_of q).ahead (number_of_spot q.board.bounds s)) (with_row table place row) (with_row table place new) queue longer (number_of_spot q.board.bounds s) c) pays
        (offered_in_row q s table row new queue longer place ahead cost on is number fits nine l))
    of_port false l = (ap (with_row table place) l.0, l.1)

pub end_cheap : (q : Question) (p : GridPoint) (group : ℕ) → is_end q p group ≡ true → seat_cost q.to.at p ≤ 20
end_cheap q p group e = all-at (λ r. seat_cost q.to.at r ≤ 20) p (ends_of q) (seats_cheap q.board q.to) (among_stands p (ends_of q) (and_parts (is_among (ends_of q) p) _ e).0)

pub may_end_cheap : (q : Question) (s : Spot) → may_end q s ≡ true → seat_cost q.to.at s.at ≤ 20
may_end_cheap q s e = all-at (λ p. seat_cost q.to.at p ≤ 20) s.at (ends_of q) (seats_cheap q.board q.to) (among_stands s.at (ends_of q) (end_among q s e))

-- before the choice of a seat
pub offered_seat : (q : Question) (s : Spot) (cost i : ℕ) (old new : Table) (queue longer : Waiting) (at pays : ℕ) → (are_one (start_at q i) s.at && eqb (group_of q i) s.group) ≡ true → at ≡ spots_of q.board.bounds →
    pays ≡ cost + (seat_cost q.from.at (start_at q i) + 1) → IsLowered 0 old new queue longer at pays → AreLowered (space_of q).ahead old new queue longer (seat_offer q s cost i)
offered_seat q s cost i old new queue longer at pays here is sum h =
    subst (λ (t : Bool). AreLowered (space_of q).ahead old new queue longer (cond t ((spots_of q.board.bounds, cost + (seat_cost q.from.at (start_at q i) + 1)) ∷ []) [])) (sym here)
    (lowered_one (space_of q).ahead old new queue longer (spots_of q.board.bounds) (cost + (seat_cost q.from.at (start_at q i) + 1))
    (subst (λ (m : ℕ). IsLowered m old new queue longer (spots_of q.board.bounds) (cost + (seat_cost q.from.at (start_at q i) + 1))) (sym (ap (spot_ahead q) (spot_of-none q.board.bounds)))
    (subst (λ (n : ℕ). IsLowered 0 old new queue longer n (cost + (seat_cost q.from.at (start_at q i) + 1))) is (subst (λ (c : ℕ). IsLowered 0 old new queue longer at c) sum h))))

-- a step
pub offered_start : (q : Question) (p : GridPoint) (group : ℕ) (d : Dir) (cost whole : ℕ) (old new : Table) (queue longer : Waiting) → (is_start q p group && allows q.from.ports (Some d)) ≡ true →
    whole ≡ (arrival_offer q p group d cost 8).1 →
    IsLowered ((space_of q).ahead (arrival_offer q p group d cost 8).0) old new queue longer (arrival_offer q p group d cost 8).0 whole → AreLowered (space_of q).ahead old new queue longer (start_offers q p group d cost)
offered_start q p group d cost whole old new queue longer starts sum h =
    subst (λ (t : Bool). AreLowered (space_of q).ahead old new queue longer (cond t (arrival_offer q p group d cost 8 ∷ []) [])) (sym starts)
    (lowered_one (space_of q).ahead old new queue longer (arrival_offer q p group d cost 8).0 (arrival_offer q p group d cost 8).1
    (subst (λ (c : ℕ). IsLowered ((space_of q).ahead (arrival_offer q p group d cost 8).0) old new queue longer (arrival_offer q p group d cost 8).0 c) sum h))

pub offered_back : (q : Question) (p : GridPoint) (group : ℕ) (d : Dir) (cost : ℕ) (old mid new : Table) (queue more longer : Waiting) → is_open q.board p d ≡ true →
    AreLowered (space_of q).ahead old mid queue more (passing_offers q p group d cost) → AreLowered (space_of q).ahead mid new more longer (start_offers q p group d cost) →
    AreLowered (space_of q).ahead old new queue longer (back_offers q p group d cost)
offered_back q p group d cost old mid new queue more longer free h k =
    subst (λ (t : Bool). AreLowered (space_of q).ahead old new queue longer (cond t (passing_offers q p group d cost ++ start_offers q p group d cost) [])) (sym free)
    (lowered_both (space_of q).ahead old mid new queue more longer (passing_offers q p group d cost) (start_offers q p group d cost) h k)

pub offered_step : (q : Question) (s : Spot) (cost : ℕ) (back : GridPoint) (d : Dir) (old new : Table) (queue longer : Waiting) → (s.arrival ≡ 8 → ⊥) → d ≡ direction s.arrival → back ≡ step_from s.at (reverse_of d) →
    AreLowered (space_of q).ahead old new queue longer (back_offers q back s.group d cost) → AreLowered (space_of q).ahead old new queue longer (spot_offers q (Some s) cost)
offered_step q s cost back d old new queue longer apart is here h =
    subst (λ (t : Bool). AreLowered (space_of q).ahead old new queue longer (cond t (seat_offers q s cost (length (starts_of q))) (back_offers q (step_from s.at (reverse_of (direction s.arrival))) s.group (direction s.arrival) cost))) (sym (ne_eqb s.arrival 8 apart))
    (subst (λ (e : Dir). AreLowered (space_of q).ahead old new queue longer (back_offers q (step_from s.at (reverse_of e)) s.group e cost)) is
    (subst (λ (p : GridPoint). AreLowered (space_of q).ahead old new queue longer (back_offers q p s.group d cost)) here h))

-- a point beside the board
pub can_step_beside : (b : Bounds) (p : GridPoint) (d : Dir) → AreBounds b → contains b p ≡ true → CanStep (step_from p d)
can_step_beside b p d h e =
    let f = inside_facts b p e in
    record { across = omega (arith, ints, f.west, f.east, h.left.low, h.right.high, east_small d); along = omega (arith, ints, f.south, f.north, h.bottom.low, h.top.high, north_small d) }
