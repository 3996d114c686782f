-- What is offered is offered to the goals, and to each spot from which a step leads on.
use Rattle.std.proofs.Common.{◌≡◌, refl, sym, ◌∙◌, ap, ap₂, subst, ℕ, ◌+◌, ◌*◌, ◌/◌, ◌%◌, ◌<◌, ◌⊎◌, inl, inr, Bool, true, false, cond, eqb, ltb, ◌&&◌, [], ◌∷◌, ◌++◌, length, Option, Some, None, arith}
use Rattle.std.specs.List.{range_with_len}
use Rattle.std.proofs.lemmas.Bool.{and_parts, and_from, ltb-true, lt-ltb, eqb-true, ne_eqb, eq-eqb, cases_eq, cond-true}
use Rattle.least_path.proofs.Chosen.{StandsIn, AllAre, all-append, all-map, all-flat_map, all-range, stands-left, stands-right, stands-map, stands-flat_map, stands-range}
use Rattle.octi_grid.specs.declared.dir.Dir.{Dir}
use Rattle.octi_grid.specs.declared.point.GridPoint.{GridPoint}
use Rattle.octi_grid.specs.Ways.{are_one, reverse_of, step_from}
use Rattle.octi_grid.specs.Costs.{step_cost}
use Rattle.state_search.specs.Searching.{OfferGoals, OfferSteps}
use Rattle.state_search.proofs.Standing.{IsStepOffer, goals_stand, steps_stand}
use Rattle.walk_search.specs.declared.spots.Spot.{Spot}
use Rattle.grid_board.specs.Boards.{is_inside}
use Rattle.walk_search.specs.Seats.{seat_cost}
use Rattle.walk_search.specs.Routes.{allows}
use Rattle.walk_search.specs.Spots.{IsSpot, number_of_spot, spots_of, spot_of}
use Rattle.walk_search.specs.Moves.{Question, IsQuestion, IsMove, direction, end_at, end_cost, ends_of, group_of, is_open, is_passable, is_start, may_leave, move_of, space_of, start_at, starts_of, turn_from}
use Rattle.walk_search.specs.Offers.{arrival_offer, arrival_offers, back_offers, end_offer, end_offers, offer_where, offers_at_end, passing_offers, place_offers, seat_offer, seat_offers, spot_offers, start_offers}
use Rattle.grid_board.proofs.Marks.{one_same, one_true}
use Rattle.walk_search.proofs.Numbered.{IsSpotOf, number_below_spots, spot_of-number, spot_of-is, spot_of-none, none_is_last, some_same}
use Rattle.walk_search.proofs.Turning.{step_back, step_there}
use Rattle.walk_search.proofs.SeatFacts.{all_index, among_stands, place_of, seats_inside}
use Rattle.walk_search.proofs.Moving.{IsChosen, IsGoal, IsStepped, end_among, goal_parts, move_cases, to_inside, landed}

-- a spot at which a walk may end
end_inside : (q : Question) → IsQuestion q → (i : ℕ) → i < length (ends_of q) → is_inside q.board (end_at q i) ≡ true
end_inside q h i below = all_index (λ p. is_inside q.board p ≡ true) (ends_of q) (seats_inside q.board q.to (to_inside q h)) i q.to.at below

end_is_spot : (q : Question) → IsQuestion q → (k arrival : ℕ) → k < 10 * length (ends_of q) → arrival < 8 → IsSpot q.board.bounds (record { at = end_at q (k / 10); arrival = arrival; group = k % 10 })
end_is_spot q h k arrival below small = record { inside = end_inside q h (k / 10) (omega arith); arrival = omega arith; group = omega arith }

pub goal_of_spot : (q : Question) (s : Spot) → IsSpot q.board.bounds s → (space_of q).goal (number_of_spot q.board.bounds s) ≡ end_cost q (Some s)
goal_of_spot q s h =
    let below : number_of_spot q.board.bounds s < spots_of q.board.bounds = number_below_spots q.board.bounds s h in
    ap (λ t. cond t (end_cost q (spot_of q.board.bounds (number_of_spot q.board.bounds s))) None) (lt-ltb (number_of_spot q.board.bounds s) (spots_of q.board.bounds + 1) (omega arith))
    ∙ ap (end_cost q) (spot_of-number q.board.bounds s h)

pub goals_are_offered : (q : Question) → IsQuestion q → OfferGoals (space_of q) (end_offers q (10 * length (ends_of q)))
goals_are_offered q h = goals_stand (space_of q) (end_offers q (10 * length (ends_of q))) all each
  where
    count : ℕ
    count = 10 * length (ends_of q)

    one : (k arrival : ℕ) → k < count → arrival < 8 → AllAre (λ (offer : ℕ × ℕ). (space_of q).goal offer.0 ≡ Some offer.1) (end_offer q (end_at q (k / 10)) (k % 10) arrival)
    one k arrival below small = of_cost (end_cost q (Some spot)) refl
      where
        spot : Spot
        spot = record { at = end_at q (k / 10); arrival = arrival; group = k % 10 }

        of_cost : (o : Option ℕ) → end_cost q (Some spot) ≡ o → AllAre (λ (offer : ℕ × ℕ). (space_of q).goal offer.0 ≡ Some offer.1) (offer_where q spot o)
        of_cost None e = tt
        of_cost (Some c) e = (goal_of_spot q spot (end_is_spot q h k arrival below small) ∙ e, tt)

    at_place : (k : ℕ) → k < count → AllAre (λ (offer : ℕ × ℕ). (space_of q).goal offer.0 ≡ Some offer.1) (place_offers q k)
    at_place k below = all-flat_map (λ (offer : ℕ × ℕ). (space_of q).goal offer.0 ≡ Some offer.1) (end_offer q (end_at q (k / 10)) (k % 10)) (range_with_len 0 8)
        (all-range (λ a. AllAre (λ (offer : ℕ × ℕ). (space_of q).goal offer.0 ≡ Some offer.1) (end_offer q (end_at q (k / 10)) (k % 10) a)) 0 8 (λ a low high. one k a below (omega arith)))

    all : AllAre (λ (offer : ℕ × ℕ). (space_of q).goal offer.0 ≡ Some offer.1) (end_offers q count)
    all = all-flat_map (λ (offer : ℕ × ℕ). (space_of q).goal offer.0 ≡ Some offer.1) (place_offers q) (range_with_len 0 count)
        (all-range (λ k. AllAre (λ (offer : ℕ × ℕ). (space_of q).goal offer.0 ≡ Some offer.1) (place_offers q k)) 0 count (λ k low high. at_place k (omega arith)))

    at_goal : (a k : ℕ) (s : Spot) → IsGoal q a k s → end_cost q (Some s) ≡ Some k → StandsIn (a, k) (end_offers q count)
    at_goal a k s g cost =
        let of = spot_of-is q.board.bounds a s h.board.in_range g.below g.spot in
        let place = place_of (ends_of q) s.at q.to.at (among_stands s.at (ends_of q) (end_among q s g.ends)) in
        let n : ℕ = place.place * 10 + s.group in
        let within : n < count = in_count place.place s.group (length (ends_of q)) place.below of.spot.group in
        let here : end_at q (n / 10) ≡ s.at = ap (end_at q) (place_is place.place s.group of.spot.group).0 ∙ place.is in
        let group : n % 10 ≡ s.group = (place_is place.place s.group of.spot.group).1 in
        stands-flat_map (place_offers q) n (a, k) (range_with_len 0 count) (stands-range 0 count n (omega arith) (omega arith))
        (subst (λ (p : GridPoint). StandsIn (a, k) (offers_at_end q p (n % 10) 8)) (sym here)
        (subst (λ (m : ℕ). StandsIn (a, k) (offers_at_end q s.at m 8)) (sym group)
        (stands-flat_map (end_offer q s.at s.group) s.arrival (a, k) (range_with_len 0 8) (stands-range 0 8 s.arrival (omega arith) (let small : s.arrival < 8 = g.arrival in omega arith))
        (subst (λ (o : Option ℕ). StandsIn (a, k) (offer_where q s o)) (sym cost) (inl (ap (λ (m : ℕ). (m, k)) (sym of.number)))))))
      where
        in_count : (i g len : ℕ) → i < len → g < 10 → i * 10 + g < 10 * len
        in_count i g len b d = omega arith

        place_is : (i g : ℕ) → g < 10 → ((i * 10 + g) / 10 ≡ i) × ((i * 10 + g) % 10 ≡ g)
        place_is i g b = (omega arith, omega arith)

    each : (a k : ℕ) → (space_of q).goal a ≡ Some k → StandsIn (a, k) (end_offers q count)
    each a k e =
        let g = goal_parts q a k e in
        let below = ltb-true a (spots_of q.board.bounds + 1) in
        at_goal a k g.0 g.1 (sym (ap (end_cost q) g.1.spot) ∙ sym (ap (λ t. cond t (end_cost q (spot_of q.board.bounds a)) None) (lt-ltb a (spots_of q.board.bounds + 1) g.1.below)) ∙ e)

-- a step offers by the spot that it leads to
pub seat_move : (q : Question) → IsQuestion q → (n : ℕ) (s : Spot) → n ≡ number_of_spot q.board.bounds s → s.arrival ≡ 8 → (i : ℕ) → i < length (starts_of q) → start_at q i ≡ s.at → group_of q i ≡ s.group →
    IsMove q (spots_of q.board.bounds) i n (seat_cost q.from.at (start_at q i) + 1)
seat_move q h n s is arrival i below at group = record {
  from_spot = omega arith;
  landing = s;
  goes =
      ap (λ (o : Option Spot). move_of q o i) (spot_of-none q.board.bounds)
      ∙ cond-true (ltb i (length (starts_of q)))
      (Some (let m : Spot × ℕ = (record { at = start_at q i; arrival = 8; group = group_of q i }, seat_cost q.from.at (start_at q i) + 1) in m)) None (lt-ltb i (length (starts_of q)) below)
      ∙ ap (λ (x : Spot). Some (let m : Spot × ℕ = (x, seat_cost q.from.at (start_at q i) + 1) in m)) same;
  lands = is;
}
  where
    same : record { at = start_at q i; arrival = 8; group = group_of q i } ≡ s
    same = ap₂ (λ (p : GridPoint) (g : ℕ). record { at = p; arrival = 8; group = g }) at group ∙ ap (λ (a : ℕ). record { at = s.at; arrival = a; group = s.group }) (sym arrival)

pub step_move : (q : Question) (x : Spot) (l n : ℕ) (s : Spot) → IsSpot q.board.bounds x → l < 8 → may_leave q x (direction l) ≡ true → is_open q.board x.at (direction l) ≡ true →
    s ≡ record { at = step_from x.at (direction l); arrival = l; group = x.group } → n ≡ number_of_spot q.board.bounds s →
    IsMove q (number_of_spot q.board.bounds x) l n (step_cost (direction l) + turn_from x.arrival (direction l))
step_move q x l n s h below leaves free lands is = record {
  from_spot = omega (arith, number_below_spots q.board.bounds x h);
  landing = s;
  goes =
      ap (λ (o : Option Spot). move_of q o l) (spot_of-number q.board.bounds x h)
      ∙ cond-true (ltb l 8 && (may_leave q x (direction l) && is_open q.board x.at (direction l)))
      (Some (let m : Spot × ℕ = (record { at = step_from x.at (direction l); arrival = l; group = x.group }, step_cost (direction l) + turn_from x.arrival (direction l)) in m)) None
      (and_from (ltb l 8) (may_leave q x (direction l) && is_open q.board x.at (direction l)) (lt-ltb l 8 below) (and_from (may_leave q x (direction l)) (is_open q.board x.at (direction l)) leaves free))
      ∙ ap (λ (y : Spot). Some (let m : Spot × ℕ = (y, step_cost (direction l) + turn_from x.arrival (direction l)) in m)) (sym lands);
  lands = is;
}

-- what a spot at a start offers
seats_offer : (q : Question) → IsQuestion q → (n cost : ℕ) (s : Spot) → IsSpotOf q.board.bounds n s → s.arrival ≡ 8 → AllAre (IsStepOffer (space_of q) n cost) (seat_offers q s cost (length (starts_of q)))
seats_offer q h n cost s of arrival =
    all-flat_map (IsStepOffer (space_of q) n cost) (seat_offer q s cost) (range_with_len 0 (length (starts_of q)))
    (all-range (λ i. AllAre (IsStepOffer (space_of q) n cost) (seat_offer q s cost i)) 0 (length (starts_of q)) (λ i low high. one i (omega arith)))
  where
    one : (i : ℕ) → i < length (starts_of q) → AllAre (IsStepOffer (space_of q) n cost) (seat_offer q s cost i)
    one i below = of_test (are_one (start_at q i) s.at && eqb (group_of q i) s.group) refl
      where
        of_test : (t : Bool) → (are_one (start_at q i) s.at && eqb (group_of q i) s.group) ≡ t →
            AllAre (IsStepOffer (space_of q) n cost) (cond t ((spots_of q.board.bounds, cost + (seat_cost q.from.at (start_at q i) + 1)) ∷ []) [])
        of_test true e =
            let parts = and_parts (are_one (start_at q i) s.at) (eqb (group_of q i) s.group) e in (
              (
                i,
                seat_cost q.from.at (start_at q i) + 1,
                seat_move q h n s of.number arrival i below (one_true (start_at q i) s.at parts.0) (eqb-true (group_of q i) s.group parts.1),
                refl,
              ),
              tt,
            )
        of_test false e = tt

landing_is : (q : Question) → IsQuestion q → (a l n c : ℕ) (m : IsMove q a l n c) (s : Spot)
    → IsSpotOf q.board.bounds n s → m.landing ≡ s
landing_is q h a l n c m s of =
    some_same m.landing s
    (sym (landed q h a l n c m) ∙ ap (spot_of q.board.bounds) of.number ∙ spot_of-number q.board.bounds s of.spot)

seats_offered : (q : Question) → IsQuestion q → (n cost : ℕ) (s : Spot) → IsSpotOf q.board.bounds n s → s.arrival ≡ 8 → (a l c : ℕ) → IsMove q a l n c → StandsIn (a, cost + c) (seat_offers q s cost (length (starts_of q)))
seats_offered q h n cost s of arrival a l c m = elim (move_cases q (spot_of q.board.bounds a) l m.landing c m.goes) [
  | inl k ↦ of_chosen k.0 k.1
  | inr k ↦ (let same : 8 ≡ l = sym arrival ∙ ap (λ (x : Spot). x.arrival) (sym is ∙ k.2.lands) in
      absurd (omega (arith, same, k.2.below)))
]
  where
    is : m.landing ≡ s
    is = landing_is q h a l n c m s of

    of_chosen : spot_of q.board.bounds a ≡ None → IsChosen q l m.landing c → StandsIn (a, cost + c) (seat_offers q s cost (length (starts_of q)))
    of_chosen e k =
        let here : s ≡ record { at = start_at q l; arrival = 8; group = group_of q l } = sym is ∙ k.lands in
        let at : start_at q l ≡ s.at = sym (ap (λ (x : Spot). x.at) here) in
        let group : group_of q l ≡ s.group = sym (ap (λ (x : Spot). x.group) here) in
        stands-flat_map (seat_offer q s cost) l (a, cost + c) (range_with_len 0 (length (starts_of q))) (stands-range 0 (length (starts_of q)) l (omega arith) (omega (arith, k.below)))
        (subst (λ (t : Bool). StandsIn {A = ℕ × ℕ} (a, cost + c) (cond t ((spots_of q.board.bounds, cost + (seat_cost q.from.at (start_at q l) + 1)) ∷ []) []))
        (sym (and_from (are_one (start_at q l) s.at) (eqb (group_of q l) s.group) (subst (λ (p : GridPoint). are_one (start_at q l) p ≡ true) at (one_same (start_at q l))) (eq-eqb (group_of q l) s.group group)))
        (inl (ap₂ (λ (x y : ℕ). (x, y)) (sym (none_is_last q.board.bounds a e)) (ap (λ x. cost + x) (sym k.cost)))))

-- what another spot offers
abbrev back_of : Spot → GridPoint
back_of s = step_from s.at (reverse_of (direction s.arrival))

abbrev came : Spot → Dir
came s = direction s.arrival

spot_behind : (q : Question) (s : Spot) (arrival : ℕ) → is_open q.board (back_of s) (came s) ≡ true → arrival < 9 → s.group < 10 → IsSpot q.board.bounds (record { at = back_of s; arrival = arrival; group = s.group })
spot_behind q s arrival free small group = record { inside = (and_parts (is_inside q.board (back_of s)) _ free).0; arrival = small; group = group }

behind_lands : (s : Spot) → s ≡ record { at = step_from (back_of s) (came s); arrival = s.arrival; group = s.group }
behind_lands s = ap (λ (p : GridPoint). record { at = p; arrival = s.arrival; group = s.group }) (sym (step_there s.at (came s)))

leaves_passing : (q : Question) (p : GridPoint) (arrival group : ℕ) (d : Dir) → arrival < 8 → is_passable q.board p ≡ true → may_leave q (record { at = p; arrival = arrival; group = group }) d ≡ true
leaves_passing q p arrival group d small e =
    ap (λ t. cond t (is_start q p group && allows q.from.ports (Some d)) (is_passable q.board p)) (ne_eqb arrival 8 (λ same. absurd (omega arith))) ∙ e

backs_offer : (q : Question) → IsQuestion q → (n cost : ℕ) (s : Spot) → IsSpotOf q.board.bounds n s → s.arrival < 8 →
    AllAre (IsStepOffer (space_of q) n cost) (back_offers q (back_of s) s.group (came s) cost)
backs_offer q h n cost s of small = of_open (is_open q.board (back_of s) (came s)) refl
  where
    one : is_open q.board (back_of s) (came s) ≡ true → (arrival : ℕ) → arrival < 9 → may_leave q (record { at = back_of s; arrival = arrival; group = s.group }) (came s) ≡ true →
        IsStepOffer (space_of q) n cost (arrival_offer q (back_of s) s.group (came s) cost arrival)
    one free arrival below leaves = (
      s.arrival,
      step_cost (came s) + turn_from arrival (came s),
      step_move q (record { at = back_of s; arrival = arrival; group = s.group }) s.arrival n s (spot_behind q s arrival free below of.spot.group) small leaves free (behind_lands s) of.number,
      refl,
    )

    passing : is_open q.board (back_of s) (came s) ≡ true → AllAre (IsStepOffer (space_of q) n cost) (passing_offers q (back_of s) s.group (came s) cost)
    passing free = of_passable (is_passable q.board (back_of s)) refl
      where
        of_passable : (t : Bool) → is_passable q.board (back_of s) ≡ t → AllAre (IsStepOffer (space_of q) n cost) (cond t (arrival_offers q (back_of s) s.group (came s) cost 8) [])
        of_passable true e =
            all-map (IsStepOffer (space_of q) n cost) (arrival_offer q (back_of s) s.group (came s) cost) (range_with_len 0 8)
            (all-range (λ a. IsStepOffer (space_of q) n cost (arrival_offer q (back_of s) s.group (came s) cost a)) 0 8
            (λ a low high. one free a (omega arith) (leaves_passing q (back_of s) a s.group (came s) (omega arith) e)))
        of_passable false e = tt

    starting : is_open q.board (back_of s) (came s) ≡ true → AllAre (IsStepOffer (space_of q) n cost) (start_offers q (back_of s) s.group (came s) cost)
    starting free = of_start (is_start q (back_of s) s.group && allows q.from.ports (Some (came s))) refl
      where
        of_start : (t : Bool) → (is_start q (back_of s) s.group && allows q.from.ports (Some (came s))) ≡ t →
            AllAre (IsStepOffer (space_of q) n cost) (cond t (arrival_offer q (back_of s) s.group (came s) cost 8 ∷ []) [])
        of_start true e = (one free 8 (omega arith) e, tt)
        of_start false e = tt

    of_open : (t : Bool) → is_open q.board (back_of s) (came s) ≡ t →
        AllAre (IsStepOffer (space_of q) n cost) (cond t (passing_offers q (back_of s) s.group (came s) cost ++ start_offers q (back_of s) s.group (came s) cost) [])
    of_open true e = all-append (IsStepOffer (space_of q) n cost) (passing_offers q (back_of s) s.group (came s) cost) (start_offers q (back_of s) s.group (came s) cost) (passing e) (starting e)
    of_open false e = tt

backs_offered : (q : Question) → IsQuestion q → (n cost : ℕ) (s : Spot) → IsSpotOf q.board.bounds n s → s.arrival < 8 → (a l c : ℕ) → IsMove q a l n c →
    StandsIn (a, cost + c) (back_offers q (back_of s) s.group (came s) cost)
backs_offered q h n cost s of small a l c m = elim (move_cases q (spot_of q.board.bounds a) l m.landing c m.goes) [
  | inl k ↦ (let same : s.arrival ≡ 8 = ap (λ (x : Spot). x.arrival) (sym is ∙ k.1.lands) in
      absurd (omega (arith, same, small)))
  | inr k ↦ of_stepped k.0 k.1 k.2
]
  where
    is : m.landing ≡ s
    is = landing_is q h a l n c m s of

    -- the spot x from which the step was made, by what is known of s
    at_back : (x : Spot) → s ≡ record { at = step_from x.at (direction l); arrival = l; group = x.group } → x ≡ record { at = back_of s; arrival = x.arrival; group = s.group }
    at_back x e =
        let at : back_of s ≡ x.at = ap (λ (y : Spot). step_from y.at (reverse_of (direction y.arrival))) e ∙ step_back x.at (direction l) in
        let group : s.group ≡ x.group = ap (λ (y : Spot). y.group) e in
        ap₂ (λ (p : GridPoint) (g : ℕ). record { at = p; arrival = x.arrival; group = g }) (sym at) (sym group)

    standing : (arrival : ℕ) → arrival < 9 → is_open q.board (back_of s) (came s) ≡ true → may_leave q (record { at = back_of s; arrival = arrival; group = s.group }) (came s) ≡ true →
        StandsIn (arrival_offer q (back_of s) s.group (came s) cost arrival) (back_offers q (back_of s) s.group (came s) cost)
    standing arrival below free leaves =
        subst (λ (t : Bool). StandsIn (arrival_offer q (back_of s) s.group (came s) cost arrival) (cond t (passing_offers q (back_of s) s.group (came s) cost ++ start_offers q (back_of s) s.group (came s) cost) [])) (sym free)
        (of_arrival (cases_eq arrival 8))
      where
        of_arrival : (arrival ≡ 8) ⊎ (arrival ≡ 8 → ⊥) → StandsIn (arrival_offer q (back_of s) s.group (came s) cost arrival) (passing_offers q (back_of s) s.group (came s) cost ++ start_offers q (back_of s) s.group (came s) cost)
        of_arrival (inl e) =
            let starts : (is_start q (back_of s) s.group && allows q.from.ports (Some (came s))) ≡ true =
            sym (ap (λ t. cond t (is_start q (back_of s) s.group && allows q.from.ports (Some (came s))) (is_passable q.board (back_of s))) (eq-eqb arrival 8 e)) ∙ leaves in
            stands-right (arrival_offer q (back_of s) s.group (came s) cost arrival) (passing_offers q (back_of s) s.group (came s) cost) (start_offers q (back_of s) s.group (came s) cost)
            (subst (λ (t : Bool). StandsIn (arrival_offer q (back_of s) s.group (came s) cost arrival) (cond t (arrival_offer q (back_of s) s.group (came s) cost 8 ∷ []) [])) (sym starts)
            (inl (ap (arrival_offer q (back_of s) s.group (came s) cost) (sym e))))
        of_arrival (inr apart) =
            let passes : is_passable q.board (back_of s) ≡ true =
            sym (ap (λ t. cond t (is_start q (back_of s) s.group && allows q.from.ports (Some (came s))) (is_passable q.board (back_of s))) (ne_eqb arrival 8 apart)) ∙ leaves in
            stands-left (arrival_offer q (back_of s) s.group (came s) cost arrival) (passing_offers q (back_of s) s.group (came s) cost) (start_offers q (back_of s) s.group (came s) cost)
            (subst (λ (t : Bool). StandsIn (arrival_offer q (back_of s) s.group (came s) cost arrival) (cond t (arrival_offers q (back_of s) s.group (came s) cost 8) [])) (sym passes)
            (stands-map (arrival_offer q (back_of s) s.group (came s) cost) arrival (range_with_len 0 8) (stands-range 0 8 arrival (omega arith) (omega arith))))

    of_stepped : (x : Spot) → spot_of q.board.bounds a ≡ Some x → IsStepped q x l m.landing c → StandsIn (a, cost + c) (back_offers q (back_of s) s.group (came s) cost)
    of_stepped x e k =
        let of_x = spot_of-is q.board.bounds a x h.board.in_range m.from_spot e in
        let lands : s ≡ record { at = step_from x.at (direction l); arrival = l; group = x.group } = sym is ∙ k.lands in
        let label : l ≡ s.arrival = sym (ap (λ (y : Spot). y.arrival) lands) in
        let here : x ≡ record { at = back_of s; arrival = x.arrival; group = s.group } = at_back x lands in
        let free : is_open q.board (back_of s) (came s) ≡ true =
        subst (λ (l : ℕ). is_open q.board (back_of s) (direction l) ≡ true) label (subst (λ (y : Spot). is_open q.board y.at (direction l) ≡ true) here k.is_free) in
        let leaves : may_leave q (record { at = back_of s; arrival = x.arrival; group = s.group }) (came s) ≡ true =
        subst (λ (l : ℕ). may_leave q (record { at = back_of s; arrival = x.arrival; group = s.group }) (direction l) ≡ true) label (subst (λ (y : Spot). may_leave q y (direction l) ≡ true) here k.leaves) in
        let offer : arrival_offer q (back_of s) s.group (came s) cost x.arrival ≡ (let o : ℕ × ℕ = (a, cost + c) in o) =
        ap₂ (λ (i j : ℕ). (i, j)) (sym (of_x.number ∙ ap (number_of_spot q.board.bounds) here)) (ap (λ (l : ℕ). cost + (step_cost (direction l) + turn_from x.arrival (direction l))) (sym label) ∙ ap (λ (r : ℕ). cost + r) (sym k.cost)) in
        subst (λ (o : ℕ × ℕ). StandsIn o (back_offers q (back_of s) s.group (came s) cost)) offer (standing x.arrival of_x.spot.arrival free leaves)

-- so each spot offers to those from which a step leads to it
pub steps_are_offered : (q : Question) → IsQuestion q → (n cost : ℕ) → n < spots_of q.board.bounds + 1 → OfferSteps (space_of q) n cost (spot_offers q (spot_of q.board.bounds n) cost)
steps_are_offered q h n cost below = of_spot (spot_of q.board.bounds n) refl
  where
    none : spot_of q.board.bounds n ≡ None → (a l c : ℕ) → IsMove q a l n c → ⊥
    none e a l c m =
        let clash : Some m.landing ≡ None = sym (landed q h a l n c m) ∙ e in cc

    of_arrival : (s : Spot) → IsSpotOf q.board.bounds n s → (s.arrival ≡ 8) ⊎ (s.arrival ≡ 8 → ⊥) → OfferSteps (space_of q) n cost (spot_offers q (Some s) cost)
    of_arrival s of (inl e) =
        subst (λ (t : Bool). OfferSteps (space_of q) n cost (cond t (seat_offers q s cost (length (starts_of q))) (back_offers q (back_of s) s.group (came s) cost))) (sym (eq-eqb s.arrival 8 e))
        (steps_stand (space_of q) n cost (seat_offers q s cost (length (starts_of q))) (seats_offer q h n cost s of e) (seats_offered q h n cost s of e))
    of_arrival s of (inr apart) =
        let less : s.arrival < 8 = omega (arith, apart, of.spot.arrival) in
        subst (λ (t : Bool). OfferSteps (space_of q) n cost (cond t (seat_offers q s cost (length (starts_of q))) (back_offers q (back_of s) s.group (came s) cost))) (sym (ne_eqb s.arrival 8 apart))
        (steps_stand (space_of q) n cost (back_offers q (back_of s) s.group (came s) cost) (backs_offer q h n cost s of less) (backs_offered q h n cost s of less))

    of_spot : (o : Option Spot) → spot_of q.board.bounds n ≡ o → OfferSteps (space_of q) n cost (spot_offers q o cost)
    of_spot None e = steps_stand (space_of q) n cost [] tt (λ a l c m. absurd (none e a l c m))
    of_spot (Some s) e = of_arrival s (spot_of-is q.board.bounds n s h.board.in_range below e) (cases_eq s.arrival 8)
