-- Moves from spot to spot are steps that a search may rest on.
use Rattle.std.proofs.Common.{◌≡◌, refl, sym, ◌∙◌, ap, ap₂, subst, ℕ, ◌+◌, ◌<◌, ◌≤◌, ◌⊎◌, inl, inr, Bool, true, false, cond, eqb, ltb, ◌&&◌, ◌||◌, length, Option, Some, None, arith}
use Rattle.std.proofs.lemmas.Bool.{and_parts, ltb-true, ne_eqb, cond_both, eqb-false, cases_Bool}
use Rattle.least_path.proofs.Chosen.{all-at}
use Rattle.octi_grid.specs.declared.dir.Dir.{Dir}
use Rattle.octi_grid.specs.Ways.{are_one, reverse_of, step_from}
use Rattle.octi_grid.specs.declared.point.GridPoint.{GridPoint}
use Rattle.octi_grid.specs.Costs.{step_cost, turn_between}
use Rattle.octi_grid.specs.Legal.{is_among}
use Rattle.octi_grid.proofs.CostLemmas.{step_cost_small, turn_small}
use Rattle.state_search.specs.Goals.{IsSpace}
use Rattle.walk_search.specs.declared.spots.Spot.{Spot}
use Rattle.grid_board.specs.Boards.{is_inside}
use Rattle.walk_search.specs.Seats.{seat_cost}
use Rattle.walk_search.specs.Routes.{allows}
use Rattle.walk_search.specs.Reaching.{reach_of}
use Rattle.walk_search.specs.Spots.{IsSpot, number_of_spot, spots_of, spot_of}
use Rattle.walk_search.specs.Moves.{Question, IsQuestion, IsMove, ahead_at, chosen_seat, direction, end_cost, ends_of, group_of, is_end, is_open, is_other_end, is_passable, is_start, may_end, may_leave, move_of, seat_ahead, space_of, spot_ahead, start_at, starts_of, step_ahead, stepped, turn_from, turns_due}
use Rattle.walk_search.proofs.Numbered.{number_below_spots, spot_of-number, spot_of-is, some_same, spot_of-none}
use Rattle.walk_search.proofs.LeastReach.{reach_seat, reach_step}
use Rattle.grid_board.proofs.Marks.{one_true}
use Rattle.walk_search.proofs.Turning.{step_back, step_cost_from, step_there}
use Rattle.walk_search.proofs.TurnsDue.{due, due_farther, due_first, due_once, turns_to}
use Rattle.walk_search.proofs.SeatFacts.{all_index, among_stands, seats_cheap, seats_few, seats_inside}

pub cond_some : {X : Type 0} (t : Bool) (x y : X) → cond t (Some x) None ≡ Some y → (t ≡ true) × (x ≡ y)
cond_some true x y e = (refl, some_same x y e)
cond_some {X = X} false x y e = let no : ⊥ = cc in absurd no

-- a seat was chosen
pub record IsChosen (q : Question) (i : ℕ) (landing : Spot) (c : ℕ) : Type 0 where
  pub below : i < length (starts_of q)
  pub lands : landing ≡ record { at = start_at q i; arrival = 8; group = group_of q i }
  pub cost : c ≡ seat_cost q.from.at (start_at q i) + 1

pub chosen_parts : (q : Question) (i : ℕ) (landing : Spot) (c : ℕ) → chosen_seat q i ≡ Some (landing, c) → IsChosen q i landing c
chosen_parts q i landing c e =
    let found = cond_some (ltb i (length (starts_of q))) (let s : Spot × ℕ = (record { at = start_at q i; arrival = 8; group = group_of q i }, seat_cost q.from.at (start_at q i) + 1) in s) (landing, c) e in
    record {
      below = ltb-true i (length (starts_of q)) found.0;
      lands = sym (ap (λ (s : Spot × ℕ). s.0) found.1);
      cost = sym (ap (λ (s : Spot × ℕ). s.1) found.1);
    }

-- a step was made
pub record IsStepped (q : Question) (s : Spot) (l : ℕ) (landing : Spot) (c : ℕ) : Type 0 where
  pub below : l < 8
  pub leaves : may_leave q s (direction l) ≡ true
  pub is_free : is_open q.board s.at (direction l) ≡ true
  pub lands : landing ≡ record { at = step_from s.at (direction l); arrival = l; group = s.group }
  pub cost : c ≡ step_cost (direction l) + turn_from s.arrival (direction l)

pub stepped_parts : (q : Question) (s : Spot) (l : ℕ) (landing : Spot) (c : ℕ) → stepped q s l ≡ Some (landing, c) → IsStepped q s l landing c
stepped_parts q s l landing c e =
    let goes : Bool = may_leave q s (direction l) && is_open q.board s.at (direction l) in
    let found = cond_some (ltb l 8 && goes) (let m : Spot × ℕ = (record { at = step_from s.at (direction l); arrival = l; group = s.group }, step_cost (direction l) + turn_from s.arrival (direction l)) in m) (landing, c) e in
    let first = and_parts (ltb l 8) goes found.0 in
    let second = and_parts (may_leave q s (direction l)) (is_open q.board s.at (direction l)) first.1 in
    record {
      below = ltb-true l 8 first.0;
      leaves = second.0;
      is_free = second.1;
      lands = sym (ap (λ (m : Spot × ℕ). m.0) found.1);
      cost = sym (ap (λ (m : Spot × ℕ). m.1) found.1);
    }

pub move_cases : (q : Question) (o : Option Spot) (l : ℕ) (landing : Spot) (c : ℕ) → move_of q o l ≡ Some (landing, c) →
    ((o ≡ None) × IsChosen q l landing c) ⊎ ((s : Spot) × (o ≡ Some s) × IsStepped q s l landing c)
move_cases q None l landing c e = inl (refl, chosen_parts q l landing c e)
move_cases q (Some s) l landing c e = inr (s, refl, stepped_parts q s l landing c e)

-- the home of the start lies on the board
pub from_inside : (q : Question) → IsQuestion q → is_inside q.board q.from.at ≡ true
from_inside q h = h.board.nodes_inside q.from.at h.from_node

pub to_inside : (q : Question) → IsQuestion q → is_inside q.board q.to.at ≡ true
to_inside q h = h.board.nodes_inside q.to.at h.to_node

pub start_inside : (q : Question) → IsQuestion q → (i : ℕ) → i < length (starts_of q) → is_inside q.board (start_at q i) ≡ true
start_inside q h i below = all_index (λ p. is_inside q.board p ≡ true) (starts_of q) (seats_inside q.board q.from (from_inside q h)) i q.from.at below

pub start_cheap : (q : Question) (i : ℕ) → i < length (starts_of q) → seat_cost q.from.at (start_at q i) ≤ 20
start_cheap q i below = all_index (λ p. seat_cost q.from.at p ≤ 20) (starts_of q) (seats_cheap q.board q.from) i q.from.at below

pub group_small : (q : Question) (i : ℕ) → i < length (starts_of q) → group_of q i < 10
group_small q i below =
    let few : length (starts_of q) ≤ 9 = seats_few q.board q.from in
    cond_both (is_among (ends_of q) (start_at q i)) (i + 1) 0 (λ n. n < 10) (λ e. omega (arith, few, below))
    (λ e. omega arith)

pub chosen_spot : (q : Question) → IsQuestion q → (i : ℕ) (landing : Spot) (c : ℕ) → IsChosen q i landing c → IsSpot q.board.bounds landing
chosen_spot q h i landing c m =
    subst (λ (s : Spot). IsSpot q.board.bounds s) (sym m.lands) (record { inside = start_inside q h i m.below; arrival = omega arith; group = group_small q i m.below })

pub stepped_spot : (q : Question) (s : Spot) (l : ℕ) (landing : Spot) (c : ℕ) → IsSpot q.board.bounds s → IsStepped q s l landing c → IsSpot q.board.bounds landing
stepped_spot q s l landing c h m =
    let parts = and_parts (is_inside q.board s.at) _ m.is_free in
    subst (λ (x : Spot). IsSpot q.board.bounds x) (sym m.lands)
    (record { inside = (and_parts (is_inside q.board (step_from s.at (direction l))) _ parts.1).0; arrival = omega (arith, m.below); group = h.group })

pub turn_from_small : (a : ℕ) (d : Dir) → turn_from a d ≤ 4
turn_from_small a d =
    cond_both (eqb a 8) 0 (turn_between (direction a) d) (λ n. n ≤ 4) (λ e. omega arith)
    (λ e. turn_small (direction a) d)

-- ---- what it costs at least to come to a spot rises by no more than a move costs

seat_first : (q : Question) (p : GridPoint) → ahead_at q p 8 ≤ seat_cost q.from.at p + 1
unfolding ahead_at seat_ahead
seat_first q p =
    cond_both (are_one q.from.at p) (reach_of q.from.at p) (reach_of q.from.at p + 1)
    (λ n. n ≤ seat_cost q.from.at p + 1)
    (λ e. omega (arith, reach_seat q.from.at p)) (λ e. omega (arith, reach_seat q.from.at p))

-- by an allowed port from a seat no turn is due but where that is not the home
start_due : (q : Question) (p : GridPoint) (l : ℕ) → l < 8 → allows q.from.ports (Some (direction l)) ≡ true →
    reach_of q.from.at p + due q (step_from p (direction l)) (direction l) ≤ seat_ahead q p
unfolding seat_ahead
start_due q p l below e = of_test (are_one q.from.at p) refl
  where
    of_test : (t : Bool) → are_one q.from.at p ≡ t → reach_of q.from.at p + due q (step_from p (direction l)) (direction l) ≤ cond t (reach_of q.from.at p) (reach_of q.from.at p + 1)
    of_test true h =
        let here : due q (step_from p (direction l)) (direction l) ≡ 0 =
        ap (λ (r : GridPoint). due q (step_from r (direction l)) (direction l)) (sym (one_true q.from.at p h)) ∙ due_first q l below e in
        omega (arith, here)
    of_test false h = let once = due_once q (step_from p (direction l)) l below e in omega (arith, once)

-- what a step is due to, once it was made
stepped_ahead : (q : Question) (p : GridPoint) (l : ℕ) → l < 8 → ahead_at q (step_from p (direction l)) l ≡ reach_of q.from.at p + (step_cost (direction l) + due q (step_from p (direction l)) (direction l))
unfolding ahead_at step_ahead
stepped_ahead q p l below =
    let d : Dir = direction l in
    let no_start : l ≡ 8 → ⊥ = λ e. absurd (omega (arith, below, e)) in
    ap (λ t. cond t (seat_ahead q (step_from p d)) (reach_of q.from.at (step_from (step_from p d) (reverse_of d)) + (step_cost d + turns_due q (step_from p d) l))) (ne_eqb l 8 no_start)
    ∙ ap₂ (λ (r : GridPoint) (k : ℕ). reach_of q.from.at r + (step_cost d + k)) (step_back p d) (turns_to q (step_from p d) l below)

-- and how far a point is from where the step to it came from
arrived_ahead : (q : Question) (p : GridPoint) (l : ℕ) → l < 8 → reach_of q.from.at p + due q p (direction l) ≤ ahead_at q p l
unfolding ahead_at step_ahead
arrived_ahead q p l below =
    let a : Dir = direction l in
    let no_start : l ≡ 8 → ⊥ = λ e. absurd (omega (arith, below, e)) in
    let back : GridPoint = step_from p (reverse_of a) in
    let reached : reach_of q.from.at p ≤ reach_of q.from.at back + step_cost a =
    subst (λ (r : GridPoint). reach_of q.from.at r ≤ reach_of q.from.at back + step_cost a) (step_there p a) (reach_step q.from.at back a) in
    let turns : turns_due q p l ≡ due q p a = turns_to q p l below in
    subst (λ b. reach_of q.from.at p + due q p a ≤ cond b (seat_ahead q p) (reach_of q.from.at back + (step_cost a + turns_due q p l))) (sym (ne_eqb l 8 no_start)) (omega (arith, reached, turns))

at_start : (q : Question) (p : GridPoint) (n : ℕ) → eqb n 8 ≡ true → ahead_at q p n ≡ seat_ahead q p
unfolding ahead_at
at_start q p n h = ap (λ t. cond t (seat_ahead q p) (step_ahead q p n)) h

step_rises : (q : Question) (s : Spot) (l : ℕ) (landing : Spot) (c : ℕ) → s.arrival < 9 → IsStepped q s l landing c → ahead_at q (step_from s.at (direction l)) l ≤ ahead_at q s.at s.arrival + c
step_rises q s l landing c small m = elim (cases_Bool (eqb s.arrival 8)) [
  | inl e ↦ (let here : ahead_at q s.at s.arrival ≡ seat_ahead q s.at = at_start q s.at s.arrival e in
      let leaves : (is_start q s.at s.group && allows q.from.ports (Some d)) ≡ true =
      sym (ap (λ t. cond t (is_start q s.at s.group && allows q.from.ports (Some d)) (is_passable q.board s.at)) e) ∙ m.leaves in
      let due_here = start_due q s.at l m.below (and_parts (is_start q s.at s.group) (allows q.from.ports (Some d)) leaves).1 in
      omega (arith, after, here, due_here, cost))
  | inr e ↦ (let a : Dir = direction s.arrival in
      let below : s.arrival < 8 = omega (arith, small, eqb-false s.arrival 8 e) in
      let here : reach_of q.from.at s.at + due q s.at a ≤ ahead_at q s.at s.arrival = arrived_ahead q s.at s.arrival below in
      let farther = due_farther q s.at a d in
      let turn : turn_from s.arrival d ≡ turn_between a d = ap (λ t. cond t 0 (turn_between a d)) e in
      omega (arith, after, here, farther, turn, cost))
]
  where
    d : Dir
    d = direction l

    after : ahead_at q (step_from s.at d) l ≡ reach_of q.from.at s.at + (step_cost d + due q (step_from s.at d) d)
    after = stepped_ahead q s.at l m.below

    cost : c ≡ step_cost d + turn_from s.arrival d
    cost = m.cost

-- what a move by numbers is
pub record IsMoved (q : Question) (a l c : ℕ) (landing : Spot) : Type 0 where
  pub spot : IsSpot q.board.bounds landing
  pub cost_from : 1 ≤ c
  pub cost_to : c ≤ 21
  pub rises : ahead_at q landing.at landing.arrival ≤ spot_ahead q (spot_of q.board.bounds a) + c

pub moved : (q : Question) → IsQuestion q → (a l c : ℕ) (landing : Spot) → a < spots_of q.board.bounds + 1 → move_of q (spot_of q.board.bounds a) l ≡ Some (landing, c) → IsMoved q a l c landing
moved q h a l c landing below goes = elim (move_cases q (spot_of q.board.bounds a) l landing c goes) [
  | inl m ↦ of_chosen m.1
  | inr m ↦ of_stepped m.0 m.1 m.2
]
  where
    of_chosen : IsChosen q l landing c → IsMoved q a l c landing
    of_chosen m = record {
      spot = chosen_spot q h l landing c m;
      cost_from = omega (arith, m.cost);
      cost_to = omega (arith, m.cost, start_cheap q l m.below);
      rises =
          subst (λ (s : Spot). ahead_at q s.at s.arrival ≤ spot_ahead q (spot_of q.board.bounds a) + c) (sym m.lands)
          (omega (arith, seat_first q (start_at q l), m.cost));
    }

    of_stepped : (s : Spot) → spot_of q.board.bounds a ≡ Some s → IsStepped q s l landing c → IsMoved q a l c landing
    of_stepped s e m =
        let of = spot_of-is q.board.bounds a s h.board.in_range below e in
        record {
          spot = stepped_spot q s l landing c of.spot m;
          cost_from = omega (arith, m.cost, step_cost_from (direction l));
          cost_to = omega (arith, m.cost, step_cost_small (direction l), turn_from_small s.arrival (direction l));
          rises =
              subst (λ (o : Option Spot). ahead_at q landing.at landing.arrival ≤ spot_ahead q o + c) (sym e)
              (subst (λ (x : Spot). ahead_at q x.at x.arrival ≤ ahead_at q s.at s.arrival + c) (sym m.lands) (step_rises q s l landing c of.spot.arrival m));
        }

-- where a move leads to, and what it is: from a spot a step, and from before every spot the choice of a seat
pub landed : (q : Question) → IsQuestion q → (n l m c : ℕ) (move : IsMove q n l m c)
    → spot_of q.board.bounds m ≡ Some move.landing
landed q h n l m c move =
    ap (spot_of q.board.bounds) move.lands
    ∙ spot_of-number q.board.bounds move.landing (moved q h n l c move.landing move.from_spot move.goes).spot

pub step_of : (q : Question) (n l m c : ℕ) (move : IsMove q n l m c) (s : Spot) → spot_of q.board.bounds n ≡ Some s
    → IsStepped q s l move.landing c
step_of q n l m c move s e =
    stepped_parts q s l move.landing c (sym (ap (λ (o : Option Spot). move_of q o l) e) ∙ move.goes)

pub seat_of : (q : Question) (l m c : ℕ) (move : IsMove q (spots_of q.board.bounds) l m c) → IsChosen q l move.landing c
seat_of q l m c move =
    chosen_parts q l move.landing c
    (sym (ap (λ (o : Option Spot). move_of q o l) (spot_of-none q.board.bounds)) ∙ move.goes)

-- where a walk may end
pub record IsGoal (q : Question) (n k : ℕ) (s : Spot) : Type 0 where
  pub below : n < spots_of q.board.bounds + 1
  pub spot : spot_of q.board.bounds n ≡ Some s
  pub arrival : s.arrival < 8
  pub ends : may_end q s ≡ true
  pub cost : k ≡ seat_cost q.to.at s.at

cond_option : {X : Type 0} (t : Bool) (o : Option X) (y : X) → cond t o None ≡ Some y → (t ≡ true) × (o ≡ Some y)
cond_option true o y e = (refl, e)
cond_option {X = X} false o y e = let no : ⊥ = cc in absurd no

pub end_cost_parts : (q : Question) (s : Spot) (k : ℕ) → end_cost q (Some s) ≡ Some k → (s.arrival < 8) × (may_end q s ≡ true) × (k ≡ seat_cost q.to.at s.at)
end_cost_parts q s k e =
    let found = cond_some (ltb s.arrival 8 && may_end q s) (seat_cost q.to.at s.at) k e in
    let parts = and_parts (ltb s.arrival 8) (may_end q s) found.0 in
    (ltb-true s.arrival 8 parts.0, parts.1, sym found.1)

pub goal_parts : (q : Question) (n k : ℕ) → (space_of q).goal n ≡ Some k → (s : Spot) × IsGoal q n k s
goal_parts q n k e = of_spot (spot_of q.board.bounds n) refl
  where
    found : (ltb n (spots_of q.board.bounds + 1) ≡ true) × (end_cost q (spot_of q.board.bounds n) ≡ Some k)
    found = cond_option (ltb n (spots_of q.board.bounds + 1)) (end_cost q (spot_of q.board.bounds n)) k e

    of_spot : (o : Option Spot) → spot_of q.board.bounds n ≡ o → (s : Spot) × IsGoal q n k s
    of_spot None h = let clash : None ≡ Some k = sym (ap (end_cost q) h) ∙ found.1 in absurd (let no : ⊥ = cc in no)
    of_spot (Some s) h =
        let parts = end_cost_parts q s k (sym (ap (end_cost q) h) ∙ found.1) in
        (s, record { below = ltb-true n (spots_of q.board.bounds + 1) found.0; spot = h; arrival = parts.0; ends = parts.1; cost = parts.2 })

pub end_among : (q : Question) (s : Spot) → may_end q s ≡ true → is_among (ends_of q) s.at ≡ true
end_among q s e =
    (and_parts (is_among (ends_of q) s.at) (eqb s.group 0 || is_other_end q s.at s.group) ((and_parts (is_end q s.at s.group) (allows q.to.ports (Some (reverse_of (direction s.arrival)))) e).0)).0

-- so the spots are states of a search
pub is_space : (q : Question) → IsQuestion q → IsSpace (space_of q)
is_space q h = record {
  one_state = λ a l s t c d m n. m.lands ∙ ap (number_of_spot q.board.bounds) (landing_same a l s t c d m n) ∙ sym n.lands;
  one_cost = λ a l s t c d m n. ap (λ (x : Spot × ℕ). x.1) (some_same (m.landing, c) (n.landing, d) (sym m.goes ∙ n.goes));
  not_free = λ a l s c m. (moved q h a l c m.landing m.from_spot m.goes).cost_from;
  cheap = λ a l s c m. (moved q h a l c m.landing m.from_spot m.goes).cost_to;
  from_state = λ a l s c m. m.from_spot;
  to_state = in_range;
  end_state = λ a k e. (goal_parts q a k e).1.below;
  cheap_end = λ a k e. cheap_goal a k (goal_parts q a k e).0 (goal_parts q a k e).1;
  consistent = rises;
}
  where
    landing_same : (a l s t c d : ℕ) (m : IsMove q a l s c) (n : IsMove q a l t d) → m.landing ≡ n.landing
    landing_same a l s t c d m n = ap (λ (x : Spot × ℕ). x.0) (some_same (m.landing, c) (n.landing, d) (sym m.goes ∙ n.goes))

    in_range : (a l s c : ℕ) (m : IsMove q a l s c) → s < spots_of q.board.bounds + 1
    in_range a l s c m =
        omega (arith, m.lands, number_below_spots q.board.bounds m.landing (moved q h a l c m.landing m.from_spot m.goes).spot)

    cheap_goal : (a k : ℕ) (s : Spot) → IsGoal q a k s → k ≤ 21
    cheap_goal a k s g =
        let cheap : seat_cost q.to.at s.at ≤ 20 = all-at (λ p. seat_cost q.to.at p ≤ 20) s.at (ends_of q) (seats_cheap q.board q.to) (among_stands s.at (ends_of q) (end_among q s g.ends)) in
        omega (arith, cheap, g.cost)

    rises : (a l s c : ℕ) (m : IsMove q a l s c) → spot_ahead q (spot_of q.board.bounds s) ≤ spot_ahead q (spot_of q.board.bounds a) + c
    rises a l s c m =
        subst (λ (o : Option Spot). spot_ahead q o ≤ spot_ahead q (spot_of q.board.bounds a) + c)
        (sym (landed q h a l s c m))
        (moved q h a l c m.landing m.from_spot m.goes).rises
