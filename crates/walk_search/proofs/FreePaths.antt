-- Paths from spot to spot are walks along open steps, and the other way round.
use Rattle.std.proofs.Common.{◌≡◌, refl, sym, ◌∙◌, ap, subst, ℕ, ◌+◌, ◌<◌, true, cond, ltb, ◌&&◌, List, [], ◌∷◌, map, Some, None, arith}
use Rattle.std.specs.Prelude.{option_map}
use Rattle.std.proofs.lemmas.Bool.{and_parts, and_from, lt-ltb, ne_eqb, cond-true}
use Rattle.octi_grid.specs.declared.dir.Dir.{Dir}
use Rattle.octi_grid.specs.Ways.{after, number_of, reverse_of, step_from}
use Rattle.octi_grid.specs.Costs.{step_cost, turn_between, way_cost}
use Rattle.octi_grid.specs.Walks.{last_of}
use Rattle.state_search.specs.Goals.{PathTo}
use Rattle.walk_search.specs.declared.spots.Spot.{Spot}
use Rattle.walk_search.specs.Seats.{seat_cost}
use Rattle.walk_search.specs.Routes.{allows}
use Rattle.walk_search.specs.Spots.{IsSpot, number_of_spot, spot_of}
use Rattle.walk_search.specs.Moves.{Question, IsQuestion, IsMove, direction, end_cost, is_end, is_open, is_passable, is_start, may_end, may_leave, space_of, turn_from}
use Rattle.walk_search.proofs.FreeWays.{Along, open_parts}
use Rattle.walk_search.proofs.Numbered.{some_same}
use Rattle.walk_search.proofs.Turning.{direction-number_of, number_below}
use Rattle.walk_search.proofs.Moving.{goal_parts, landed, step_of}
use Rattle.walk_search.proofs.Offering.{goal_of_spot, step_move}

-- a walk goes on from a spot along open steps, and may end where it comes to
pub record IsOnward (q : Question) (s : Spot) (d : Dir) (ds : List Dir) (k : ℕ) : Type 0 where
  pub leaves : may_leave q s d ≡ true
  pub along : Along q.board s.at (d ∷ ds)
  pub ends : is_end q (after s.at (d ∷ ds)) s.group ≡ true
  pub port : allows q.to.ports (option_map reverse_of (last_of (d ∷ ds))) ≡ true
  pub cost : k ≡ turn_from s.arrival d + way_cost (d ∷ ds) + seat_cost q.to.at (after s.at (d ∷ ds))

passes : (q : Question) (s : Spot) (d : Dir) → s.arrival < 8 → may_leave q s d ≡ is_passable q.board s.at
passes q s d small = ap (λ t. cond t (is_start q s.at s.group && allows q.from.ports (Some d)) (is_passable q.board s.at)) (ne_eqb s.arrival 8 (λ e. absurd (omega arith)))

turns : (a : ℕ) (d : Dir) → a < 8 → turn_from a d ≡ turn_between (direction a) d
turns a d small = ap (λ t. cond t 0 (turn_between (direction a) d)) (ne_eqb a 8 (λ e. absurd (omega arith)))

pub onward_of_path : (q : Question) → IsQuestion q → (n : ℕ) (s : Spot) (l : ℕ) (ls : List ℕ) (k : ℕ) → spot_of q.board.bounds n ≡ Some s → PathTo (space_of q) n (l ∷ ls) k →
    IsOnward q s (direction l) (map direction ls) k
onward_of_path q h n s l [] k e (to, c, rest, move, goal, sum) =
    let step = step_of q n l to c move s e in
    let g = goal_parts q to rest goal in
    let same : g.0 ≡ record { at = step_from s.at (direction l); arrival = l; group = s.group } =
    some_same g.0 move.landing (sym g.1.spot ∙ landed q h n l to c move) ∙ step.lands in
    let ends : may_end q (record { at = step_from s.at (direction l); arrival = l; group = s.group }) ≡ true = subst (λ (x : Spot). may_end q x ≡ true) same g.1.ends in
    let parts = and_parts (is_end q (step_from s.at (direction l)) s.group) (allows q.to.ports (Some (reverse_of (direction l)))) ends in
    let seat : rest ≡ seat_cost q.to.at (step_from s.at (direction l)) =
    g.1.cost ∙ ap (λ (x : Spot). seat_cost q.to.at x.at) same in
    record {
      leaves = step.leaves;
      along = step.is_free;
      ends = parts.0;
      port = parts.1;
      cost = sums (step_cost (direction l)) (turn_from s.arrival (direction l)) c rest (seat_cost q.to.at (step_from s.at (direction l))) step.cost seat sum;
    }
  where
    sums : (a t c r z : ℕ) → c ≡ a + t → r ≡ z → k ≡ c + r → k ≡ t + a + z
    sums a t c r z x y w = omega arith
onward_of_path q h n s l (m ∷ ms) k e (to, c, rest, move, path, sum) =
    let step = step_of q n l to c move s e in
    let o : IsOnward q (record { at = step_from s.at (direction l); arrival = l; group = s.group }) (direction m)
    (map direction ms) rest =
    subst (λ (x : Spot). IsOnward q x (direction m) (map direction ms) rest) step.lands
    (onward_of_path q h to move.landing m ms rest (landed q h n l to c move) path) in
    record {
      leaves = step.leaves;
      along = (step.is_free, sym (passes q (record { at = step_from s.at (direction l); arrival = l; group = s.group }) (direction m) step.below) ∙ o.leaves, o.along);
      ends = o.ends;
      port = o.port;
      cost = sums (step_cost (direction l)) (turn_from s.arrival (direction l)) c rest (turn_from l (direction m)) (turn_between (direction l) (direction m)) (way_cost (direction m ∷ map direction ms))
          (seat_cost q.to.at (after (step_from s.at (direction l)) (direction m ∷ map direction ms))) step.cost (turns l (direction m) step.below) o.cost sum;
    }
  where
    sums : (a t c r f g w z : ℕ) → c ≡ a + t → f ≡ g → r ≡ f + w + z → k ≡ c + r → k ≡ t + (a + g + w) + z
    sums a t c r f g w z x y u v = omega arith

-- the spot that a step leads to
abbrev led : Spot → Dir → Spot
led s d = record { at = step_from s.at d; arrival = number_of d; group = s.group }

led_spot : (q : Question) (s : Spot) (d : Dir) → IsSpot q.board.bounds s → is_open q.board s.at d ≡ true → IsSpot q.board.bounds (led s d)
led_spot q s d h free = record { inside = (open_parts q.board s.at d free).there; arrival = omega (arith, number_below d); group = h.group }

led_move : (q : Question) (s : Spot) (d : Dir) → IsSpot q.board.bounds s → may_leave q s d ≡ true → is_open q.board s.at d ≡ true →
    IsMove q (number_of_spot q.board.bounds s) (number_of d) (number_of_spot q.board.bounds (led s d)) (step_cost d + turn_from s.arrival d)
led_move q s d h leaves free =
    subst (λ (e : Dir). IsMove q (number_of_spot q.board.bounds s) (number_of d) (number_of_spot q.board.bounds (led s d)) (step_cost e + turn_from s.arrival e)) (direction-number_of d)
    (step_move q s (number_of d) (number_of_spot q.board.bounds (led s d)) (led s d) h (number_below d)
    (subst (λ (e : Dir). may_leave q s e ≡ true) (sym (direction-number_of d)) leaves) (subst (λ (e : Dir). is_open q.board s.at e ≡ true) (sym (direction-number_of d)) free)
    (ap (λ (e : Dir). record { at = step_from s.at e; arrival = number_of d; group = s.group }) (sym (direction-number_of d))) refl)

pub path_of_onward : (q : Question) → IsQuestion q → (s : Spot) (d : Dir) (ds : List Dir) (k : ℕ) → IsSpot q.board.bounds s → IsOnward q s d ds k →
    PathTo (space_of q) (number_of_spot q.board.bounds s) (number_of d ∷ map number_of ds) k
path_of_onward q h s d [] k on o = (
  number_of_spot q.board.bounds (led s d),
  step_cost d + turn_from s.arrival d,
  seat_cost q.to.at (step_from s.at d),
  led_move q s d on o.leaves o.along,
  goal_of_spot q (led s d) (led_spot q s d on o.along) ∙ ends,
  sums (step_cost d) (turn_from s.arrival d) (seat_cost q.to.at (step_from s.at d)) o.cost,
)
  where
    sums : (a t z : ℕ) → k ≡ t + a + z → k ≡ a + t + z
    sums a t z x = omega arith

    ends : end_cost q (Some (led s d)) ≡ Some (seat_cost q.to.at (step_from s.at d))
    ends =
        cond-true (ltb (number_of d) 8 && may_end q (led s d)) (Some (seat_cost q.to.at (step_from s.at d))) None
        (and_from (ltb (number_of d) 8) (may_end q (led s d)) (lt-ltb (number_of d) 8 (number_below d))
        (and_from (is_end q (step_from s.at d) s.group) (allows q.to.ports (Some (reverse_of (direction (number_of d))))) o.ends
        (subst (λ (e : Dir). allows q.to.ports (Some (reverse_of e)) ≡ true) (sym (direction-number_of d)) o.port)))
path_of_onward q h s d (e ∷ ds) k on o = (
  number_of_spot q.board.bounds (led s d),
  step_cost d + turn_from s.arrival d,
  rest,
  led_move q s d on o.leaves o.along.0,
  path_of_onward q h (led s d) e ds rest (led_spot q s d on o.along.0) onward,
  sums (step_cost d) (turn_from s.arrival d) (turn_from (number_of d) e) (turn_between d e) (way_cost (e ∷ ds)) (seat_cost q.to.at (after (step_from s.at d) (e ∷ ds))) turn o.cost,
)
  where
    rest : ℕ
    rest = turn_from (number_of d) e + way_cost (e ∷ ds) + seat_cost q.to.at (after (step_from s.at d) (e ∷ ds))

    turn : turn_from (number_of d) e ≡ turn_between d e
    turn = turns (number_of d) e (number_below d) ∙ ap (λ (x : Dir). turn_between x e) (direction-number_of d)

    onward : IsOnward q (led s d) e ds rest
    onward = record { leaves = passes q (led s d) e (number_below d) ∙ o.along.1; along = o.along.2; ends = o.ends; port = o.port; cost = refl }

    sums : (a t f g w z : ℕ) → f ≡ g → k ≡ t + (a + g + w) + z → k ≡ a + t + (f + w + z)
    sums a t f g w z x y = omega arith
