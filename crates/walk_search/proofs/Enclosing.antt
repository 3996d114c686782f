-- Walks that are shut in come to no end.
use Rattle.std.proofs.Common.{◌≡◌, refl, sym, ◌∙◌, ap, subst, ℕ, ◌+◌, ◌-◌, ◌<◌, ◌≤◌, ◌⊎◌, inl, inr, Bool, true, false, cond, leb, ◌||◌, ◌&&◌, List, [], ◌∷◌, ◌++◌, length, get_or, Option, Some, None, arith, append_assoc}
use Rattle.std.specs.List.{list_any}
use Rattle.std.proofs.lemmas.Bool.{and_parts, and_from, ne_eqb, eq-eqb, cases_eq, leb-true, or_left, or_right}
use Rattle.std.proofs.lemmas.List.Folds.{list_any_at}
use Rattle.std.proofs.lemmas.List.{get_or_append_left, length-append, append-nil, get_or_push}
use Rattle.octi_grid.specs.declared.dir.Dir.{Dir}
use Rattle.octi_grid.specs.declared.point.GridPoint.{GridPoint}
use Rattle.octi_grid.specs.Ways.{are_one, step_from}
use Rattle.octi_grid.specs.Legal.{is_among}
use Rattle.grid_board.specs.Boards.{is_inside}
use Rattle.grid_board.proofs.Marks.{one_true}
use Rattle.least_path.proofs.Chosen.{StandsIn, stands-left}
use Rattle.std.specs.declared.cmp.Reverse.{Reverse}
use Rattle.state_search.specs.Goals.{PathTo, Space}
use Rattle.state_search.specs.Searching.{IsFound, IsSearch, IsSearched, known_at}
use Rattle.walk_search.specs.declared.spots.Spot.{Spot}
use Rattle.walk_search.specs.Routes.{allows}
use Rattle.walk_search.specs.Spots.{spots_of, spot_of}
use Rattle.walk_search.specs.Moves.{Question, IsQuestion, IsMove, direction, ends_of, is_own_start, is_open, is_passable, is_shared_start, is_start, may_leave, space_of, start_at, starts_of}
use Rattle.walk_search.specs.Enclosed.{leads_on, leaves_start, point_at, AreInside, AreReached, HasSteps, IsLonger, IsShutIn}
use Rattle.walk_search.proofs.Numbered.{spot_of-none, some_same}
use Rattle.walk_search.proofs.SeatFacts.{among_stands, place_of, place_stands, stands_among}
use Rattle.walk_search.proofs.Moving.{end_among, goal_parts, landed, seat_of, step_of}

-- no step leads on where it is not open
pub not_leading : (goes inside free : Bool) → free ≡ false → false ≡ (goes && (inside && free))
not_leading true true free e = sym e
not_leading true false free e = refl
not_leading false inside free e = refl

-- where a step leads on, it leads to the board
pub leads_inside : (q : Question) (p : GridPoint) (d : Dir) → leads_on q p d ≡ true → is_inside q.board (step_from p d) ≡ true
leads_inside q p d e =
    let free : is_open q.board p d ≡ true = (and_parts (leaves_start q p d || is_passable q.board p) (is_open q.board p d) e).1 in
    let next = (and_parts (is_inside q.board p) _ free).1 in
    (and_parts (is_inside q.board (step_from p d)) _ next).0

-- a point that is among points is among more
pub among_longer : (old new : List GridPoint) → IsLonger old new → (p : GridPoint) → is_among old p ≡ true → is_among new p ≡ true
among_longer old new longer p e =
    stands_among p new (subst (λ (ps : List GridPoint). StandsIn p ps) (sym longer.is) (stands-left p old longer.more (among_stands p old e)))

pub longer_same : (points : List GridPoint) → IsLonger points points
longer_same points = record { more = []; is = sym (append-nil points) }

pub longer_both : (a b c : List GridPoint) → IsLonger a b → IsLonger b c → IsLonger a c
longer_both a b c first second = record {
  more = first.more ++ second.more;
  is = second.is ∙ ap (λ xs. xs ++ second.more) first.is ∙ append_assoc a first.more second.more;
}

pub point_longer : (q : Question) (old new : List GridPoint) → IsLonger old new → (i : ℕ) → i < length old → point_at q new i ≡ point_at q old i
point_longer q old new longer i below = ap (λ (ps : List GridPoint). get_or ps i q.from.at) longer.is ∙ get_or_append_left old longer.more q.from.at i below

pub length_longer : (old new : List GridPoint) → IsLonger old new → length old ≤ length new
length_longer old new longer = let long : length new ≡ length old + length longer.more = ap length longer.is ∙ length-append old longer.more in omega arith

-- one point more
pub inside_more : (q : Question) (points : List GridPoint) (p : GridPoint) → AreInside q points → is_inside q.board p ≡ true → AreInside q (points ++ p ∷ [])
inside_more q points p all one i below = elim (cases_eq i (length points)) [
  | inl e ↦ ap (is_inside q.board) (get_or_push points p q.from.at i (sym e)) ∙ one
  | inr apart ↦ (let long : length (points ++ p ∷ []) ≡ length points + 1 = length-append points (p ∷ []) in
      let inside : i < length points = omega (arith, long, below, apart) in
      ap (is_inside q.board) (get_or_append_left points (p ∷ []) q.from.at i inside) ∙ all i inside)
]

-- what was followed stays followed
pub steps_longer : (q : Question) (old new : List GridPoint) (p : GridPoint) (count : ℕ) → IsLonger old new → HasSteps q old p count → HasSteps q new p count
steps_longer q old new p count longer has n below leads = among_longer old new longer (step_from p (direction n)) (has n below leads)

-- one more direction
pub steps_more : (q : Question) (old new : List GridPoint) (p : GridPoint) (count : ℕ) → IsLonger old new → HasSteps q old p count →
    (leads_on q p (direction count) ≡ true → is_among new (step_from p (direction count)) ≡ true) → HasSteps q new p (count + 1)
steps_more q old new p count longer has one n below leads = elim (cases_eq n count) [
  | inl e ↦ subst (λ (m : ℕ). is_among new (step_from p (direction m)) ≡ true) (sym e) (one (subst (λ (m : ℕ). leads_on q p (direction m) ≡ true) e leads))
  | inr apart ↦ steps_longer q old new p count longer has n (omega (arith, below, apart)) leads
]

-- the points are reached from the starts on
pub reached_first : (q : Question) (points : List GridPoint) → points ≡ starts_of q → AreInside q (starts_of q) → AreReached q points 0
reached_first q points is inside = record {
  inside = subst (λ (ps : List GridPoint). AreInside q ps) (sym is) inside;
  starts = λ p e. ap (λ (ps : List GridPoint). is_among ps p) is ∙ e;
  steps = λ i below. let none : i < 0 = below in absurd (omega arith);
}

pub reached_more : (q : Question) (old new : List GridPoint) (followed : ℕ) → AreReached q old followed → followed < length old → IsLonger old new → AreInside q new → HasSteps q new (point_at q old followed) 8 → AreReached q new (followed + 1)
reached_more q old new followed r below longer inside steps = record {
  inside = inside;
  starts = λ p e. among_longer old new longer p (r.starts p e);
  steps = λ i less. of_case i less (cases_eq i followed);
}
  where
    of_case : (i : ℕ) → i < followed + 1 → (i ≡ followed) ⊎ (i ≡ followed → ⊥) → HasSteps q new (point_at q new i) 8
    of_case i less (inl e) =
        subst (λ (p : GridPoint). HasSteps q new p 8) (sym (ap (point_at q new) e ∙ point_longer q old new longer followed below)) steps
    of_case i less (inr apart) =
        let early : i < followed = omega arith in
        let within : i < length old = omega arith in
        subst (λ (p : GridPoint). HasSteps q new p 8) (sym (point_longer q old new longer i within)) (steps_longer q old new (point_at q old i) 8 longer (r.steps i early))

-- a start of walks of any group is a seat of the start
start_among : (q : Question) (p : GridPoint) (group : ℕ) → is_start q p group ≡ true → is_among (starts_of q) p ≡ true
start_among q p group e = elim (cases_eq group 0) [
  | inl none ↦ (and_parts (is_among (starts_of q) p) _ (sym (ap (λ t. cond t (is_own_start q p) (is_shared_start q p group)) (eq-eqb group 0 none)) ∙ e)).0
  | inr some ↦ (let shared : is_shared_start q p group ≡ true = sym (ap (λ t. cond t (is_own_start q p) (is_shared_start q p group)) (ne_eqb group 0 some)) ∙ e in
      let first = and_parts (leb group (length (starts_of q)) && are_one (start_at q (group - 1)) p) (is_among (ends_of q) p) shared in
      let second = and_parts (leb group (length (starts_of q))) (are_one (start_at q (group - 1)) p) first.0 in
      let few : group ≤ length (starts_of q) = leb-true group (length (starts_of q)) second.0 in
      subst (λ (r : GridPoint). is_among (starts_of q) r ≡ true) (one_true (start_at q (group - 1)) p second.1)
      (stands_among (start_at q (group - 1)) (starts_of q) (place_stands (starts_of q) (group - 1) q.from.at (omega (arith, some, few)))))
]

-- where a walk leaves a spot by an open step, the step may lead on
leaves_leads : (q : Question) (s : Spot) (d : Dir) → may_leave q s d ≡ true → is_open q.board s.at d ≡ true → leads_on q s.at d ≡ true
leaves_leads q s d leaves free = and_from (leaves_start q s.at d || is_passable q.board s.at) (is_open q.board s.at d) (of_arrival (cases_eq s.arrival 8)) free
  where
    of_arrival : (s.arrival ≡ 8) ⊎ (s.arrival ≡ 8 → ⊥) → (leaves_start q s.at d || is_passable q.board s.at) ≡ true
    of_arrival (inl e) =
        let starts : (is_start q s.at s.group && allows q.from.ports (Some d)) ≡ true =
        sym (ap (λ t. cond t (is_start q s.at s.group && allows q.from.ports (Some d)) (is_passable q.board s.at)) (eq-eqb s.arrival 8 e)) ∙ leaves in
        let parts = and_parts (is_start q s.at s.group) (allows q.from.ports (Some d)) starts in
        or_left (leaves_start q s.at d) (is_passable q.board s.at) (and_from (is_among (starts_of q) s.at) (allows q.from.ports (Some d)) (start_among q s.at s.group parts.0) parts.1)
    of_arrival (inr apart) =
        or_right (leaves_start q s.at d) (is_passable q.board s.at) (sym (ap (λ t. cond t (is_start q s.at s.group && allows q.from.ports (Some d)) (is_passable q.board s.at)) (ne_eqb s.arrival 8 apart)) ∙ leaves)

-- one of the ends is among the points
any_among : (points : List GridPoint) (p : GridPoint) (ends : List GridPoint) → StandsIn p ends → is_among points p ≡ true → list_any (is_among points) ends ≡ true
any_among points p ends stands e =
    let at = place_of ends p p stands in
    list_any_at (is_among points) ends at.place p at.below (ap (is_among points) at.is ∙ e)

-- a step leads from one of the points to another
step_reached : (q : Question) (points : List GridPoint) → AreReached q points (length points) → (p : GridPoint) (l : ℕ) → l < 8 → is_among points p ≡ true → leads_on q p (direction l) ≡ true → is_among points (step_from p (direction l)) ≡ true
step_reached q points r p l below e leads =
    let place = place_of points p q.from.at (among_stands p points e) in
    subst (λ (x : GridPoint). leads_on q x (direction l) ≡ true → is_among points (step_from x (direction l)) ≡ true) place.is (r.steps place.place place.below l below) leads

move_reached : (q : Question) (points : List GridPoint) → AreReached q points (length points) → (n l m c : ℕ) (move : IsMove q n l m c) (s : Spot) → spot_of q.board.bounds n ≡ Some s → is_among points s.at ≡ true → is_among points move.landing.at ≡ true
move_reached q points r n l m c move s e here =
    let step = step_of q n l m c move s e in
    ap (λ (y : Spot). is_among points y.at) step.lands
    ∙ step_reached q points r s.at l step.below here (leaves_leads q s (direction l) step.leaves step.is_free)

start_reached : (q : Question) (points : List GridPoint) → AreReached q points (length points) → (l m c : ℕ) (move : IsMove q (spots_of q.board.bounds) l m c) → is_among points move.landing.at ≡ true
start_reached q points r l m c move =
    let seat = seat_of q l m c move in
    ap (λ (y : Spot). is_among points y.at) seat.lands
    ∙ r.starts (start_at q l)
    (stands_among (start_at q l) (starts_of q) (place_stands (starts_of q) l q.from.at seat.below))

-- so from one of the points no walk comes to an end
shut_in_at : (q : Question) → IsQuestion q → (points : List GridPoint) → AreReached q points (length points) → list_any (is_among points) (ends_of q) ≡ false →
    (labels : List ℕ) (n k : ℕ) (s : Spot) → spot_of q.board.bounds n ≡ Some s → is_among points s.at ≡ true → PathTo (space_of q) n labels k → ⊥
shut_in_at q h points r none [] n k s e here goal =
    let g = goal_parts q n k goal in
    let same : g.0 ≡ s = some_same g.0 s (sym g.1.spot ∙ e) in
    let end : is_among (ends_of q) s.at ≡ true = subst (λ (x : Spot). is_among (ends_of q) x.at ≡ true) same (end_among q g.0 g.1.ends) in
    let clash : false ≡ true = sym none ∙ any_among points s.at (ends_of q) (among_stands s.at (ends_of q) end) here in
    let nothing : ⊥ = cc in nothing
shut_in_at q h points r none (l ∷ ls) n k s e here (m, c, rest, move, path, sum) =
    shut_in_at q h points r none ls m rest move.landing (landed q h n l m c move) (move_reached q points r n l m c move s e here) path

-- where all steps were followed, and no end is there, no walk comes to an end
pub shut_in : (q : Question) → IsQuestion q → (points : List GridPoint) → AreReached q points (length points) → list_any (is_among points) (ends_of q) ≡ false → IsShutIn q
shut_in q h points r none [] k goal =
    let g = goal_parts q (spots_of q.board.bounds) k goal in
    let clash : None ≡ Some g.0 = sym (spot_of-none q.board.bounds) ∙ g.1.spot in
    let nothing : ⊥ = cc in nothing
shut_in q h points r none (l ∷ ls) k (m, c, rest, move, path, sum) =
    shut_in_at q h points r none ls m rest move.landing (landed q h (spots_of q.board.bounds) l m c move) (start_reached q points r l m c move) path

-- where no path leads on, the search is over with what it knows
pub none_found : (w : Space) (from : ℕ) (table : List (Option ℕ)) (queue : List (Reverse (ℕ × ℕ))) (excepted : ℕ → ℕ → Type 0) → IsSearch w table queue excepted →
    ((labels : List ℕ) (k : ℕ) → PathTo w from labels k → ⊥) → IsSearched w from table
none_found w from table queue excepted s never = (s.each, of_known (known_at table from) refl)
  where
    of_known : (o : Option ℕ) → known_at table from ≡ o → IsFound w from table o
    of_known None e = never
    of_known (Some k) e = let found = s.attained from k e in absurd (never found.0 k found.1)
