-- The walk along known costs is the least path.
use Rattle.std.proofs.Common.{◌≡◌, refl, sym, ◌∙◌, ap, ap₂, subst, ℕ, ◌+◌, ◌-◌, ◌<◌, ◌≤◌, inl, inr, true, cond, List, [], ◌∷◌, ◌++◌, map, length, get_or, take, drop, append_assoc, Option, Some, None, arith}
use Rattle.std.specs.Prelude.{IfNone}
use Rattle.std.proofs.lemmas.Bool.{and_parts, lt-ltb}
use Rattle.octi_grid.specs.declared.dir.Dir.{Dir}
use Rattle.octi_grid.specs.declared.point.GridPoint.{GridPoint}
use Rattle.std.proofs.lemmas.List.{drop_more, take_all}
use Rattle.octi_grid.specs.Ways.{after, step_from}
use Rattle.octi_grid.specs.Walks.{PlainWalk}
use Rattle.octi_grid.proofs.WayLemmas.{after-append}
use Rattle.state_search.specs.Goals.{PathTo, IsLeastPathTo}
use Rattle.state_search.specs.Searching.{IsFound, IsSearched, known_at}
use Rattle.state_search.proofs.Walks.{IsLed, IsNext, ends_or_goes_on, next_is_nearer, walk_begins, walk_ends, walk_goes_on}
use Rattle.walk_search.specs.declared.spots.Spot.{Spot}
use Rattle.grid_board.specs.Boards.{is_inside}
use Rattle.walk_search.specs.Spots.{spots_of, spot_of}
use Rattle.walk_search.specs.Moves.{Question, IsQuestion, IsMove, direction, end_cost, space_of, spot_ahead, starts_of, start_at}
use Rattle.walk_search.specs.Walked.{AreLabelsOf, AreSteps, IsLeastMove, KeepsCost, StopsAt, walk_of_labels}
use Rattle.walk_search.proofs.Numbered.{spot_of-none, some_same}
use Rattle.walk_search.proofs.SeatFacts.{seats_few}
use Rattle.walk_search.proofs.Moving.{goal_parts, is_space, move_cases, landed, seat_of, step_of}

-- what comes before every spot
abbrev pub before : Question → ℕ
before q = spots_of q.board.bounds

pub nothing_ahead : (q : Question) → (space_of q).ahead (before q) ≡ 0
nothing_ahead q = ap (spot_ahead q) (spot_of-none q.board.bounds)

-- a walk on its way
abbrev pub IsWalkingOf : Question → List (Option ℕ) → List ℕ → ℕ → Option ℕ → Type 0
IsWalkingOf q table labels at None = (labels ≡ []) × (at ≡ before q)
IsWalkingOf q table labels at (Some limit) = (spent : ℕ) × (rest : ℕ) × IsLed (space_of q) (before q) limit (known_at table) labels spent at rest

abbrev pub IsWalking : Question → List (Option ℕ) → List ℕ → ℕ → Type 0
IsWalking q table labels at = IsWalkingOf q table labels at (known_at table (before q))

pub walking_begins : (q : Question) (table : List (Option ℕ)) → IsWalking q table [] (before q)
walking_begins q table = of_known (known_at table (before q)) refl
  where
    of_known : (o : Option ℕ) → known_at table (before q) ≡ o → IsWalkingOf q table [] (before q) o
    of_known None e = (refl, refl)
    of_known (Some limit) e = (0, limit, walk_begins (space_of q) (before q) limit (known_at table) (nothing_ahead q) e)

next_of : (q : Question) (table : List (Option ℕ)) (at label to : ℕ) (keeps : KeepsCost q table at label to) → IsNext (space_of q) (known_at table) at label to keeps.cost keeps.differ.0
next_of q table at label to keeps = record { goes = keeps.goes; rest = keeps.differ.1; whole = keeps.differ.2 }

keeps_of : (q : Question) (table : List (Option ℕ)) (at l s c r : ℕ) → IsNext (space_of q) (known_at table) at l s c r → KeepsCost q table at l s
keeps_of q table at l s c r n = record { cost = c; goes = n.goes; differ = (r, n.rest, n.whole) }

pub walking_goes_on : (q : Question) → IsQuestion q → (table : List (Option ℕ)) → IsSearched (space_of q) (before q) table → (labels : List ℕ) (at label to : ℕ) →
    IsWalking q table labels at → IsLeastMove q table at label to → IsWalking q table (labels ++ label ∷ []) to
walking_goes_on q h table searched labels at label to walking step = of_known (known_at table (before q)) refl searched.1 walking
  where
    of_known : (o : Option ℕ) → known_at table (before q) ≡ o → IsFound (space_of q) (before q) table o → IsWalkingOf q table labels at o → IsWalkingOf q table (labels ++ label ∷ []) to o
    of_known None e found w =
        let clash : None ≡ Some (step.keeps.cost + step.keeps.differ.0) = sym e ∙ sym (ap (known_at table) w.1) ∙ step.keeps.differ.2 in
        absurd (let no : ⊥ = cc in no)
    of_known (Some limit) e found w = (
      w.0 + step.keeps.cost,
      step.keeps.differ.0,
      walk_goes_on (space_of q) (is_space q h) (before q) limit (known_at table) found labels w.0 at w.1 w.2
          (λ end. step.goes_on (w.1, w.2.known_here, end)) label to step.keeps.cost step.keeps.differ.0 (next_of q table at label to step.keeps)
          (λ m t d r n. step.least m t (keeps_of q table at m t d r n)),
    )

pub walking_ends : (q : Question) → IsQuestion q → (table : List (Option ℕ)) → IsSearched (space_of q) (before q) table → (labels : List ℕ) (at : ℕ) →
    IsWalking q table labels at → StopsAt q table at → AreLabelsOf q labels (known_at table (before q))
walking_ends q h table searched labels at walking stops = of_known (known_at table (before q)) refl searched.1 walking
  where
    of_known : (o : Option ℕ) → known_at table (before q) ≡ o → IsFound (space_of q) (before q) table o → IsWalkingOf q table labels at o → AreLabelsOf q labels o
    of_known None e found w = w.0
    of_known (Some limit) e found w = (w.0 + w.1, walk_ends (space_of q) (before q) limit (known_at table) found labels w.0 at w.1 w.2 (at_goal stops))
      where
        at_goal : StopsAt q table at → (space_of q).goal at ≡ Some w.1
        at_goal (inl ends) = ends.2 ∙ (sym ends.1 ∙ w.2.known_here)
        at_goal (inr none) = elim (ends_or_goes_on (space_of q) (is_space q h) limit (known_at table) found at w.1 w.2.within w.2.known_here) [
          | inl e ↦ e
          | inr n ↦ absurd (none n.0 n.1 (keeps_of q table at n.0 n.1 n.2 n.3 n.4))
        ]

-- what is left to walk falls with each step
abbrev pub cost_or_none : Option ℕ → ℕ
cost_or_none None = 0
cost_or_none (Some k) = k

pub nearer : (q : Question) → IsQuestion q → (table : List (Option ℕ)) (at label to : ℕ) → IsLeastMove q table at label to → cost_or_none (known_at table to) < cost_or_none (known_at table at)
nearer q h table at label to step =
    let r : ℕ = step.keeps.differ.0 in
    let whole : ℕ = step.keeps.cost + r in
    let less : r < whole = next_is_nearer (space_of q) (known_at table) (is_space q h) at label to step.keeps.cost r whole (next_of q table at label to step.keeps) step.keeps.differ.2 in
    subst (λ (o : Option ℕ). cost_or_none o < cost_or_none (known_at table at)) (sym step.keeps.differ.1)
    (subst (λ (o : Option ℕ). r < cost_or_none o) (sym step.keeps.differ.2) less)

-- a path has a seat and a step at least
goal_before : (q : Question) (k : ℕ) → (space_of q).goal (before q) ≡ Some k → ⊥
goal_before q k e =
    let g = goal_parts q (before q) k e in
    let clash : None ≡ Some g.0 = sym (spot_of-none q.board.bounds) ∙ g.1.spot in
    cc

pub steps_of_path : (q : Question) → IsQuestion q → (n : ℕ) (s : Spot) (ls : List ℕ) (k : ℕ) → spot_of q.board.bounds n ≡ Some s → PathTo (space_of q) n ls k → AreSteps q s.at ls
steps_of_path q h n s [] k e p = tt
steps_of_path q h n s (l ∷ ls) k e (to, c, rest, move, path, sum) =
    let step = step_of q n l to c move s e in
    let free = (and_parts (is_inside q.board s.at) _ step.is_free).1 in
    let inside : is_inside q.board (step_from s.at (direction l)) ≡ true =
    (and_parts (is_inside q.board (step_from s.at (direction l))) _ free).0 in
    let later : AreSteps q (step_from s.at (direction l)) ls =
    subst (λ (x : Spot). AreSteps q x.at ls) step.lands
    (steps_of_path q h to move.landing ls rest (landed q h n l to c move) path) in
    (step.below, inside, later)

-- what the labels of a path are
pub record AreLabelsOfWalk (q : Question) (labels : List ℕ) : Type 0 where
  pub seat : ℕ
  pub first : ℕ
  pub others : List ℕ
  pub is : labels ≡ seat ∷ first ∷ others
  pub below : seat < length (starts_of q)
  pub steps : AreSteps q (start_at q seat) (first ∷ others)

pub path_labels : (q : Question) → IsQuestion q → (labels : List ℕ) (k : ℕ) → PathTo (space_of q) (before q) labels k → AreLabelsOfWalk q labels
path_labels q h [] k p = absurd (goal_before q k p)
path_labels q h (i ∷ []) k (to, c, rest, move, goal, sum) =
    let g = goal_parts q to rest goal in
    let same : g.0 ≡ move.landing = some_same g.0 move.landing (sym g.1.spot ∙ landed q h (before q) i to c move) in
    let eight : g.0.arrival ≡ 8 = ap (λ (x : Spot). x.arrival) (same ∙ (seat_of q i to c move).lands) in
    absurd (omega (arith, eight, g.1.arrival))
path_labels q h (i ∷ l ∷ others) k (to, c, rest, move, path, sum) =
    let chosen = seat_of q i to c move in
    record {
      seat = i;
      first = l;
      others = others;
      is = refl;
      below = chosen.below;
      steps =
          subst (λ (x : Spot). AreSteps q x.at (l ∷ others)) chosen.lands
          (steps_of_path q h to move.landing (l ∷ others) rest (landed q h (before q) i to c move) path);
    }

-- labels of which there are fewer than two are those where there is no path
pub no_path_where_short : (q : Question) → IsQuestion q → (table : List (Option ℕ)) (labels : List ℕ) → IsSearched (space_of q) (before q) table → AreLabelsOf q labels (known_at table (before q)) → length labels < 2 →
    (others : List ℕ) (k : ℕ) → PathTo (space_of q) (before q) others k → ⊥
no_path_where_short q h table labels searched are short = of_known (known_at table (before q)) searched.1 are
  where
    of_known : (o : Option ℕ) → IsFound (space_of q) (before q) table o → AreLabelsOf q labels o → (others : List ℕ) (k : ℕ) → PathTo (space_of q) (before q) others k → ⊥
    of_known None found a = found
    of_known (Some limit) found a = λ others k p.
        let w = path_labels q h labels a.0 a.1.path in
        let many : length labels ≡ length (w.seat ∷ w.first ∷ w.others) = ap length w.is in
        omega arith

pub least_where_long : (q : Question) (table : List (Option ℕ)) (labels : List ℕ) → AreLabelsOf q labels (known_at table (before q)) → 2 ≤ length labels → (k : ℕ) × IsLeastPathTo (space_of q) (before q) labels k
least_where_long q table labels are long = of_known (known_at table (before q)) are
  where
    of_known : (o : Option ℕ) → AreLabelsOf q labels o → (k : ℕ) × IsLeastPathTo (space_of q) (before q) labels k
    of_known None a = let none : length labels ≡ 0 = ap length a in absurd (omega arith)
    of_known (Some limit) a = a

-- what it costs to end at the spot of a number
pub goal_is : (q : Question) (n : ℕ) (s : Spot) → n < before q + 1 → Some s ≡ spot_of q.board.bounds n → (space_of q).goal n ≡ end_cost q (Some s)
goal_is q n s below e = ap (λ t. cond t (end_cost q (spot_of q.board.bounds n)) None) (lt-ltb n (before q + 1) below) ∙ ap (end_cost q) (sym e)

-- no label of a move is as great as 9
pub label_small : (q : Question) (at label to c : ℕ) → IsMove q at label to c → label < 9
label_small q at label to c m =
    let few : length (starts_of q) ≤ 9 = seats_few q.board q.from in
    elim (move_cases q (spot_of q.board.bounds at) label m.landing c m.goes) [
      | inl k ↦ omega (arith, few, k.1.below)
      | inr k ↦ omega (arith, k.2.below)
    ]

pub if_none : {X : Type 0} (o : Option X) (P : Type 0) → P → IfNone o P
if_none None P p = p
if_none (Some x) P p = tt

-- the labels of a walk, one by one
pub others_of : (labels : List ℕ) (seat first : ℕ) (others : List ℕ) → labels ≡ seat ∷ first ∷ others → take (length labels - 2) (drop 2 labels) ≡ others
others_of labels seat first others e =
    let many : length labels ≡ length (seat ∷ first ∷ others) = ap length e in
    ap (λ (ls : List ℕ). take (length labels - 2) (drop 2 ls)) e ∙ take_all (length labels - 2) others
    (omega (arith, many))

pub after_last : (p : GridPoint) (ds : List Dir) (d : Dir) → after p (ds ++ d ∷ []) ≡ step_from (after p ds) d
after_last p ds d = after-append p ds (d ∷ [])

pub steps_left : (q : Question) (p : GridPoint) (ls : List ℕ) (i : ℕ) (d : ℕ) → i < length ls → AreSteps q p (drop i ls) →
    (get_or ls i d < 8) × (is_inside q.board (step_from p (direction (get_or ls i d))) ≡ true) × AreSteps q (step_from p (direction (get_or ls i d))) (drop (i + 1) ls)
steps_left q p ls i d below h = subst (λ (xs : List ℕ). AreSteps q p xs) (drop_more ls i d below) h

pub walk_left : (q : Question) (start : GridPoint) (steps more : List Dir) (ls : List ℕ) (i d : ℕ) (whole : PlainWalk) → i < length ls → more ≡ steps ++ direction (get_or ls i d) ∷ [] →
    (let w : PlainWalk = record { start = start; steps = steps ++ map direction (drop i ls) } in w) ≡ whole → (let w : PlainWalk = record { start = start; steps = more ++ map direction (drop (i + 1) ls) } in w) ≡ whole
walk_left q start steps more ls i d whole below is before =
    ap (λ (ds : List Dir). (let w : PlainWalk = record { start = start; steps = ds } in w))
    (ap (λ ds. ds ++ map direction (drop (i + 1) ls)) is ∙ append_assoc steps (direction (get_or ls i d) ∷ []) (map direction (drop (i + 1) ls))
    ∙ ap (λ (xs : List ℕ). steps ++ map direction xs) (sym (drop_more ls i d below)))
    ∙ before

pub record AreFirst (q : Question) (labels : List ℕ) (w : AreLabelsOfWalk q labels) : Type 0 where
  pub seat : get_or labels 0 0 ≡ w.seat
  pub first : get_or labels 1 0 ≡ w.first
  pub others : take (length labels - 2) (drop 2 labels) ≡ w.others

pub first_labels : (q : Question) (labels : List ℕ) (w : AreLabelsOfWalk q labels) → AreFirst q labels w
first_labels q labels w = record {
  seat = ap (λ (ls : List ℕ). get_or ls 0 0) w.is;
  first = ap (λ (ls : List ℕ). get_or ls 1 0) w.is;
  others = others_of labels w.seat w.first w.others w.is;
}

pub seat_of_labels : (q : Question) (labels : List ℕ) (w : AreLabelsOfWalk q labels) → get_or labels 0 0 < length (starts_of q)
seat_of_labels q labels w = subst (λ (n : ℕ). n < length (starts_of q)) (sym (first_labels q labels w).seat) w.below

pub steps_of_labels : (q : Question) (labels : List ℕ) (w : AreLabelsOfWalk q labels) (start : GridPoint) → start ≡ start_at q (get_or labels 0 0) →
    AreSteps q start (get_or labels 1 0 ∷ take (length labels - 2) (drop 2 labels))
steps_of_labels q labels w start is =
    let f = first_labels q labels w in
    subst (λ (p : GridPoint). AreSteps q p (get_or labels 1 0 ∷ take (length labels - 2) (drop 2 labels))) (sym (is ∙ ap (start_at q) f.seat))
    (subst (λ (l : ℕ). AreSteps q (start_at q w.seat) (l ∷ take (length labels - 2) (drop 2 labels))) (sym f.first)
    (subst (λ (ls : List ℕ). AreSteps q (start_at q w.seat) (w.first ∷ ls)) (sym f.others) w.steps))

pub walk_of_parts : (q : Question) (labels : List ℕ) (w : AreLabelsOfWalk q labels) (start : GridPoint) → start ≡ start_at q (get_or labels 0 0) →
    (let v : PlainWalk = record { start = start; steps = map direction (get_or labels 1 0 ∷ take (length labels - 2) (drop 2 labels)) } in v) ≡ walk_of_labels q labels
walk_of_parts q labels w start is =
    let f = first_labels q labels w in
    ap₂ (λ (p : GridPoint) (ls : List ℕ). (let v : PlainWalk = record { start = p; steps = map direction ls } in v)) (is ∙ ap (start_at q) f.seat) (ap₂ (λ (l : ℕ) (ls : List ℕ). l ∷ ls) f.first f.others)
    ∙ sym (ap (walk_of_labels q) w.is)
