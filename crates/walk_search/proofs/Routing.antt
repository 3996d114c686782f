-- The walk of the least path is the route.
use Rattle.std.proofs.Common.{◌≡◌, refl, sym, ◌∙◌, ap, ap₂, subst, ℕ, zero, suc, ◌+◌, ◌<◌, ◌≤◌, ◌⊎◌, inl, inr, Bool, true, cond, nat_lt, ◌==◌, ◌&&◌, ◌||◌, List, [], ◌∷◌, map, filter, length, get_or, Option, Some, None, ℤ, ◌+ℤ◌, arith}
use Rattle.std.specs.Prelude.{int_lt}
use Rattle.std.specs.List.{flat_map, list_all}
use Rattle.std.specs.Ordering.{int_eq}
use Rattle.std.proofs.lemmas.Int.{ints}
use Rattle.std.proofs.lemmas.List.{length-map}
use Rattle.std.proofs.lemmas.Bool.{and_parts, and_from, lt-ltb, eq-eqb, cases_order, cond_both, or_cases, or_left, or_right}
use Rattle.least_path.specs.Orders.{LexLe}
use Rattle.least_path.specs.Least.{is_not_after}
use Rattle.least_path.proofs.Chosen.{StandsIn, AllAre, IsBetter, least-is, stands-map, stands-flat_map}
use Rattle.octi_grid.specs.declared.dir.Dir.{Dir}
use Rattle.octi_grid.specs.declared.dir.Dir.TheVariants as dir
use Rattle.octi_grid.specs.declared.point.GridPoint.{GridPoint}
use Rattle.octi_grid.specs.Ways.{are_one, number_of}
use Rattle.octi_grid.specs.Walks.{PlainWalk}
use Rattle.state_search.specs.Goals.{PathTo, IsLeastPathTo}
use Rattle.state_search.proofs.Dictionaries.{by_head, not_after, same_lists_both}
use Rattle.state_search.proofs.Visiting.{short_enough}
use Rattle.walk_search.specs.declared.ends.End.{End}
use Rattle.grid_board.specs.Boards.{BoardParts}
use Rattle.walk_search.specs.Seats.{is_free_seat, seats_of, shifted, shifts}
use Rattle.walk_search.specs.Routes.{best_of, directions, free_walks, is_first, is_free, is_no_worse, lists_upto, most_steps, route, total_of, walks_from}
use Rattle.grid_board.specs.Points.{is_lower}
use Rattle.walk_search.specs.Spots.{spots_of}
use Rattle.walk_search.specs.Moves.{Question, IsQuestion, direction, space_of, start_at, starts_of}
use Rattle.walk_search.specs.Walked.{AreSteps, IsAnswer, walk_of_labels}
use Rattle.grid_board.proofs.Marks.{one_is, one_true}
use Rattle.walk_search.proofs.Turning.{direction-number_of, number_of-direction, number_below}
use Rattle.walk_search.proofs.SeatFacts.{all_index, all_passed, place_stands, all_filter}
use Rattle.walk_search.proofs.Moving.{is_space}
use Rattle.walk_search.proofs.Walking.{AreLabelsOfWalk, path_labels}
use Rattle.walk_search.proofs.FreeWalks.{HasPath, IsPathWalk, path_of_walk, walk_of_path}

-- seats rise: each is lower than the later ones
abbrev Rises : List GridPoint → Type 0
Rises [] = Unit {0}
Rises (p ∷ ps) = AllAre (λ r. is_lower p r ≡ true) ps × Rises ps

rises_filtered : (test : GridPoint → Bool) (xs : List GridPoint) → Rises xs → Rises (filter test xs)
rises_filtered test [] rise = tt
rises_filtered test (x ∷ xs) rise =
    let rest = rises_filtered test xs rise.1 in
    cond_both (test x) (x ∷ filter test xs) (filter test xs) Rises
    (λ e. (all_filter test (λ r. is_lower x r ≡ true) xs rise.0, rest)) (λ e. rest)

-- shifts rise as the points do to which they lead
lower_shift : (home : GridPoint) (s t : ℤ × ℤ) → (int_lt s.1 t.1 || (int_eq s.1 t.1 && int_lt s.0 t.0)) ≡ true
    → is_lower (shifted home s) (shifted home t) ≡ true
lower_shift home s t e = moved home.x home.y s.0 s.1 t.0 t.1 e
  where
    moved : (x y a b c d : ℤ) → (int_lt b d || (int_eq b d && int_lt a c)) ≡ true
        → (int_lt (y +ℤ b) (y +ℤ d) || (int_eq (y +ℤ b) (y +ℤ d) && int_lt (x +ℤ a) (x +ℤ c))) ≡ true
    moved x y a b c d h = grind (arith, ints)

abbrev are_rising : List (ℤ × ℤ) → Bool
are_rising [] = true
are_rising (s ∷ ss) = list_all (λ (t : ℤ × ℤ). int_lt s.1 t.1 || (int_eq s.1 t.1 && int_lt s.0 t.0)) ss && are_rising ss

all_lower : (home : GridPoint) (s : ℤ × ℤ) (ss : List (ℤ × ℤ))
    → list_all (λ (t : ℤ × ℤ). int_lt s.1 t.1 || (int_eq s.1 t.1 && int_lt s.0 t.0)) ss ≡ true
    → AllAre (λ r. is_lower (shifted home s) r ≡ true) (map (shifted home) ss)
all_lower home s [] e = tt
all_lower home s (t ∷ ss) e = let parts = and_parts _ _ e in (lower_shift home s t parts.0, all_lower home s ss parts.1)

shifts_rise : (home : GridPoint) (ss : List (ℤ × ℤ)) → are_rising ss ≡ true → Rises (map (shifted home) ss)
shifts_rise home [] e = tt
shifts_rise home (s ∷ ss) e = let parts = and_parts _ _ e in (all_lower home s ss parts.0, shifts_rise home ss parts.1)

seats_rise : (board : BoardParts) (end : End) → Rises (seats_of board end)
seats_rise board end =
    cond_both end.is_free (filter (is_free_seat board end.at) (map (shifted end.at) shifts)) (end.at ∷ []) Rises
    (λ e. rises_filtered (is_free_seat board end.at) (map (shifted end.at) shifts) (shifts_rise end.at shifts refl))
    (λ e. (tt, tt))

rises_at : (xs : List GridPoint) (i j : ℕ) (d : GridPoint) → Rises xs → i < j → j < length xs → is_lower (get_or xs i d) (get_or xs j d) ≡ true
rises_at [] i j d rise h k = absurd (omega arith)
rises_at (x ∷ xs) i zero d rise h k = absurd (omega arith)
rises_at (x ∷ xs) zero (suc j) d rise h k = all_index (λ r. is_lower x r ≡ true) xs rise.0 j d (omega arith)
rises_at (x ∷ xs) (suc i) (suc j) d rise h k = rises_at xs i j d rise.1 (omega arith) (omega arith)

pub starts_rise : (q : Question) (i j : ℕ) → i < j → j < length (starts_of q) → is_lower (start_at q i) (start_at q j) ≡ true
starts_rise q i j h k = rises_at (starts_of q) i j q.from.at (seats_rise q.board q.from) h k

-- of two points only one is lower
not_both : (p r : GridPoint) → is_lower p r ≡ true → is_lower r p ≡ true → ⊥
not_both p r e f = both p.x p.y r.x r.y e f
  where
    both : (a b c d : ℤ) → (int_lt b d || (int_eq b d && int_lt a c)) ≡ true → (int_lt d b || (int_eq d b && int_lt c a)) ≡ true → ⊥
    both a b c d g h = grind (arith, ints)

not_lower_self : (p r : GridPoint) → is_lower p r ≡ true → are_one p r ≡ true → ⊥
not_lower_self p r e one =
    let same : p ≡ r = one_true p r one in
    not_both p r e (subst (λ (x : GridPoint). is_lower r x ≡ true) (sym same) (subst (λ (x : GridPoint). is_lower x r ≡ true) same e))

-- labels of steps and directions
numbers_back : (ls : List ℕ) (q : Question) (p : GridPoint) → AreSteps q p ls → map number_of (map direction ls) ≡ ls
numbers_back [] q p h = refl
numbers_back (l ∷ ls) q p h = ap₂ (λ (x : ℕ) (xs : List ℕ). x ∷ xs) (number_of-direction l h.0) (numbers_back ls q _ h.2)

pub directions_back : (ds : List Dir) → map direction (map number_of ds) ≡ ds
directions_back [] = refl
directions_back (d ∷ ds) = ap₂ (λ (x : Dir) (xs : List Dir). x ∷ xs) (direction-number_of d) (directions_back ds)

-- the least path's walk is better than each free walk
pub better : (q : Question) → IsQuestion q → (i l : ℕ) (ls : List ℕ) (k : ℕ) → i < length (starts_of q) → AreSteps q (start_at q i) (l ∷ ls) → IsLeastPathTo (space_of q) (spots_of q.board.bounds) (i ∷ l ∷ ls) k →
    (v : PlainWalk) → is_free q.board q.from q.to v ≡ true → IsBetter (is_no_worse q.from q.to) (record { start = start_at q i; steps = map direction (l ∷ ls) }) v
better q h i l ls k below steps least v free = record { no_worse = no_worse (cases_order mine other); alone = λ e. alone (by_head other mine (is_first v w) e) }
  where
    w : PlainWalk
    w = record { start = start_at q i; steps = map direction (l ∷ ls) }

    path : HasPath q v
    path = path_of_walk q h v.start v.steps free

    walk : IsPathWalk q i l ls k
    walk = walk_of_path q h i l ls k least.path

    mine : ℕ
    mine = total_of q.from q.to w

    other : ℕ
    other = total_of q.from q.to v

    numbers : map number_of w.steps ≡ l ∷ ls
    numbers = numbers_back (l ∷ ls) q (start_at q i) steps

    at_most : mine ≤ other
    at_most =
        let low_cost : k ≤ other + 1 = least.least (path.place ∷ map number_of v.steps) (other + 1) path.path in
        omega (arith, low_cost, walk.cost)

    first : mine ≡ other → LexLe (i ∷ l ∷ ls) (path.place ∷ map number_of v.steps)
    first e =
        let same : other + 1 ≡ k = omega (arith, e, walk.cost) in
        least.first (path.place ∷ map number_of v.steps) (subst (λ (n : ℕ). PathTo (space_of q) (spots_of q.board.bounds) (path.place ∷ map number_of v.steps) n) same path.path)

    lower : i < path.place → is_lower w.start v.start ≡ true
    lower less = subst (λ (p : GridPoint). is_lower (start_at q i) p ≡ true) path.starts (starts_rise q i path.place less path.below)

    same_start : i ≡ path.place → w.start ≡ v.start
    same_start e = ap (start_at q) e ∙ path.starts

    is_first_of : LexLe (i ∷ l ∷ ls) (path.place ∷ map number_of v.steps) → is_first w v ≡ true
    is_first_of (inl less) = or_left (is_lower w.start v.start) (are_one w.start v.start && is_not_after (map number_of w.steps) (map number_of v.steps)) (lower less)
    is_first_of (inr tie) =
        or_right (is_lower w.start v.start) (are_one w.start v.start && is_not_after (map number_of w.steps) (map number_of v.steps))
        (and_from (are_one w.start v.start) (is_not_after (map number_of w.steps) (map number_of v.steps)) (one_is w.start v.start (same_start tie.0))
        (ap (λ ns. is_not_after ns (map number_of v.steps)) numbers ∙ not_after (l ∷ ls) (map number_of v.steps) tie.1))

    no_worse : (mine ≡ other) ⊎ ((mine < other) ⊎ (other < mine)) → is_no_worse q.from q.to w v ≡ true
    no_worse (inl e) =
        or_right (nat_lt mine other) ((mine == other) && is_first w v)
        (and_from (mine == other) (is_first w v) (eq-eqb mine other e) (is_first_of (first e)))
    no_worse (inr (inl less)) = or_left (nat_lt mine other) ((mine == other) && is_first w v) (lt-ltb mine other less)
    no_worse (inr (inr more)) = absurd (omega (arith, at_most, more))

    same_walk : v.start ≡ w.start → map number_of v.steps ≡ l ∷ ls → v ≡ w
    same_walk e f =
        ap₂ (λ (p : GridPoint) (ds : List Dir). record { start = p; steps = ds }) e (sym (directions_back v.steps) ∙ ap (map direction) f)

    of_tie : LexLe (i ∷ l ∷ ls) (path.place ∷ map number_of v.steps) → (is_lower v.start w.start ≡ true) ⊎ ((are_one v.start w.start && is_not_after (map number_of v.steps) (map number_of w.steps)) ≡ true) → v ≡ w
    of_tie (inl less) (inl is) = absurd (not_both w.start v.start (lower less) is)
    of_tie (inl less) (inr is) =
        let parts = and_parts (are_one v.start w.start) (is_not_after (map number_of v.steps) (map number_of w.steps)) is in
        absurd (not_lower_self w.start v.start (lower less) (one_is w.start v.start (sym (one_true v.start w.start parts.0))))
    of_tie (inr tie) (inl is) = absurd (not_lower_self v.start w.start is (one_is v.start w.start (sym (same_start tie.0))))
    of_tie (inr tie) (inr is) =
        let parts = and_parts (are_one v.start w.start) (is_not_after (map number_of v.steps) (map number_of w.steps)) is in
        same_walk (one_true v.start w.start parts.0)
        (same_lists_both (map number_of v.steps) (l ∷ ls) tie.1 (sym (ap (is_not_after (map number_of v.steps)) numbers) ∙ parts.1))

    alone : (other < mine) ⊎ ((other ≡ mine) × (is_first v w ≡ true)) → v ≡ w
    alone (inl less) = absurd (omega (arith, at_most, less))
    alone (inr tie) = of_tie (first (sym tie.0)) (or_cases (is_lower v.start w.start) (are_one v.start w.start && is_not_after (map number_of v.steps) (map number_of w.steps)) tie.1)

-- and is one of the free walks that are looked at
pub a_direction : (d : Dir) → StandsIn d directions
a_direction d =
    subst (λ (e : Dir). StandsIn e directions) (direction-number_of d)
    (place_stands directions (number_of d) dir.N (number_below d))

in_lists : (n : ℕ) (ds : List Dir) → length ds ≤ n → StandsIn ds (lists_upto n)
in_lists zero [] short = inl refl
in_lists zero (d ∷ ds) short = absurd (omega arith)
in_lists (suc n) [] short = inl refl
in_lists (suc n) (d ∷ ds) short =
    inr (stands-flat_map (λ e. map (λ (es : List Dir). e ∷ es) (lists_upto n)) d (d ∷ ds) directions (a_direction d) (stands-map (λ (es : List Dir). d ∷ es) ds (lists_upto n) (in_lists n ds (omega arith))))

stands_passed : (test : PlainWalk → Bool) (w : PlainWalk) (ws : List PlainWalk) → test w ≡ true → StandsIn w ws → StandsIn w (filter test ws)
stands_passed test w [] e h = absurd h
stands_passed test w (v ∷ vs) e (inl same) =
    subst (λ (t : Bool). StandsIn w (cond t (v ∷ filter test vs) (filter test vs))) (sym (ap test same ∙ e)) (inl same)
stands_passed test w (v ∷ vs) e (inr h) =
    let later = stands_passed test w vs e h in
    cond_both (test v) (v ∷ filter test vs) (filter test vs) (StandsIn w) (λ t. inr later) (λ t. later)

pub is_looked_at : (q : Question) (i : ℕ) (steps : List Dir) → i < length (starts_of q) → length steps ≤ most_steps q.board → is_free q.board q.from q.to (record { start = start_at q i; steps = steps }) ≡ true →
    StandsIn (let w : PlainWalk = record { start = start_at q i; steps = steps } in w) (free_walks q.board q.from q.to)
is_looked_at q i steps below short free =
    let w : PlainWalk = record { start = start_at q i; steps = steps } in
    stands_passed (is_free q.board q.from q.to) w (flat_map (walks_from (most_steps q.board)) (starts_of q)) free
    (stands-flat_map (walks_from (most_steps q.board)) (start_at q i) w (starts_of q) (place_stands (starts_of q) i q.from.at below)
    (stands-map (λ (ds : List Dir). (let v : PlainWalk = record { start = start_at q i; steps = ds } in v)) steps (lists_upto (most_steps q.board)) (in_lists (most_steps q.board) steps short)))

-- the best of walks
best_is : (le : PlainWalk → PlainWalk → Bool) (w : PlainWalk) (ws : List PlainWalk) → StandsIn w ws → AllAre (IsBetter le w) ws → best_of le ws ≡ Some w
best_is le w [] stands all = absurd stands
best_is le w (v ∷ vs) stands all = ap Some (least-is le v w (v ∷ vs) stands all)

none_is_best : (le : PlainWalk → PlainWalk → Bool) (ws : List PlainWalk) → AllAre (λ v. ⊥) ws → best_of le ws ≡ None
none_is_best le [] all = refl
none_is_best le (v ∷ vs) all = absurd all.0

pub best_walk_is_route : (q : Question) → IsQuestion q → (i l : ℕ) (ls : List ℕ) (k : ℕ) → i < length (starts_of q) → AreSteps q (start_at q i) (l ∷ ls) → IsLeastPathTo (space_of q) (spots_of q.board.bounds) (i ∷ l ∷ ls) k →
    route q.board q.from q.to ≡ Some (record { start = start_at q i; steps = map direction (l ∷ ls) })
best_walk_is_route q h i l ls k below steps least =
    best_is (is_no_worse q.from q.to) (record { start = start_at q i; steps = map direction (l ∷ ls) }) (free_walks q.board q.from q.to)
    (is_looked_at q i (map direction (l ∷ ls)) below short walk.free)
    (all_passed (is_free q.board q.from q.to) (IsBetter (is_no_worse q.from q.to) (record { start = start_at q i; steps = map direction (l ∷ ls) })) (flat_map (walks_from (most_steps q.board)) (starts_of q))
    (λ v free. better q h i l ls k below steps least v free))
  where
    walk : IsPathWalk q i l ls k
    walk = walk_of_path q h i l ls k least.path

    short : length (map direction (l ∷ ls)) ≤ most_steps q.board
    short =
        let few : length (i ∷ l ∷ ls) < spots_of q.board.bounds + 1 = short_enough (space_of q) (is_space q h) (spots_of q.board.bounds) (i ∷ l ∷ ls) k least.path least.least in
        omega (arith, few, length-map ls direction)

-- the answer to a question is the route
pub answer_is_route : (q : Question) → IsQuestion q → (o : Option PlainWalk) → IsAnswer q o → o ≡ route q.board q.from q.to
answer_is_route q h None none =
    sym (none_is_best (is_no_worse q.from q.to) (free_walks q.board q.from q.to)
    (all_passed (is_free q.board q.from q.to) (λ v. ⊥) (flat_map (walks_from (most_steps q.board)) (starts_of q))
    (λ v free. let path = path_of_walk q h v.start v.steps free in none (path.place ∷ map number_of v.steps) (total_of q.from q.to v + 1) path.path)))
answer_is_route q h (Some w) answer = of_labels (path_labels q h answer.labels answer.cost answer.least.path)
  where
    of_labels : AreLabelsOfWalk q answer.labels → Some w ≡ route q.board q.from q.to
    of_labels p =
        let least : IsLeastPathTo (space_of q) (spots_of q.board.bounds) (p.seat ∷ p.first ∷ p.others) answer.cost =
        subst (λ (ls : List ℕ). IsLeastPathTo (space_of q) (spots_of q.board.bounds) ls answer.cost) p.is answer.least in
        ap Some (answer.is_walk ∙ ap (walk_of_labels q) p.is) ∙ sym (best_walk_is_route q h p.seat p.first p.others answer.cost p.below p.steps least)
