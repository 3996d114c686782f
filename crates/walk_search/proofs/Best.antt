-- The route is no worse than each free walk, however many steps that has.
use Rattle.std.proofs.Common.{◌≡◌, refl, sym, ◌∙◌, ap, ap₂, subst, ℕ, zero, suc, ◌+◌, ◌*◌, ◌^◌, ◌<◌, ◌≤◌, ◌⊎◌, inl, inr, Bool, true, false, cond, nat_lt, ◌==◌, ◌&&◌, ◌||◌, List, [], ◌∷◌, map, length, Some, None, ℤ, arith}
use Rattle.std.specs.Prelude.{int_lt}
use Rattle.std.specs.List.{flat_map}
use Rattle.std.specs.Ordering.{int_eq}
use Rattle.std.proofs.lemmas.Int.{ints}
use Rattle.std.proofs.lemmas.List.{length-map}
use Rattle.std.proofs.lemmas.Bool.{and_parts, and_from, lt-ltb, eq-eqb, cases_order, cases_Bool, or_cases, or_left, or_right}
use Rattle.least_path.specs.Least.{is_not_after, least_by}
use Rattle.least_path.proofs.Chosen.{StandsIn, AllAre, all-at, all-flat_map, all-map, all-weaker, least-stands}
use Rattle.octi_grid.specs.declared.dir.Dir.{Dir}
use Rattle.octi_grid.specs.declared.point.GridPoint.{GridPoint}
use Rattle.octi_grid.specs.Ways.{are_one, number_of}
use Rattle.octi_grid.specs.Walks.{PlainWalk}
use Rattle.state_search.specs.Goals.{PathTo}
use Rattle.state_search.proofs.Dictionaries.{by_head}
use Rattle.state_search.proofs.Visiting.{HasShort, shortened}
use Rattle.walk_search.specs.declared.ends.End.{End}
use Rattle.walk_search.specs.Routes.{best_of, directions, free_walks, is_first, is_free, is_no_worse, lists_upto, most_steps, route, total_of, walks_from}
use Rattle.grid_board.specs.Boards.{cells_of}
use Rattle.grid_board.specs.Points.{is_lower}
use Rattle.walk_search.specs.Seats.{seats_of}
use Rattle.walk_search.specs.Spots.{spots_of}
use Rattle.walk_search.specs.Moves.{Question, IsQuestion, direction, space_of, start_at}
use Rattle.grid_board.proofs.Marks.{one_is, one_true}
use Rattle.grid_board.proofs.Within.{few_cells}
use Rattle.walk_search.proofs.SeatFacts.{all_filter, all_passed}
use Rattle.walk_search.proofs.Moving.{is_space}
use Rattle.walk_search.proofs.Walking.{AreLabelsOfWalk, path_labels}
use Rattle.walk_search.proofs.FreeWalks.{HasPath, IsPathWalk, path_of_walk, walk_of_path}
use Rattle.walk_search.proofs.Routing.{directions_back, is_looked_at}

-- of two one is no worse, and one that is no worse than another is no worse than what that is no worse than
record IsRanking {A : Type 0} (le : A → A → Bool) : Type 0 where
  total : (a b : A) → (le a b ≡ true) ⊎ (le b a ≡ true)
  onward : (a b c : A) → le a b ≡ true → le b c ≡ true → le a c ≡ true

no_worse_self : {A : Type 0} (le : A → A → Bool) → IsRanking le → (a : A) → le a a ≡ true
no_worse_self le ranks a = elim (ranks.total a a) [ inl e ↦ e | inr e ↦ e ]

-- the least of a list is no worse than each of it
least_no_worse : {A : Type 0} (le : A → A → Bool) → IsRanking le → (other a : A) (rest : List A) → AllAre (λ x. le (least_by le other (a ∷ rest)) x ≡ true) (a ∷ rest)
least_no_worse le ranks other a [] = (no_worse_self le ranks a, tt)
least_no_worse {A} le ranks other a (b ∷ rest) = of_test (least_by le other (b ∷ rest)) (least_no_worse le ranks other b rest) (le a (least_by le other (b ∷ rest))) refl
  where
    of_order : (m : A) → le a m ≡ false → (le a m ≡ true) ⊎ (le m a ≡ true) → le m a ≡ true
    of_order m e (inl h) = let clash : true ≡ false = sym h ∙ e in cc
    of_order m e (inr h) = h

    of_test : (m : A) → AllAre (λ x. le m x ≡ true) (b ∷ rest) → (t : Bool) → le a m ≡ t → AllAre (λ x. le (cond t a m) x ≡ true) (a ∷ b ∷ rest)
    of_test m all true e = (no_worse_self le ranks a, all-weaker (λ x. le m x ≡ true) (λ x. le a x ≡ true) (b ∷ rest) (λ x h. ranks.onward a m x e h) all)
    of_test m all false e = (of_order m e (ranks.total a m), all)

-- numbers first, and then a test
head_less : (i j : ℕ) (rest : Bool) → i < j → (nat_lt i j || ((i == j) && rest)) ≡ true
head_less i j rest h = or_left (nat_lt i j) ((i == j) && rest) (lt-ltb i j h)

head_tie : (i j : ℕ) (rest : Bool) → i ≡ j → rest ≡ true → (nat_lt i j || ((i == j) && rest)) ≡ true
head_tie i j rest e h = or_right (nat_lt i j) ((i == j) && rest) (and_from (i == j) rest (eq-eqb i j e) h)

heads_total : (i j : ℕ) (there back : Bool) → (there ≡ true) ⊎ (back ≡ true) → ((nat_lt i j || ((i == j) && there)) ≡ true) ⊎ ((nat_lt j i || ((j == i) && back)) ≡ true)
heads_total i j there back rest = of_order (cases_order i j) rest
  where
    of_order : (i ≡ j) ⊎ ((i < j) ⊎ (j < i)) → (there ≡ true) ⊎ (back ≡ true) → ((nat_lt i j || ((i == j) && there)) ≡ true) ⊎ ((nat_lt j i || ((j == i) && back)) ≡ true)
    of_order (inl e) (inl h) = inl (head_tie i j there e h)
    of_order (inl e) (inr h) = inr (head_tie j i back (sym e) h)
    of_order (inr (inl less)) h = inl (head_less i j there less)
    of_order (inr (inr more)) h = inr (head_less j i back more)

heads_onward : (i j k : ℕ) (first second whole : Bool) → (first ≡ true → second ≡ true → whole ≡ true) → (nat_lt i j || ((i == j) && first)) ≡ true → (nat_lt j k || ((j == k) && second)) ≡ true →
    (nat_lt i k || ((i == k) && whole)) ≡ true
heads_onward i j k first second whole rest e f = of_heads (by_head i j first e) (by_head j k second f)
  where
    of_heads : (i < j) ⊎ ((i ≡ j) × (first ≡ true)) → (j < k) ⊎ ((j ≡ k) × (second ≡ true)) → (nat_lt i k || ((i == k) && whole)) ≡ true
    of_heads (inl p) (inl q) = head_less i k whole (omega arith)
    of_heads (inl p) (inr q) = head_less i k whole (omega (arith, p, q.0))
    of_heads (inr p) (inl q) = head_less i k whole (omega (arith, p.0, q))
    of_heads (inr p) (inr q) = head_tie i k whole (p.0 ∙ q.0) (rest p.1 q.1)

-- lists in the order of dictionaries
lists_total : (ls ms : List ℕ) → (is_not_after ls ms ≡ true) ⊎ (is_not_after ms ls ≡ true)
lists_total [] ms = inl refl
lists_total (l ∷ ls) [] = inr refl
lists_total (l ∷ ls) (m ∷ ms) = heads_total l m (is_not_after ls ms) (is_not_after ms ls) (lists_total ls ms)

lists_onward : (ls ms ns : List ℕ) → is_not_after ls ms ≡ true → is_not_after ms ns ≡ true → is_not_after ls ns ≡ true
lists_onward [] ms ns e f = refl
lists_onward (l ∷ ls) [] ns e f = let no : ⊥ = cc in absurd no
lists_onward (l ∷ ls) (m ∷ ms) [] e f = let no : ⊥ = cc in absurd no
lists_onward (l ∷ ls) (m ∷ ms) (n ∷ ns) e f = heads_onward l m n (is_not_after ls ms) (is_not_after ms ns) (is_not_after ls ns) (lists_onward ls ms ns) e f

-- points by the least y and then the least x
same_number : (a b : ℤ) → int_lt a b ≡ false → int_lt b a ≡ false → a ≡ b
same_number a b e f = grind (arith, ints)

same_test : (a b : ℤ) → a ≡ b → int_eq a b ≡ true
same_test a b e = grind (arith, ints)

lower_total : (p q : GridPoint) → (is_lower p q ≡ true) ⊎ ((p ≡ q) ⊎ (is_lower q p ≡ true))
lower_total p q = of_rows (cases_Bool (int_lt p.y q.y)) (cases_Bool (int_lt q.y p.y)) (cases_Bool (int_lt p.x q.x)) (cases_Bool (int_lt q.x p.x))
  where
    beside : (a b : GridPoint) → a.y ≡ b.y → int_lt a.x b.x ≡ true → is_lower a b ≡ true
    beside a b e h = or_right (int_lt a.y b.y) (int_eq a.y b.y && int_lt a.x b.x) (and_from (int_eq a.y b.y) (int_lt a.x b.x) (same_test a.y b.y e) h)

    of_rows : (int_lt p.y q.y ≡ true) ⊎ (int_lt p.y q.y ≡ false) → (int_lt q.y p.y ≡ true) ⊎ (int_lt q.y p.y ≡ false) → (int_lt p.x q.x ≡ true) ⊎ (int_lt p.x q.x ≡ false) →
        (int_lt q.x p.x ≡ true) ⊎ (int_lt q.x p.x ≡ false) → (is_lower p q ≡ true) ⊎ ((p ≡ q) ⊎ (is_lower q p ≡ true))
    of_rows (inl low) v w z = inl (or_left (int_lt p.y q.y) (int_eq p.y q.y && int_lt p.x q.x) low)
    of_rows (inr a) (inl high) w z = inr (inr (or_left (int_lt q.y p.y) (int_eq q.y p.y && int_lt q.x p.x) high))
    of_rows (inr a) (inr b) (inl left) z = inl (beside p q (same_number p.y q.y a b) left)
    of_rows (inr a) (inr b) (inr c) (inl right) = inr (inr (beside q p (same_number q.y p.y b a) right))
    of_rows (inr a) (inr b) (inr c) (inr d) = inr (inl (ap₂ (λ (x y : ℤ). record { x = x; y = y }) (same_number p.x q.x c d) (same_number p.y q.y a b)))

lower_onward : (p q r : GridPoint) → is_lower p q ≡ true → is_lower q r ≡ true → is_lower p r ≡ true
lower_onward p q r e f = of_numbers p.x p.y q.x q.y r.x r.y e f
  where
    of_numbers : (a b c d x y : ℤ) → (int_lt b d || (int_eq b d && int_lt a c)) ≡ true → (int_lt d y || (int_eq d y && int_lt c x)) ≡ true → (int_lt b y || (int_eq b y && int_lt a x)) ≡ true
    of_numbers a b c d x y g h = grind (arith, ints)

-- walks of one cost
first_tie : (v w : PlainWalk) → v.start ≡ w.start → is_not_after (map number_of v.steps) (map number_of w.steps) ≡ true → is_first v w ≡ true
first_tie v w e h =
    or_right (is_lower v.start w.start) (are_one v.start w.start && is_not_after (map number_of v.steps) (map number_of w.steps))
    (and_from (are_one v.start w.start) (is_not_after (map number_of v.steps) (map number_of w.steps)) (one_is v.start w.start e) h)

first_lower : (v w : PlainWalk) → is_lower v.start w.start ≡ true → is_first v w ≡ true
first_lower v w h = or_left (is_lower v.start w.start) (are_one v.start w.start && is_not_after (map number_of v.steps) (map number_of w.steps)) h

first_parts : (v w : PlainWalk) → is_first v w ≡ true → (is_lower v.start w.start ≡ true) ⊎ ((v.start ≡ w.start) × (is_not_after (map number_of v.steps) (map number_of w.steps) ≡ true))
first_parts v w e = elim (or_cases (is_lower v.start w.start) (are_one v.start w.start && is_not_after (map number_of v.steps) (map number_of w.steps)) e) [
  | inl h ↦ inl h
  | inr h ↦ (let parts = and_parts (are_one v.start w.start) (is_not_after (map number_of v.steps) (map number_of w.steps)) h in inr (one_true v.start w.start parts.0, parts.1))
]

first_total : (v w : PlainWalk) → (is_first v w ≡ true) ⊎ (is_first w v ≡ true)
first_total v w = of_starts (lower_total v.start w.start) (lists_total (map number_of v.steps) (map number_of w.steps))
  where
    of_starts : (is_lower v.start w.start ≡ true) ⊎ ((v.start ≡ w.start) ⊎ (is_lower w.start v.start ≡ true)) →
        (is_not_after (map number_of v.steps) (map number_of w.steps) ≡ true) ⊎ (is_not_after (map number_of w.steps) (map number_of v.steps) ≡ true) → (is_first v w ≡ true) ⊎ (is_first w v ≡ true)
    of_starts (inl low) h = inl (first_lower v w low)
    of_starts (inr (inl e)) (inl h) = inl (first_tie v w e h)
    of_starts (inr (inl e)) (inr h) = inr (first_tie w v (sym e) h)
    of_starts (inr (inr low)) h = inr (first_lower w v low)

first_onward : (u v w : PlainWalk) → is_first u v ≡ true → is_first v w ≡ true → is_first u w ≡ true
first_onward u v w e f = of_parts (first_parts u v e) (first_parts v w f)
  where
    of_parts : (is_lower u.start v.start ≡ true) ⊎ ((u.start ≡ v.start) × (is_not_after (map number_of u.steps) (map number_of v.steps) ≡ true)) →
        (is_lower v.start w.start ≡ true) ⊎ ((v.start ≡ w.start) × (is_not_after (map number_of v.steps) (map number_of w.steps) ≡ true)) → is_first u w ≡ true
    of_parts (inl p) (inl q) = first_lower u w (lower_onward u.start v.start w.start p q)
    of_parts (inl p) (inr q) = first_lower u w (subst (λ (r : GridPoint). is_lower u.start r ≡ true) q.0 p)
    of_parts (inr p) (inl q) = first_lower u w (subst (λ (r : GridPoint). is_lower r w.start ≡ true) (sym p.0) q)
    of_parts (inr p) (inr q) = first_tie u w (p.0 ∙ q.0) (lists_onward (map number_of u.steps) (map number_of v.steps) (map number_of w.steps) p.1 q.1)

walks_rank : (from to : End) → IsRanking (is_no_worse from to)
walks_rank from to = record {
  total = λ v w. heads_total (total_of from to v) (total_of from to w) (is_first v w) (is_first w v) (first_total v w);
  onward = λ u v w. heads_onward (total_of from to u) (total_of from to v) (total_of from to w) (is_first u v) (is_first v w) (is_first u w) (first_onward u v w);
}

-- the best of walks is one of them, and no worse than each
record IsBestOf (le : PlainWalk → PlainWalk → Bool) (ws : List PlainWalk) (r : PlainWalk) : Type 0 where
  stands : StandsIn r ws
  no_worse : AllAre (λ v. le r v ≡ true) ws

best_parts : (le : PlainWalk → PlainWalk → Bool) → IsRanking le → (ws : List PlainWalk) (r : PlainWalk) → best_of le ws ≡ Some r → IsBestOf le ws r
best_parts le ranks [] r e = let no : ⊥ = cc in absurd no
best_parts le ranks (w ∷ ws) r e =
    let same : least_by le w (w ∷ ws) ≡ r = cc in
    record {
      stands = subst (λ (v : PlainWalk). StandsIn v (w ∷ ws)) same (least-stands le w w ws);
      no_worse = subst (λ (v : PlainWalk). AllAre (λ x. le v x ≡ true) (w ∷ ws)) same (least_no_worse le ranks w w ws);
    }

none_stands : (le : PlainWalk → PlainWalk → Bool) (ws : List PlainWalk) (w : PlainWalk) → best_of le ws ≡ None → StandsIn w ws → ⊥
none_stands le [] w e h = h
none_stands le (v ∷ ws) w e h = cc

-- a free walk has one that is looked at, and costs less or is itself
record HasShortWalk (q : Question) (w : PlainWalk) : Type 0 where
  walk : PlainWalk
  looked_at : StandsIn walk (free_walks q.board q.from q.to)
  no_more : (total_of q.from q.to walk < total_of q.from q.to w) ⊎ (walk ≡ w)

short_walk : (q : Question) → IsQuestion q → (w : PlainWalk) → is_free q.board q.from q.to w ≡ true → HasShortWalk q w
short_walk q h w free = of_labels (path_labels q h s.labels s.cost s.path)
  where
    path : HasPath q w
    path = path_of_walk q h w.start w.steps free

    labels : List ℕ
    labels = path.place ∷ map number_of w.steps

    s : HasShort (space_of q) (spots_of q.board.bounds) labels (total_of q.from q.to w + 1)
    s = shortened (space_of q) (is_space q h) (total_of q.from q.to w + 1) (spots_of q.board.bounds) labels (total_of q.from q.to w + 1) (omega arith) path.path

    of_labels : AreLabelsOfWalk q s.labels → HasShortWalk q w
    of_labels p = record {
      walk = record { start = start_at q p.seat; steps = map direction (p.first ∷ p.others) };
      looked_at = is_looked_at q p.seat (map direction (p.first ∷ p.others)) p.below short walk.free;
      no_more = of_cost s.no_more;
    }
      where
        walk : IsPathWalk q p.seat p.first p.others s.cost
        walk = walk_of_path q h p.seat p.first p.others s.cost (subst (λ (ls : List ℕ). PathTo (space_of q) (spots_of q.board.bounds) ls s.cost) p.is s.path)

        short : length (map direction (p.first ∷ p.others)) ≤ most_steps q.board
        short =
            let few : length s.labels < spots_of q.board.bounds + 1 = s.short in
            let count : length s.labels ≡ length (p.seat ∷ p.first ∷ p.others) = ap length p.is in
            omega (arith, few, count, length-map p.others direction)

        of_cost : (s.cost < total_of q.from q.to w + 1) ⊎ ((s.cost ≡ total_of q.from q.to w + 1) × (s.labels ≡ labels)) →
            (total_of q.from q.to (record { start = start_at q p.seat; steps = map direction (p.first ∷ p.others) }) < total_of q.from q.to w) ⊎ ((let v : PlainWalk = record { start = start_at q p.seat; steps = map direction (p.first ∷ p.others) } in v) ≡ w)
        of_cost (inl less) = let cost : s.cost ≡ total_of q.from q.to (record { start = start_at q p.seat; steps = map direction (p.first ∷ p.others) }) + 1 = walk.cost in inl (omega arith)
        of_cost (inr same) =
            let lists : p.seat ∷ p.first ∷ p.others ≡ labels = sym p.is ∙ same.1 in
            let seat : p.seat ≡ path.place = cc in
            let steps : p.first ∷ p.others ≡ map number_of w.steps = cc in
            inr (ap₂ (λ (r : GridPoint) (ds : List Dir). record { start = r; steps = ds }) (ap (start_at q) seat ∙ path.starts) (ap (map direction) steps ∙ directions_back w.steps))

-- the route is a free walk, and no worse than each free walk
pub route_free : (q : Question) (r : PlainWalk) → route q.board q.from q.to ≡ Some r → is_free q.board q.from q.to r ≡ true
route_free q r e =
    all-at (λ w. is_free q.board q.from q.to w ≡ true) r (free_walks q.board q.from q.to)
    (all_passed (is_free q.board q.from q.to) (λ w. is_free q.board q.from q.to w ≡ true) (flat_map (walks_from (most_steps q.board)) (seats_of q.board q.from)) (λ w h. h))
    (best_parts (is_no_worse q.from q.to) (walks_rank q.from q.to) (free_walks q.board q.from q.to) r e).stands

-- and it has few steps
longer_each : (n : ℕ) → AllAre (λ (es : List Dir). length es ≤ n) (lists_upto n) → (ds : List Dir) → AllAre (λ (d : Dir). AllAre (λ (es : List Dir). length es ≤ suc n) (map (λ (es : List Dir). d ∷ es) (lists_upto n))) ds
longer_each n all [] = tt
longer_each n all (d ∷ ds) = (
  all-map (λ (es : List Dir). length es ≤ suc n) (λ (es : List Dir). d ∷ es) (lists_upto n)
      (all-weaker (λ (es : List Dir). length es ≤ n) (λ (es : List Dir). length (d ∷ es) ≤ suc n) (lists_upto n) (λ es short. omega (arith, short)) all),
  longer_each n all ds,
)

lists_short : (n : ℕ) → AllAre (λ (es : List Dir). length es ≤ n) (lists_upto n)
lists_short zero = (omega arith, tt)
lists_short (suc n) = (
  omega arith,
  all-flat_map (λ (es : List Dir). length es ≤ suc n) (λ (d : Dir). map (λ (es : List Dir). d ∷ es) (lists_upto n)) directions (longer_each n (lists_short n) directions),
)

walks_short : (n : ℕ) (ps : List GridPoint) → AllAre (λ (p : GridPoint). AllAre (λ (w : PlainWalk). length w.steps ≤ n) (walks_from n p)) ps
walks_short n [] = tt
walks_short n (p ∷ ps) =
    (all-map (λ (w : PlainWalk). length w.steps ≤ n) (λ (es : List Dir). (let w : PlainWalk = record { start = p; steps = es } in w)) (lists_upto n) (lists_short n), walks_short n ps)

pub route_short : (q : Question) → IsQuestion q → (r : PlainWalk) → route q.board q.from q.to ≡ Some r → length r.steps < 2 ^ 60
route_short q h r e =
    let short : length r.steps ≤ 90 * cells_of q.board.bounds + 1 =
    all-at (λ (w : PlainWalk). length w.steps ≤ most_steps q.board) r (free_walks q.board q.from q.to)
    (all_filter (is_free q.board q.from q.to) (λ (w : PlainWalk). length w.steps ≤ most_steps q.board) (flat_map (walks_from (most_steps q.board)) (seats_of q.board q.from))
    (all-flat_map (λ (w : PlainWalk). length w.steps ≤ most_steps q.board) (walks_from (most_steps q.board)) (seats_of q.board q.from) (walks_short (most_steps q.board) (seats_of q.board q.from))))
    (best_parts (is_no_worse q.from q.to) (walks_rank q.from q.to) (free_walks q.board q.from q.to) r e).stands in
    omega (arith, short, few_cells q.board.bounds h.board.in_range)

pub route_best : (q : Question) → IsQuestion q → (r w : PlainWalk) → route q.board q.from q.to ≡ Some r → is_free q.board q.from q.to w ≡ true → is_no_worse q.from q.to r w ≡ true
route_best q h r w e free = of_cost (all-at (λ v. is_no_worse q.from q.to r v ≡ true) short.walk (free_walks q.board q.from q.to) best.no_worse short.looked_at) short.no_more
  where
    best : IsBestOf (is_no_worse q.from q.to) (free_walks q.board q.from q.to) r
    best = best_parts (is_no_worse q.from q.to) (walks_rank q.from q.to) (free_walks q.board q.from q.to) r e

    short : HasShortWalk q w
    short = short_walk q h w free

    of_cost : is_no_worse q.from q.to r short.walk ≡ true → (total_of q.from q.to short.walk < total_of q.from q.to w) ⊎ (short.walk ≡ w) → is_no_worse q.from q.to r w ≡ true
    of_cost k (inl less) =
        head_less (total_of q.from q.to r) (total_of q.from q.to w) (is_first r w)
        (elim (by_head (total_of q.from q.to r) (total_of q.from q.to short.walk) (is_first r short.walk) k) [
          | inl p ↦ omega (arith, p, less)
          | inr p ↦ omega (arith, p.0, less)
        ])
    of_cost k (inr same) = subst (λ (v : PlainWalk). is_no_worse q.from q.to r v ≡ true) same k

-- so none costs less
pub route_cheapest : (q : Question) → IsQuestion q → (r w : PlainWalk) → route q.board q.from q.to ≡ Some r → is_free q.board q.from q.to w ≡ true → total_of q.from q.to r ≤ total_of q.from q.to w
route_cheapest q h r w e free =
    elim (by_head (total_of q.from q.to r) (total_of q.from q.to w) (is_first r w) (route_best q h r w e free)) [
      | inl less ↦ omega (arith, less)
      | inr tie ↦ omega (arith, tie.0)
    ]

-- where there is no route, no walk is free
pub no_route : (q : Question) → IsQuestion q → (w : PlainWalk) → route q.board q.from q.to ≡ None → is_free q.board q.from q.to w ≡ true → ⊥
no_route q h w e free = let short = short_walk q h w free in none_stands (is_no_worse q.from q.to) (free_walks q.board q.from q.to) short.walk e short.looked_at
