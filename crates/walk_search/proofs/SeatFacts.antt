-- Seats lie on the board, cost little, and are few.
use Rattle.std.proofs.Common.{◌≡◌, refl, sym, ◌∙◌, ap, subst, ℕ, zero, suc, ◌+◌, ◌%◌, ◌<◌, ◌≤◌, inl, inr, Bool, true, false, cond, eqb, not, ◌&&◌, ◌||◌, List, [], ◌∷◌, ◌++◌, length, get_or, drop, map, filter, append_assoc, ℤ, pos, negsuc, ◌+ℤ◌, ◌-ℤ◌, arith, lit≤}
use Rattle.std.specs.Prelude.{unsigned_abs}
use Rattle.std.proofs.lemmas.Int.{ints}
use Rattle.std.proofs.lemmas.List.{drop_more}
use Rattle.std.proofs.lemmas.List.Sums.{count_by-le-length, length-filter}
use Rattle.std.proofs.lemmas.Bool.{and_from, and_parts, cond_both, eq-eqb, eqb-true, or_cases, or_left, or_right}
use Rattle.least_path.proofs.Chosen.{StandsIn, AllAre, all-at}
use Rattle.octi_grid.specs.declared.point.GridPoint.{GridPoint}
use Rattle.octi_grid.specs.Ways.{are_one, doubled}
use Rattle.octi_grid.specs.Legal.{is_among, is_even}
use Rattle.walk_search.specs.declared.ends.End.{End}
use Rattle.grid_board.specs.Boards.{BoardParts, IsBoard, is_inside}
use Rattle.walk_search.specs.Seats.{is_free_seat, kept_seat, seat_cost, seats_of, shifted, shifts}
use Rattle.grid_board.proofs.Marks.{one_true, one_is}

pub all_filter : {X : Type 0} (test : X → Bool) (P : X → Type 0) (xs : List X) → AllAre P xs → AllAre P (filter test xs)
all_filter test P [] all = tt
all_filter test P (x ∷ xs) all =
    let rest = all_filter test P xs all.1 in
    cond_both (test x) (x ∷ filter test xs) (filter test xs) (AllAre P) (λ e. (all.0, rest)) (λ e. rest)

pub all_passed : {X : Type 0} (test : X → Bool) (P : X → Type 0) (xs : List X) → ((x : X) → test x ≡ true → P x) → AllAre P (filter test xs)
all_passed test P [] passed = tt
all_passed test P (x ∷ xs) passed =
    let rest = all_passed test P xs passed in
    cond_both (test x) (x ∷ filter test xs) (filter test xs) (AllAre P) (λ e. (passed x e, rest)) (λ e. rest)

pub all_index : {X : Type 0} (P : X → Type 0) (xs : List X) → AllAre P xs → (i : ℕ) (d : X) → i < length xs → P (get_or xs i d)
all_index P [] all i d below = absurd (omega arith)
all_index P (x ∷ xs) all zero d below = all.0
all_index P (x ∷ xs) all (suc i) d below = all_index P xs all.1 i d (omega arith)

-- a point that is among others stands there, at a place
pub among_stands : (p : GridPoint) (ps : List GridPoint) → is_among ps p ≡ true → StandsIn p ps
among_stands p [] e = let no : ⊥ = cc in absurd no
among_stands p (q ∷ qs) e =
    elim (or_cases (are_one p q) (is_among qs p) e) [
      | inl h ↦ inl (sym (one_true p q h))
      | inr h ↦ inr (among_stands p qs h)
    ]

pub stands_among : (p : GridPoint) (ps : List GridPoint) → StandsIn p ps → is_among ps p ≡ true
stands_among p [] h = absurd h
stands_among p (q ∷ qs) (inl e) = or_left (are_one p q) (is_among qs p) (one_is p q (sym e))
stands_among p (q ∷ qs) (inr h) = or_right (are_one p q) (is_among qs p) (stands_among p qs h)

-- the place of what stands in a list
pub record HasPlace {X : Type 0} (xs : List X) (x d : X) : Type 0 where
  pub place : ℕ
  pub below : place < length xs
  pub is : get_or xs place d ≡ x

pub place_of : {X : Type 0} (xs : List X) (x d : X) → StandsIn x xs → HasPlace xs x d
place_of [] x d h = absurd h
place_of (y ∷ ys) x d (inl e) = record { place = 0; below = omega arith; is = e }
place_of (y ∷ ys) x d (inr h) = let p = place_of ys x d h in record { place = suc p.place; below = omega (arith, p.below); is = p.is }

pub place_stands : {X : Type 0} (xs : List X) (i : ℕ) (d : X) → i < length xs → StandsIn (get_or xs i d) xs
place_stands [] i d below = absurd (omega arith)
place_stands (y ∷ ys) zero d below = inl refl
place_stands (y ∷ ys) (suc i) d below = inr (place_stands ys i d (omega arith))

-- each seat lies on the board
pub seats_inside : (board : BoardParts) (end : End) → is_inside board end.at ≡ true → AllAre (λ p. is_inside board p ≡ true) (seats_of board end)
seats_inside board end inside = of_free end.is_free
  where
    free_inside : (p : GridPoint) → is_free_seat board end.at p ≡ true → is_inside board p ≡ true
    free_inside p e =
        let first = and_parts (is_inside board p && (are_one end.at p || not (board.is_node p))) (not (board.is_taken (doubled p))) e in
        (and_parts (is_inside board p) (are_one end.at p || not (board.is_node p)) first.0).0

    of_free : (t : Bool) → AllAre (λ p. is_inside board p ≡ true) (cond t (filter (is_free_seat board end.at) (map (shifted end.at) shifts)) (end.at ∷ []))
    of_free true = all_passed (is_free_seat board end.at) (λ p. is_inside board p ≡ true) (map (shifted end.at) shifts) free_inside
    of_free false = (inside, tt)

-- and costs no more than 20
cheap_shift : (home : GridPoint) (a b : ℤ) → unsigned_abs a ≤ 2 → unsigned_abs b ≤ 2 → seat_cost home (shifted home (a, b)) ≤ 20
cheap_shift home a b h k =
    let x : unsigned_abs ((home.x +ℤ a) -ℤ home.x) ≤ 2 = omega (arith, ints) in
    let y : unsigned_abs ((home.y +ℤ b) -ℤ home.y) ≤ 2 = omega (arith, ints) in
    omega arith

home_free : (home : GridPoint) → seat_cost home home ≤ 20
home_free home =
    let x : unsigned_abs (home.x -ℤ home.x) ≡ 0 = omega (arith, ints) in
    let y : unsigned_abs (home.y -ℤ home.y) ≡ 0 = omega (arith, ints) in
    omega arith

low : unsigned_abs (negsuc 1) ≤ 2
low = lit≤ tt

mid : unsigned_abs (pos 0) ≤ 2
mid = lit≤ tt

high : unsigned_abs (pos 2) ≤ 2
high = lit≤ tt

pub seats_cheap : (board : BoardParts) (end : End) → AllAre (λ p. seat_cost end.at p ≤ 20) (seats_of board end)
seats_cheap board end = of_free end.is_free
  where
    of_free : (t : Bool) → AllAre (λ p. seat_cost end.at p ≤ 20) (cond t (filter (is_free_seat board end.at) (map (shifted end.at) shifts)) (end.at ∷ []))
    of_free true =
        all_filter (is_free_seat board end.at) (λ p. seat_cost end.at p ≤ 20) (map (shifted end.at) shifts)
        (cheap_shift end.at (negsuc 1) (negsuc 1) low low, (cheap_shift end.at (pos 0) (negsuc 1) mid low, (cheap_shift end.at (pos 2) (negsuc 1) high low, (cheap_shift end.at (negsuc 1) (pos 0) low mid, (cheap_shift end.at (pos 0) (pos 0) mid mid, (cheap_shift end.at (pos 2) (pos 0) high mid, (cheap_shift end.at (negsuc 1) (pos 2) low high, (cheap_shift end.at (pos 0) (pos 2) mid high, (cheap_shift end.at (pos 2) (pos 2) high high, tt)))))))))
    of_free false = (home_free end.at, tt)

pub seats_few : (board : BoardParts) (end : End) → length (seats_of board end) ≤ 9
seats_few board end =
    cond_both end.is_free (filter (is_free_seat board end.at) (map (shifted end.at) shifts)) (end.at ∷ [])
    (λ ps. length ps ≤ 9)
    (λ e. subst (λ n. n ≤ 9) (sym (length-filter (is_free_seat board end.at) (map (shifted end.at) shifts)))
    (count_by-le-length (is_free_seat board end.at) (map (shifted end.at) shifts))) (λ e. omega arith)

pub kept_few : (board : BoardParts) (end : End) (seats : List GridPoint) → seats ≡ seats_of board end → length seats ≤ 9
kept_few board end seats are = subst (λ (ps : List GridPoint). length ps ≤ 9) (sym are) (seats_few board end)

-- each seat is even, as the nodes of a board are
even_shift : (home : GridPoint) (a b : ℤ) → is_even home ≡ true → unsigned_abs a % 2 ≡ 0 → unsigned_abs b % 2 ≡ 0 → is_even (shifted home (a, b)) ≡ true
even_shift home a b e f g =
    let both = and_parts (eqb (unsigned_abs home.x % 2) 0) (eqb (unsigned_abs home.y % 2) 0) e in
    and_from (eqb (unsigned_abs (home.x +ℤ a) % 2) 0) (eqb (unsigned_abs (home.y +ℤ b) % 2) 0)
    (eq-eqb (unsigned_abs (home.x +ℤ a) % 2) 0 (even_sum home.x a (eqb-true (unsigned_abs home.x % 2) 0 both.0) f))
    (eq-eqb (unsigned_abs (home.y +ℤ b) % 2) 0 (even_sum home.y b (eqb-true (unsigned_abs home.y % 2) 0 both.1) g))
  where
    even_sum : (y z : ℤ) → unsigned_abs y % 2 ≡ 0 → unsigned_abs z % 2 ≡ 0 → unsigned_abs (y +ℤ z) % 2 ≡ 0
    even_sum y z h k = omega (arith, ints)

seats_even : (board : BoardParts) (end : End) → is_even end.at ≡ true → AllAre (λ p. is_even p ≡ true) (seats_of board end)
seats_even board end e = of_free end.is_free
  where
    shift : (a b : ℤ) → unsigned_abs a % 2 ≡ 0 → unsigned_abs b % 2 ≡ 0 → is_even (shifted end.at (a, b)) ≡ true
    shift a b f g = even_shift end.at a b e f g

    of_free : (t : Bool) → AllAre (λ p. is_even p ≡ true) (cond t (filter (is_free_seat board end.at) (map (shifted end.at) shifts)) (end.at ∷ []))
    of_free true =
        all_filter (is_free_seat board end.at) (λ p. is_even p ≡ true) (map (shifted end.at) shifts)
        (shift (negsuc 1) (negsuc 1) refl refl, (shift (pos 0) (negsuc 1) refl refl, (shift (pos 2) (negsuc 1) refl refl, (shift (negsuc 1) (pos 0) refl refl, (shift (pos 0) (pos 0) refl refl, (shift (pos 2) (pos 0) refl refl, (shift (negsuc 1) (pos 2) refl refl, (shift (pos 0) (pos 2) refl refl, (shift (pos 2) (pos 2) refl refl, tt)))))))))
    of_free false = (e, tt)

pub among_even : (board : BoardParts) (end : End) (p : GridPoint) → IsBoard board → board.is_node end.at ≡ true → is_among (seats_of board end) p ≡ true → is_even p ≡ true
among_even board end p h node among =
    all-at (λ r. is_even r ≡ true) p (seats_of board end) (seats_even board end (h.nodes_even end.at node)) (among_stands p (seats_of board end) among)

-- a seat that is kept at a place lies on the board
pub seat_is_inside : (board : BoardParts) (end : End) (seats : List GridPoint) (i : ℕ) (p : GridPoint) → is_inside board end.at ≡ true → seats ≡ seats_of board end → i < length (seats_of board end) →
    p ≡ get_or seats i p → is_inside board p ≡ true
seat_is_inside board end seats i p inside are below is =
    subst (λ (r : GridPoint). is_inside board r ≡ true) (ap (λ (xs : List GridPoint). get_or xs i p) (sym are) ∙ sym is)
    (all_index (λ r. is_inside board r ≡ true) (seats_of board end) (seats_inside board end inside) i p below)

-- one more seat
pub seats_more : (board : BoardParts) (home : GridPoint) (now new whole : List GridPoint) (i : ℕ) (d : ℤ × ℤ) → i < length shifts → new ≡ now ++ kept_seat board home (shifted home (get_or shifts i d)) →
    now ++ filter (is_free_seat board home) (map (shifted home) (drop i shifts)) ≡ whole → new ++ filter (is_free_seat board home) (map (shifted home) (drop (i + 1) shifts)) ≡ whole
seats_more board home now new whole i d below added before =
    ap (λ xs. xs ++ rest) added
    ∙ append_assoc now (kept_seat board home p) rest
    ∙ ap (λ xs. now ++ xs) (of_test (is_free_seat board home p))
    ∙ ap (λ (bys : List (ℤ × ℤ)). now ++ filter (is_free_seat board home) (map (shifted home) bys)) (sym (drop_more shifts i d below))
    ∙ before
  where
    p : GridPoint
    p = shifted home (get_or shifts i d)

    rest : List GridPoint
    rest = filter (is_free_seat board home) (map (shifted home) (drop (i + 1) shifts))

    of_test : (t : Bool) → cond t (p ∷ []) [] ++ rest ≡ cond t (p ∷ rest) rest
    of_test true = refl
    of_test false = refl
