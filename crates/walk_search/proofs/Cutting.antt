-- A free walk that meets itself can be cut short: there is one that costs less.
use Rattle.std.proofs.Common.{◌≡◌, refl, sym, ◌∙◌, ap, subst, ℕ, ◌+◌, ◌<◌, ◌≤◌, inl, inr, true, false, eqb, List, [], ◌∷◌, ◌++◌, append_assoc, Option, Some, slice_get, arith}
use Rattle.std.specs.Prelude.{option_map}
use Rattle.std.proofs.lemmas.Bool.{cases_Bool, eqb-true, false_from_ne_true, or_cases, true≢false, false≢true}
use Rattle.std.proofs.lemmas.List.{append-nil}
use Rattle.octi_grid.specs.declared.dir.Dir.{Dir}
use Rattle.octi_grid.specs.declared.point.GridPoint.{GridPoint}
use Rattle.octi_grid.specs.Ways.{after, are_one, doubled, reverse_of, step_from}
use Rattle.octi_grid.specs.Costs.{step_cost, turn_between, way_cost}
use Rattle.octi_grid.specs.Walks.{PlainWalk, last_of}
use Rattle.octi_grid.specs.Legal.{is_among, is_even}
use Rattle.octi_grid.proofs.CostLemmas.{turn_small}
use Rattle.octi_grid.proofs.WayLemmas.{after-append}
use Rattle.grid_board.specs.Boards.{BoardParts, is_inside}
use Rattle.walk_search.specs.Seats.{seat_cost}
use Rattle.walk_search.specs.Routes.{allows, is_free, total_of}
use Rattle.walk_search.specs.Moves.{Question, IsQuestion, ends_of, is_all_or_none, is_open, is_passable, starts_of}
use Rattle.grid_board.proofs.Marks.{one_is}
use Rattle.walk_search.proofs.Turning.{step_cost_from, of_eight}
use Rattle.walk_search.proofs.FreeWays.{Along, first_open, open_from, open_parts, passable_parts}
use Rattle.walk_search.proofs.FreeWalks.{free_of_parts, never_still, parts_of_free, settled_at}
use Rattle.walk_search.proofs.SeatFacts.{among_even}
use Rattle.walk_search.proofs.Crossing.{Crosses, near_turn, no_step, turn_back}

-- what ways cost, part by part
way_cost_step : (y x : Dir) (us xs : List Dir) → way_cost (us ++ y ∷ x ∷ xs) ≡ way_cost (us ++ y ∷ []) + turn_between y x + way_cost (x ∷ xs)
way_cost_step y x [] xs = refl
way_cost_step y x (a ∷ []) xs = omega arith
way_cost_step y x (a ∷ b ∷ us) xs = let rest : way_cost ((b ∷ us) ++ y ∷ x ∷ xs) ≡ way_cost ((b ∷ us) ++ y ∷ []) + turn_between y x + way_cost (x ∷ xs) = way_cost_step y x (b ∷ us) xs in omega arith

way_cost_both : (a : Dir) (us : List Dir) (x : Dir) (xs : List Dir) → way_cost (a ∷ us) + way_cost (x ∷ xs) ≤ way_cost ((a ∷ us) ++ x ∷ xs)
way_cost_both a [] x xs = omega arith
way_cost_both a (b ∷ us) x xs = let rest : way_cost (b ∷ us) + way_cost (x ∷ xs) ≤ way_cost ((b ∷ us) ++ x ∷ xs) = way_cost_both b us x xs in omega arith

way_cost_some : (a : Dir) (us : List Dir) → 4 ≤ way_cost (a ∷ us)
way_cost_some a [] = step_cost_from a
way_cost_some a (b ∷ us) = omega (arith, step_cost_from a)

way_cost_two : (a b : Dir) (us : List Dir) → step_cost a + 4 ≤ way_cost (a ∷ b ∷ us)
way_cost_two a b us = omega (arith, way_cost_some b us)

-- steps along a board, part by part
record AreTwoWays (board : BoardParts) (p : GridPoint) (front : List Dir) (at : GridPoint) (x : Dir) (xs : List Dir) : Type 0 where
  first : Along board p front
  between : is_passable board at ≡ true
  second : Along board at (x ∷ xs)

along_parts : (board : BoardParts) (p : GridPoint) (us : List Dir) (y x : Dir) (xs : List Dir) → Along board p (us ++ y ∷ x ∷ xs) → AreTwoWays board p (us ++ y ∷ []) (step_from (after p us) y) x xs
along_parts board p [] y x xs a = record { first = a.0; between = a.1; second = a.2 }
along_parts board p (c ∷ []) y x xs a =
    let rest = along_parts board (step_from p c) [] y x xs a.2 in
    record { first = (a.0, a.1, rest.first); between = rest.between; second = rest.second }
along_parts board p (c ∷ b ∷ us) y x xs a =
    let rest = along_parts board (step_from p c) (b ∷ us) y x xs a.2 in
    record { first = (a.0, a.1, rest.first); between = rest.between; second = rest.second }

along_joined : (board : BoardParts) (p : GridPoint) (us : List Dir) (y x : Dir) (xs : List Dir) → Along board p (us ++ y ∷ []) → is_passable board (step_from (after p us) y) ≡ true → Along board (step_from (after p us) y) (x ∷ xs) →
    Along board p (us ++ y ∷ x ∷ xs)
along_joined board p [] y x xs a e b = (a, e, b)
along_joined board p (c ∷ []) y x xs a e b = (a.0, a.1, along_joined board (step_from p c) [] y x xs a.2 e b)
along_joined board p (c ∷ d ∷ us) y x xs a e b = (a.0, a.1, along_joined board (step_from p c) (d ∷ us) y x xs a.2 e b)

record GoesThrough (board : BoardParts) (at : GridPoint) (x : Dir) (xs : List Dir) : Type 0 where
  here : is_passable board at ≡ true
  rest : Along board at (x ∷ xs)

along_behind : (board : BoardParts) (p : GridPoint) (a : Dir) (us : List Dir) (x : Dir) (xs : List Dir) → Along board p ((a ∷ us) ++ x ∷ xs) → GoesThrough board (after p (a ∷ us)) x xs
along_behind board p a [] x xs h = record { here = h.1; rest = h.2 }
along_behind board p a (b ∷ us) x xs h = along_behind board (step_from p a) b us x xs h.2

-- a free walk by its steps
pub record IsFreeBy (q : Question) (start : GridPoint) (steps : List Dir) : Type 0 where
  pub starts : is_among (starts_of q) start ≡ true
  pub ends : is_among (ends_of q) (after start steps) ≡ true
  pub apart : are_one start (after start steps) ≡ false
  pub along : Along q.board start steps
  pub leaves : allows q.from.ports (slice_get steps 0) ≡ true
  pub comes : allows q.to.ports (option_map reverse_of (last_of steps)) ≡ true

pub free_by : (q : Question) → IsQuestion q → (start : GridPoint) (steps : List Dir) → is_free q.board q.from q.to (record { start = start; steps = steps }) ≡ true → IsFreeBy q start steps
free_by q h start [] free = absurd (never_still q start free)
free_by q h start (d ∷ ds) free =
    let f = parts_of_free q h start d ds free in
    record { starts = f.starts; ends = f.ends; apart = f.apart; along = f.along; leaves = f.leaves; comes = f.comes }

free_from : (q : Question) (start : GridPoint) (steps : List Dir) → IsFreeBy q start steps → is_free q.board q.from q.to (record { start = start; steps = steps }) ≡ true
free_from q start [] f = absurd (false≢true f.leaves)
free_from q start (d ∷ ds) f = free_of_parts q start d ds (record { steps = refl; starts = f.starts; ends = f.ends; apart = f.apart; along = f.along; leaves = f.leaves; comes = f.comes })

-- there is a free walk that costs less
pub record HasCheaper (q : Question) (start : GridPoint) (steps : List Dir) : Type 0 where
  pub walk : PlainWalk
  pub free : is_free q.board q.from q.to walk ≡ true
  pub less : total_of q.from q.to walk < total_of q.from q.to (record { start = start; steps = steps })

-- other steps between the same ends are a cheaper walk
recut : (q : Question) (start : GridPoint) (old new : List Dir) → IsFreeBy q start old → after start new ≡ after start old → Along q.board start new → allows q.from.ports (slice_get new 0) ≡ true →
    allows q.to.ports (option_map reverse_of (last_of new)) ≡ true → way_cost new < way_cost old → HasCheaper q start old
recut q start old new f same along leaves comes less = record {
  walk = record { start = start; steps = new };
  free = free_from q start new
      (record {
        starts = f.starts;
        ends = subst (λ (p : GridPoint). is_among (ends_of q) p ≡ true) (sym same) f.ends;
        apart = subst (λ (p : GridPoint). are_one start p ≡ false) (sym same) f.apart;
        along = along;
        leaves = leaves;
        comes = comes;
      });
  less = subst (λ (p : GridPoint). seat_cost q.from.at start + way_cost new + seat_cost q.to.at p < seat_cost q.from.at start + way_cost old + seat_cost q.to.at (after start old)) (sym same)
      (sums (seat_cost q.from.at start) (way_cost new) (way_cost old) (seat_cost q.to.at (after start old)) less);
}
  where
    sums : (a m n z : ℕ) → m < n → a + m + z < a + n + z
    sums a m n z k = omega arith

-- the ports of steps with one more part
first_same : (us : List Dir) (y : Dir) (xs ys : List Dir) → slice_get (us ++ y ∷ xs) 0 ≡ slice_get (us ++ y ∷ ys) 0
first_same [] y xs ys = refl
first_same (a ∷ us) y xs ys = refl

last_behind : (us : List Dir) (x : Dir) (xs : List Dir) → last_of (us ++ x ∷ xs) ≡ last_of (x ∷ xs)
last_behind [] x xs = refl
last_behind (a ∷ []) x xs = refl
last_behind (a ∷ b ∷ us) x xs = last_behind (b ∷ us) x xs

-- a mask that allows one port and is all or none allows all
allows_all : (mask : ℕ) → is_all_or_none mask ≡ true → (d e : Dir) → allows mask (Some d) ≡ true → allows mask (Some e) ≡ true
allows_all mask whole d e h = elim (or_cases (eqb mask 0) (eqb mask 255) whole) [
  | inl z ↦ absurd (none d (subst (λ (m : ℕ). allows m (Some d) ≡ true) (eqb-true mask 0 z) h))
  | inr z ↦ subst (λ (m : ℕ). allows m (Some e) ≡ true) (sym (eqb-true mask 255 z)) (all e)
]
  where
    none : (c : Dir) → allows 0 (Some c) ≡ true → ⊥
    none c k =
        false≢true (sym (of_eight (λ e. allows 0 (Some e) ≡ false) refl refl refl refl refl refl refl refl c) ∙ k)

    all : (c : Dir) → allows 255 (Some c) ≡ true
    all = of_eight (λ c. allows 255 (Some c) ≡ true) refl refl refl refl refl refl refl refl

some_of_last : (a : Dir) (us : List Dir) → (d : Dir) × (option_map reverse_of (last_of (a ∷ us)) ≡ Some d)
some_of_last a [] = (reverse_of a, refl)
some_of_last a (b ∷ us) = some_of_last b us

-- a start or an end that a walk comes over between its ends is no node's point, so it is not settled, and has all ports
start_free : (q : Question) → IsQuestion q → (p : GridPoint) → is_among (starts_of q) p ≡ true → is_passable q.board p ≡ true → is_all_or_none q.from.ports ≡ true
start_free q h p among passes = elim (cases_Bool q.from.is_free) [
  | inl free ↦ h.from_ports free
  | inr settled ↦ (let node : q.board.is_node p ≡ true = ap q.board.is_node (settled_at q.board q.from p settled among) ∙ h.from_node in
      absurd (true≢false (sym node ∙ (passable_parts q.board p passes).0)))
]

end_free : (q : Question) → IsQuestion q → (p : GridPoint) → is_among (ends_of q) p ≡ true → is_passable q.board p ≡ true → is_all_or_none q.to.ports ≡ true
end_free q h p among passes = elim (cases_Bool q.to.is_free) [
  | inl free ↦ h.to_ports free
  | inr settled ↦ (let node : q.board.is_node p ≡ true = ap q.board.is_node (settled_at q.board q.to p settled among) ∙ h.to_node in
      absurd (true≢false (sym node ∙ (passable_parts q.board p passes).0)))
]

-- steps that come back to where they began are two at least
loop_cost : (p : GridPoint) (b : Dir) (bs : List Dir) → after p (b ∷ bs) ≡ p → 8 ≤ way_cost (b ∷ bs)
loop_cost p b [] e = absurd (no_step p b e)
loop_cost p b (c ∷ bs) e = omega (arith, way_cost_two b c bs, step_cost_from b)

-- a loop at the start
loop_at_start : (q : Question) → IsQuestion q → (start : GridPoint) (b : Dir) (bs : List Dir) (x : Dir) (xs : List Dir) → IsFreeBy q start ((b ∷ bs) ++ x ∷ xs) → after start (b ∷ bs) ≡ start → HasCheaper q start ((b ∷ bs) ++ x ∷ xs)
loop_at_start q h start b bs x xs f back =
    recut q start ((b ∷ bs) ++ x ∷ xs) (x ∷ xs) f (sym (after-append start (b ∷ bs) (x ∷ xs) ∙ ap (λ (p : GridPoint). after p (x ∷ xs)) back))
    (subst (λ (p : GridPoint). Along q.board p (x ∷ xs)) back through.rest) (allows_all q.from.ports (start_free q h start f.starts passes) b x f.leaves)
    (subst (λ (o : Option Dir). allows q.to.ports (option_map reverse_of o) ≡ true) (last_behind (b ∷ bs) x xs) f.comes) cost
  where
    through : GoesThrough q.board (after start (b ∷ bs)) x xs
    through = along_behind q.board start b bs x xs f.along

    passes : is_passable q.board start ≡ true
    passes = subst (λ (p : GridPoint). is_passable q.board p ≡ true) back through.here

    cost : way_cost (x ∷ xs) < way_cost ((b ∷ bs) ++ x ∷ xs)
    cost = omega (arith, loop_cost start b bs back, way_cost_both b bs x xs)

-- a loop at the end
loop_at_end : (q : Question) → IsQuestion q → (start : GridPoint) (us : List Dir) (y b : Dir) (bs : List Dir) → IsFreeBy q start (us ++ y ∷ b ∷ bs) → after (step_from (after start us) y) (b ∷ bs) ≡ step_from (after start us) y →
    HasCheaper q start (us ++ y ∷ b ∷ bs)
loop_at_end q h start us y b bs f back =
    recut q start (us ++ y ∷ b ∷ bs) (us ++ y ∷ []) f (sym same) ways.first (ap (allows q.from.ports) (first_same us y [] (b ∷ bs)) ∙ f.leaves)
    (ap (λ (o : Option Dir). allows q.to.ports (option_map reverse_of o)) (last_behind us y []) ∙ allows_all q.to.ports (end_free q h (step_from (after start us) y) among ways.between) old.0 (reverse_of y) comes) cost
  where
    same : after start (us ++ y ∷ b ∷ bs) ≡ after start (us ++ y ∷ [])
    same = after-append start us (y ∷ b ∷ bs) ∙ back ∙ sym (after-append start us (y ∷ []))

    here : after start (us ++ y ∷ b ∷ bs) ≡ step_from (after start us) y
    here = after-append start us (y ∷ b ∷ bs) ∙ back

    among : is_among (ends_of q) (step_from (after start us) y) ≡ true
    among = subst (λ (p : GridPoint). is_among (ends_of q) p ≡ true) here f.ends

    ways : AreTwoWays q.board start (us ++ y ∷ []) (step_from (after start us) y) b bs
    ways = along_parts q.board start us y b bs f.along

    old : (d : Dir) × (option_map reverse_of (last_of (b ∷ bs)) ≡ Some d)
    old = some_of_last b bs

    comes : allows q.to.ports (Some old.0) ≡ true
    comes = ap (allows q.to.ports) (sym old.1) ∙ ap (λ (o : Option Dir). allows q.to.ports (option_map reverse_of o)) (sym (last_behind (us ++ y ∷ []) b bs) ∙ ap last_of (append_assoc us (y ∷ []) (b ∷ bs))) ∙ f.comes

    cost : way_cost (us ++ y ∷ []) < way_cost (us ++ y ∷ b ∷ bs)
    cost = omega (arith, way_cost_step y b us bs, way_cost_some b bs)

-- a loop between
loop_between : (q : Question) (start : GridPoint) (us : List Dir) (y b : Dir) (bs : List Dir) (x : Dir) (xs : List Dir) → IsFreeBy q start (us ++ y ∷ ((b ∷ bs) ++ x ∷ xs)) →
    after (step_from (after start us) y) (b ∷ bs) ≡ step_from (after start us) y → HasCheaper q start (us ++ y ∷ ((b ∷ bs) ++ x ∷ xs))
loop_between q start us y b bs x xs f back =
    recut q start (us ++ y ∷ ((b ∷ bs) ++ x ∷ xs)) (us ++ y ∷ x ∷ xs) f (sym same)
    (along_joined q.board start us y x xs ways.first ways.between (subst (λ (p : GridPoint). Along q.board p (x ∷ xs)) back through.rest)) (ap (allows q.from.ports) (first_same us y (x ∷ xs) ((b ∷ bs) ++ x ∷ xs)) ∙ f.leaves)
    (ap (λ (o : Option Dir). allows q.to.ports (option_map reverse_of o)) ports ∙ f.comes) cost
  where
    at : GridPoint
    at = step_from (after start us) y

    same : after start (us ++ y ∷ ((b ∷ bs) ++ x ∷ xs)) ≡ after start (us ++ y ∷ x ∷ xs)
    same =
        after-append start us (y ∷ ((b ∷ bs) ++ x ∷ xs))
        ∙ after-append at (b ∷ bs) (x ∷ xs)
        ∙ ap (λ (p : GridPoint). after p (x ∷ xs)) back
        ∙ sym (after-append start us (y ∷ x ∷ xs))

    ways : AreTwoWays q.board start (us ++ y ∷ []) (step_from (after start us) y) b (bs ++ x ∷ xs)
    ways = along_parts q.board start us y b (bs ++ x ∷ xs) f.along

    through : GoesThrough q.board (after (step_from (after start us) y) (b ∷ bs)) x xs
    through = along_behind q.board (step_from (after start us) y) b bs x xs ways.second

    ports : last_of (us ++ y ∷ x ∷ xs) ≡ last_of (us ++ y ∷ ((b ∷ bs) ++ x ∷ xs))
    ports = last_behind us y (x ∷ xs) ∙ sym (last_behind (y ∷ b ∷ bs) x xs) ∙ sym (last_behind us y ((b ∷ bs) ++ x ∷ xs))

    cost : way_cost (us ++ y ∷ x ∷ xs) < way_cost (us ++ y ∷ ((b ∷ bs) ++ x ∷ xs))
    cost = omega (arith, way_cost_step y x us xs, way_cost_step y b us (bs ++ x ∷ xs), way_cost_both b bs x xs, loop_cost (step_from (after start us) y) b bs back, turn_small y x)

-- steps that are none, or have a last one
data HasLast : List Dir → Type 0 where
  still : HasLast []
  moves : (us : List Dir) (y : Dir) → HasLast (us ++ y ∷ [])

last_step : (ds : List Dir) → HasLast ds
last_step [] = still
last_step (d ∷ ds) = of_rest (last_step ds)
  where
    of_rest : {es : List Dir} → HasLast es → HasLast (d ∷ es)
    of_rest still = moves [] d
    of_rest (moves us y) = moves (d ∷ us) y

-- a walk that comes to a point again
pub cut_loop : (q : Question) → IsQuestion q → (start : GridPoint) (us : List Dir) (b : Dir) (bs xs : List Dir) → IsFreeBy q start (us ++ ((b ∷ bs) ++ xs)) → after (after start us) (b ∷ bs) ≡ after start us → HasCheaper q start (us ++ ((b ∷ bs) ++ xs))
cut_loop q h start us b bs xs f back = of_front (last_step us) xs f back
  where
    at_last : (front : List Dir) (y : Dir) → after (after start (front ++ y ∷ [])) (b ∷ bs) ≡ after start (front ++ y ∷ []) → after (step_from (after start front) y) (b ∷ bs) ≡ step_from (after start front) y
    at_last front y e = subst (λ (p : GridPoint). after p (b ∷ bs) ≡ p) (after-append start front (y ∷ [])) e

    of_front : {front : List Dir} → HasLast front → (rest : List Dir) → IsFreeBy q start (front ++ ((b ∷ bs) ++ rest)) → after (after start front) (b ∷ bs) ≡ after start front → HasCheaper q start (front ++ ((b ∷ bs) ++ rest))
    of_front still [] g e =
        let same : start ≡ after start ((b ∷ bs) ++ []) = sym e ∙ ap (after start) (sym (append-nil (b ∷ bs))) in
        absurd (true≢false (sym (one_is start (after start ((b ∷ bs) ++ [])) same) ∙ g.apart))
    of_front still (x ∷ rest) g e = loop_at_start q h start b bs x rest g e
    of_front (moves front y) [] g e =
        subst (HasCheaper q start) (sym (append_assoc front (y ∷ []) ((b ∷ bs) ++ [])))
        (subst (λ (es : List Dir). HasCheaper q start (front ++ y ∷ es)) (sym (append-nil (b ∷ bs)))
        (loop_at_end q h start front y b bs (subst (λ (es : List Dir). IsFreeBy q start (front ++ y ∷ es)) (append-nil (b ∷ bs)) (subst (IsFreeBy q start) (append_assoc front (y ∷ []) ((b ∷ bs) ++ [])) g)) (at_last front y e)))
    of_front (moves front y) (x ∷ rest) g e =
        subst (HasCheaper q start) (sym (append_assoc front (y ∷ []) ((b ∷ bs) ++ x ∷ rest)))
        (loop_between q start front y b bs x rest (subst (IsFreeBy q start) (append_assoc front (y ∷ []) ((b ∷ bs) ++ x ∷ rest)) g) (at_last front y e))

-- a step along an axis is open from a point that a walk may go on from, to a point of the board
open_axis : (q : Question) → IsQuestion q → (p : GridPoint) (d : Dir) → step_cost d ≡ 4 → is_passable q.board p ≡ true → is_inside q.board p ≡ true → is_inside q.board (step_from p d) ≡ true → is_open q.board p d ≡ true
open_axis q h p d axis passes here there =
    open_from q.board p d
    (record {
      here = here;
      there = there;
      clear = false_from_ne_true (q.board.is_taken (step_from (doubled p) d))
          (λ taken. true≢false (sym (h.board.ends_taken p d axis taken) ∙ (passable_parts q.board p passes).1));
    })

-- a walk that crosses itself and goes on: from the end of the one diagonal straight to the end of the other
cross_over : (q : Question) → IsQuestion q → (start : GridPoint) (us : List Dir) (d c : Dir) (cs : List Dir) (e x : Dir) (xs : List Dir) → IsFreeBy q start (us ++ d ∷ ((c ∷ cs) ++ e ∷ x ∷ xs)) →
    Crosses (after start us) d (after (step_from (after start us) d) (c ∷ cs)) e → HasCheaper q start (us ++ d ∷ ((c ∷ cs) ++ e ∷ x ∷ xs))
cross_over q h start us d c cs e x xs f cross =
    recut q start (us ++ d ∷ ((c ∷ cs) ++ e ∷ x ∷ xs)) (us ++ d ∷ cross.over ∷ x ∷ xs) f same
    (along_joined q.board start us d cross.over (x ∷ xs) ways.first ways.between (
      open_axis q h at cross.over cross.over_axis ways.between (open_parts q.board at c (first_open q.board at c (cs ++ e ∷ x ∷ xs) ways.second)).here
          (subst (λ (p : GridPoint). is_inside q.board p ≡ true) (sym cross.over_leads) (open_parts q.board there e through.rest.0).there),
      subst (λ (p : GridPoint). is_passable q.board p ≡ true) (sym cross.over_leads) through.rest.1,
      subst (λ (p : GridPoint). Along q.board p (x ∷ xs)) (sym cross.over_leads) through.rest.2,
    ))
    (ap (allows q.from.ports) (first_same us d (cross.over ∷ x ∷ xs) ((c ∷ cs) ++ e ∷ x ∷ xs)) ∙ f.leaves)
    (ap (λ (o : Option Dir). allows q.to.ports (option_map reverse_of o)) ports ∙ f.comes) cost
  where
    at : GridPoint
    at = step_from (after start us) d

    there : GridPoint
    there = after (step_from (after start us) d) (c ∷ cs)

    ways : AreTwoWays q.board start (us ++ d ∷ []) (step_from (after start us) d) c (cs ++ e ∷ x ∷ xs)
    ways = along_parts q.board start us d c (cs ++ e ∷ x ∷ xs) f.along

    through : GoesThrough q.board (after (step_from (after start us) d) (c ∷ cs)) e (x ∷ xs)
    through = along_behind q.board (step_from (after start us) d) c cs e (x ∷ xs) ways.second

    same : after start (us ++ d ∷ cross.over ∷ x ∷ xs) ≡ after start (us ++ d ∷ ((c ∷ cs) ++ e ∷ x ∷ xs))
    same =
        after-append start us (d ∷ cross.over ∷ x ∷ xs)
        ∙ ap (λ (p : GridPoint). after p (x ∷ xs)) cross.over_leads
        ∙ sym (after-append (step_from (after start us) d) (c ∷ cs) (e ∷ x ∷ xs))
        ∙ sym (after-append start us (d ∷ ((c ∷ cs) ++ e ∷ x ∷ xs)))

    ports : last_of (us ++ d ∷ cross.over ∷ x ∷ xs) ≡ last_of (us ++ d ∷ ((c ∷ cs) ++ e ∷ x ∷ xs))
    ports = last_behind us d (cross.over ∷ x ∷ xs) ∙ sym (last_behind (d ∷ c ∷ cs) e (x ∷ xs)) ∙ sym (last_behind us d ((c ∷ cs) ++ e ∷ x ∷ xs))

    cost : way_cost (us ++ d ∷ cross.over ∷ x ∷ xs) < way_cost (us ++ d ∷ ((c ∷ cs) ++ e ∷ x ∷ xs))
    cost =
        sums (way_cost (us ++ d ∷ [])) (turn_between d cross.over) (step_cost cross.over) (turn_between cross.over x) (way_cost (x ∷ xs)) (turn_between d c) (way_cost (c ∷ cs)) (step_cost e) (turn_between e x)
        (way_cost ((c ∷ cs) ++ e ∷ x ∷ xs)) (way_cost (us ++ d ∷ cross.over ∷ x ∷ xs)) (way_cost (us ++ d ∷ ((c ∷ cs) ++ e ∷ x ∷ xs)))
        (way_cost_step d cross.over us (x ∷ xs)) (way_cost_step d c us (cs ++ e ∷ x ∷ xs)) (way_cost_both c cs e (x ∷ xs)) (way_cost_some c cs) cross.over_turn cross.over_axis cross.slant_too (near_turn cross.over e x cross.over_near)
      where
        sums : (w t o u r v m s z l new old : ℕ) → new ≡ w + t + (o + u + r) → old ≡ w + v + l → m + (s + z + r) ≤ l → 4 ≤ m → t ≤ 3 → o ≡ 4 → s ≡ 5 → u ≤ z + 1 → new < old
        sums w t o u r v m s z l new old a b g i j k n y = omega arith

-- a walk that came before it crosses itself: from the start of the one diagonal straight to the start of the other
cross_back : (q : Question) → IsQuestion q → (start : GridPoint) (us : List Dir) (y d c : Dir) (cs : List Dir) (e : Dir) (xs : List Dir) → IsFreeBy q start (us ++ y ∷ ((d ∷ c ∷ cs) ++ e ∷ xs)) →
    Crosses (step_from (after start us) y) d (after (step_from (after start us) y) (d ∷ c ∷ cs)) e → HasCheaper q start (us ++ y ∷ ((d ∷ c ∷ cs) ++ e ∷ xs))
cross_back q h start us y d c cs e xs f cross =
    recut q start (us ++ y ∷ ((d ∷ c ∷ cs) ++ e ∷ xs)) (us ++ y ∷ cross.back ∷ e ∷ xs) f same
    (along_joined q.board start us y cross.back (e ∷ xs) ways.first ways.between (
      open_axis q h at cross.back cross.back_axis ways.between (open_parts q.board at d (first_open q.board at d ((c ∷ cs) ++ e ∷ xs) ways.second)).here
          (subst (λ (p : GridPoint). is_inside q.board p ≡ true) (sym cross.back_leads) (open_parts q.board there e (first_open q.board there e xs through.rest)).here),
      subst (λ (p : GridPoint). is_passable q.board p ≡ true) (sym cross.back_leads) through.here,
      subst (λ (p : GridPoint). Along q.board p (e ∷ xs)) (sym cross.back_leads) through.rest,
    ))
    (ap (allows q.from.ports) (first_same us y (cross.back ∷ e ∷ xs) ((d ∷ c ∷ cs) ++ e ∷ xs)) ∙ f.leaves)
    (ap (λ (o : Option Dir). allows q.to.ports (option_map reverse_of o)) ports ∙ f.comes) cost
  where
    at : GridPoint
    at = step_from (after start us) y

    there : GridPoint
    there = after (step_from (after start us) y) (d ∷ c ∷ cs)

    ways : AreTwoWays q.board start (us ++ y ∷ []) (step_from (after start us) y) d ((c ∷ cs) ++ e ∷ xs)
    ways = along_parts q.board start us y d ((c ∷ cs) ++ e ∷ xs) f.along

    through : GoesThrough q.board (after (step_from (after start us) y) (d ∷ c ∷ cs)) e xs
    through = along_behind q.board (step_from (after start us) y) d (c ∷ cs) e xs ways.second

    same : after start (us ++ y ∷ cross.back ∷ e ∷ xs) ≡ after start (us ++ y ∷ ((d ∷ c ∷ cs) ++ e ∷ xs))
    same =
        after-append start us (y ∷ cross.back ∷ e ∷ xs)
        ∙ ap (λ (p : GridPoint). after p (e ∷ xs)) cross.back_leads
        ∙ sym (after-append (step_from (after start us) y) (d ∷ c ∷ cs) (e ∷ xs))
        ∙ sym (after-append start us (y ∷ ((d ∷ c ∷ cs) ++ e ∷ xs)))

    ports : last_of (us ++ y ∷ cross.back ∷ e ∷ xs) ≡ last_of (us ++ y ∷ ((d ∷ c ∷ cs) ++ e ∷ xs))
    ports = last_behind us y (cross.back ∷ e ∷ xs) ∙ sym (last_behind (y ∷ d ∷ c ∷ cs) e xs) ∙ sym (last_behind us y ((d ∷ c ∷ cs) ++ e ∷ xs))

    cost : way_cost (us ++ y ∷ cross.back ∷ e ∷ xs) < way_cost (us ++ y ∷ ((d ∷ c ∷ cs) ++ e ∷ xs))
    cost =
        sums (way_cost (us ++ y ∷ [])) (turn_between y cross.back) (step_cost cross.back) (turn_between cross.back e) (way_cost (e ∷ xs)) (turn_between y d) (way_cost (d ∷ c ∷ cs)) (step_cost d)
        (way_cost ((d ∷ c ∷ cs) ++ e ∷ xs)) (way_cost (us ++ y ∷ cross.back ∷ e ∷ xs)) (way_cost (us ++ y ∷ ((d ∷ c ∷ cs) ++ e ∷ xs)))
        (way_cost_step y cross.back us (e ∷ xs)) (way_cost_step y d us ((c ∷ cs) ++ e ∷ xs)) (way_cost_both d (c ∷ cs) e xs) (way_cost_two d c cs) cross.back_turn cross.back_axis cross.slant turn
      where
        turn : turn_between y cross.back ≤ turn_between y d + 1
        turn = omega (arith, near_turn cross.back d y cross.back_near, turn_back y cross.back, turn_back y d)

        sums : (w t o u r v m s l new old : ℕ) → new ≡ w + t + (o + u + r) → old ≡ w + v + l → m + r ≤ l → s + 4 ≤ m → u ≤ 3 → o ≡ 4 → s ≡ 5 → t ≤ v + 1 → new < old
        sums w t o u r v m s l new old a b g i j k n z = omega arith

-- a walk that crosses itself
pub cut_crossing : (q : Question) → IsQuestion q → (start : GridPoint) (us : List Dir) (d : Dir) (before : List Dir) (e : Dir) (xs : List Dir) → IsFreeBy q start (us ++ d ∷ (before ++ e ∷ xs)) →
    Crosses (after start us) d (after (step_from (after start us) d) before) e → HasCheaper q start (us ++ d ∷ (before ++ e ∷ xs))
cut_crossing q h start us d [] e xs f cross = absurd (cross.off refl)
cut_crossing q h start us d (c ∷ cs) e (x ∷ xs) f cross = cross_over q h start us d c cs e x xs f cross
cut_crossing q h start us d (c ∷ cs) e [] f cross = of_front (last_step us) f cross
  where
    of_front : {front : List Dir} → HasLast front → IsFreeBy q start (front ++ d ∷ ((c ∷ cs) ++ e ∷ [])) → Crosses (after start front) d (after (step_from (after start front) d) (c ∷ cs)) e →
        HasCheaper q start (front ++ d ∷ ((c ∷ cs) ++ e ∷ []))
    of_front still g crosses =
        absurd (crosses.not_even (among_even q.board q.from start h.board h.from_node g.starts)
        (subst (λ (p : GridPoint). is_even p ≡ true) (after-append start (d ∷ c ∷ cs) (e ∷ [])) (among_even q.board q.to (after start ((d ∷ c ∷ cs) ++ e ∷ [])) h.board h.to_node g.ends)))
    of_front (moves front y) g crosses =
        subst (HasCheaper q start) (sym (append_assoc front (y ∷ []) ((d ∷ c ∷ cs) ++ e ∷ [])))
        (cross_back q h start front y d c cs e [] (subst (IsFreeBy q start) (append_assoc front (y ∷ []) ((d ∷ c ∷ cs) ++ e ∷ [])) g)
        (subst (λ (p : GridPoint). Crosses p d (after (step_from p d) (c ∷ cs)) e) (after-append start front (y ∷ [])) crosses))
