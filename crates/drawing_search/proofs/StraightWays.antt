-- A way without turns leads straight on: by the number of its direction.
use Rattle.std.proofs.Common.{◌≡◌, refl, sym, ◌∙◌, ap, ap₂, subst, ℕ, zero, suc, ◌≤◌, Bool, true, false, cond, eqb, ◌&&◌, max, List, [], ◌∷◌, length, replicate, ℤ, pos, ◌+ℤ◌, ◌-ℤ◌, unsigned_abs, slice_get, Some, arith, ◌+◌, ◌-◌, ◌%◌, ◌++◌, map, reverse, min, Option, None}
use Rattle.octi_grid.proofs.RunLemmas.{last_of-push}
use Rattle.walk_search.proofs.TurnsDue.{turn_shorter}
use Rattle.drawing_weights.proofs.LeastWeights.{all_one_way}
use Rattle.drawing_search.proofs.Common.{after, after-replicate, clockwise_from, diagonal, eq-eqb, int_lt, ints}
use Rattle.drawing_search.proofs.Common.{last_of, map-append, ne_eqb, number_of, number_small, reverse-append}
use Rattle.drawing_search.proofs.Common.{reverse_of, step_cost, straight_way, turn_back, turn_between, turn_none}
use Rattle.drawing_search.proofs.Common.{turned, turns_at_least, turns_of, way_cost, Dir, GridPoint}
use Rattle.octi_grid.specs.declared.dir.Dir.TheVariants as dir

-- the steps alone, without turns
abbrev pub steps_cost : List Dir → ℕ
steps_cost [] = 0
steps_cost (d ∷ ds) = step_cost d + steps_cost ds

pub cost_parts : (ds : List Dir) → way_cost ds ≡ steps_cost ds + turns_of ds
cost_parts [] = refl
cost_parts (d ∷ []) = omega arith
cost_parts (d ∷ e ∷ ds) = let rest = cost_parts (e ∷ ds) in omega (arith, rest)

-- ---- one way after another

pub steps_append : (ds es : List Dir) → steps_cost (ds ++ es) ≡ steps_cost ds + steps_cost es
steps_append [] es = omega arith
steps_append (d ∷ ds) es = let rest = steps_append ds es in omega (arith, rest)

-- the turn from the last of directions into the first of others
abbrev pub turn_over_cut : Option Dir → Option Dir → ℕ
turn_over_cut None q = 0
turn_over_cut (Some d) None = 0
turn_over_cut (Some d) (Some e) = turn_between d e

pub turns_append : (ds es : List Dir) → turns_of (ds ++ es) ≡ turns_of ds + turn_over_cut (last_of ds) (slice_get es 0) + turns_of es
turns_append [] es = omega arith
turns_append (d ∷ []) [] = refl
turns_append (d ∷ []) (e ∷ es) = omega arith
turns_append (d ∷ f ∷ ds) es = let rest = turns_append (f ∷ ds) es in omega (arith, rest)

-- ---- and walked back

step_back_cost : (d : Dir) → step_cost (reverse_of d) ≡ step_cost d
step_back_cost dir.N = refl
step_back_cost dir.NE = refl
step_back_cost dir.E = refl
step_back_cost dir.SE = refl
step_back_cost dir.S = refl
step_back_cost dir.SW = refl
step_back_cost dir.W = refl
step_back_cost dir.NW = refl

reverse_number : (d : Dir) → number_of (reverse_of d) ≡ (number_of d + 4) % 8
reverse_number dir.N = refl
reverse_number dir.NE = refl
reverse_number dir.E = refl
reverse_number dir.SE = refl
reverse_number dir.S = refl
reverse_number dir.SW = refl
reverse_number dir.W = refl
reverse_number dir.NW = refl

angle_back : (a b : ℕ) → a ≤ 7 → b ≤ 7 → ((b + 4) % 8 + 8 - (a + 4) % 8) % 8 ≡ (b + 8 - a) % 8
angle_back a b h k = omega arith

clockwise_back : (d e : Dir) → clockwise_from (reverse_of d) (reverse_of e) ≡ clockwise_from d e
clockwise_back d e =
    ap₂ (λ m n. (m + 8 - n) % 8) (reverse_number e) (reverse_number d) ∙ angle_back (number_of d) (number_of e) (number_small d) (number_small e)

pub turn_same_back : (d e : Dir) → turn_between (reverse_of d) (reverse_of e) ≡ turn_between d e
turn_same_back d e = ap₂ (λ m n. min m n) (clockwise_back d e) (clockwise_back e d)

turned_cons : (d : Dir) (ds : List Dir) → turned (d ∷ ds) ≡ turned ds ++ reverse_of d ∷ []
turned_cons d ds = ap (map reverse_of) (reverse-append (d ∷ []) ds) ∙ map-append reverse_of (reverse ds) (d ∷ [])

pub steps_back : (ds : List Dir) → steps_cost (turned ds) ≡ steps_cost ds
steps_back [] = refl
steps_back (d ∷ ds) =
    let rest = steps_back ds in
    let joined = ap steps_cost (turned_cons d ds) ∙ steps_append (turned ds) (reverse_of d ∷ []) in
    omega (arith, rest, joined, step_back_cost d)

pub turns_back : (ds : List Dir) → turns_of (turned ds) ≡ turns_of ds
turns_back [] = refl
turns_back (d ∷ []) = refl
turns_back (d ∷ e ∷ ds) =
    let rest = turns_back (e ∷ ds) in
    let joined = ap turns_of (turned_cons d (e ∷ ds)) ∙ turns_append (turned (e ∷ ds)) (reverse_of d ∷ []) in
    let last : turn_over_cut (last_of (turned (e ∷ ds))) (Some (reverse_of d)) ≡ turn_between (reverse_of e) (reverse_of d) =
    ap (λ (v : List Dir). turn_over_cut (last_of v) (Some (reverse_of d))) (turned_cons e ds) ∙ ap (λ (o : Option Dir). turn_over_cut o (Some (reverse_of d))) (last_of-push (turned ds) (reverse_of e)) in
    omega (arith, rest, joined, last, turn_same_back e d, turn_back d e)

-- ---- a way that turns less than from its first direction to its last one there is none

pub turns_enough : (d : Dir) (ds : List Dir) (e : Dir) → last_of (d ∷ ds) ≡ Some e → turn_between d e ≤ turns_of (d ∷ ds)
turns_enough d [] e last = let same : d ≡ e = cc in omega (arith, ap (turn_between d) (sym same), turn_none d)
turns_enough d (f ∷ ds) e last = omega (arith, turn_shorter d f e, turns_enough f ds e last)

-- ---- a way without turns leads straight on: by the number of its direction

-- the number of a straight way, by how far it leads across and along, and whether that is east and north
abbrev way_by : ℕ → ℕ → Bool → Bool → ℕ
way_by m n east north = cond (eqb m 0) (cond north 0 4) (cond (eqb n 0) (cond east 2 6) (cond (eqb m n) (diagonal east north) 8))

upright : (m n : ℕ) (east north : Bool) → m ≡ 0 → way_by m n east north ≡ cond north 0 4
upright m n east north h = ap (λ b. cond b (cond north 0 4) (cond (eqb n 0) (cond east 2 6) (cond (eqb m n) (diagonal east north) 8))) (eq-eqb m 0 h)

level : (m n : ℕ) (east north : Bool) → (m ≡ 0 → ⊥) → n ≡ 0 → way_by m n east north ≡ cond east 2 6
level m n east north f h =
    ap (λ b. cond b (cond north 0 4) (cond (eqb n 0) (cond east 2 6) (cond (eqb m n) (diagonal east north) 8))) (ne_eqb m 0 f)
    ∙ ap (λ b. cond b (cond east 2 6) (cond (eqb m n) (diagonal east north) 8)) (eq-eqb n 0 h)

slanting : (m n : ℕ) (east north : Bool) → (m ≡ 0 → ⊥) → m ≡ n → way_by m n east north ≡ diagonal east north
slanting m n east north f h =
    ap (λ b. cond b (cond north 0 4) (cond (eqb n 0) (cond east 2 6) (cond (eqb m n) (diagonal east north) 8))) (ne_eqb m 0 f)
    ∙ ap (λ b. cond b (cond east 2 6) (cond (eqb m n) (diagonal east north) 8)) (ne_eqb n 0 (λ e. f (h ∙ e)))
    ∙ ap (λ b. cond b (diagonal east north) 8) (eq-eqb m n h)

none : (z : ℤ) → unsigned_abs (z -ℤ z) ≡ 0
none z = omega (arith, ints)

ahead : (z : ℤ) (n : ℕ) → unsigned_abs ((z +ℤ pos n) -ℤ z) ≡ n
ahead z n = omega (arith, ints)

back : (z : ℤ) (n : ℕ) → unsigned_abs ((z -ℤ pos n) -ℤ z) ≡ n
back z n = omega (arith, ints)

higher : (z : ℤ) (n : ℕ) → int_lt z (z +ℤ pos (suc n)) ≡ true
higher z n = grind (arith, ints)

lower : (z : ℤ) (n : ℕ) → int_lt z (z -ℤ pos (suc n)) ≡ false
lower z n = grind (arith, ints)

not_none : (m n : ℕ) → m ≡ suc n → m ≡ 0 → ⊥
not_none m n e z = absurd (omega (arith, e, z))

pub run_straight : (p : GridPoint) (n : ℕ) (d : Dir) → straight_way p (after p (replicate (suc n) d)) ≡ number_of d
run_straight p n dir.N = ap (straight_way p) (after-replicate p (suc n) dir.N) ∙ upright _ _ _ _ (none p.x) ∙ ap (λ b. cond b 0 4) (higher p.y n)
run_straight p n dir.S = ap (straight_way p) (after-replicate p (suc n) dir.S) ∙ upright _ _ _ _ (none p.x) ∙ ap (λ b. cond b 0 4) (lower p.y n)
run_straight p n dir.E = ap (straight_way p) (after-replicate p (suc n) dir.E) ∙ level _ _ _ _ (not_none _ n (ahead p.x (suc n))) (none p.y) ∙ ap (λ b. cond b 2 6) (higher p.x n)
run_straight p n dir.W = ap (straight_way p) (after-replicate p (suc n) dir.W) ∙ level _ _ _ _ (not_none _ n (back p.x (suc n))) (none p.y) ∙ ap (λ b. cond b 2 6) (lower p.x n)
run_straight p n dir.NE =
    ap (straight_way p) (after-replicate p (suc n) dir.NE) ∙ slanting _ _ _ _ (not_none _ n (ahead p.x (suc n))) (ahead p.x (suc n) ∙ sym (ahead p.y (suc n)))
    ∙ ap (λ b. diagonal b (int_lt p.y (p.y +ℤ pos (suc n)))) (higher p.x n) ∙ ap (diagonal true) (higher p.y n)
run_straight p n dir.SE =
    ap (straight_way p) (after-replicate p (suc n) dir.SE) ∙ slanting _ _ _ _ (not_none _ n (ahead p.x (suc n))) (ahead p.x (suc n) ∙ sym (back p.y (suc n)))
    ∙ ap (λ b. diagonal b (int_lt p.y (p.y -ℤ pos (suc n)))) (higher p.x n) ∙ ap (diagonal true) (lower p.y n)
run_straight p n dir.SW =
    ap (straight_way p) (after-replicate p (suc n) dir.SW) ∙ slanting _ _ _ _ (not_none _ n (back p.x (suc n))) (back p.x (suc n) ∙ sym (back p.y (suc n)))
    ∙ ap (λ b. diagonal b (int_lt p.y (p.y -ℤ pos (suc n)))) (lower p.x n) ∙ ap (diagonal false) (lower p.y n)
run_straight p n dir.NW =
    ap (straight_way p) (after-replicate p (suc n) dir.NW) ∙ slanting _ _ _ _ (not_none _ n (back p.x (suc n))) (back p.x (suc n) ∙ sym (ahead p.y (suc n)))
    ∙ ap (λ b. diagonal b (int_lt p.y (p.y +ℤ pos (suc n)))) (lower p.x n) ∙ ap (diagonal false) (higher p.y n)

last_run : (n : ℕ) (d : Dir) → last_of (replicate (suc n) d) ≡ Some d
last_run zero d = refl
last_run (suc n) d = last_run n d

-- a walk turns at least as much as is said of its first direction, its last one, and the straight way between its ends
pub turns_no_less : (p : GridPoint) (d : Dir) (ds : List Dir) (e : Dir) → last_of (d ∷ ds) ≡ Some e → turns_at_least d e (straight_way p (after p (d ∷ ds))) ≤ turns_of (d ∷ ds)
turns_no_less p d ds e last = by_turns (turns_of (d ∷ ds)) refl
  where
    way : ℕ
    way = straight_way p (after p (d ∷ ds))

    enough : turn_between d e ≤ turns_of (d ∷ ds)
    enough = turns_enough d ds e last

    by_turns : (t : ℕ) → turns_of (d ∷ ds) ≡ t → turns_at_least d e way ≤ turns_of (d ∷ ds)
    by_turns zero none_made =
        let one = all_one_way d ds none_made in
        let on : way ≡ number_of d = ap (λ (v : List Dir). straight_way p (after p v)) one ∙ run_straight p (length ds) d in
        let same : Some d ≡ Some e = sym (ap last_of one ∙ last_run (length ds) d) ∙ last in
        let here : d ≡ e = cc in
        let first : eqb (number_of d) way ≡ true = eq-eqb (number_of d) way (sym on) in
        let then : eqb (number_of e) way ≡ true = eq-eqb (number_of e) way (ap number_of (sym here) ∙ sym on) in
        omega (arith, enough, ap₂ (λ a b. cond (a && b) (turn_between d e) (max 1 (turn_between d e))) first then)
    by_turns (suc t) some_made = omega (arith, enough, some_made, either (eqb (number_of d) way && eqb (number_of e) way))
      where
        either : (b : Bool) → cond b (turn_between d e) (max 1 (turn_between d e)) ≤ turns_of (d ∷ ds)
        either true = enough
        either false = omega (arith, enough, some_made)

pub walk_turns : (p : GridPoint) (ds : List Dir) (d e : Dir) → slice_get ds 0 ≡ Some d → last_of ds ≡ Some e → turns_at_least d e (straight_way p (after p ds)) ≤ turns_of ds
walk_turns p [] d e first last = cc
walk_turns p (f ∷ ds) d e first last = let same : f ≡ d = cc in subst (λ (g : Dir). turns_at_least g e (straight_way p (after p (f ∷ ds))) ≤ turns_of (f ∷ ds)) same (turns_no_less p f ds e last)

way_few : (a b c east north : Bool) → cond a (cond north 0 4) (cond b (cond east 2 6) (cond c (diagonal east north) 8)) ≤ 8
way_few true b c east true = omega arith
way_few true b c east false = omega arith
way_few false true c true north = omega arith
way_few false true c false north = omega arith
way_few false false true true true = omega arith
way_few false false true true false = omega arith
way_few false false true false true = omega arith
way_few false false true false false = omega arith
way_few false false false east north = omega arith

pub way_small : (a b : GridPoint) → straight_way a b ≤ 8
way_small a b =
    way_few (eqb (unsigned_abs (b.x -ℤ a.x)) 0) (eqb (unsigned_abs (b.y -ℤ a.y)) 0) (eqb (unsigned_abs (b.x -ℤ a.x)) (unsigned_abs (b.y -ℤ a.y))) (int_lt a.x b.x) (int_lt a.y b.y)
