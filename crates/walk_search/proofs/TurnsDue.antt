-- The turns that are due on the way to a point rise by no more than the turn that is made there.
use Rattle.std.proofs.Common.{◌≡◌, refl, sym, ◌∙◌, ap, ap₂, subst, ℕ, zero, suc, ◌+◌, ◌-◌, ◌%◌, ◌<◌, ◌≤◌, ◌⊎◌, inl, inr, Bool, true, false, cond, min, max, ℤ, pos, negsuc, ◌+ℤ◌, ◌-ℤ◌, Some, arith}
use Rattle.std.specs.Prelude.{int_le}
use Rattle.std.specs.Ordering.{int_eq}
use Rattle.std.proofs.lemmas.Int.{ints}
use Rattle.std.proofs.lemmas.List.{get_or-map}
use Rattle.std.proofs.lemmas.Bool.{and_from, and_parts, cases_eq}
use Rattle.octi_grid.specs.declared.dir.Dir.{Dir}
use Rattle.octi_grid.specs.declared.dir.Dir.TheVariants as dir
use Rattle.octi_grid.specs.declared.point.GridPoint.{GridPoint}
use Rattle.octi_grid.specs.Ways.{east_of, north_of, number_of, step_from}
use Rattle.octi_grid.specs.Costs.{clockwise_from, turn_between}
use Rattle.octi_grid.proofs.CostLemmas.{number_small, turn_none}
use Rattle.walk_search.specs.Routes.{allows, directions}
use Rattle.walk_search.specs.Reaching.{is_along, lies_along}
use Rattle.walk_search.specs.Moves.{Question, direction, least_of_turns, least_turns, turns_due}
use Rattle.walk_search.proofs.Turning.{direction-number_of, of_eight}

-- ---- the turn from one direction over another is no less than the turn straight on

on_round : (x y z : ℕ) → x ≤ 7 → y ≤ 7 → z ≤ 7 → (z + 8 - x) % 8 ≤ (y + 8 - x) % 8 + (z + 8 - y) % 8
on_round x y z h k l = omega arith

back_and_on : (x y z : ℕ) → x ≤ 7 → y ≤ 7 → z ≤ 7 → min ((z + 8 - x) % 8) ((x + 8 - z) % 8) ≤ (x + 8 - y) % 8 + (z + 8 - y) % 8
back_and_on x y z h k l = omega arith

on_and_back : (x y z : ℕ) → x ≤ 7 → y ≤ 7 → z ≤ 7 → min ((z + 8 - x) % 8) ((x + 8 - z) % 8) ≤ (y + 8 - x) % 8 + (y + 8 - z) % 8
on_and_back x y z h k l = omega arith

least_of_four : (m n a b c d : ℕ) → m ≤ a + c → n ≤ d + b → min m n ≤ b + c → min m n ≤ a + d → min m n ≤ min a b + min c d
least_of_four m n a b c d one two three four = omega (arith, one, two, three, four)

pub turn_shorter : (a b c : Dir) → turn_between a c ≤ turn_between a b + turn_between b c
turn_shorter a b c =
    let x = number_small a in
    let y = number_small b in
    let z = number_small c in
    least_of_four (clockwise_from a c) (clockwise_from c a) (clockwise_from a b) (clockwise_from b a) (clockwise_from b c) (clockwise_from c b) (on_round (number_of a) (number_of b) (number_of c) x y z)
    (on_round (number_of c) (number_of b) (number_of a) z y x) (back_and_on (number_of a) (number_of b) (number_of c) x y z) (on_and_back (number_of a) (number_of b) (number_of c) x y z)

no_turn : (x y : ℕ) → x ≤ 7 → y ≤ 7 → min ((y + 8 - x) % 8) ((x + 8 - y) % 8) ≡ 0 → x ≡ y
no_turn x y h k e = omega arith

-- where no turn is made the directions are one
pub turn_nowhere : (a d : Dir) → turn_between a d ≡ 0 → a ≡ d
turn_nowhere a d e = sym (direction-number_of a) ∙ ap direction (no_turn (number_of a) (number_of d) (number_small a) (number_small d) e) ∙ direction-number_of d

-- ---- the least turn from an allowed port

port_farther : (t : Bool) (e a d : Dir) → cond t (turn_between e d) 4 ≤ cond t (turn_between e a) 4 + turn_between a d
port_farther true e a d = turn_shorter e a d
port_farther false e a d = omega arith

pub least_more : (ports : ℕ) (d : Dir) (n : ℕ) → least_of_turns ports d (n + 1) ≡ min (least_of_turns ports d n) (cond (allows ports (Some (direction n))) (turn_between (direction n) d) 4)
unfolding least_of_turns
least_more ports d n = let one : n + 1 ≡ suc n = omega arith in ap (λ (m : ℕ). least_of_turns ports d m) one

nearer_of : (k l m o t : ℕ) → k ≤ l + t → m ≤ o + t → min k m ≤ min l o + t
nearer_of k l m o t h g = omega (arith, h, g)

pub least_farther : (ports : ℕ) (a d : Dir) (n : ℕ) → least_of_turns ports d n ≤ least_of_turns ports a n + turn_between a d
unfolding least_of_turns
least_farther ports a d zero = omega arith
least_farther ports a d (suc n) =
    let at : Bool = allows ports (Some (direction n)) in
    nearer_of (least_of_turns ports d n) (least_of_turns ports a n) (cond at (turn_between (direction n) d) 4) (cond at (turn_between (direction n) a) 4) (turn_between a d) (least_farther ports a d n) (port_farther at (direction n) a d)

-- an allowed port itself is turned to by none
none_of : (k m : ℕ) → (k ≡ 0) ⊎ (m ≡ 0) → min k m ≡ 0
none_of k m (inl e) = omega (arith, e)
none_of k m (inr e) = omega (arith, e)

pub least_allowed : (ports l n : ℕ) → allows ports (Some (direction l)) ≡ true → l < n → least_of_turns ports (direction l) n ≡ 0
unfolding least_of_turns
least_allowed ports l zero e h = absurd (omega arith)
least_allowed ports l (suc n) e h =
    none_of (least_of_turns ports (direction l) n) (cond (allows ports (Some (direction n))) (turn_between (direction n) (direction l)) 4)
    (elim (cases_eq n l) [
      | inl same ↦ inr (ap (λ (m : ℕ). cond (allows ports (Some (direction m))) (turn_between (direction m) (direction l)) 4) same
          ∙ ap (λ t. cond t (turn_between (direction l) (direction l)) 4) e ∙ turn_none (direction l))
      | inr apart ↦ inl (least_allowed ports l n e (omega (arith, apart, h)))
    ])

pub least_small : (ports : ℕ) (d : Dir) (n : ℕ) → least_of_turns ports d n ≤ 4
unfolding least_of_turns
least_small ports d zero = omega arith
least_small ports d (suc n) = smaller (least_of_turns ports d n) (cond (allows ports (Some (direction n))) (turn_between (direction n) d) 4) (least_small ports d n)
  where
    smaller : (k m : ℕ) → k ≤ 4 → min k m ≤ 4
    smaller k m h = omega (arith, h)

-- ---- what lies straight on

along_next : (d : Dir) (x y : ℤ) → is_along d x y ≡ true → is_along d (x +ℤ east_of d) (y +ℤ north_of d) ≡ true
unfolding is_along
along_next dir.N x y e = let h = and_parts (int_eq x (pos 0)) (int_le (pos 0) y) e in and_from (int_eq (x +ℤ pos 0) (pos 0)) (int_le (pos 0) (y +ℤ pos 1)) (grind (arith, ints, h.0)) (grind (arith, ints, h.1))
along_next dir.NE x y e = let h = and_parts (int_eq x y) (int_le (pos 0) y) e in and_from (int_eq (x +ℤ pos 1) (y +ℤ pos 1)) (int_le (pos 0) (y +ℤ pos 1)) (grind (arith, ints, h.0)) (grind (arith, ints, h.1))
along_next dir.E x y e = let h = and_parts (int_eq y (pos 0)) (int_le (pos 0) x) e in and_from (int_eq (y +ℤ pos 0) (pos 0)) (int_le (pos 0) (x +ℤ pos 1)) (grind (arith, ints, h.0)) (grind (arith, ints, h.1))
along_next dir.SE x y e =
    let h = and_parts (int_eq (x +ℤ y) (pos 0)) (int_le (pos 0) x) e in
    and_from (int_eq ((x +ℤ pos 1) +ℤ (y +ℤ negsuc 0)) (pos 0)) (int_le (pos 0) (x +ℤ pos 1)) (grind (arith, ints, h.0)) (grind (arith, ints, h.1))
along_next dir.S x y e = let h = and_parts (int_eq x (pos 0)) (int_le y (pos 0)) e in and_from (int_eq (x +ℤ pos 0) (pos 0)) (int_le (y +ℤ negsuc 0) (pos 0)) (grind (arith, ints, h.0)) (grind (arith, ints, h.1))
along_next dir.SW x y e = let h = and_parts (int_eq x y) (int_le y (pos 0)) e in and_from (int_eq (x +ℤ negsuc 0) (y +ℤ negsuc 0)) (int_le (y +ℤ negsuc 0) (pos 0)) (grind (arith, ints, h.0)) (grind (arith, ints, h.1))
along_next dir.W x y e = let h = and_parts (int_eq y (pos 0)) (int_le x (pos 0)) e in and_from (int_eq (y +ℤ pos 0) (pos 0)) (int_le (x +ℤ negsuc 0) (pos 0)) (grind (arith, ints, h.0)) (grind (arith, ints, h.1))
along_next dir.NW x y e =
    let h = and_parts (int_eq (x +ℤ y) (pos 0)) (int_le x (pos 0)) e in
    and_from (int_eq ((x +ℤ negsuc 0) +ℤ (y +ℤ pos 1)) (pos 0)) (int_le (x +ℤ negsuc 0) (pos 0)) (grind (arith, ints, h.0)) (grind (arith, ints, h.1))

along_none : (d : Dir) (x y : ℤ) → x ≡ pos 0 → y ≡ pos 0 → is_along d x y ≡ true
unfolding is_along
along_none d x y e g =
    ap₂ (λ (u v : ℤ). is_along d u v) e g
    ∙ of_eight (λ c. is_along c (pos 0) (pos 0) ≡ true) refl refl refl refl refl refl refl refl d

pub along_step : (a p : GridPoint) (d : Dir) → lies_along a p d ≡ true → lies_along a (step_from p d) d ≡ true
along_step a p d e =
    ap₂ (λ (u v : ℤ). is_along d u v) (moved p.x (east_of d) a.x) (moved p.y (north_of d) a.y) ∙ along_next d (p.x -ℤ a.x) (p.y -ℤ a.y) e
  where
    moved : (u v w : ℤ) → ((u +ℤ v) -ℤ w) ≡ ((u -ℤ w) +ℤ v)
    moved u v w = omega (arith, ints)

-- the first step from a point leads straight on
pub along_first : (a : GridPoint) (d : Dir) → lies_along a (step_from a d) d ≡ true
along_first a d = along_step a a d (along_none d (a.x -ℤ a.x) (a.y -ℤ a.y) (none a.x) (none a.y))
  where
    none : (z : ℤ) → (z -ℤ z) ≡ pos 0
    none z = omega (arith, ints)

-- ---- the turns that are due

abbrev pub due : Question → GridPoint → Dir → ℕ
due q p d = cond (lies_along q.from.at p d) (least_of_turns q.from.ports d 8) (max 1 (least_of_turns q.from.ports d 8))

pub turns_to : (q : Question) (p : GridPoint) (l : ℕ) → l < 8 → turns_due q p l ≡ due q p (direction l)
unfolding turns_due least_turns
turns_to q p l below =
    ap (λ (k : ℕ). cond (lies_along q.from.at p (direction l)) k (max 1 k))
    (get_or-map (λ d. least_of_turns q.from.ports d 8) directions l dir.N 0 below)

due_most : (t : Bool) (l : ℕ) → cond t l (max 1 l) ≤ max 1 l
due_most true l = omega arith
due_most false l = omega arith

due_least : (t : Bool) (l : ℕ) → l ≤ cond t l (max 1 l)
due_least true l = omega arith
due_least false l = omega arith

straight_on : (q : Question) (p : GridPoint) (d : Dir) (t : Bool) → lies_along q.from.at p d ≡ t → due q (step_from p d) d ≤ due q p d
straight_on q p d true e =
    let least : ℕ = least_of_turns q.from.ports d 8 in
    let on : due q (step_from p d) d ≡ least = ap (λ t. cond t least (max 1 least)) (along_step q.from.at p d e) in
    let here : due q p d ≡ least = ap (λ t. cond t least (max 1 least)) e in
    omega (arith, on, here)
straight_on q p d false e =
    let least : ℕ = least_of_turns q.from.ports d 8 in
    let on : due q (step_from p d) d ≤ max 1 least = due_most (lies_along q.from.at (step_from p d) d) least in
    let here : due q p d ≡ max 1 least = ap (λ t. cond t least (max 1 least)) e in
    omega (arith, on, here)

pub due_farther : (q : Question) (p : GridPoint) (a d : Dir) → due q (step_from p d) d ≤ due q p a + turn_between a d
due_farther q p a d = elim (cases_eq (turn_between a d) 0) [
  | inl none ↦ subst (λ (b : Dir). due q (step_from p d) d ≤ due q p b + turn_between a d) (sym (turn_nowhere a d none))
      (let on = straight_on q p d (lies_along q.from.at p d) refl in omega (arith, on))
  | inr some ↦ (let on : due q (step_from p d) d ≤ max 1 (least_of_turns q.from.ports d 8) = due_most (lies_along q.from.at (step_from p d) d) (least_of_turns q.from.ports d 8) in
      let farther : least_of_turns q.from.ports d 8 ≤ least_of_turns q.from.ports a 8 + turn_between a d = least_farther q.from.ports a d 8 in
      let here : least_of_turns q.from.ports a 8 ≤ due q p a = due_least (lies_along q.from.at p a) (least_of_turns q.from.ports a 8) in
      let turns : 1 ≤ turn_between a d = omega (arith, some) in
      omega (arith, on, farther, here, turns))
]

-- by an allowed port none is due from the home of the start, and one at most from elsewhere
pub due_first : (q : Question) (l : ℕ) → l < 8 → allows q.from.ports (Some (direction l)) ≡ true → due q (step_from q.from.at (direction l)) (direction l) ≡ 0
due_first q l below e =
    let least : ℕ = least_of_turns q.from.ports (direction l) 8 in
    ap (λ t. cond t least (max 1 least)) (along_first q.from.at (direction l)) ∙ least_allowed q.from.ports l 8 e below

pub due_once : (q : Question) (p : GridPoint) (l : ℕ) → l < 8 → allows q.from.ports (Some (direction l)) ≡ true → due q p (direction l) ≤ 1
due_once q p l below e =
    let none : least_of_turns q.from.ports (direction l) 8 ≡ 0 = least_allowed q.from.ports l 8 e below in
    let most : due q p (direction l) ≤ max 1 (least_of_turns q.from.ports (direction l) 8) = due_most (lies_along q.from.at p (direction l)) (least_of_turns q.from.ports (direction l) 8) in
    omega (arith, none, most)
