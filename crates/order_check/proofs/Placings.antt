-- Terms that a placing does not change add and cost what they did before it.
use mathlib.Core.Bool.{beq}
use Rattle.std.proofs.Common.{◌≡◌, ◌≢◌, ℕ, suc, ◌+◌, ◌-◌, ◌<◌, ◌≤◌, ◌==◌, ◌&&◌, ◌||◌, not, Bool, true, false, cond, List, [], ◌∷◌, ◌++◌, length, set, get_or, refl, sym, ◌∙◌, ap, subst, arith, length-append, append_assoc, Option, Some, None, inl, inr, ◌⊎◌, true≢false, eqb-true, eq-eqb}
use Rattle.std.specs.Prelude.{ℤ, pos, nat_lt, nat_le}
use Rattle.std.specs.List.{All, Contains, find}
use Rattle.std.specs.Option.{option_to_list, unwrap_or}
use Rattle.std.proofs.Math.Bool.{and-false, or-true, or_comm}
use Rattle.std.proofs.lemmas.Bool.{eqb-false, ne_eqb, leb-false, le-leb, leb-true, ltb-true, ltb-false, or_parts}
use Rattle.std.proofs.lemmas.List.{get_or-set_same, get_or-set_other, get_or_default}
use Rattle.std.proofs.lemmas.List.Elements.{All-push}
use Rattle.map_base.specs.declared.ids.SegId.{SegId}
use Rattle.map_base.specs.declared.ids.LineId.{LineId}
use Rattle.order_model.specs.declared.term.Term.{Term}
use Rattle.order_model.specs.declared.term.Term.TheVariants.{Side, Link, Apart}
use Rattle.order_model.specs.Problems.{lines_on, IsTerm}
use Rattle.order_model.specs.Costs.{comes_before, are_these, are_neighbours}
use Rattle.order_model.specs.Places.{place_of}
use Rattle.order_model.specs.Prefixes.{is_placed, is_unplaced, is_left, with_line, AreApart, ArePlacedLines}
use Rattle.order_model.specs.Looks.{is_decided, is_last, beside_unplaced, neighbours_on}
use Rattle.order_model.proofs.PlaceLemmas.{no_line, line_is, place_below, line_at_place}
use Rattle.order_model.proofs.PrefixLemmas.{contains_placed, few_apart, apart_push, not_placed_push, found_one}
use Rattle.order_bound.specs.Decided.{apart_cost}
use Rattle.order_bound.proofs.Completing.{on_placed}
use Rattle.order_check.specs.Charges.{decided_charges, one_charge, looked, link_charges, charges_by}
use Rattle.order_check.specs.Spots.{is_on, is_either, is_of_line, is_apart, other_than}
use Rattle.order_check.specs.Placings.{last_or, other_left, left_or, placing_of, is_picked, own_pick, last_pick, left_pick, changes}

-- More lines are placed behind the others.

-- whether another line is placed stays
placed_more_lines : (xs zs : List LineId) (x : LineId) → is_placed zs x ≡ false → is_placed (xs ++ zs) x ≡ is_placed xs x
placed_more_lines [] zs x none = none
placed_more_lines (y ∷ xs) zs x none = ap (λ b. (y.0 == x.0) || b) (placed_more_lines xs zs x none)

never_before : (zs : List LineId) (x y : LineId) → is_placed zs x ≡ false → comes_before zs x y ≡ false
never_before [] x y none = refl
never_before (z ∷ zs) x y none =
    let both = or_parts (z.0 == x.0) (is_placed zs x) none in
    ap (λ b. cond b true (cond (z.0 == y.0) false (comes_before zs x y))) both.0 ∙ ap (λ b. cond (z.0 == y.0) false b) (never_before zs x y both.1) ∙ by (z.0 == y.0)
  where
    by : (b : Bool) → cond b false false ≡ false
    by true = refl
    by false = refl

-- which of two other lines comes first
before_more : (xs zs : List LineId) (x y : LineId) → is_placed zs x ≡ false → comes_before (xs ++ zs) x y ≡ comes_before xs x y
before_more [] zs x y none = never_before zs x y none
before_more (z ∷ xs) zs x y none = ap (λ b. cond (z.0 == x.0) true (cond (z.0 == y.0) false b)) (before_more xs zs x y none)

not_these : (z a x y : LineId) → (a.0 == x.0) ≡ false → (a.0 == y.0) ≡ false → are_these z a x y ≡ false
not_these z a x y differ differ_too =
    ap (λ b. ((z.0 == x.0) && b) || ((z.0 == y.0) && (a.0 == x.0))) differ_too
    ∙ ap (λ b. ((z.0 == x.0) && false) || ((z.0 == y.0) && b)) differ
    ∙ by (z.0 == x.0) (z.0 == y.0)
  where
    by : (b c : Bool) → ((b && false) || (c && false)) ≡ false
    by true true = refl
    by true false = refl
    by false true = refl
    by false false = refl

never_neighbours : (z : LineId) (zs : List LineId) (x y : LineId) → is_placed zs x ≡ false → is_placed zs y ≡ false → are_neighbours (z ∷ zs) x y ≡ false
never_neighbours z [] x y none none_too = refl
never_neighbours z (a ∷ zs) x y none none_too =
    let one = or_parts (a.0 == x.0) (is_placed zs x) none in
    let two = or_parts (a.0 == y.0) (is_placed zs y) none_too in
    ap (λ b. b || are_neighbours (a ∷ zs) x y) (not_these z a x y one.0 two.0) ∙ never_neighbours a zs x y one.1 two.1

-- whether two other lines are neighbours
neighbours_more : (xs zs : List LineId) (x y : LineId) → is_placed zs x ≡ false → is_placed zs y ≡ false → are_neighbours (xs ++ zs) x y ≡ are_neighbours xs x y
neighbours_more [] [] x y none none_too = refl
neighbours_more [] (z ∷ zs) x y none none_too =
    let one = or_parts (z.0 == x.0) (is_placed zs x) none in
    let two = or_parts (z.0 == y.0) (is_placed zs y) none_too in
    never_neighbours z zs x y one.1 two.1
neighbours_more (z ∷ []) zs x y none none_too = never_neighbours z zs x y none none_too
neighbours_more (z ∷ w ∷ rest) zs x y none none_too = ap (λ b. are_these z w x y || b) (neighbours_more (w ∷ rest) zs x y none none_too)

place_more : (xs zs : List LineId) (x : LineId) → is_placed xs x ≡ true → place_of (xs ++ zs) x ≡ place_of xs x
place_more [] zs x on = absurd (true≢false (sym on))
place_more (z ∷ xs) zs x on = by (z.0 == x.0) refl (place_more xs zs x)
  where
    by : (b : Bool) → (z.0 == x.0) ≡ b → (is_placed xs x ≡ true → place_of (xs ++ zs) x ≡ place_of xs x) → cond b 0 (1 + place_of (xs ++ zs) x) ≡ cond b 0 (1 + place_of xs x)
    by true e rest = refl
    by false e rest = ap (λ n. 1 + n) (rest (subst (λ b. (b || is_placed xs x) ≡ true) e on))

-- a line that is placed stands where it stood, before and behind any other
before_first : (xs zs : List LineId) (x y : LineId) → is_placed xs x ≡ true → comes_before (xs ++ zs) x y ≡ comes_before xs x y
before_first [] zs x y on = absurd (true≢false (sym on))
before_first (z ∷ xs) zs x y on = by (z.0 == x.0) refl (before_first xs zs x y)
  where
    by : (b : Bool) → (z.0 == x.0) ≡ b → (is_placed xs x ≡ true → comes_before (xs ++ zs) x y ≡ comes_before xs x y)
        → cond b true (cond (z.0 == y.0) false (comes_before (xs ++ zs) x y)) ≡ cond b true (cond (z.0 == y.0) false (comes_before xs x y))
    by true e rest = refl
    by false e rest = ap (λ b. cond (z.0 == y.0) false b) (rest (subst (λ b. (b || is_placed xs x) ≡ true) e on))

before_second : (xs zs : List LineId) (x y : LineId) → is_placed xs y ≡ true → comes_before (xs ++ zs) x y ≡ comes_before xs x y
before_second [] zs x y on = absurd (true≢false (sym on))
before_second (z ∷ xs) zs x y on = ap (λ b. cond (z.0 == x.0) true b) (by (z.0 == y.0) refl (before_second xs zs x y))
  where
    by : (b : Bool) → (z.0 == y.0) ≡ b → (is_placed xs y ≡ true → comes_before (xs ++ zs) x y ≡ comes_before xs x y)
        → cond b false (comes_before (xs ++ zs) x y) ≡ cond b false (comes_before xs x y)
    by true e rest = refl
    by false e rest = rest (subst (λ b. (b || is_placed xs y) ≡ true) e on)

placed_stays : (xs zs : List LineId) (x : LineId) → is_placed xs x ≡ true → is_placed (xs ++ zs) x ≡ true
placed_stays [] zs x on = absurd (true≢false (sym on))
placed_stays (z ∷ xs) zs x on = by (z.0 == x.0) refl (placed_stays xs zs x)
  where
    by : (b : Bool) → (z.0 == x.0) ≡ b → (is_placed xs x ≡ true → is_placed (xs ++ zs) x ≡ true) → (b || is_placed (xs ++ zs) x) ≡ true
    by true e rest = refl
    by false e rest = rest (subst (λ b. (b || is_placed xs x) ≡ true) e on)

placed_end : (xs : List LineId) (a : LineId) → is_placed (xs ++ a ∷ []) a ≡ true
placed_end [] a = ap (λ b. b || false) (eq-eqb a.0 a.0 refl)
placed_end (z ∷ xs) a = ap (λ b. (z.0 == a.0) || b) (placed_end xs a) ∙ or-true (z.0 == a.0)

place_end : (xs : List LineId) (a : LineId) → is_placed xs a ≡ false → place_of (xs ++ a ∷ []) a ≡ length xs
place_end [] a free = ap (λ b. cond b 0 (1 + 0)) (eq-eqb a.0 a.0 refl)
place_end (z ∷ xs) a free =
    let both = or_parts (z.0 == a.0) (is_placed xs a) free in
    ap (λ b. cond b 0 (1 + place_of (xs ++ a ∷ []) a)) both.0 ∙ omega (arith, place_end xs a both.1)

-- a placed line is none that is not
differs : (xs : List LineId) (x a : LineId) → is_placed xs x ≡ true → is_placed xs a ≡ false → x.0 ≢ a.0
differs xs x a on free e = true≢false (sym on ∙ ap (is_placed xs) (line_is x a e) ∙ free)

-- A line that is not placed, or not the last, is no neighbour of one that is placed later.

no_neighbour : (zs : List LineId) (x y : LineId) → is_placed zs x ≡ false → are_neighbours zs x y ≡ false
no_neighbour [] x y none = refl
no_neighbour (z ∷ []) x y none = refl
no_neighbour (z ∷ w ∷ zs) x y none =
    let one = or_parts (z.0 == x.0) (is_placed (w ∷ zs) x) none in
    let two = or_parts (w.0 == x.0) (is_placed zs x) one.1 in
    ap (λ b. ((b && (w.0 == y.0)) || ((z.0 == y.0) && (w.0 == x.0))) || are_neighbours (w ∷ zs) x y) one.0
    ∙ ap (λ b. ((z.0 == y.0) && b) || are_neighbours (w ∷ zs) x y) two.0
    ∙ ap (λ b. b || are_neighbours (w ∷ zs) x y) (and-false (z.0 == y.0))
    ∙ no_neighbour (w ∷ zs) x y one.1

last_later : (z w : LineId) (rest : List LineId) (a : LineId) → last_or (z ∷ w ∷ rest) a ≡ last_or (w ∷ rest) a
last_later z w rest a =
    let more : length (z ∷ w ∷ rest) - 1 ≡ suc (length rest) = omega arith in
    let here : length (w ∷ rest) - 1 ≡ length rest = omega arith in
    ap (λ i. get_or (z ∷ w ∷ rest) i a) more ∙ ap (λ i. get_or (w ∷ rest) i a) (sym here)

last_single : (z a : LineId) → last_or (z ∷ []) a ≡ z
last_single z a =
    let first : length (z ∷ []) - 1 ≡ 0 = omega arith in
    ap (λ i. get_or (z ∷ []) i a) first

never_beside : (xs zs : List LineId) (a x y : LineId) → is_placed zs x ≡ false → is_placed xs y ≡ false → x.0 ≢ (last_or xs a).0 → are_neighbours (xs ++ zs) x y ≡ false
never_beside [] zs a x y none none_too differ = no_neighbour zs x y none
never_beside (z ∷ []) [] a x y none none_too differ = refl
never_beside (z ∷ []) (w ∷ zs) a x y none none_too differ =
    let one : (z.0 == x.0) ≡ false = ne_eqb z.0 x.0 (λ e. differ (sym e ∙ ap (λ (l : LineId). l.0) (sym (last_single z a)))) in
    let two = or_parts (z.0 == y.0) false none_too in
    ap (λ b. ((b && (w.0 == y.0)) || ((z.0 == y.0) && (w.0 == x.0))) || are_neighbours (w ∷ zs) x y) one
    ∙ ap (λ b. (b && (w.0 == x.0)) || are_neighbours (w ∷ zs) x y) two.0
    ∙ no_neighbour (w ∷ zs) x y none
never_beside (z ∷ w ∷ rest) zs a x y none none_too differ =
    let one = or_parts (z.0 == y.0) (is_placed (w ∷ rest) y) none_too in
    let two = or_parts (w.0 == y.0) (is_placed rest y) one.1 in
    ap (λ b. (((z.0 == x.0) && b) || ((z.0 == y.0) && (w.0 == x.0))) || are_neighbours ((w ∷ rest) ++ zs) x y) two.0
    ∙ ap (λ b. (b || ((z.0 == y.0) && (w.0 == x.0))) || are_neighbours ((w ∷ rest) ++ zs) x y) (and-false (z.0 == x.0))
    ∙ ap (λ b. (b && (w.0 == x.0)) || are_neighbours ((w ∷ rest) ++ zs) x y) one.0
    ∙ never_beside (w ∷ rest) zs a x y none one.1 (λ e. differ (e ∙ ap (λ (l : LineId). l.0) (sym (last_later z w rest a))))

neighbours_turned : (xs : List LineId) (x y : LineId) → are_neighbours xs x y ≡ are_neighbours xs y x
neighbours_turned [] x y = refl
neighbours_turned (z ∷ []) x y = refl
neighbours_turned (z ∷ w ∷ rest) x y =
    ap (λ b. b || are_neighbours (w ∷ rest) x y) (or_comm ((z.0 == x.0) && (w.0 == y.0)) ((z.0 == y.0) && (w.0 == x.0)))
    ∙ ap (λ b. are_these z w y x || b) (neighbours_turned (w ∷ rest) x y)

not_true : (b : Bool) → not b ≡ true → b ≡ false
not_true true h = absurd (true≢false (sym h))
not_true false h = refl

either : (b : Bool) → cond b (Some false) (Some false) ≡ Some false
either true = refl
either false = refl

same_or_less : (m n : ℕ) → m ≤ n → m ≢ n → m < n
same_or_less m n most differ = by (nat_lt m n) refl
  where
    by : (b : Bool) → nat_lt m n ≡ b → m < n
    by true e = ltb-true m n e
    by false e = absurd (differ (omega (arith, most, ltb-false m n e)))

-- What a placing places: the line, and where just one is then left this one too.

pub record IsPlacedBehind (lines placed : List LineId) (a : LineId) (zs : List LineId) : Type 0 where
  pub more : with_line lines placed a ≡ placed ++ zs
  pub some : 0 < length zs
  pub none : (x : LineId) → is_placed placed x ≡ true → is_placed zs x ≡ false
  pub one : length placed + 2 < length lines → zs ≡ a ∷ []

behind : (lines placed : List LineId) (a : LineId) → is_placed placed a ≡ false → (zs : List LineId) × IsPlacedBehind lines placed a zs
behind lines placed a free = by_test (length (placed ++ a ∷ []) + 1 == length lines) refl
  where
    Behind : Bool → Type 0
    Behind b = (zs : List LineId) × ((cond b ((placed ++ a ∷ []) ++ option_to_list (find (is_unplaced (placed ++ a ∷ [])) lines)) (placed ++ a ∷ []) ≡ placed ++ zs) × ((0 < length zs)
        × (((x : LineId) → is_placed placed x ≡ true → is_placed zs x ≡ false) × (length placed + 2 < length lines → zs ≡ a ∷ []))))

    alone : (x : LineId) → is_placed placed x ≡ true → (a.0 == x.0) ≡ false
    alone x on = ne_eqb a.0 x.0 (λ e. differs placed x a on free (sym e))

    two_left : length placed + 2 ≡ length lines → Behind true
    two_left two = elim (found_one (is_unplaced (placed ++ a ∷ [])) lines) [
      | inl h ↦ (
        a ∷ h.0 ∷ [],
        (
          ap (λ o. (placed ++ a ∷ []) ++ option_to_list o) h.1 ∙ append_assoc placed (a ∷ []) (h.0 ∷ []),
          (
            omega arith,
            (
              (λ x on. ap (λ b. b || ((h.0.0 == x.0) || false)) (alone x on)
                  ∙ ap (λ b. b || false) (ne_eqb h.0.0 x.0 (λ e. differs (placed ++ a ∷ []) x h.0 (placed_stays placed (a ∷ []) x on) (not_true (is_placed (placed ++ a ∷ []) h.0) h.3) (sym e)))),
              λ many. absurd (omega (arith, many, two)),
            ),
          ),
        ),
      )
      | inr h ↦ (
        a ∷ [],
        (
          ap (λ o. (placed ++ a ∷ []) ++ option_to_list o) h.0 ∙ append_assoc placed (a ∷ []) [],
          (omega arith, ((λ x on. ap (λ b. b || false) (alone x on)), λ many. refl)),
        ),
      )
    ]

    by : (b : Bool) → (length (placed ++ a ∷ []) + 1 == length lines) ≡ b → Behind b
    by true e = two_left (omega (arith, eqb-true (length (placed ++ a ∷ []) + 1) (length lines) e, length-append placed (a ∷ [])))
    by false e = (a ∷ [], (refl, (omega arith, ((λ x on. ap (λ b. b || false) (alone x on)), λ many. refl))))

    by_test : (b : Bool) → (length (placed ++ a ∷ []) + 1 == length lines) ≡ b → (zs : List LineId) × IsPlacedBehind lines placed a zs
    by_test b e =
        let h = by b e in (
          h.0,
          record {
            more = ap (λ c. cond c ((placed ++ a ∷ []) ++ option_to_list (find (is_unplaced (placed ++ a ∷ [])) lines)) (placed ++ a ∷ [])) e ∙ h.1.0;
            some = h.1.1.0;
            none = h.1.1.1.0;
            one = h.1.1.1.1;
          },
        )

not_last : (xs : List LineId) (a x : LineId) → is_placed xs x ≡ true → x.0 ≢ (last_or xs a).0 → is_last xs x ≡ false
not_last xs a x on differ = ne_eqb (place_of xs x + 1) (length xs) (λ e. differ (sym (ap (λ (l : LineId). l.0) (here e))))
  where
    here : place_of xs x + 1 ≡ length xs → last_or xs a ≡ x
    here e =
        let has = contains_placed xs x on in
        let place : length xs - 1 ≡ place_of xs x = omega (arith, e) in
        ap (λ i. get_or xs i a) place ∙ get_or_default xs (place_of xs x) a no_line (place_below xs x has) ∙ line_at_place xs x has

not_last_more : (xs zs : List LineId) (x : LineId) → 0 < length zs → is_placed xs x ≡ true → is_last (xs ++ zs) x ≡ false
not_last_more xs zs x some on =
    ne_eqb (place_of (xs ++ zs) x + 1) (length (xs ++ zs)) (λ e. (let below = place_below xs x (contains_placed xs x on) in
    omega (arith, e, below, some, place_more xs zs x on, length-append xs zs)))

beside_more : (xs zs : List LineId) (a x : LineId) → 0 < length zs → is_placed xs x ≡ true → x.0 ≢ (last_or xs a).0 → beside_unplaced (xs ++ zs) x ≡ beside_unplaced xs x
beside_more xs zs a x some on differ = ap (λ b. cond b None (Some false)) (not_last_more xs zs x some on ∙ sym (not_last xs a x on differ))

-- What is not picked.

is_left_of : (lines xs : List LineId) (x : LineId) → Contains lines x → is_placed xs x ≡ false → is_left lines xs x ≡ true
is_left_of lines xs x on free = ap (λ b. b && is_unplaced xs x) (on_placed lines x on) ∙ ap not free

-- no line of a pair is this one, where a pick of its terms leaves the pair out and the other line is left
first_not : (lines xs : List LineId) (l x y : LineId) (r : Bool) → (is_either x y l && (is_left lines xs (other_than x y l) && r)) ≡ false → r ≡ true → is_left lines xs y ≡ true → x.0 ≢ l.0
first_not lines xs l x y r none real left e =
    let here : (is_left lines xs y && r) ≡ false = subst (λ b. ((b || (y.0 == l.0)) && (is_left lines xs (cond b y x) && r)) ≡ false) (eq-eqb x.0 l.0 e) none in
    true≢false (sym (ap (λ b. b && r) left ∙ real) ∙ here)

second_not : (lines xs : List LineId) (l x y : LineId) (r : Bool) → (is_either x y l && (is_left lines xs (other_than x y l) && r)) ≡ false → r ≡ true → is_left lines xs x ≡ true → x.0 ≢ l.0
    → y.0 ≢ l.0
second_not lines xs l x y r none real left differ e =
    let first : ((y.0 == l.0) && (is_left lines xs x && r)) ≡ false = subst (λ b. ((b || (y.0 == l.0)) && (is_left lines xs (cond b y x) && r)) ≡ false) (ne_eqb x.0 l.0 differ) none in
    let here : (is_left lines xs x && r) ≡ false = subst (λ b. (b && (is_left lines xs x && r)) ≡ false) (eq-eqb y.0 l.0 e) first in
    true≢false (sym (ap (λ b. b && r) left ∙ real) ∙ here)

-- Some lines are left, none of which is another of them.

room_for_two : (lines next : List LineId) (x y : LineId) → AreApart next → All (Contains lines) next → Contains lines x → Contains lines y → is_placed next x ≡ false → is_placed next y ≡ false
    → x.0 ≢ y.0 → length next + 2 ≤ length lines
room_for_two lines next x y apart known on on_too free free_too differ =
    let with_x : List LineId = next ++ x ∷ [] in
    let apart_y : AreApart (with_x ++ y ∷ []) = apart_push with_x y (apart_push next x apart free) (not_placed_push y x next free_too (ne_eqb x.0 y.0 differ)) in
    let known_y : All (Contains lines) (with_x ++ y ∷ []) = All-push (Contains lines) with_x y (All-push (Contains lines) next x known on) on_too in
    omega (arith, few_apart (with_x ++ y ∷ []) lines apart_y known_y, length-append with_x (y ∷ []), length-append next (x ∷ []))

room_for_three : (lines next : List LineId) (m x y : LineId) → AreApart next → All (Contains lines) next → Contains lines m → Contains lines x → Contains lines y → is_placed next m ≡ false
    → is_placed next x ≡ false → is_placed next y ≡ false → m.0 ≢ x.0 → m.0 ≢ y.0 → x.0 ≢ y.0 → length next + 3 ≤ length lines
room_for_three lines next m x y apart known on_m on on_too free_m free free_too differ_x differ_y differ =
    let two = room_for_two lines (next ++ m ∷ []) x y (apart_push next m apart free_m) (All-push (Contains lines) next m known on_m) on on_too (not_placed_push x m next free (ne_eqb m.0 x.0 differ_x))
    (not_placed_push y m next free_too (ne_eqb m.0 y.0 differ_y)) differ in
    omega (arith, two, length-append next (m ∷ []))

-- the other line that is left where few are
pub record IsOther (lines xs : List LineId) (a m : LineId) : Type 0 where
  pub is : left_or lines xs a ≡ m
  pub on : Contains lines m
  pub free : is_placed (xs ++ a ∷ []) m ≡ false

other_is : (lines xs : List LineId) (a y : LineId) → length lines ≤ length xs + 3 → Contains lines y → is_placed (xs ++ a ∷ []) y ≡ false → (m : LineId) × IsOther lines xs a m
other_is lines xs a y few on free = elim (found_one (is_unplaced (xs ++ a ∷ [])) lines) [
  | inl h ↦ (
    h.0,
    record {
      is = ap (λ b. cond b (other_left xs a lines) (last_or xs a)) (le-leb (length lines) (length xs + 3) few) ∙ ap (λ (o : Option LineId). unwrap_or o a) h.1;
      on = h.2;
      free = not_true (is_placed (xs ++ a ∷ []) h.0) h.3;
    },
  )
  | inr h ↦ absurd (true≢false (sym (ap not free) ∙ subst (λ l. is_unplaced (xs ++ a ∷ []) l ≡ false) on.2 (h.1 on.0 y on.1)))
]

-- the line that is placed last is placed, where any is
last_placed_on : (xs : List LineId) (a y : LineId) → is_placed xs y ≡ true → is_placed xs (last_or xs a) ≡ true
last_placed_on [] a y on = absurd (true≢false (sym on))
last_placed_on (z ∷ []) a y on = ap (is_placed (z ∷ [])) (last_single z a) ∙ ap (λ b. b || false) (eq-eqb z.0 z.0 refl)
last_placed_on (z ∷ w ∷ rest) a y on =
    ap (is_placed (z ∷ w ∷ rest)) (last_later z w rest a)
    ∙ ap (λ b. (z.0 == (last_or (w ∷ rest) a).0) || b) (last_placed_on (w ∷ rest) a w (ap (λ b. b || is_placed rest w) (eq-eqb w.0 w.0 refl)))
    ∙ or-true (z.0 == (last_or (w ∷ rest) a).0)

-- which of two lines stands first is as it was
pub record IsOrderKept (before now : List LineId) (x y : LineId) : Type 0 where
  pub decided : (is_placed now x || is_placed now y) ≡ (is_placed before x || is_placed before y)
  pub first : comes_before now x y ≡ comes_before before x y
  pub second : comes_before now y x ≡ comes_before before y x

-- A pair of lines of the segment.

module _ (lines xs zs : List LineId) (a x y : LineId) (next : IsPlacedBehind lines xs a zs) (ok : ArePlacedLines lines xs) (on : Contains lines a) (free : is_placed xs a ≡ false)
    (first_on : Contains lines x) (second_on : Contains lines y) (differ : x.0 ≢ y.0) where
  abbrev with_a : List LineId
  with_a = xs ++ a ∷ []

  apart_a : AreApart with_a
  apart_a = apart_push xs a ok.apart free

  known_a : All (Contains lines) with_a
  known_a = All-push (Contains lines) xs a ok.known on

  -- both are left beside the line that is placed
  alone : x.0 ≢ a.0 → y.0 ≢ a.0 → is_placed xs x ≡ false → is_placed xs y ≡ false → zs ≡ a ∷ []
  alone not_x not_y free_x free_y =
      let room = room_for_two lines with_a x y apart_a known_a first_on second_on (not_placed_push x a xs free_x (ne_eqb a.0 x.0 (λ e. not_x (sym e))))
      (not_placed_push y a xs free_y (ne_eqb a.0 y.0 (λ e. not_y (sym e)))) differ in
      next.one (omega (arith, room, length-append xs (a ∷ [])))

  not_in : (v : LineId) → v.0 ≢ a.0 → zs ≡ a ∷ [] → is_placed zs v ≡ false
  not_in v not_v is = ap (λ l. is_placed l v) is ∙ ap (λ b. b || false) (ne_eqb a.0 v.0 (λ e. not_v (sym e)))

  order_kept : (is_either x y a && (is_left lines xs (other_than x y a) && true)) ≡ false → IsOrderKept xs (xs ++ zs) x y
  order_kept own = by (is_placed xs x) (is_placed xs y) refl refl
    where
      by : (b c : Bool) → is_placed xs x ≡ b → is_placed xs y ≡ c → IsOrderKept xs (xs ++ zs) x y
      by true c e f = record {
        decided = ap (λ b. b || is_placed (xs ++ zs) y) (placed_stays xs zs x e) ∙ sym (ap (λ b. b || is_placed xs y) e);
        first = before_first xs zs x y e;
        second = before_second xs zs y x e;
      }
      by false true e f = record {
        decided = ap (λ b. is_placed (xs ++ zs) x || b) (placed_stays xs zs y f) ∙ or-true (is_placed (xs ++ zs) x) ∙ sym (ap (λ b. is_placed xs x || b) f ∙ or-true (is_placed xs x));
        first = before_second xs zs x y f;
        second = before_first xs zs y x f;
      }
      by false false e f =
          let not_x : x.0 ≢ a.0 = first_not lines xs a x y true own refl (is_left_of lines xs y second_on f) in
          let not_y : y.0 ≢ a.0 = second_not lines xs a x y true own refl (is_left_of lines xs x first_on e) not_x in
          let is : zs ≡ a ∷ [] = alone not_x not_y e f in
          let no_x = not_in x not_x is in
          let no_y = not_in y not_y is in record {
            decided = ap (λ b. b || is_placed (xs ++ zs) y) (placed_more_lines xs zs x no_x) ∙ ap (λ b. is_placed xs x || b) (placed_more_lines xs zs y no_y);
            first = before_more xs zs x y no_x;
            second = before_more xs zs y x no_y;
          }

  module _ (lasts : (is_either x y (last_or xs a) && (is_left lines xs (other_than x y (last_or xs a)) && true)) ≡ false)
      (lefts : (is_either x y (left_or lines xs a) && (is_left lines xs (other_than x y (left_or lines xs a)) && not (is_either x y (last_or xs a)))) ≡ false) where
    abbrev now : List LineId
    now = xs ++ zs

    abbrev few : List LineId → Option Bool
    few l = cond (length l + 2 == length lines) (Some true) None

    -- where both are left, none is the last that is placed, and so none is the other one that is left
    not_last_ones : is_placed xs x ≡ false → is_placed xs y ≡ false → (x.0 ≢ (last_or xs a).0) × (y.0 ≢ (last_or xs a).0)
    not_last_ones e f =
        let left_x = is_left_of lines xs x first_on e in
        let left_y = is_left_of lines xs y second_on f in
        let no_x = first_not lines xs (last_or xs a) x y true lasts refl left_y in
        (no_x, second_not lines xs (last_or xs a) x y true lasts refl left_x no_x)

    not_left_ones : is_placed xs x ≡ false → is_placed xs y ≡ false → (x.0 ≢ (left_or lines xs a).0) × (y.0 ≢ (left_or lines xs a).0)
    not_left_ones e f =
        let left_x = is_left_of lines xs x first_on e in
        let left_y = is_left_of lines xs y second_on f in
        let no_last = not_last_ones e f in
        let real : not (is_either x y (last_or xs a)) ≡ true =
        ap (λ b. not (b || (y.0 == (last_or xs a).0))) (ne_eqb x.0 (last_or xs a).0 no_last.0) ∙ ap not (ne_eqb y.0 (last_or xs a).0 no_last.1) in
        let no_x = first_not lines xs (left_or lines xs a) x y (not (is_either x y (last_or xs a))) lefts real left_y in
        (no_x, second_not lines xs (left_or lines xs a) x y (not (is_either x y (last_or xs a))) lefts real left_x no_x)

    -- one of two that are left is placed now, and it is not known whether the other one is its neighbour
    one_placed : (v w : LineId) → v.0 ≡ a.0 → w.0 ≢ a.0 → Contains lines w → is_placed xs w ≡ false → w.0 ≢ (left_or lines xs a).0
        → (is_placed now v ≡ true) × ((is_placed now w ≡ false) × ((beside_unplaced now v ≡ None) × (few xs ≡ None)))
    one_placed v w is_a not_w on_w free_w not_left =
        let free_too : is_placed with_a w ≡ false = not_placed_push w a xs free_w (ne_eqb a.0 w.0 (λ e. not_w (sym e))) in
        let room : length with_a + 1 ≤ length lines =
        omega (arith, few_apart (with_a ++ w ∷ []) lines (apart_push with_a w apart_a free_too) (All-push (Contains lines) with_a w known_a on_w), length-append with_a (w ∷ [])) in
        let many : length xs + 2 < length lines = by_few (length xs + 2 == length lines) refl room free_too in
        let is : zs ≡ a ∷ [] = next.one many in
        let same : v ≡ a = line_is v a is_a in
        let now_is : now ≡ with_a = ap (λ l. xs ++ l) is in (
          ap (λ l. is_placed l v) now_is ∙ ap (is_placed with_a) same ∙ placed_end xs a,
          (
            ap (λ l. is_placed l w) now_is ∙ free_too,
            (
              ap (λ l. beside_unplaced l v) now_is ∙ ap (beside_unplaced with_a) same
                  ∙ ap (λ b. cond b None (Some false)) (eq-eqb (place_of with_a a + 1) (length with_a) (omega (arith, place_end xs a free, length-append xs (a ∷ [])))),
              ap (λ b. cond b (Some true) None) (ne_eqb (length xs + 2) (length lines) (λ e. omega (arith, e, many))),
            ),
          ),
        )
      where
        by_few : (b : Bool) → (length xs + 2 == length lines) ≡ b → length with_a + 1 ≤ length lines → is_placed with_a w ≡ false → length xs + 2 < length lines
        by_few false e room free_too =
            let apart : length xs + 2 ≢ length lines = eqb-false (length xs + 2) (length lines) e in
            same_or_less (length xs + 2) (length lines) (omega (arith, room, length-append xs (a ∷ []))) apart
        by_few true e room free_too =
            let two : length xs + 2 ≡ length lines = eqb-true (length xs + 2) (length lines) e in
            let other = other_is lines xs a w (omega (arith, two)) on_w free_too in
            let no_other : other.0.0 ≢ w.0 = λ h. not_left (sym h ∙ ap (λ (l : LineId). l.0) (sym other.1.is)) in
            let most = room_for_two lines with_a other.0 w apart_a known_a other.1.on on_w other.1.free free_too no_other in
            absurd (omega (arith, most, two, length-append xs (a ∷ [])))

    neither : is_placed xs x ≡ false → is_placed xs y ≡ false → neighbours_on lines now x y ≡ few xs
    neither e f = by (x.0 == a.0) (y.0 == a.0) refl refl
      where
        by : (b c : Bool) → (x.0 == a.0) ≡ b → (y.0 == a.0) ≡ c → neighbours_on lines now x y ≡ few xs
        by true c g h =
            let is_a : x.0 ≡ a.0 = eqb-true x.0 a.0 g in
            let facts = one_placed x y is_a (λ k. differ (is_a ∙ sym k)) second_on f (not_left_ones e f).1 in
            ap (λ p. cond p (cond (is_placed now y) (Some (are_neighbours now x y)) (beside_unplaced now x)) (cond (is_placed now y) (beside_unplaced now y) (few now))) facts.0
            ∙ ap (λ p. cond p (Some (are_neighbours now x y)) (beside_unplaced now x)) facts.1.0
            ∙ facts.1.1.0
            ∙ sym facts.1.1.1
        by false true g h =
            let is_a : y.0 ≡ a.0 = eqb-true y.0 a.0 h in
            let facts = one_placed y x is_a (eqb-false x.0 a.0 g) first_on e (not_left_ones e f).0 in
            ap (λ p. cond p (cond (is_placed now y) (Some (are_neighbours now x y)) (beside_unplaced now x)) (cond (is_placed now y) (beside_unplaced now y) (few now))) facts.1.0
            ∙ ap (λ p. cond p (beside_unplaced now y) (few now)) facts.0
            ∙ facts.1.1.0
            ∙ sym facts.1.1.1
        by false false g h =
            let not_x : x.0 ≢ a.0 = eqb-false x.0 a.0 g in
            let not_y : y.0 ≢ a.0 = eqb-false y.0 a.0 h in
            let is : zs ≡ a ∷ [] = alone not_x not_y e f in
            let free_x : is_placed with_a x ≡ false = not_placed_push x a xs e (ne_eqb a.0 x.0 (λ k. not_x (sym k))) in
            let free_y : is_placed with_a y ≡ false = not_placed_push y a xs f (ne_eqb a.0 y.0 (λ k. not_y (sym k))) in
            let many : length xs + 3 < length lines = by_few (nat_le (length lines) (length xs + 3)) refl free_x free_y in
            ap (λ p. cond p (cond (is_placed now y) (Some (are_neighbours now x y)) (beside_unplaced now x)) (cond (is_placed now y) (beside_unplaced now y) (few now)))
            (placed_more_lines xs zs x (not_in x not_x is) ∙ e)
            ∙ ap (λ p. cond p (beside_unplaced now y) (few now)) (placed_more_lines xs zs y (not_in y not_y is) ∙ f)
            ∙ ap (λ b. cond b (Some true) None)
            (ne_eqb (length now + 2) (length lines) (λ k. omega (arith, k, many, ap length is, length-append xs zs)) ∙ sym (ne_eqb (length xs + 2) (length lines) (λ k. omega (arith, k, many))))
          where
            by_few : (b : Bool) → nat_le (length lines) (length xs + 3) ≡ b → is_placed with_a x ≡ false → is_placed with_a y ≡ false → length xs + 3 < length lines
            by_few false k free_x free_y = leb-false (length lines) (length xs + 3) k
            by_few true k free_x free_y =
                let few_left : length lines ≤ length xs + 3 = leb-true (length lines) (length xs + 3) k in
                let other = other_is lines xs a y few_left second_on free_y in
                let lefts_not = not_left_ones e f in
                let same : other.0.0 ≡ (left_or lines xs a).0 = ap (λ (l : LineId). l.0) (sym other.1.is) in
                let most = room_for_three lines with_a other.0 x y apart_a known_a other.1.on first_on second_on other.1.free free_x free_y (λ p. lefts_not.0 (sym p ∙ same)) (λ p. lefts_not.1 (sym p ∙ same))
                differ in
                absurd (omega (arith, most, few_left, length-append xs (a ∷ [])))

    -- whether they are neighbours, where that is settled, is as it was
    settled_kept : neighbours_on lines now x y ≡ neighbours_on lines xs x y
    settled_kept = by (is_placed xs x) (is_placed xs y) refl refl
      where
        by : (b c : Bool) → is_placed xs x ≡ b → is_placed xs y ≡ c → neighbours_on lines now x y ≡ cond b (cond c (Some (are_neighbours xs x y)) (beside_unplaced xs x)) (cond c (beside_unplaced xs y) (few xs))
        by true true e f =
            ap (λ p. cond p (cond (is_placed now y) (Some (are_neighbours now x y)) (beside_unplaced now x)) (cond (is_placed now y) (beside_unplaced now y) (few now))) (placed_stays xs zs x e)
            ∙ ap (λ p. cond p (Some (are_neighbours now x y)) (beside_unplaced now x)) (placed_stays xs zs y f)
            ∙ ap Some (neighbours_more xs zs x y (next.none x e) (next.none y f))
        by true false e f =
            let not_x : x.0 ≢ (last_or xs a).0 = first_not lines xs (last_or xs a) x y true lasts refl (is_left_of lines xs y second_on f) in
            ap (λ p. cond p (cond (is_placed now y) (Some (are_neighbours now x y)) (beside_unplaced now x)) (cond (is_placed now y) (beside_unplaced now y) (few now))) (placed_stays xs zs x e)
            ∙ ap (λ b. cond (is_placed now y) (Some b) (beside_unplaced now x)) (never_beside xs zs a x y (next.none x e) f not_x)
            ∙ ap (λ o. cond (is_placed now y) (Some false) o) (ap (λ b. cond b None (Some false)) (not_last_more xs zs x next.some e))
            ∙ either (is_placed now y)
            ∙ sym (ap (λ b. cond b None (Some false)) (not_last xs a x e not_x))
        by false true e f =
            let not_x : x.0 ≢ (last_or xs a).0 = λ k. differs xs (last_or xs a) x (last_placed_on xs a y f) e (sym k) in
            let not_y : y.0 ≢ (last_or xs a).0 = second_not lines xs (last_or xs a) x y true lasts refl (is_left_of lines xs x first_on e) not_x in
            ap (λ p. cond (is_placed now x) (cond p (Some (are_neighbours now x y)) (beside_unplaced now x)) (cond p (beside_unplaced now y) (few now))) (placed_stays xs zs y f)
            ∙ ap (λ b. cond (is_placed now x) (Some b) (beside_unplaced now y)) (neighbours_turned now x y ∙ never_beside xs zs a y x (next.none y f) e not_y)
            ∙ ap (λ o. cond (is_placed now x) (Some false) o) (ap (λ b. cond b None (Some false)) (not_last_more xs zs y next.some f))
            ∙ either (is_placed now x)
            ∙ sym (ap (λ b. cond b None (Some false)) (not_last xs a y f not_y))
        by false false e f = neither e f

-- On all segments.

-- a segment has what it had, or it is the one where lines are placed
abbrev Has : List (List LineId) → List (List LineId) → ℕ → List LineId → ℕ → Type 0
Has placed after s zs e = (get_or after e [] ≡ get_or placed e []) ⊎ ((get_or after e [] ≡ get_or placed e [] ++ zs) × (e ≡ s))

has : (placed after : List (List LineId)) (s : ℕ) (zs : List LineId) (e : ℕ) → s < length placed → after ≡ set placed s (get_or placed s [] ++ zs) → Has placed after s zs e
has placed after s zs e below is = by (e == s) refl
  where
    more : List LineId
    more = get_or placed s [] ++ zs

    by : (b : Bool) → (e == s) ≡ b → Has placed after s zs e
    by false h = inl (ap (λ l. get_or l e []) is ∙ get_or-set_other placed s e more [] (eqb-false e s h))
    by true h =
        let same : e ≡ s = eqb-true e s h in
        inr (
          ap (λ l. get_or l e []) is ∙ subst (λ n. get_or (set placed s more) n [] ≡ get_or placed n [] ++ zs) (sym same) (get_or-set_same placed s more [] below),
          same,
        )

module _ (segs placed after : List (List LineId)) (s : SegId) (a : LineId) (zs : List LineId) (below : s.0 < length placed) (is : after ≡ set placed s.0 (lines_on placed s ++ zs))
    (next : IsPlacedBehind (lines_on segs s) (lines_on placed s) a zs) (ok : ArePlacedLines (lines_on segs s) (lines_on placed s)) (on : Contains (lines_on segs s) a)
    (free : is_placed (lines_on placed s) a ≡ false) where
  order_on : (e : SegId) (x y : LineId) → Contains (lines_on segs e) x → Contains (lines_on segs e) y → x.0 ≢ y.0
      → (is_either x y a && (is_left (lines_on segs s) (lines_on placed s) (other_than x y a) && true)) ≡ false → IsOrderKept (lines_on placed e) (lines_on after e) x y
  order_on e x y first_on second_on differ own = by (has placed after s.0 zs e.0 below is)
    where
      by : Has placed after s.0 zs e.0 → IsOrderKept (lines_on placed e) (lines_on after e) x y
      by (inl same) = record { decided = ap (λ l. is_placed l x || is_placed l y) same; first = ap (λ l. comes_before l x y) same; second = ap (λ l. comes_before l y x) same }
      by (inr both) =
          subst (λ l. IsOrderKept (lines_on placed e) l x y) (sym both.0)
          (subst (λ n. IsOrderKept (get_or placed n []) (get_or placed n [] ++ zs) x y) (sym both.1)
          (order_kept (lines_on segs s) (lines_on placed s) zs a x y next ok on free (subst (λ n. Contains (get_or segs n []) x) both.1 first_on) (subst (λ n. Contains (get_or segs n []) y) both.1 second_on)
          differ own))

  looked_on : (e : SegId) (x y : LineId) → IsOrderKept (lines_on placed e) (lines_on after e) x y → looked after e x y ≡ looked placed e x y
  looked_on e x y kept = ap (λ b. cond b (Some (comes_before (lines_on after e) x y)) None) kept.decided ∙ ap (λ b. cond (is_decided placed e x y) (Some b) None) kept.first

  settled_on : (e : SegId) (x y : LineId) → Contains (lines_on segs e) x → Contains (lines_on segs e) y → x.0 ≢ y.0
      → (is_either x y (last_or (lines_on placed s) a) && (is_left (lines_on segs s) (lines_on placed s) (other_than x y (last_or (lines_on placed s) a)) && true)) ≡ false
      → (is_either x y (left_or (lines_on segs s) (lines_on placed s) a)
      && (is_left (lines_on segs s) (lines_on placed s) (other_than x y (left_or (lines_on segs s) (lines_on placed s) a)) && not (is_either x y (last_or (lines_on placed s) a)))) ≡ false
      → neighbours_on (lines_on segs e) (lines_on after e) x y ≡ neighbours_on (lines_on segs e) (lines_on placed e) x y
  settled_on e x y first_on second_on differ lasts lefts = by (has placed after s.0 zs e.0 below is)
    where
      by : Has placed after s.0 zs e.0 → neighbours_on (lines_on segs e) (lines_on after e) x y ≡ neighbours_on (lines_on segs e) (lines_on placed e) x y
      by (inl same) = ap (λ l. neighbours_on (lines_on segs e) l x y) same
      by (inr both) =
          ap (λ l. neighbours_on (lines_on segs e) l x y) both.0
          ∙ subst (λ n. neighbours_on (get_or segs n []) (get_or placed n [] ++ zs) x y ≡ neighbours_on (get_or segs n []) (get_or placed n []) x y) (sym both.1)
          (settled_kept (lines_on segs s) (lines_on placed s) zs a x y next ok on free (subst (λ n. Contains (get_or segs n []) x) both.1 first_on) (subst (λ n. Contains (get_or segs n []) y) both.1 second_on)
          differ lasts lefts)

  -- a term of the segment that is not picked
  charges_kept : (t : Term) (here there : ℕ) (y : ℤ) → IsTerm segs t
      → ((beq (is_apart t) false && is_of_line a t) && is_picked (own_pick (placing_of segs placed s a)) (lines_on segs s) (lines_on placed s) t) ≡ false
      → ((beq (is_apart t) true && is_of_line (last_or (lines_on placed s) a) t) && is_picked (last_pick (placing_of segs placed s a)) (lines_on segs s) (lines_on placed s) t) ≡ false
      → ((beq (is_apart t) true && is_of_line (left_or (lines_on segs s) (lines_on placed s) a) t) && is_picked (left_pick (placing_of segs placed s a)) (lines_on segs s) (lines_on placed s) t) ≡ false
      → charges_by segs after t here there y ≡ charges_by segs placed t here there y
  charges_kept (Side seg first second w) here there y fits own lasts lefts =
      let kept = order_on seg first second fits.first_on fits.second_on fits.differ own in
      ap (λ b. cond b (decided_charges (cond (comes_before (lines_on after seg) second first) w 0)) (one_charge here (nat_lt second.0 first.0) (pos w))) kept.decided
      ∙ ap (λ b. cond (is_decided placed seg first second) (decided_charges (cond b w 0)) (one_charge here (nat_lt second.0 first.0) (pos w))) kept.second
  charges_kept (Link seg other flip x z w) here there y fits own lasts lefts =
      let differ : x.0 ≢ z.0 = λ e. omega (arith, e, fits.a_below) in
      ap (λ o. link_charges here there o (looked after other x z) flip w y) (looked_on seg x z (order_on seg x z fits.a_on fits.b_on differ own))
      ∙ ap (λ o. link_charges here there (looked placed seg x z) o flip w y) (looked_on other x z (order_on other x z fits.a_on_other fits.b_on_other differ own))
  charges_kept (Apart seg other x z w) here there y fits own lasts lefts =
      let differ : x.0 ≢ z.0 = λ e. omega (arith, e, fits.a_below) in
      ap (λ o. decided_charges (apart_cost w o (neighbours_on (lines_on segs other) (lines_on after other) x z))) (settled_on seg x z fits.a_on fits.b_on differ lasts lefts)
      ∙ ap (λ o. decided_charges (apart_cost w (neighbours_on (lines_on segs seg) (lines_on placed seg) x z) o)) (settled_on other x z fits.a_on_other fits.b_on_other differ lasts lefts)

-- A term that is not on the segment.

apart : (a b : ℕ) (more : Bool) → ((a == b) || more) ≡ false → a ≢ b
apart a b more h = eqb-false a b (or_parts (a == b) more h).0

apart_too : (a b c : ℕ) → ((a == c) || (b == c)) ≡ false → b ≢ c
apart_too a b c h = eqb-false b c (or_parts (a == c) (b == c) h).1

elsewhere : (segs placed : List (List LineId)) (s : ℕ) (v : List LineId) (t : Term) (here there : ℕ) (y : ℤ) → is_on s t ≡ false → charges_by segs (set placed s v) t here there y ≡ charges_by segs placed t here there y
elsewhere segs placed s v (Side seg first second w) here there y h = rw (get_or-set_other placed s seg.0 v [] (apart seg.0 s (seg.0 == s) h)) refl
elsewhere segs placed s v (Link seg other flip a b w) here there y h =
    rw (get_or-set_other placed s seg.0 v [] (apart seg.0 s (other.0 == s) h), get_or-set_other placed s other.0 v [] (apart_too seg.0 other.0 s h)) refl
elsewhere segs placed s v (Apart seg other a b w) here there y h =
    rw (get_or-set_other placed s seg.0 v [] (apart seg.0 s (other.0 == s) h), get_or-set_other placed s other.0 v [] (apart_too seg.0 other.0 s h)) refl

-- A term that the placing does not change adds and costs the same once the line is placed.
pub same_charges : (segs placed after : List (List LineId)) (s : SegId) (a : LineId) (t : Term) (here there : ℕ) (y : ℤ) → s.0 < length placed
    → ArePlacedLines (lines_on segs s) (lines_on placed s) → Contains (lines_on segs s) a → is_placed (lines_on placed s) a ≡ false
    → after ≡ set placed s.0 (with_line (lines_on segs s) (lines_on placed s) a) → IsTerm segs t → changes (placing_of segs placed s a) (lines_on segs s) (lines_on placed s) t ≡ false
    → charges_by segs after t here there y ≡ charges_by segs placed t here there y
same_charges segs placed after s a t here there y below ok on free is fits none = by (is_on s.0 t) refl
  where
    lines : List LineId
    lines = lines_on segs s

    before : List LineId
    before = lines_on placed s

    at_line : Bool
    at_line = beq (is_apart t) false && is_of_line a t

    at_last : Bool
    at_last = beq (is_apart t) true && is_of_line (last_or before a) t

    at_left : Bool
    at_left = beq (is_apart t) true && is_of_line (left_or lines before a) t

    own : Bool
    own = is_picked (own_pick (placing_of segs placed s a)) lines before t

    lasts : Bool
    lasts = is_picked (last_pick (placing_of segs placed s a)) lines before t

    lefts : Bool
    lefts = is_picked (left_pick (placing_of segs placed s a)) lines before t

    by : (b : Bool) → is_on s.0 t ≡ b → charges_by segs after t here there y ≡ charges_by segs placed t here there y
    by false e = ap (λ (p : List (List LineId)). charges_by segs p t here there y) is ∙ elsewhere segs placed s.0 (with_line lines before a) t here there y e
    by true e =
        let none_of : ((at_line && own) || ((at_last && lasts) || (at_left && lefts))) ≡ false =
        subst (λ b. (((b && at_line) && own) || (((b && at_last) && lasts) || ((b && at_left) && lefts))) ≡ false) e none in
        let one = or_parts (at_line && own) ((at_last && lasts) || (at_left && lefts)) none_of in
        let two = or_parts (at_last && lasts) (at_left && lefts) one.1 in
        let next = behind lines before a free in
        charges_kept segs placed after s a next.0 below (is ∙ ap (set placed s.0) next.1.more) next.1 ok on free t here there y fits one.0 two.0 two.1
