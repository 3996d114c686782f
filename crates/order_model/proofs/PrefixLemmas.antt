-- Placing and taking back keep a prefix of its problem.
use Rattle.std.proofs.Common.{◌≡◌, ◌≢◌, ℕ, zero, suc, ◌+◌, ◌-◌, ◌<◌, ◌≤◌, ◌==◌, ◌||◌, not, Bool, true, false, cond, List, [], ◌∷◌, ◌++◌, length, take, get_or, refl, sym, ◌∙◌, ap, subst, arith, inl, inr, ◌⊎◌, true≢false, eqb-true, eq-eqb, length-append, Some, None}
use Rattle.std.specs.List.{All, Contains, filter, find}
use Rattle.std.specs.Option.{option_to_list}
use Rattle.std.proofs.Common.{append_assoc}
use Rattle.std.proofs.Math.Seq.{take-append_seam}
use Rattle.std.proofs.lemmas.Bool.{eqb-false, ne_eqb}
use Rattle.std.proofs.lemmas.Bool.Decides.{nat_tests}
use Rattle.std.proofs.lemmas.List.{length-take-le}
use Rattle.std.proofs.lemmas.List.Elements.{All-nil, All-cons, All-head, All-tail, All-push, All-take}
use Rattle.map_base.specs.declared.ids.LineId.{LineId}
use Rattle.graph_core.specs.Consistent.{AreRising}
use Rattle.order_model.specs.Prefixes.{is_placed, is_unplaced, with_last, first_placed, with_line, last_placed, without_last, AreApart, ArePlacedLines}
use Rattle.order_model.proofs.RisingLines.{contains_first, contains_later, contains_kept, length_without, few_rising}

pub neither : (a b : Bool) → (a || b) ≡ false → (a ≡ false) × (b ≡ false)
neither true b h = absurd (true≢false h)
neither false b h = (refl, h)

-- Lines that are apart and all known are no more than the known ones.

abbrev other_than : LineId → LineId → Bool
other_than x y = not (y.0 == x.0)

not_other_than : (x : LineId) → other_than x x ≡ false
not_other_than x = grind (arith, nat_tests)

unlike : (a : LineId) (xs : List LineId) → is_placed xs a ≡ false → All (λ (b : LineId). (b.0 == a.0) ≡ false) xs
unlike a [] h = All-nil (λ (b : LineId). (b.0 == a.0) ≡ false)
unlike a (x ∷ xs) h =
    let both = neither (x.0 == a.0) (is_placed xs a) h in
    All-cons (λ (b : LineId). (b.0 == a.0) ≡ false) x xs both.0 (unlike a xs both.1)

pub few_apart : (xs known : List LineId) → AreApart xs → All (Contains known) xs → length xs ≤ length known
few_apart [] known h all = omega arith
few_apart (x ∷ xs) known h all =
    let kept : List LineId = filter (other_than x) known in
    let fewer : length kept < length known = length_without (other_than x) x known (All-head (Contains known) x xs all) (not_other_than x) in
    let rest : length xs ≤ length kept = few_apart xs kept h.1
    (λ k d below. contains_kept (other_than x) (get_or xs k d) known (All-tail (Contains known) x xs all k d below) (ap not (unlike x xs h.0 k d below))) in
    omega arith

-- A line that is not placed keeps lines apart.

pub not_placed_push : (x a : LineId) (xs : List LineId) → is_placed xs x ≡ false → (a.0 == x.0) ≡ false → is_placed (xs ++ a ∷ []) x ≡ false
not_placed_push x a [] h e = rw e refl
not_placed_push x a (y ∷ xs) h e =
    let both = neither (y.0 == x.0) (is_placed xs x) h in rw both.0 (not_placed_push x a xs both.1 e)

turned : (a b : ℕ) → (a == b) ≡ false → (b == a) ≡ false
turned a b h = grind (arith, nat_tests)

pub apart_push : (xs : List LineId) (a : LineId) → AreApart xs → is_placed xs a ≡ false → AreApart (xs ++ a ∷ [])
apart_push [] a h e = (refl, tt)
apart_push (x ∷ xs) a h e =
    let both = neither (x.0 == a.0) (is_placed xs a) e in
    (not_placed_push x a xs h.0 (turned x.0 a.0 both.0), apart_push xs a h.1 both.1)

not_placed_take : (k : ℕ) (x : LineId) (xs : List LineId) → is_placed xs x ≡ false → is_placed (take k xs) x ≡ false
not_placed_take zero x xs h = refl
not_placed_take (suc k) x [] h = refl
not_placed_take (suc k) x (y ∷ xs) h =
    let both = neither (y.0 == x.0) (is_placed xs x) h in rw both.0 (not_placed_take k x xs both.1)

pub apart_take : (k : ℕ) (xs : List LineId) → AreApart xs → AreApart (take k xs)
apart_take zero xs h = tt
apart_take (suc k) [] h = tt
apart_take (suc k) (x ∷ xs) h = (not_placed_take k x xs h.0, apart_take k xs h.1)

-- The first line that is not placed.

placed_here : (x a : LineId) (xs : List LineId) (b : Bool) → (x.0 == a.0) ≡ b → (is_placed xs a ≡ true → Contains xs a) → (b || is_placed xs a) ≡ true → Contains (x ∷ xs) a
placed_here x a xs true e later h =
    let same : x ≡ a = ap (λ (n : ℕ). let l : LineId = record { 0 = n } in l) (eqb-true x.0 a.0 e) in
    subst (λ y. Contains (x ∷ xs) y) same (contains_first x xs)
placed_here x a xs false e later h = contains_later x a xs (later h)

pub contains_placed : (xs : List LineId) (a : LineId) → is_placed xs a ≡ true → Contains xs a
contains_placed [] a h = absurd (true≢false (sym h))
contains_placed (x ∷ xs) a h = placed_here x a xs (x.0 == a.0) refl (contains_placed xs a) h

pub found_one : (p : LineId → Bool) (xs : List LineId) → ((a : LineId) × (find p xs ≡ Some a) × Contains xs a × (p a ≡ true)) ⊎ ((find p xs ≡ None) × All (λ a. p a ≡ false) xs)
found_one p [] = inr (refl, All-nil (λ a. p a ≡ false))
found_one p (x ∷ xs) = by_test (p x) refl (found_one p xs)
  where
    by_test : (b : Bool) → p x ≡ b
        → ((a : LineId) × (find p xs ≡ Some a) × Contains xs a × (p a ≡ true)) ⊎ ((find p xs ≡ None) × All (λ a. p a ≡ false) xs)
        → ((a : LineId) × (cond b (Some x) (find p xs) ≡ Some a) × Contains (x ∷ xs) a × (p a ≡ true)) ⊎ ((cond b (Some x) (find p xs) ≡ None) × All (λ a. p a ≡ false) (x ∷ xs))
    by_test true e later = inl (x, refl, contains_first x xs, e)
    by_test false e (inl h) = inl (h.0, h.1, contains_later x h.0 xs h.2, h.3)
    by_test false e (inr h) = inr (h.0, All-cons (λ a. p a ≡ false) x xs e h.1)

-- Placing a line.

room_for : (lines placed : List LineId) (line : LineId) → ArePlacedLines lines placed → Contains lines line → is_placed placed line ≡ false
    → length (placed ++ line ∷ []) ≤ length lines
room_for lines placed line ok here free =
    few_apart (placed ++ line ∷ []) lines (apart_push placed line ok.apart free) (All-push (Contains lines) placed line ok.known here)

pub room_left : (lines placed : List LineId) (line : LineId) → ArePlacedLines lines placed → Contains lines line → is_placed placed line ≡ false
    → length placed < length lines
room_left lines placed line ok here free = omega (arith, room_for lines placed line ok here free, length-append placed (line ∷ []))

not_true : (b : Bool) → not b ≡ true → b ≡ false
not_true true h = absurd (true≢false (sym h))
not_true false h = refl

not_false : (b : Bool) → not b ≡ false → b ≡ true
not_false true h = refl
not_false false h = absurd (true≢false h)

pub last_found : (lines now : List LineId) → AreRising lines → length now + 1 ≡ length lines → All (Contains lines) now → AreApart now
    → ArePlacedLines lines (now ++ option_to_list (find (is_unplaced now) lines))
last_found lines now rising e known apart = by_found (found_one (is_unplaced now) lines)
  where
    by_found : ((a : LineId) × (find (is_unplaced now) lines ≡ Some a) × Contains lines a × (is_unplaced now a ≡ true)) ⊎ ((find (is_unplaced now) lines ≡ None) × All (λ a. is_unplaced now a ≡ false) lines)
        → ArePlacedLines lines (now ++ option_to_list (find (is_unplaced now) lines))
    by_found (inl h) =
        let whole : ArePlacedLines lines (now ++ h.0 ∷ []) = record {
          known = All-push (Contains lines) now h.0 known h.2;
          apart = apart_push now h.0 apart (not_true (is_placed now h.0) h.3);
          none_alone = λ f. absurd (omega (arith, f, length-append now (h.0 ∷ [])));
        } in subst (λ o. ArePlacedLines lines (now ++ option_to_list o)) (sym h.1) whole
    by_found (inr h) = absurd (omega (
      arith,
      e,
      few_rising lines now rising
          (λ k d below. contains_placed now (get_or lines k d) (not_false (is_placed now (get_or lines k d)) (h.1 k d below))),
    ))

pub placed_with_last : (lines now : List LineId) → AreRising lines → All (Contains lines) now → AreApart now → ArePlacedLines lines (with_last lines now)
placed_with_last lines now rising known apart = by_test (length now + 1 == length lines) refl
  where
    by_test : (b : Bool) → (length now + 1 == length lines) ≡ b → ArePlacedLines lines (cond b (now ++ option_to_list (find (is_unplaced now) lines)) now)
    by_test true e = last_found lines now rising (eqb-true (length now + 1) (length lines) e) known apart
    by_test false e = record { known = known; apart = apart; none_alone = eqb-false (length now + 1) (length lines) e }

pub placed_with_line : (lines placed : List LineId) (line : LineId) → AreRising lines → ArePlacedLines lines placed → Contains lines line
    → is_placed placed line ≡ false → ArePlacedLines lines (with_line lines placed line)
placed_with_line lines placed line rising ok here free =
    placed_with_last lines (placed ++ line ∷ []) rising (All-push (Contains lines) placed line ok.known here) (apart_push placed line ok.apart free)

-- what is placed before any line is chosen
pub first_placed_fits : (lines : List LineId) → AreRising lines → ArePlacedLines lines (first_placed lines)
first_placed_fits lines rising = placed_with_last lines [] rising (All-nil (Contains lines)) tt

-- the last line is placed, or is not
pub with_last_placed : (lines now : List LineId) → length now + 1 ≡ length lines → with_last lines now ≡ now ++ option_to_list (find (is_unplaced now) lines)
with_last_placed lines now e = rw (eq-eqb (length now + 1) (length lines) e) refl

pub with_last_not : (lines now : List LineId) → length now + 1 ≢ length lines → with_last lines now ≡ now
with_last_not lines now n = rw (ne_eqb (length now + 1) (length lines) n) refl

-- Taking back.

length_with_last : (lines now : List LineId) → AreRising lines → length now + 1 ≡ length lines
    → length (now ++ option_to_list (find (is_unplaced now) lines)) ≡ length lines
length_with_last lines now rising e = by_found (found_one (is_unplaced now) lines)
  where
    by_found : ((a : LineId) × (find (is_unplaced now) lines ≡ Some a) × Contains lines a × (is_unplaced now a ≡ true)) ⊎ ((find (is_unplaced now) lines ≡ None) × All (λ a. is_unplaced now a ≡ false) lines)
        → length (now ++ option_to_list (find (is_unplaced now) lines)) ≡ length lines
    by_found (inl h) = subst (λ o. length (now ++ option_to_list o) ≡ length lines) (sym h.1) (omega (arith, e, length-append now (h.0 ∷ [])))
    by_found (inr h) = absurd (omega (
      arith,
      e,
      few_rising lines now rising
          (λ k d below. contains_placed now (get_or lines k d) (not_false (is_placed now (get_or lines k d)) (h.1 k d below))),
    ))

-- a segment on which a line was chosen has two lines at least
pub two_where_chosen : (lines placed : List LineId) → AreRising lines → ArePlacedLines lines placed → length (first_placed lines) < length placed → 2 ≤ length lines
two_where_chosen lines placed rising ok chosen = by_test (1 == length lines) refl chosen
  where
    few : length placed ≤ length lines
    few = few_apart placed lines ok.apart ok.known

    by_test : (b : Bool) → (1 == length lines) ≡ b → length (let l : List LineId = cond b (option_to_list (find (is_unplaced []) lines)) [] in l) < length placed → 2 ≤ length lines
    by_test true e h = absurd (omega (arith, h, few, eqb-true 1 (length lines) e, length_with_last lines [] rising (eqb-true 1 (length lines) e)))
    by_test false e h = omega (arith, h, few, eqb-false 1 (length lines) e)

cut : (lines placed : List LineId) (k : ℕ) → ArePlacedLines lines placed → k ≤ length placed → k + 1 ≢ length lines → ArePlacedLines lines (take k placed)
cut lines placed k ok within alone = record {
  known = All-take (Contains lines) k placed ok.known;
  apart = apart_take k placed ok.apart;
  none_alone = λ f. alone (omega (arith, f, length-take-le k placed within));
}

pub placed_without_last : (lines placed : List LineId) → AreRising lines → ArePlacedLines lines placed → length (first_placed lines) < length placed
    → ArePlacedLines lines (without_last lines placed)
placed_without_last lines placed rising ok chosen = by_test (length placed == length lines) refl
  where
    two : 2 ≤ length lines
    two = two_where_chosen lines placed rising ok chosen

    by_test : (whole : Bool) → (length placed == length lines) ≡ whole → ArePlacedLines lines (take (length placed - cond whole 2 1) placed)
    by_test true e = cut lines placed (length placed - 2) ok (omega arith) (λ f. absurd (omega (arith, f, two, eqb-true (length placed) (length lines) e)))
    by_test false e = cut lines placed (length placed - 1) ok (omega arith) (λ f. absurd (eqb-false (length placed) (length lines) e (omega (arith, f, chosen))))

-- The lines of a segment, as an index reads them.

pub lines_at_segment : (segs : List (List LineId)) (s : ℕ) (lines : List LineId) → s < length segs → lines ≡ get_or segs s lines → lines ≡ get_or segs s []
lines_at_segment [] s lines below is = absurd (omega arith)
lines_at_segment (l ∷ segs) zero lines below is = is
lines_at_segment (l ∷ segs) (suc s) lines below is = lines_at_segment segs s lines (omega arith) is

-- Taking back undoes the last placing.

-- how many were placed last
pub two_last : (lines placed : List LineId) → length placed ≡ length lines → last_placed lines placed ≡ 2
two_last lines placed whole = rw (eq-eqb (length placed) (length lines) whole) refl

pub one_last : (lines placed : List LineId) → length placed ≢ length lines → last_placed lines placed ≡ 1
one_last lines placed n = rw (ne_eqb (length placed) (length lines) n) refl

take_front : (xs ys : List LineId) (k : ℕ) → k ≡ length xs → take k (xs ++ ys) ≡ xs
take_front xs ys k e = ap (λ n. take n (xs ++ ys)) e ∙ take-append_seam xs ys

pub undone : (lines placed : List LineId) (line : LineId) → AreRising lines → ArePlacedLines lines placed → without_last lines (with_line lines placed line) ≡ placed
undone lines placed line rising ok = by_test (length (placed ++ line ∷ []) + 1 == length lines) refl
  where
    by_test : (b : Bool) → (length (placed ++ line ∷ []) + 1 == length lines) ≡ b
        → without_last lines (cond b ((placed ++ line ∷ []) ++ option_to_list (find (is_unplaced (placed ++ line ∷ [])) lines)) (placed ++ line ∷ [])) ≡ placed
    by_test true e =
        let now : List LineId = placed ++ line ∷ [] in
        let more : List LineId = option_to_list (find (is_unplaced now) lines) in
        let left : length now + 1 ≡ length lines = eqb-true (length now + 1) (length lines) e in
        let whole : length (now ++ more) ≡ length lines = length_with_last lines now rising left in
        let count : length now ≡ length placed + 1 = length-append placed (line ∷ []) in
        let two : last_placed lines (now ++ more) ≡ 2 = two_last lines (now ++ more) whole in
        ap (λ n. take (length (now ++ more) - n) (now ++ more)) two
        ∙ ap (take (length (now ++ more) - 2)) (append_assoc placed (line ∷ []) more)
        ∙ take_front placed (line ∷ more) (length (now ++ more) - 2) (omega arith)
    by_test false e =
        let now : List LineId = placed ++ line ∷ [] in
        let count : length now ≡ length placed + 1 = length-append placed (line ∷ []) in
        let one : last_placed lines now ≡ 1 = one_last lines now (λ whole. ok.none_alone (omega (arith, whole, count))) in
        ap (λ n. take (length now - n) now) one ∙ take_front placed (line ∷ []) (length now - 1) (omega arith)
