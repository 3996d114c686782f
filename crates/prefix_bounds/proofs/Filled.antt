-- Placing the lines of a prefix one by one.
use Rattle.std.proofs.Common.{◌≡◌, ◌≢◌, ℕ, zero, suc, ◌+◌, ◌<◌, ◌≤◌, ◌==◌, ◌&&◌, ◌||◌, not, Bool, true, false, cond, List, [], ◌∷◌, ◌++◌, length, take, get_or, set, refl, sym, ◌∙◌, ap, arith, inl, inr, ◌⊎◌, true≢false, eqb-true, length-append, Some, None}
use Rattle.std.specs.List.{All, Contains, find}
use Rattle.std.specs.Option.{option_to_list}
use Rattle.std.proofs.lemmas.Bool.{and_parts, eqb-false}
use Rattle.std.proofs.lemmas.Bool.Decides.{nat_tests}
use Rattle.std.proofs.lemmas.List.{take_more, take_all, length-take-le, ext_get_or, get_or-set_same, get_or-set_other, get_or-map, set-set, set-get_or}
use Rattle.std.proofs.lemmas.List.Elements.{All-push, All-take}
use Rattle.map_base.specs.declared.ids.SegId.{SegId}
use Rattle.map_base.specs.declared.ids.LineId.{LineId}
use Rattle.graph_core.specs.Consistent.{AreRising}
use Rattle.order_model.specs.declared.term.Term.{Term}
use Rattle.order_model.specs.Problems.{lines_on}
use Rattle.order_model.specs.Prefixes.{is_placed, is_unplaced, is_left, first_placed, with_last, with_line, none_placed, AreApart, ArePlacedLines}
use Rattle.order_model.proofs.RisingLines.{few_rising}
use Rattle.order_model.proofs.TableLemmas.{has_contained}
use Rattle.order_model.proofs.PrefixLemmas.{neither, few_apart, not_placed_push, apart_push, apart_take, found_one, with_last_placed, with_last_not, contains_placed}
use Rattle.part_bounds.specs.PartStates.{PartState, with_placed, IsWell}
use Rattle.prefix_bounds.specs.Filling.{filled, with_left}

-- The next line is not placed yet.

turned : (a b : ℕ) → (a == b) ≡ false → (b == a) ≡ false
turned a b h = grind (arith, nat_tests)

other_line : (x : LineId) (xs : List LineId) (i : ℕ) (d : LineId) → is_placed xs x ≡ false → i < length xs → (x.0 == (get_or xs i d).0) ≡ false
other_line x [] i d h below = absurd (omega (arith, below))
other_line x (y ∷ xs) zero d h below = turned y.0 x.0 (neither (y.0 == x.0) (is_placed xs x) h).0
other_line x (y ∷ xs) (suc i) d h below = other_line x xs i d (neither (y.0 == x.0) (is_placed xs x) h).1 (omega (arith, below))

pub next_apart : (placed : List LineId) (i : ℕ) (d : LineId) → AreApart placed → i < length placed → is_placed (take i placed) (get_or placed i d) ≡ false
next_apart [] i d apart below = absurd (omega (arith, below))
next_apart (x ∷ xs) zero d apart below = refl
next_apart (x ∷ xs) (suc i) d apart below = rw (other_line x xs i d apart.0 (omega (arith, below)), next_apart xs i d apart.1 (omega (arith, below))) refl

placed_last : (xs : List LineId) (a : LineId) → is_placed (xs ++ a ∷ []) a ≡ true
placed_last [] a = itself (a.0 == a.0) refl
  where
    itself : (b : Bool) → (a.0 == a.0) ≡ b → (b || false) ≡ true
    itself true e = refl
    itself false e = absurd (eqb-false a.0 a.0 e refl)
placed_last (x ∷ xs) a = rw (placed_last xs a) (right (x.0 == a.0))
  where
    right : (b : Bool) → (b || true) ≡ true
    right true = refl
    right false = refl

-- Where all lines but one are placed, the one that is left is the next.

not_false : (b : Bool) → not b ≡ false → b ≡ true
not_false true h = refl
not_false false h = absurd (true≢false h)

not_true : (b : Bool) → not b ≡ true → b ≡ false
not_true true h = absurd (true≢false (sym h))
not_true false h = refl

last_is : (lines placed : List LineId) (i : ℕ) (d : LineId) → AreRising lines → ArePlacedLines lines placed → i < length placed → i + 1 ≡ length lines
    → with_last lines (take i placed) ≡ take (i + 1) placed
last_is lines placed i d rising ok below whole =
    with_last_placed lines (take i placed) (omega (arith, count, whole)) ∙ by_found (found_one (is_unplaced (take i placed)) lines) ∙ sym (take_more placed i d below)
  where
    count : length (take i placed) ≡ i
    count = length-take-le i placed (omega (arith, below))

    free : is_placed (take i placed) (get_or placed i d) ≡ false
    free = next_apart placed i d ok.apart below

    known : All (Contains lines) (take i placed)
    known = All-take (Contains lines) i placed ok.known

    by_found : ((a : LineId) × (find (is_unplaced (take i placed)) lines ≡ Some a) × Contains lines a × (is_unplaced (take i placed) a ≡ true)) ⊎ ((find (is_unplaced (take i placed)) lines ≡ None) × All (λ a. is_unplaced (take i placed) a ≡ false) lines)
        → take i placed ++ option_to_list (find (is_unplaced (take i placed)) lines) ≡ take i placed ++ get_or placed i d ∷ []
    by_found (inl h) = ap (λ o. take i placed ++ option_to_list o) h.1 ∙ ap (λ x. take i placed ++ x ∷ []) (by_test (h.0.0 == (get_or placed i d).0) refl)
      where
        now : List LineId
        now = take i placed ++ h.0 ∷ []

        by_test : (b : Bool) → (h.0.0 == (get_or placed i d).0) ≡ b → h.0 ≡ get_or placed i d
        by_test true e = ap (λ (n : ℕ). let l : LineId = record { 0 = n } in l) (eqb-true h.0.0 (get_or placed i d).0 e)
        by_test false e = absurd (omega (
          arith,
          whole,
          count,
          length-append (take i placed) (h.0 ∷ []),
          length-append (take i placed ++ h.0 ∷ []) (get_or placed i d ∷ []),
          few_apart ((take i placed ++ h.0 ∷ []) ++ get_or placed i d ∷ []) lines
              (apart_push (take i placed ++ h.0 ∷ []) (get_or placed i d)
              (apart_push (take i placed) h.0 (apart_take i placed ok.apart) (not_true (is_placed (take i placed) h.0) h.3))
              (not_placed_push (get_or placed i d) h.0 (take i placed) free e))
              (All-push (Contains lines) (take i placed ++ h.0 ∷ []) (get_or placed i d) (All-push (Contains lines) (take i placed) h.0 known h.2) (ok.known i d below)),
        ))
    by_found (inr h) = absurd (omega (
      arith,
      whole,
      count,
      few_rising lines (take i placed) rising
          (λ k e under. contains_placed (take i placed) (get_or lines k e) (not_false (is_placed (take i placed) (get_or lines k e)) (h.1 k e under))),
    ))

-- Once the first so many lines are placed, the next is placed, if it is not yet.

left_one : (lines now : List LineId) (a : LineId) → Contains lines a → is_placed now a ≡ false → with_left lines now a ≡ with_line lines now a
left_one lines now a on free = rw (has_contained lines a on, free) refl

placed_one : (lines now : List LineId) (a : LineId) → is_placed now a ≡ true → with_left lines now a ≡ now
placed_one lines now a there = ap (λ b. cond b (with_line lines now a) now) (ap (λ c. is_placed lines a && not c) there ∙ none (is_placed lines a))
  where
    none : (b : Bool) → (b && false) ≡ false
    none true = refl
    none false = refl

pub one_more : (lines placed : List LineId) (i : ℕ) (d : LineId) → AreRising lines → ArePlacedLines lines placed → i < length placed
    → with_left lines (with_last lines (take i placed)) (get_or placed i d) ≡ with_last lines (take (i + 1) placed)
one_more lines placed i d rising ok below = by_test (i + 1 == length lines) refl
  where
    count : length (take i placed) ≡ i
    count = length-take-le i placed (omega (arith, below))

    more : take (i + 1) placed ≡ take i placed ++ get_or placed i d ∷ []
    more = take_more placed i d below

    by_test : (b : Bool) → (i + 1 == length lines) ≡ b
        → with_left lines (with_last lines (take i placed)) (get_or placed i d) ≡ with_last lines (take (i + 1) placed)
    by_test true e =
        let whole : i + 1 ≡ length lines = eqb-true (i + 1) (length lines) e in
        let all : length (take (i + 1) placed) ≡ i + 1 = length-take-le (i + 1) placed (omega (arith, below)) in
        ap (λ now. with_left lines now (get_or placed i d)) (last_is lines placed i d rising ok below whole)
        ∙ placed_one lines (take (i + 1) placed) (get_or placed i d) (ap (λ now. is_placed now (get_or placed i d)) more ∙ placed_last (take i placed) (get_or placed i d))
        ∙ sym (with_last_not lines (take (i + 1) placed) (λ f. omega (arith, f, all, whole)))
    by_test false e =
        let n : i + 1 ≢ length lines = eqb-false (i + 1) (length lines) e in
        ap (λ now. with_left lines now (get_or placed i d)) (with_last_not lines (take i placed) (λ f. n (omega (arith, f, count))))
        ∙ left_one lines (take i placed) (get_or placed i d) (ok.known i d below) (next_apart placed i d ok.apart below)
        ∙ ap (with_last lines) (sym more)

-- Once all are placed.

pub all_placed : (lines placed : List LineId) → ArePlacedLines lines placed → with_last lines (take (length placed) placed) ≡ placed
all_placed lines placed ok = ap (with_last lines) (take_all (length placed) placed (omega arith)) ∙ with_last_not lines placed ok.none_alone

-- Segment by segment.

-- the lines of the prefix are placed on the first so many segments, and on the others none is chosen
pub record IsFilledTo (n : ℕ) (segs : List (List LineId)) (part : List SegId) (terms : List (ℕ × Term)) (target : List (List LineId)) (b : PartState) : Type 0 where
  pub segs_are : b.segs ≡ segs
  pub part_is : b.part ≡ part
  pub terms_are : b.terms ≡ terms
  pub well : IsWell b.segs b.placed
  pub done : (j : ℕ) → j < n → get_or b.placed j [] ≡ get_or target j []
  pub later : (j : ℕ) → n ≤ j → j < length segs → get_or b.placed j [] ≡ with_last (get_or segs j []) []

pub filled_first : (segs : List (List LineId)) (part : List SegId) (terms : List (ℕ × Term)) (target : List (List LineId)) (b : PartState)
    → b.segs ≡ segs → b.part ≡ part → b.terms ≡ terms → b.placed ≡ none_placed segs → IsWell b.segs b.placed → IsFilledTo 0 segs part terms target b
filled_first segs part terms target b bs bp bt bl well = record {
  segs_are = bs;
  part_is = bp;
  terms_are = bt;
  well = well;
  done = λ j below. absurd (omega (arith, below));
  later = λ j above below. ap (λ l. get_or l j []) bl ∙ get_or-map first_placed segs j [] [] below;
}

pub filled_more : (n : ℕ) (segs : List (List LineId)) (part : List SegId) (terms : List (ℕ × Term)) (target : List (List LineId)) (b c : PartState) (s : SegId)
    → IsFilledTo n segs part terms target b → n < length segs → s.0 ≡ n → c ≡ filled b s (lines_on target s) → IsWell c.segs c.placed → IsFilledTo (n + 1) segs part terms target c
filled_more n segs part terms target b c s ok below at is well = record {
  segs_are = ap (λ (d : PartState). d.segs) is ∙ ok.segs_are;
  part_is = ap (λ (d : PartState). d.part) is ∙ ok.part_is;
  terms_are = ap (λ (d : PartState). d.terms) is ∙ ok.terms_are;
  well = well;
  done = λ j under. by_place j (j == s.0) refl under;
  later = λ j above within. ap (λ l. get_or l j []) placed ∙ get_or-set_other b.placed s.0 j (lines_on target s) [] (λ e. omega (arith, e, at, above)) ∙ ok.later j (omega (arith, above)) within;
}
  where
    placed : c.placed ≡ set b.placed s.0 (lines_on target s)
    placed = ap (λ (d : PartState). d.placed) is

    inside : s.0 < length b.placed
    inside = omega (arith, at, below, ok.well.each, ap length ok.segs_are)

    by_place : (j : ℕ) (e : Bool) → (j == s.0) ≡ e → j < n + 1 → get_or c.placed j [] ≡ get_or target j []
    by_place j true e under =
        let here : j ≡ s.0 = eqb-true j s.0 e in
        ap (λ l. get_or l j []) placed ∙ ap (λ m. get_or (set b.placed s.0 (lines_on target s)) m []) here
        ∙ get_or-set_same b.placed s.0 (lines_on target s) [] inside ∙ ap (λ m. get_or target m []) (sym here)
    by_place j false e under =
        let other : j ≢ s.0 = eqb-false j s.0 e in
        ap (λ l. get_or l j []) placed ∙ get_or-set_other b.placed s.0 j (lines_on target s) [] other
        ∙ ok.done j (omega (arith, under, other, at))

pub filled_all : (n : ℕ) (segs : List (List LineId)) (part : List SegId) (terms : List (ℕ × Term)) (target : List (List LineId)) (b : PartState) → IsFilledTo n segs part terms target b
    → length segs ≤ n → length target ≡ length segs → b.placed ≡ target
filled_all n segs part terms target b ok past each =
    let count : length b.placed ≡ length segs = ok.well.each ∙ ap length ok.segs_are in
    ext_get_or [] b.placed target (count ∙ sym each) (λ j below. ok.done j (omega (arith, below, count, past)))

-- once the lines before one are placed on a segment, and then this one, unless it is
pub line_more : (b now next : PartState) (s : SegId) (placed items : List LineId) (i : ℕ) (d : LineId) → items ≡ placed → AreRising (lines_on b.segs s) → ArePlacedLines (lines_on b.segs s) placed
    → s.0 < length b.placed → i < length placed → now ≡ filled b s (with_last (lines_on b.segs s) (take i placed))
    → next ≡ filled now s (with_left (lines_on now.segs s) (lines_on now.placed s) (get_or items i d))
    → next ≡ filled b s (with_last (lines_on b.segs s) (take (i + 1) placed))
line_more b now next s placed items i d same rising ok inside below is step =
    step ∙ ap (λ ls. filled now s (with_left (lines_on now.segs s) (lines_on now.placed s) (get_or ls i d))) same ∙ ap (λ (c : PartState). filled c s (with_left (lines_on c.segs s) (lines_on c.placed s) (get_or placed i d))) is
    ∙ ap (λ l. filled (filled b s (with_last (lines_on b.segs s) (take i placed))) s (with_left (lines_on b.segs s) l (get_or placed i d)))
    (get_or-set_same b.placed s.0 (with_last (lines_on b.segs s) (take i placed)) [] inside)
    ∙ ap (λ l. with_placed b l) (set-set b.placed s.0 _ _)
    ∙ ap (filled b s) (one_more (lines_on b.segs s) placed i d rising ok below)

-- before any is
pub none_more : (b : PartState) (s : SegId) → lines_on b.placed s ≡ with_last (lines_on b.segs s) [] → b ≡ filled b s (with_last (lines_on b.segs s) [])
none_more b s unchosen = ap (λ l. with_placed b l) (sym (set-get_or b.placed s.0 []) ∙ ap (set b.placed s.0) unchosen)

-- a line that is left stands on the segment
pub left_on : (lines placed : List LineId) (a : LineId) → is_left lines placed a ≡ true → Contains lines a
left_on lines placed a h = contains_placed lines a (and_parts (is_placed lines a) (is_unplaced placed a) h).0
