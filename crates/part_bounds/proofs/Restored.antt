-- Placing a line and taking it back leaves a prefix as it was.
use Rattle.std.proofs.Common.{◌≡◌, ◌≢◌, ℕ, zero, suc, ◌+◌, ◌<◌, ◌≤◌, ◌==◌, Bool, true, false, cond, List, [], ◌∷◌, ◌++◌, length, set, refl, ◌∙◌, ap, arith, eqb-true, Option, Some, None}
use Rattle.std.specs.List.{All, find}
use Rattle.std.specs.Option.{option_to_list}
use Rattle.std.proofs.lemmas.List.{get_or-set_same, set-get_or, length-append}
use Rattle.map_base.specs.declared.ids.SegId.{SegId}
use Rattle.map_base.specs.declared.ids.LineId.{LineId}
use Rattle.graph_core.specs.Consistent.{AreRising}
use Rattle.order_model.specs.Problems.{lines_on}
use Rattle.order_model.specs.Prefixes.{is_unplaced, first_placed, with_line, without_last, ArePlacedLines}
use Rattle.order_model.specs.Completions.{placed_more}
use Rattle.order_model.proofs.PrefixLemmas.{undone}
use Rattle.part_bounds.specs.PartStates.{PartState, with_placed, state_more, IsWell}
use Rattle.order_bound.proofs.Sound.{rising_at}

-- Placing a line makes the placed lines more.

pub longer : (lines placed : List LineId) (a : LineId) → length placed < length (with_line lines placed a)
longer lines placed a = by_test (length (placed ++ a ∷ []) + 1 == length lines)
  where
    pushed : length placed < length (placed ++ a ∷ [])
    pushed = omega (arith, length-append placed (a ∷ []))

    by_test : (b : Bool) → length placed < length (cond b ((placed ++ a ∷ []) ++ option_to_list (find (is_unplaced (placed ++ a ∷ [])) lines)) (placed ++ a ∷ []))
    by_test false = pushed
    by_test true = omega (arith, pushed, length-append (placed ++ a ∷ []) (option_to_list (find (is_unplaced (placed ++ a ∷ [])) lines)))

first_few : (lines placed : List LineId) → ArePlacedLines lines placed → length (first_placed lines) ≤ length placed
first_few lines placed ok = by_test (0 + 1 == length lines) refl
  where
    one_at_most : (f : Option LineId) → length ([] ++ option_to_list f) ≤ 1
    one_at_most None = omega arith
    one_at_most (Some a) = omega arith

    not_none : (n : ℕ) → length placed ≡ n → n + 1 ≢ length lines → 1 ≡ length lines → 1 ≤ n
    not_none zero e alone one = absurd (alone (omega (arith, one)))
    not_none (suc n) e alone one = omega arith

    by_test : (b : Bool) → (0 + 1 == length lines) ≡ b → length (cond b ([] ++ option_to_list (find (is_unplaced []) lines)) []) ≤ length placed
    by_test true e =
        omega (arith, one_at_most (find (is_unplaced []) lines), not_none (length placed) refl ok.none_alone (eqb-true 1 (length lines) e))
    by_test false e = omega arith

-- a placed line can be taken back
pub chosen : (segs placed : List (List LineId)) (s : SegId) (a : LineId) → IsWell segs placed → s.0 < length segs
    → length (first_placed (lines_on segs s)) < length (lines_on (placed_more segs placed s a) s)
chosen segs placed s a well known =
    let here : lines_on (placed_more segs placed s a) s ≡ with_line (lines_on segs s) (lines_on placed s) a =
    get_or-set_same placed s.0 (with_line (lines_on segs s) (lines_on placed s) a) [] (omega (arith, well.each, known)) in
    omega (arith, ap length here, longer (lines_on segs s) (lines_on placed s) a, first_few (lines_on segs s) (lines_on placed s) (well.lines s.0 known))

set_twice : (xs : List (List LineId)) (i : ℕ) (x y : List LineId) → set (set xs i x) i y ≡ set xs i y
set_twice [] i x y = refl
set_twice (z ∷ xs) zero x y = refl
set_twice (z ∷ xs) (suc i) x y = ap (λ l. z ∷ l) (set_twice xs i x y)

pub taken_back : (segs placed : List (List LineId)) (s : SegId) (a : LineId) → IsWell segs placed → s.0 < length segs → All AreRising segs
    → set (placed_more segs placed s a) s.0 (without_last (lines_on segs s) (lines_on (placed_more segs placed s a) s)) ≡ placed
taken_back segs placed s a well known rising =
    let more : List LineId = with_line (lines_on segs s) (lines_on placed s) a in
    let here : lines_on (placed_more segs placed s a) s ≡ more = get_or-set_same placed s.0 more [] (omega (arith, well.each, known)) in
    set_twice placed s.0 more (without_last (lines_on segs s) (lines_on (placed_more segs placed s a) s))
    ∙ ap (λ l. set placed s.0 l) (ap (without_last (lines_on segs s)) here ∙ undone (lines_on segs s) (lines_on placed s) a (rising_at segs s.0 rising) (well.lines s.0 known))
    ∙ set-get_or placed s.0 []

-- the state with a line placed and taken back
pub restored : (b : PartState) (s : SegId) (a : LineId) → IsWell b.segs b.placed → s.0 < length b.segs → All AreRising b.segs
    → with_placed (state_more b s a) (set (placed_more b.segs b.placed s a) s.0 (without_last (lines_on b.segs s) (lines_on (placed_more b.segs b.placed s a) s))) ≡ b
restored b s a well known rising = ap (with_placed b) (taken_back b.segs b.placed s a well known rising)
