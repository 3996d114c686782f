-- Where a tree is accepted, no completion of the prefix costs less than the target.
use Rattle.std.proofs.Common.{◌≡◌, ◌≢◌, ℕ, zero, suc, ◌<◌, ◌≤◌, ◌==◌, ◌||◌, ◌&&◌, nat_lt, Bool, true, false, cond, List, [], ◌∷◌, ◌++◌, length, get_or, refl, sym, ◌∙◌, ap, subst, arith, inl, inr, ◌⊎◌, true≢false, eqb-true, eq-eqb, Option, Some, None}
use Rattle.std.specs.Prelude.{IsPermutation, ℤ, pos, ◌≤ℤ◌, int_le}
use Rattle.std.specs.List.{All, list_all, find, IsDistinct}
use Rattle.std.specs.Option.{option_to_list}
use Rattle.std.proofs.lemmas.Bool.{eqb-false, ltb-true}
use Rattle.std.proofs.lemmas.Int.{ints}
use Rattle.std.proofs.lemmas.List.{length-set, get_or-set_same, get_or-set_other}
use Rattle.std.proofs.lemmas.List.Elements.{All-head, All-tail}
use Rattle.std.proofs.lemmas.List.Sorted.{IsPermutation-refl, length_permutation}
use Rattle.map_base.specs.declared.ids.SegId.{SegId}
use Rattle.map_base.specs.declared.ids.LineId.{LineId}
use Rattle.graph_core.specs.Consistent.{AreRising}
use Rattle.order_model.specs.declared.term.Term.{Term}
use Rattle.order_model.specs.Problems.{lines_on}
use Rattle.order_model.specs.Costs.{cost_of, AreOrders}
use Rattle.order_model.specs.Prefixes.{is_placed, is_unplaced, is_left, first_placed, none_placed, with_line}
use Rattle.order_model.specs.PartTerms.{is_in, plain_terms}
use Rattle.order_model.specs.Completions.{BeginsWith, Completes, BoundsCompletions, placed_more}
use Rattle.order_model.proofs.Lines.{both_true, either_true, not_true, same_line, all_has, has_append, has_permutation, order_distinct, not_before, begins_with_line}
use Rattle.order_proof.specs.Plain.{PlainTree, split, close, Cases, no_case, case_of}
use Rattle.order_proof.specs.Trees.{is_among, lines_of}
use Rattle.order_bound.specs.Values.{value}
use Rattle.order_bound.specs.Accepting.{reaches, is_closed, are_those_left, is_split, accepts, accepts_cases}
use Rattle.order_model.specs.Questions.{Question}

pub same_or_other : (i j : ℕ) → (i ≡ j) ⊎ (i ≢ j)
same_or_other i j = by_test (i == j) refl
  where
    by_test : (b : Bool) → (i == j) ≡ b → (i ≡ j) ⊎ (i ≢ j)
    by_test true e = inl (eqb-true i j e)
    by_test false e = inr (eqb-false i j e)

-- Segments of a part.

same_seg : (s t : SegId) → (s.0 == t.0) ≡ true → s ≡ t
same_seg s t h = let P : ℕ → SegId = λ n. record { 0 = n } in ap P (eqb-true s.0 t.0 h)

pub all_in : (P : SegId → Type 0) (part : List SegId) (s : SegId) → All P part → is_in part s ≡ true → P s
all_in P [] s all h = absurd (true≢false (sym h))
all_in P (t ∷ part) s all h = elim (either_true (t.0 == s.0) (is_in part s) h) [
  | inl here ↦ subst P (same_seg t s here) (All-head P t part all)
  | inr later ↦ all_in P part s (All-tail P t part all) later
]

-- Orders of segments, one by one.

pub order_at : (segs orders : List (List LineId)) (s : ℕ) → AreOrders segs orders → IsPermutation (get_or segs s []) (get_or orders s [])
order_at [] [] s h = IsPermutation-refl []
order_at (l ∷ segs) (o ∷ orders) zero h = h.0
order_at (l ∷ segs) (o ∷ orders) (suc s) h = order_at segs orders s h.1
order_at [] (o ∷ orders) s h = absurd h
order_at (l ∷ segs) [] s h = absurd h

pub rising_at : (segs : List (List LineId)) (s : ℕ) → All AreRising segs → AreRising (get_or segs s [])
rising_at [] s h = tt
rising_at (l ∷ segs) zero h = All-head AreRising l segs h
rising_at (l ∷ segs) (suc s) h = rising_at segs s (All-tail AreRising l segs h)

-- the order of a segment with a line that is not placed goes on with one of those left
abbrev GoesOn : List LineId → List LineId → List LineId → Type 0
GoesOn placed order these = (a : LineId) × (rest : List LineId) × (order ≡ placed ++ a ∷ rest) × (is_among these a ≡ true)

goes_on : (lines placed order these : List LineId) → AreRising lines → IsPermutation lines order → BeginsWith placed order
    → 0 < length these → are_those_left lines placed these ≡ true → GoesOn placed order these
goes_on lines placed order [] rising perm begins some left = absurd (omega (arith, some))
goes_on lines placed order (c ∷ these) rising perm begins some left = by_rest begins.0 refl
  where
    sides : (list_all (is_left lines placed) (c ∷ these) ≡ true) × (list_all (λ b. is_placed placed b || is_among (c ∷ these) b) lines ≡ true)
    sides = both_true (list_all (is_left lines placed) (c ∷ these)) (list_all (λ b. is_placed placed b || is_among (c ∷ these) b) lines) left

    first : (is_among lines c ≡ true) × (is_unplaced placed c ≡ true)
    first = both_true (is_among lines c) (is_unplaced placed c) (both_true (is_left lines placed c) (list_all (is_left lines placed) these) sides.0).0

    in_order : (is_placed placed c || is_placed begins.0 c) ≡ true
    in_order = sym (has_append placed begins.0 c) ∙ ap (λ l. is_placed l c) (sym begins.1) ∙ sym (has_permutation lines order c perm) ∙ first.0

    second : (s t : Bool) → (s || t) ≡ true → s ≡ false → t ≡ true
    second true t h e = absurd (true≢false e)
    second false t h e = h

    in_rest : is_placed begins.0 c ≡ true
    in_rest = second (is_placed placed c) (is_placed begins.0 c) in_order (not_true (is_placed placed c) first.1)

    by_rest : (rest : List LineId) → begins.0 ≡ rest → GoesOn placed order (c ∷ these)
    by_rest [] e = absurd (true≢false (sym in_rest ∙ ap (λ l. is_placed l c) e))
    by_rest (a ∷ rest) e =
        let is : order ≡ placed ++ a ∷ rest = begins.1 ∙ ap (λ l. placed ++ l) e in
        let here : is_placed (a ∷ rest) a ≡ true = itself a rest in
        let in_whole : is_placed (placed ++ a ∷ rest) a ≡ true = has_append placed (a ∷ rest) a ∙ or_second (is_placed placed a) (is_placed (a ∷ rest) a) here in
        let known : is_placed lines a ≡ true = has_permutation lines order a perm ∙ ap (λ l. is_placed l a) is ∙ in_whole in
        let fresh : is_placed placed a ≡ false = not_before placed rest a (subst (λ l. IsDistinct (λ (x y : LineId). x.0 == y.0) l) is (order_distinct lines order rising perm)) in
        let among : is_among (c ∷ these) a ≡ true = second (is_placed placed a) (is_among (c ∷ these) a)
        (all_has (λ b. is_placed placed b || is_among (c ∷ these) b) lines a sides.1 known) fresh in
        (a, rest, is, among)
      where
        itself : (a : LineId) (rest : List LineId) → is_placed (a ∷ rest) a ≡ true
        itself a rest = rw (eq-eqb a.0 a.0 refl) refl

        or_second : (s t : Bool) → t ≡ true → (s || t) ≡ true
        or_second true t h = refl
        or_second false t h = h

-- What the value of prices bounds.

-- no value of allowed prices, of a prefix that these orders complete, is above what they cost
abbrev pub ValuesBound : List (List LineId) → List SegId → List (ℕ × Term) → List (List LineId) → Type 0
ValuesBound segs part terms orders = (placed : List (List LineId)) (prices : List (ℕ × ℤ)) (v : ℤ) → Completes part placed orders
    → value segs part terms placed prices ≡ Some v → v ≤ℤ pos (cost_of (plain_terms terms) orders)

-- The induction.

module _ (segs : List (List LineId)) (part : List SegId) (terms : List (ℕ × Term)) (target : ℕ) (orders : List (List LineId))
    (rising : All AreRising segs) (known : All (λ (s : SegId). s.0 < length segs) part) (are_orders : AreOrders segs orders)
    (bounds : ValuesBound segs part terms orders) where
  abbrev q : Question
  q = record { segs = segs; part = part; terms = terms; target = target }

  begins_on : (placed : List (List LineId)) (s : SegId) → Completes part placed orders → is_in part s ≡ true → BeginsWith (lines_on placed s) (lines_on orders s)
  begins_on placed s done h = all_in (λ (s : SegId). BeginsWith (lines_on placed s) (lines_on orders s)) part s done h

  closed : (placed : List (List LineId)) (prices : List (ℕ × ℤ)) → Completes part placed orders → is_closed q placed prices ≡ true → target ≤ cost_of (plain_terms terms) orders
  closed placed prices done ok = by_value (value segs part terms placed prices) refl ok
    where
      by_value : (v : Option ℤ) → value segs part terms placed prices ≡ v → reaches target v ≡ true → target ≤ cost_of (plain_terms terms) orders
      by_value None e h = absurd (true≢false (sym h))
      by_value (Some v) e h = pos_below target (cost_of (plain_terms terms) orders) v (below_of (pos target) v h) (bounds placed prices v done e)
        where
          below_of : (i j : ℤ) → int_le i j ≡ true → i ≤ℤ j
          below_of i j h = grind (arith, ints)

          pos_below : (m n : ℕ) (v : ℤ) → pos m ≤ℤ v → v ≤ℤ pos n → m ≤ n
          pos_below m n v p q = omega (arith, ints, p, q)

  more_completes : (placed : List (List LineId)) (s : SegId) (a : LineId) → length placed ≡ length segs → s.0 < length segs
      → BeginsWith (with_line (lines_on segs s) (lines_on placed s) a) (lines_on orders s) → Completes part placed orders → Completes part (placed_more segs placed s a) orders
  more_completes placed s a each s_known begins done k d below =
      let u : SegId = get_or part k d in
      elim (same_or_other u.0 s.0) [
        | inl e ↦ rw (e, get_or-set_same placed s.0 (with_line (lines_on segs s) (lines_on placed s) a) [] (omega (arith, each, s_known))) begins
        | inr n ↦ rw (get_or-set_other placed s.0 u.0 (with_line (lines_on segs s) (lines_on placed s) a) [] n) (done k d below)
      ]

  mutual
    sound : (placed : List (List LineId)) (tree : PlainTree) → length placed ≡ length segs → accepts q placed tree ≡ true
        → Completes part placed orders → target ≤ cost_of (plain_terms terms) orders
    sound placed (close prices) each ok done = closed placed prices done ok
    sound placed (split s cases) each ok done =
        let tests = both_true (is_split q placed s (lines_of cases)) (accepts_cases q placed s cases) ok in
        let in_part = both_true (is_in part s) (nat_lt 0 (length (lines_of cases)) && are_those_left (lines_on segs s) (lines_on placed s) (lines_of cases)) tests.0 in
        let left = both_true (nat_lt 0 (length (lines_of cases))) (are_those_left (lines_on segs s) (lines_on placed s) (lines_of cases)) in_part.1 in
        let line_rising : AreRising (lines_on segs s) = rising_at segs s.0 rising in
        let perm : IsPermutation (lines_on segs s) (lines_on orders s) = order_at segs orders s.0 are_orders in
        let next = goes_on (lines_on segs s) (lines_on placed s) (lines_on orders s) (lines_of cases) line_rising perm
        (begins_on placed s done in_part.0) (ltb-true 0 (length (lines_of cases)) left.0) left.1 in
        let begins : BeginsWith (with_line (lines_on segs s) (lines_on placed s) next.0) (lines_on orders s) =
        subst (λ o. BeginsWith (with_line (lines_on segs s) (lines_on placed s) next.0) o) (sym next.2)
        (begins_with_line (lines_on segs s) (lines_on placed s) next.1 next.0 line_rising (subst (λ o. IsPermutation (lines_on segs s) o) next.2 perm)) in
        sound_case placed s cases next.0 next.3 each tests.1
        (more_completes placed s next.0 each (all_in (λ (s : SegId). s.0 < length segs) part s known in_part.0) begins done)

    sound_case : (placed : List (List LineId)) (s : SegId) (cases : Cases) (a : LineId) → is_among (lines_of cases) a ≡ true → length placed ≡ length segs
        → accepts_cases q placed s cases ≡ true → Completes part (placed_more segs placed s a) orders → target ≤ cost_of (plain_terms terms) orders
    sound_case placed s no_case a has each ok done = absurd (true≢false (sym has))
    sound_case placed s (case_of b tree rest) a has each ok done =
        let tests = both_true (accepts q (placed_more segs placed s b) tree) (accepts_cases q placed s rest) ok in
        elim (either_true (b.0 == a.0) (is_among (lines_of rest) a) has) [
          | inl here ↦ sound (placed_more segs placed s b) tree
              (length-set placed s.0 (with_line (lines_on segs s) (lines_on placed s) b) ∙ each) tests.0
              (subst (λ c. Completes part (placed_more segs placed s c) orders) (sym (same_line b a here)) done)
          | inr later ↦ sound_case placed s rest a later each tests.1 done
        ]

pub accepted_bounds : (segs : List (List LineId)) (part : List SegId) (terms : List (ℕ × Term)) (target : ℕ) (placed : List (List LineId)) (tree : PlainTree)
    → All AreRising segs → All (λ (s : SegId). s.0 < length segs) part → ((orders : List (List LineId)) → AreOrders segs orders → ValuesBound segs part terms orders)
    → length placed ≡ length segs → accepts (record { segs = segs; part = part; terms = terms; target = target }) placed tree ≡ true
    → BoundsCompletions segs part (plain_terms terms) target placed
accepted_bounds segs part terms target placed tree rising known bounds each ok orders are_orders done =
    sound segs part terms target orders rising known are_orders (bounds orders are_orders) placed tree each ok done

-- All orders complete the prefix in which no line is chosen.

one_line : (lines order : List LineId) → IsPermutation lines order → 1 ≡ length lines → BeginsWith (option_to_list (find (is_unplaced []) lines)) order
one_line [] order perm e = absurd (omega (arith, e))
one_line (a ∷ b ∷ lines) order perm e = absurd (omega (arith, e))
one_line (a ∷ []) [] perm e = absurd (omega (arith, length_permutation (a ∷ []) [] perm))
one_line (a ∷ []) (b ∷ c ∷ order) perm e = absurd (omega (arith, length_permutation (a ∷ []) (b ∷ c ∷ order) perm))
one_line (a ∷ []) (b ∷ []) perm e =
    let has : is_placed (a ∷ []) b ≡ true = has_permutation (a ∷ []) (b ∷ []) b perm ∙ rw (eq-eqb b.0 b.0 refl) refl in
    elim (either_true (a.0 == b.0) false has) [
      | inl same ↦ ([], ap (λ l. l ∷ []) (sym (same_line a b same)))
      | inr never ↦ absurd (true≢false (sym never))
    ]

first_begins : (lines order : List LineId) → IsPermutation lines order → BeginsWith (first_placed lines) order
first_begins lines order perm = by_test (1 == length lines) refl
  where
    by_test : (b : Bool) → (1 == length lines) ≡ b → BeginsWith (cond b (option_to_list (find (is_unplaced []) lines)) []) order
    by_test true e = one_line lines order perm (eqb-true 1 (length lines) e)
    by_test false e = (order, refl)

none_at : (segs : List (List LineId)) (n : ℕ) → get_or (none_placed segs) n [] ≡ first_placed (get_or segs n [])
none_at [] n = refl
none_at (l ∷ segs) zero = refl
none_at (l ∷ segs) (suc n) = none_at segs n

pub all_complete_none : (segs : List (List LineId)) (part : List SegId) (orders : List (List LineId)) → AreOrders segs orders → Completes part (none_placed segs) orders
all_complete_none segs part orders are_orders k d below =
    let u : SegId = get_or part k d in
    subst (λ l. BeginsWith l (lines_on orders u)) (sym (none_at segs u.0)) (first_begins (lines_on segs u) (lines_on orders u) (order_at segs orders u.0 are_orders))
