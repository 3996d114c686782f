-- All segments and terms of a part that is a problem by itself.
use Rattle.std.proofs.Common.{◌≡◌, ℕ, zero, suc, ◌+◌, ◌<◌, ◌≤◌, ◌==◌, ◌||◌, Bool, true, false, cond, List, [], ◌∷◌, length, map, filter, get_or, refl, sym, ◌∙◌, ap, subst, arith}
use Rattle.std.specs.Prelude.{IsPermutation, ℤ}
use Rattle.std.specs.List.{All, AllByRecursion}
use Rattle.std.proofs.lemmas.List.Elements.{recursion_from_All, All-from_recursion}
use Rattle.std.proofs.lemmas.Bool.{and_from}
use Rattle.std.proofs.lemmas.Bool.Decides.{nat_tests}
use Rattle.std.proofs.lemmas.Int.{ints}
use Rattle.map_base.specs.declared.ids.SegId.{SegId}
use Rattle.map_base.specs.declared.ids.LineId.{LineId}
use Rattle.order_model.specs.declared.term.Term.{Term}
use Rattle.order_model.specs.declared.term.Term.TheVariants.{Side, Link, Apart}
use Rattle.order_model.specs.Problems.{IsTerm}
use Rattle.order_model.specs.Costs.{AreOrders}
use Rattle.order_model.specs.Parts.{IsRisingPart}
use Rattle.order_model.specs.PartTerms.{numbered_from, is_in, is_of, part_terms, plain_terms}
use Rattle.whole_sums.specs.Sums.{int_sum}
use Rattle.dual_ascent.specs.OwnNumbers.{segments_from}

abbrev pub seg_number : ℕ → SegId
seg_number k = record { 0 = k }

-- the segments of a part by itself rise
pub segments_rise : (k : ℕ) (segs : List (List LineId)) → 0 < length segs → IsRisingPart (segments_from k segs)
segments_rise k [] h = absurd (omega (arith, h))
segments_rise k (l ∷ []) h = tt
segments_rise k (l ∷ m ∷ segs) h = (omega (arith), segments_rise (k + 1) (m ∷ segs) (omega (arith)))

-- each of so many segments is one of them
pub has_segment : (k : ℕ) (segs : List (List LineId)) (s : SegId) → k ≤ s.0 → s.0 < k + length segs → is_in (segments_from k segs) s ≡ true
has_segment k [] s low high = absurd (omega (arith, low, high))
has_segment k (l ∷ segs) s low high = by_test (k == s.0) refl (λ above. has_segment (k + 1) segs s above (omega (arith, high)))
  where
    strictly : (m n : ℕ) → (m == n) ≡ false → m ≤ n → m + 1 ≤ n
    strictly m n e low = grind (arith, nat_tests)

    by_test : (t : Bool) → (k == s.0) ≡ t → (k + 1 ≤ s.0 → is_in (segments_from (k + 1) segs) s ≡ true) → (t || is_in (segments_from (k + 1) segs) s) ≡ true
    by_test true e rest = refl
    by_test false e rest = rest (strictly k s.0 e low)

-- all terms are of it
pub all_are_of : (segs : List (List LineId)) (t : Term) → IsTerm segs t → is_of (segments_from 0 segs) t ≡ true
all_are_of segs (Side seg first second w) h =
    let known = h.seg_known in
    let here = has_segment 0 segs seg (omega (arith)) (omega (arith, known)) in
    and_from (is_in (segments_from 0 segs) seg) (is_in (segments_from 0 segs) seg) here here
all_are_of segs (Link seg other flip a b w) h =
    let below = h.seg_below in let known = h.other_known in
    and_from (is_in (segments_from 0 segs) seg) (is_in (segments_from 0 segs) other) (has_segment 0 segs seg (omega (arith)) (omega (arith, known, below))) (has_segment 0 segs other (omega (arith)) (omega (arith, known)))
all_are_of segs (Apart seg other a b w) h =
    let below = h.seg_below in let known = h.other_known in
    and_from (is_in (segments_from 0 segs) seg) (is_in (segments_from 0 segs) other) (has_segment 0 segs seg (omega (arith)) (omega (arith, known, below))) (has_segment 0 segs other (omega (arith)) (omega (arith, known)))

filter_numbered : (segs : List (List LineId)) (k : ℕ) (terms : List Term) → AllByRecursion (IsTerm segs) terms
    → filter (λ (q : ℕ × Term). is_of (segments_from 0 segs) q.1) (numbered_from k terms) ≡ numbered_from k terms
filter_numbered segs k [] h = refl
filter_numbered segs k (t ∷ terms) h =
    ap (λ u. cond u ((k, t) ∷ filter (λ (q : ℕ × Term). is_of (segments_from 0 segs) q.1) (numbered_from (k + 1) terms)) (filter (λ (q : ℕ × Term). is_of (segments_from 0 segs) q.1) (numbered_from (k + 1) terms))) (all_are_of segs t h.0)
    ∙ ap (λ (l : List (ℕ × Term)). (k, t) ∷ l) (filter_numbered segs (k + 1) terms h.1)

-- the terms of the part are all terms, behind their numbers
pub part_terms_all : (segs : List (List LineId)) (terms : List Term) → All (IsTerm segs) terms → part_terms terms (segments_from 0 segs) ≡ numbered_from 0 terms
part_terms_all segs terms h = filter_numbered segs 0 terms (recursion_from_All (IsTerm segs) terms h)

pub plain_numbered : (k : ℕ) (terms : List Term) → plain_terms (numbered_from k terms) ≡ terms
plain_numbered k [] = refl
plain_numbered k (t ∷ terms) = ap (λ l. t ∷ l) (plain_numbered (k + 1) terms)

-- What is made for each segment.

-- permutations of the lines of each segment are orders
pub made_orders : (k : ℕ) (segs : List (List LineId)) (f : SegId → List LineId) → ((i : ℕ) → IsPermutation (get_or segs i []) (f (seg_number (k + i)))) → AreOrders segs (map f (segments_from k segs))
made_orders k [] f h = tt
made_orders k (l ∷ segs) f h = (subst (λ n. IsPermutation l (f (seg_number n))) (none k) (h 0), made_orders (k + 1) segs f (λ i. subst (λ n. IsPermutation (get_or segs i []) (f (seg_number n))) (next k i) (h (suc i))))
  where
    none : (k : ℕ) → k + 0 ≡ k
    none k = omega (arith)

    next : (k i : ℕ) → k + suc i ≡ (k + 1) + i
    next k i = omega (arith)

pub made_at : {A : Type 0} (k : ℕ) (segs : List (List LineId)) (f : SegId → A) (i : ℕ) (d : A) → i < length segs → get_or (map f (segments_from k segs)) i d ≡ f (seg_number (k + i))
made_at k [] f i d h = absurd (omega (arith, h))
made_at k (l ∷ segs) f zero d h = ap (λ n. f (seg_number n)) (none k)
  where
    none : (k : ℕ) → k ≡ k + 0
    none k = omega (arith)
made_at k (l ∷ segs) f (suc i) d h = made_at (k + 1) segs f i d (omega (arith, h)) ∙ ap (λ n. f (seg_number n)) (next k i)
  where
    next : (k i : ℕ) → (k + 1) + i ≡ k + suc i
    next k i = omega (arith)

pub sums_same : (g h : SegId → ℤ) (k : ℕ) (segs : List (List LineId)) → ((i : ℕ) → i < length segs → g (seg_number (k + i)) ≡ h (seg_number (k + i)))
    → int_sum g (segments_from k segs) ≡ int_sum h (segments_from k segs)
sums_same g h k [] e = refl
sums_same g h k (l ∷ segs) e =
    let here : g (seg_number k) ≡ h (seg_number k) = subst (λ n. g (seg_number n) ≡ h (seg_number n)) (none k) (e 0 (omega (arith))) in
    let rest = sums_same g h (k + 1) segs (λ i below. subst (λ n. g (seg_number n) ≡ h (seg_number n)) (next k i) (e (suc i) (omega (arith, below)))) in
    omega (arith, ints, here, rest)
  where
    none : (k : ℕ) → k + 0 ≡ k
    none k = omega (arith)

    next : (k i : ℕ) → k + suc i ≡ (k + 1) + i
    next k i = omega (arith)

-- The same for all segments.

from_none : (i : ℕ) → i ≡ 0 + i
from_none i = omega (arith)

pub all_made_orders : (segs : List (List LineId)) (f : SegId → List LineId) → ((i : ℕ) → IsPermutation (get_or segs i []) (f (seg_number i))) → AreOrders segs (map f (segments_from 0 segs))
all_made_orders segs f h = made_orders 0 segs f (λ i. subst (λ n. IsPermutation (get_or segs i []) (f (seg_number n))) (from_none i) (h i))

pub all_made_at : {A : Type 0} (segs : List (List LineId)) (f : SegId → A) (i : ℕ) (d : A) → i < length segs → get_or (map f (segments_from 0 segs)) i d ≡ f (seg_number i)
all_made_at segs f i d h = made_at 0 segs f i d h ∙ ap (λ n. f (seg_number n)) (sym (from_none i))

pub all_sums_same : (g h : SegId → ℤ) (segs : List (List LineId)) → ((i : ℕ) → i < length segs → g (seg_number i) ≡ h (seg_number i)) → int_sum g (segments_from 0 segs) ≡ int_sum h (segments_from 0 segs)
all_sums_same g h segs e = sums_same g h 0 segs (λ i below. subst (λ n. g (seg_number n) ≡ h (seg_number n)) (from_none i) (e i below))

known_from : (n k : ℕ) (segs : List (List LineId)) → k + length segs ≤ n → AllByRecursion (λ (s : SegId). s.0 < n) (segments_from k segs)
known_from n k [] h = tt
known_from n k (l ∷ segs) h = (omega (arith, h), known_from n (k + 1) segs (omega (arith, h)))

-- each of them is known
pub every_known : (segs : List (List LineId)) → All (λ (s : SegId). s.0 < length segs) (segments_from 0 segs)
every_known segs = All-from_recursion (λ (s : SegId). s.0 < length segs) (segments_from 0 segs) (known_from (length segs) 0 segs (omega (arith)))
