-- The decided terms and what the pairs of lines cost where they are open are at most what a completion costs.
use Rattle.std.proofs.Common.{◌≡◌, ℕ, zero, suc, ◌+◌, ◌≤◌, ◌==◌, Bool, true, false, cond, ◌||◌, List, [], ◌∷◌, filter, get_or, refl, sym, ap, subst, ◌∙◌, inl, inr, arith, eqb-true, eq-eqb, true≢false}
use Rattle.std.specs.Prelude.{IsPermutation, sum_by}
use Rattle.std.specs.List.{All, Contains, AllByRecursion}
use Rattle.std.proofs.lemmas.Bool.{or_left, or_right, or_cases, or_parts, and_parts, and_from}
use Rattle.std.proofs.lemmas.List.Elements.{All-head, All-tail}
use Rattle.std.proofs.lemmas.List.Sums.{sum_by-cons, sum_by-append}
use Rattle.std.proofs.lemmas.List.Sorted.{IsPermutation-refl}
use Rattle.map_base.specs.declared.ids.SegId.{SegId}
use Rattle.map_base.specs.declared.ids.LineId.{LineId}
use Rattle.graph_core.specs.Consistent.{AreRising}
use Rattle.order_model.specs.declared.term.Term.{Term}
use Rattle.order_model.specs.declared.term.Term.TheVariants.{Side, Link, Apart}
use Rattle.order_model.specs.Problems.{lines_on, IsTerm}
use Rattle.order_model.specs.Costs.{term_cost, cost_of, AreOrders}
use Rattle.order_model.specs.Prefixes.{is_placed}
use Rattle.order_model.specs.PartTerms.{is_in, is_of, plain_terms}
use Rattle.order_model.specs.Completions.{BeginsWith, Completes}
use Rattle.order_model.proofs.RisingLines.{contains_cases}
use Rattle.order_bound.specs.Decided.{decided_cost, decided_sum}
use Rattle.order_bound.specs.Pairs.{Pair, pair_in, is_pair, has_pair, pairs_after, pairs_of, is_open_on, open_segments, open_link, open_links}
use Rattle.order_bound.specs.Bounds.{open_cost, slot_cost, link_cost, choice_cost}
use Rattle.order_bound.proofs.Lists.{each_weaker, Among, each_among, is_false}
use Rattle.order_bound.proofs.Worth.{AreApartSegments}
use Rattle.order_bound.proofs.Sums.{sum_same, sum_both, sum_swap, sum_less, sum_map}
use Rattle.order_bound.proofs.TermCosts.{Completing, choice_of, added_for, other_pair, own_side, own_link, own_apart}

-- a part of a problem with these segments: each of its terms is one of the problem, on segments of the part
pub record IsPart (segs : List (List LineId)) (part : List SegId) (terms : List (ℕ × Term)) : Type 0 where
  pub rising : All AreRising segs
  pub apart : AreApartSegments part
  pub known : (t : ℕ × Term) → Among t terms → IsTerm segs t.1
  pub inside : (t : ℕ × Term) → Among t terms → is_of part t.1 ≡ true

-- The order of a segment of the part.

pub order_at : (segs orders : List (List LineId)) (s : ℕ) → AreOrders segs orders → IsPermutation (get_or segs s []) (get_or orders s [])
order_at [] [] s h = IsPermutation-refl []
order_at (l ∷ segs) (o ∷ orders) zero h = h.0
order_at (l ∷ segs) (o ∷ orders) (suc s) h = order_at segs orders s h.1
order_at [] (o ∷ orders) s h = absurd h
order_at (l ∷ segs) [] s h = absurd h

pub rising_at : (segs : List (List LineId)) (s : ℕ) → All AreRising segs → AreRising (get_or segs s [])
rising_at [] s h = tt
rising_at (l ∷ segs) zero h = All-head AreRising l segs h
rising_at (l ∷ segs) (suc s) h = rising_at segs s (All-tail AreRising l segs h)

pub all_in : (P : SegId → Type 0) (part : List SegId) (s : SegId) → All P part → is_in part s ≡ true → P s
all_in P [] s h e = absurd (true≢false (sym e))
all_in P (t ∷ part) s h e = elim (or_cases (t.0 == s.0) (is_in part s) e) [
  | inl here ↦ (let Q : ℕ → SegId = λ n. record { 0 = n } in subst P (ap Q (eqb-true t.0 s.0 here)) (All-head P t part h))
  | inr later ↦ all_in P part s (All-tail P t part h) later
]

pub on_placed : (lines : List LineId) (a : LineId) → Contains lines a → is_placed lines a ≡ true
on_placed [] a c = absurd (omega (arith, c.1))
on_placed (x ∷ lines) a c = elim (contains_cases x a lines c) [
  | inl e ↦ or_left (x.0 == a.0) (is_placed lines a) (eq-eqb x.0 a.0 (ap (λ (l : LineId). l.0) e))
  | inr later ↦ or_right (x.0 == a.0) (is_placed lines a) (on_placed lines a later)
]

pub completing_at : (segs placed orders : List (List LineId)) (part : List SegId) (s : SegId) → All AreRising segs → AreOrders segs orders → Completes part placed orders → is_in part s ≡ true
    → Completing segs placed orders s
completing_at segs placed orders part s rising are done inside = record {
  begins = all_in (λ (s : SegId). BeginsWith (lines_on placed s) (lines_on orders s)) part s done inside;
  rising = rising_at segs s.0 rising;
  permutation = order_at segs orders s.0 are;
}

own_term : (segs placed orders : List (List LineId)) (part slots : List SegId) (k : ℕ) (t : Term) → All AreRising segs → AreOrders segs orders → Completes part placed orders
    → IsTerm segs t → is_of part t ≡ true → AreApartSegments slots → decided_cost segs placed t + added_for placed orders slots (pair_in t) k t ≤ term_cost orders t
own_term segs placed orders part slots k (Side seg first second w) rising are done known inside apart =
    own_side segs placed orders slots k seg first second w apart (completing_at segs placed orders part seg rising are done (and_parts (is_in part seg) (is_in part seg) inside).0)
    known.differ (on_placed (lines_on segs seg) first known.first_on)
own_term segs placed orders part slots k (Link seg other flip a b w) rising are done known inside apart =
    let parts = and_parts (is_in part seg) (is_in part other) inside in
    own_link segs placed orders slots k seg other flip a b w apart (completing_at segs placed orders part seg rising are done parts.0)
    (completing_at segs placed orders part other rising are done parts.1) known.a_below
own_term segs placed orders part slots k (Apart seg other a b w) rising are done known inside apart =
    let parts = and_parts (is_in part seg) (is_in part other) inside in
    let below = known.a_below in
    own_apart segs placed orders slots k seg other a b w (completing_at segs placed orders part seg rising are done parts.0)
    (completing_at segs placed orders part other rising are done parts.1) (λ e. absurd (omega (arith, below, e)))
    (on_placed (lines_on segs seg) a known.a_on) (on_placed (lines_on segs seg) b known.b_on)
    (on_placed (lines_on segs other) a known.a_on_other) (on_placed (lines_on segs other) b known.b_on_other)

-- Each pair once.

abbrev pub AreApartPairs : List Pair → Type 0
AreApartPairs [] = Unit {0}
AreApartPairs (p ∷ pairs) = (has_pair pairs p ≡ false) × AreApartPairs pairs

pub same_pair : (p q : Pair) → is_pair p q ≡ true → p ≡ q
same_pair p q h =
    let parts = and_parts (p.lesser.0 == q.lesser.0) (p.greater.0 == q.greater.0) h in
    let P : ℕ → ℕ → Pair = λ m n. record { lesser = record { 0 = m }; greater = record { 0 = n } } in
    ap (λ m. P m p.greater.0) (eqb-true p.lesser.0 q.lesser.0 parts.0) ∙ ap (λ n. P q.lesser.0 n) (eqb-true p.greater.0 q.greater.0 parts.1)

pub pair_itself : (p : Pair) → is_pair p p ≡ true
pair_itself p = and_from (p.lesser.0 == p.lesser.0) (p.greater.0 == p.greater.0) (eq-eqb p.lesser.0 p.lesser.0 refl) (eq-eqb p.greater.0 p.greater.0 refl)

pair_turned : (p q : Pair) → is_pair p q ≡ false → is_pair q p ≡ false
pair_turned p q h = is_false (is_pair q p) (λ e. true≢false (sym (subst (λ r. is_pair p r ≡ true) (sym (same_pair q p e)) (pair_itself p)) ∙ h))

none_among : (f : Pair → ℕ) (q : Pair) (pairs : List Pair) → has_pair pairs q ≡ false → ((p : Pair) → is_pair p q ≡ false → f p ≡ 0) → sum_by f pairs ≡ 0
none_among f q [] h elsewhere = refl
none_among f q (p ∷ pairs) h elsewhere =
    let parts = or_parts (is_pair q p) (has_pair pairs q) h in
    omega (arith, none_among f q pairs parts.1 elsewhere, elsewhere p (pair_turned q p parts.0), sum_by-cons f p pairs)

one_pair : (f : Pair → ℕ) (q : Pair) (m : ℕ) (pairs : List Pair) → AreApartPairs pairs → ((p : Pair) → is_pair p q ≡ false → f p ≡ 0) → f q ≤ m → sum_by f pairs ≤ m
one_pair f q m [] apart elsewhere most = omega arith
one_pair f q m (p ∷ pairs) apart elsewhere most = by_test (is_pair p q) refl (one_pair f q m pairs apart.1 elsewhere most)
  where
    by_test : (b : Bool) → is_pair p q ≡ b → sum_by f pairs ≤ m → sum_by f (p ∷ pairs) ≤ m
    by_test true e rest =
        let same : p ≡ q = same_pair p q e in
        let none : sum_by f pairs ≡ 0 = none_among f q pairs (subst (λ r. has_pair pairs r ≡ false) same apart.0) elsewhere in
        omega (arith, none, most, ap f same, sum_by-cons f p pairs)
    by_test false e rest = omega (arith, rest, elsewhere p e, sum_by-cons f p pairs)

-- the pairs that are found are none of the known ones
abbrev AreNew : List Pair → List Pair → Type 0
AreNew known pairs = AllByRecursion (λ p. has_pair known p ≡ false) pairs

not_known : (known pairs : List Pair) (q : Pair) → AreNew (q ∷ known) pairs → has_pair pairs q ≡ false
not_known known [] q h = refl
not_known known (p ∷ pairs) q h =
    let parts = or_parts (is_pair p q) (has_pair known p) h.0 in
    by_parts (is_pair q p) (has_pair pairs q) (pair_turned p q parts.0) (not_known known pairs q h.1)
  where
    by_parts : (b c : Bool) → b ≡ false → c ≡ false → (b || c) ≡ false
    by_parts b c d e = rw (d, e) refl

found_new : (known : List Pair) (terms : List (ℕ × Term)) → AreNew known (pairs_after known terms) × AreApartPairs (pairs_after known terms)
found_new known [] = (tt, tt)
found_new known (t ∷ terms) = by_test (has_pair known (pair_in t.1)) refl (found_new known terms) (found_new (pair_in t.1 ∷ known) terms)
  where
    by_test : (b : Bool) → has_pair known (pair_in t.1) ≡ b → AreNew known (pairs_after known terms) × AreApartPairs (pairs_after known terms)
        → AreNew (pair_in t.1 ∷ known) (pairs_after (pair_in t.1 ∷ known) terms) × AreApartPairs (pairs_after (pair_in t.1 ∷ known) terms)
        → AreNew known (cond b (pairs_after known terms) (pair_in t.1 ∷ pairs_after (pair_in t.1 ∷ known) terms))
        × AreApartPairs (cond b (pairs_after known terms) (pair_in t.1 ∷ pairs_after (pair_in t.1 ∷ known) terms))
    by_test true e same rest = same
    by_test false e same rest = (
      (
        e,
        each_weaker (λ p. has_pair (pair_in t.1 ∷ known) p ≡ false) (λ p. has_pair known p ≡ false) (pairs_after (pair_in t.1 ∷ known) terms)
            (λ p h. (or_parts (is_pair p (pair_in t.1)) (has_pair known p) h).1) rest.0,
      ),
      (not_known known (pairs_after (pair_in t.1 ∷ known) terms) (pair_in t.1) rest.0, rest.1),
    )

pub pairs_apart : (terms : List (ℕ × Term)) → AreApartPairs (pairs_of terms)
pairs_apart terms = (found_new [] terms).1

-- The segments where a pair is open.

not_in_filter : (p : SegId → Bool) (part : List SegId) (s : SegId) → is_in part s ≡ false → is_in (filter p part) s ≡ false
not_in_filter p [] s h = refl
not_in_filter p (t ∷ part) s h = by_test (p t) (or_parts (t.0 == s.0) (is_in part s) h).0 (not_in_filter p part s (or_parts (t.0 == s.0) (is_in part s) h).1)
  where
    by_test : (b : Bool) → (t.0 == s.0) ≡ false → is_in (filter p part) s ≡ false → is_in (cond b (t ∷ filter p part) (filter p part)) s ≡ false
    by_test true e rest = rw (e, rest) refl
    by_test false e rest = rest

pub apart_filter : (p : SegId → Bool) (part : List SegId) → AreApartSegments part → AreApartSegments (filter p part)
apart_filter p [] h = tt
apart_filter p (s ∷ part) h = by_test (p s) (not_in_filter p part s h.0) (apart_filter p part h.1)
  where
    by_test : (b : Bool) → is_in (filter p part) s ≡ false → AreApartSegments (filter p part) → AreApartSegments (cond b (s ∷ filter p part) (filter p part))
    by_test true e rest = (e, rest)
    by_test false e rest = rest

-- The sum.

links_added : (placed : List (List LineId)) (p : Pair) (choice : SegId → Bool) (terms : List (ℕ × Term))
    → sum_by (link_cost choice) (open_links placed p terms) ≡ sum_by (λ (t : ℕ × Term). sum_by (link_cost choice) (open_link placed p t.0 t.1)) terms
links_added placed p choice [] = refl
links_added placed p choice (t ∷ terms) =
    omega (
      arith,
      links_added placed p choice terms,
      sum_by-append (link_cost choice) (open_link placed p t.0 t.1) (open_links placed p terms),
      sum_by-cons (λ (t : ℕ × Term). sum_by (link_cost choice) (open_link placed p t.0 t.1)) t terms,
    )

added_all : (placed orders : List (List LineId)) (slots : List SegId) (p : Pair) (terms : List (ℕ × Term))
    → choice_cost slots (slot_cost placed terms p) (open_links placed p terms) (choice_of orders p) ≡ sum_by (λ (t : ℕ × Term). added_for placed orders slots p t.0 t.1) terms
added_all placed orders slots p terms =
    let swapped = sum_swap (λ s (t : ℕ × Term). open_cost placed p s (choice_of orders p s) t.1) slots terms in
    let links = links_added placed p (choice_of orders p) terms in
    let both = sum_both (λ (t : ℕ × Term). sum_by (λ s. open_cost placed p s (choice_of orders p s) t.1) slots) (λ (t : ℕ × Term). sum_by (link_cost (choice_of orders p)) (open_link placed p t.0 t.1)) terms in
    omega (arith, swapped, links, both)

pub completion_costs : (segs placed orders : List (List LineId)) (part : List SegId) (terms : List (ℕ × Term)) → IsPart segs part terms → AreOrders segs orders → Completes part placed orders
    → decided_sum segs placed terms
    + sum_by (λ p. choice_cost (open_segments segs placed part p) (slot_cost placed terms p) (open_links placed p terms) (choice_of orders p)) (pairs_of terms)
    ≤ cost_of (plain_terms terms) orders
completion_costs segs placed orders part terms ok are done =
    let slots : Pair → List SegId = λ p. open_segments segs placed part p in
    let pairs : List Pair = pairs_of terms in
    let by_terms = sum_same (λ p. choice_cost (slots p) (slot_cost placed terms p) (open_links placed p terms) (choice_of orders p)) (λ p. sum_by (λ (t : ℕ × Term). added_for placed orders (slots p) p t.0 t.1) terms)
    pairs (λ p. added_all placed orders (slots p) p terms) in
    let swapped = sum_swap (λ p (t : ℕ × Term). added_for placed orders (slots p) p t.0 t.1) pairs terms in
    let both = sum_both (λ (t : ℕ × Term). decided_cost segs placed t.1) (λ (t : ℕ × Term). sum_by (λ p. added_for placed orders (slots p) p t.0 t.1) pairs) terms in
    let each = sum_less (λ (t : ℕ × Term). decided_cost segs placed t.1 + sum_by (λ p. added_for placed orders (slots p) p t.0 t.1) pairs) (λ (t : ℕ × Term). term_cost orders t.1) terms
    (each_among (λ (t : ℕ × Term). decided_cost segs placed t.1 + sum_by (λ p. added_for placed orders (slots p) p t.0 t.1) pairs ≤ term_cost orders t.1) terms
    (λ t h.
    let one = one_pair (λ p. added_for placed orders (slots p) p t.0 t.1) (pair_in t.1) (added_for placed orders (slots (pair_in t.1)) (pair_in t.1) t.0 t.1) pairs (pairs_apart terms)
    (λ p e. other_pair placed orders (slots p) p t.0 t.1 e) (omega arith) in
    let own = own_term segs placed orders part (slots (pair_in t.1)) t.0 t.1 ok.rising are done (ok.known t h) (ok.inside t h) (apart_filter (is_open_on segs placed (pair_in t.1)) part ok.apart) in
    omega (arith, one, own))) in
    let plain = sum_map (term_cost orders) (λ (t : ℕ × Term). t.1) terms in
    omega (arith, by_terms, swapped, both, each, plain)
