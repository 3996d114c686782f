-- What one term adds for a pair of lines is at most what it costs in each completion.
use Rattle.std.proofs.Common.{◌≡◌, ◌≢◌, ℕ, ◌+◌, ◌<◌, ◌≤◌, ◌==◌, nat_lt, Bool, true, false, not, cond, ◌||◌, ◌&&◌, List, [], ◌∷◌, Option, Some, None, refl, sym, ap, subst, ◌∙◌, arith, eqb-true, eq-eqb, lt-ltb}
use Rattle.std.specs.Prelude.{IsPermutation, sum_by}
use Rattle.std.proofs.lemmas.Bool.{or_left, or_right}
use Rattle.std.proofs.lemmas.List.Sums.{sum_by-cons}
use Rattle.map_base.specs.declared.ids.SegId.{SegId}
use Rattle.map_base.specs.declared.ids.LineId.{LineId}
use Rattle.graph_core.specs.Consistent.{AreRising}
use Rattle.order_model.specs.declared.term.Term.{Term}
use Rattle.order_model.specs.declared.term.Term.TheVariants.{Side, Link, Apart}
use Rattle.order_model.specs.Problems.{lines_on}
use Rattle.order_model.specs.Costs.{comes_before, are_neighbours, same_answer, term_cost}
use Rattle.order_model.specs.Prefixes.{is_placed}
use Rattle.order_model.specs.Completions.{BeginsWith}
use Rattle.order_model.specs.Looks.{is_decided, neighbours_on}
use Rattle.order_model.proofs.Lines.{has_permutation}
use Rattle.order_bound.specs.Decided.{apart_cost, decided_cost}
use Rattle.order_bound.specs.Pairs.{Pair, pair_of, pair_in, is_pair, OpenLink, open_link}
use Rattle.order_bound.specs.Bounds.{Choice, open_cost, link_cost}
use Rattle.order_bound.proofs.Lists.{each_of}
use Rattle.order_bound.proofs.Worth.{AreApartSegments}
use Rattle.order_bound.proofs.Known.{before_known, before_total, neighbours_known}
use Rattle.order_bound.proofs.Sums.{one_segment, sum_zero}

-- what is known of the order of a segment that completes its placed lines
pub record Completing (segs placed orders : List (List LineId)) (s : SegId) : Type 0 where
  pub begins : BeginsWith (lines_on placed s) (lines_on orders s)
  pub rising : AreRising (lines_on segs s)
  pub permutation : IsPermutation (lines_on segs s) (lines_on orders s)

-- the order of a pair on each segment
abbrev pub choice_of : List (List LineId) → Pair → Choice
choice_of orders p s = comes_before (lines_on orders s) p.lesser p.greater

-- what a term adds for a pair on these segments, by the orders
abbrev pub added_for : List (List LineId) → List (List LineId) → List SegId → Pair → ℕ → Term → ℕ
added_for placed orders slots p k t =
    sum_by (λ s. open_cost placed p s (choice_of orders p s) t) slots + sum_by (link_cost (choice_of orders p)) (open_link placed p k t)

either_swapped : (a b : Bool) → (a || b) ≡ true → (b || a) ≡ true
either_swapped true true h = refl
either_swapped true false h = refl
either_swapped false true h = refl
either_swapped false false h = h

before_same : (segs placed orders : List (List LineId)) (s : SegId) (a b : LineId) → Completing segs placed orders s → is_decided placed s a b ≡ true
    → comes_before (lines_on orders s) a b ≡ comes_before (lines_on placed s) a b
before_same segs placed orders s a b done h =
    ap (λ o. comes_before o a b) done.begins.1 ∙ before_known (lines_on placed s) done.begins.0 a b h

-- A pair that is not the term's.

pub other_pair : (placed orders : List (List LineId)) (slots : List SegId) (p : Pair) (k : ℕ) (t : Term) → is_pair p (pair_in t) ≡ false → added_for placed orders slots p k t ≡ 0
other_pair placed orders slots p k (Side seg first second w) h =
    omega (arith, sum_zero (λ s. open_cost placed p s (choice_of orders p s) (Side seg first second w)) slots (each_of (λ s. open_cost placed p s (choice_of orders p s) (Side seg first second w) ≡ 0) slots (λ s. rw h refl)))
other_pair placed orders slots p k (Link seg other flip a b w) h =
    let none : open_link placed p k (Link seg other flip a b w) ≡ [] = rw h refl in
    omega (
      arith,
      sum_zero (λ s. open_cost placed p s (choice_of orders p s) (Link seg other flip a b w)) slots (each_of (λ s. open_cost placed p s (choice_of orders p s) (Link seg other flip a b w) ≡ 0) slots (λ s. rw h refl)),
      ap (λ ls. sum_by (link_cost (choice_of orders p)) ls) none,
    )
other_pair placed orders slots p k (Apart seg other a b w) h =
    omega (arith, sum_zero (λ s. open_cost placed p s (choice_of orders p s) (Apart seg other a b w)) slots (each_of (λ s. open_cost placed p s (choice_of orders p s) (Apart seg other a b w) ≡ 0) slots (λ s. refl)))

-- The term's own pair.

abbrev pub pair : LineId → LineId → Pair
pair a b = record { lesser = a; greater = b }

gate_most : (b : Bool) (x m : ℕ) → x ≤ m → cond b x 0 ≤ m
gate_most true x m h = h
gate_most false x m h = omega arith

equal_most : (x m : ℕ) → x ≡ m → x ≤ m
equal_most x m h = omega arith

gate_second : (a b : Bool) (x : ℕ) → b ≡ false → cond (a && b) x 0 ≡ 0
gate_second true b x h = rw h refl
gate_second false b x h = refl

side_decided : (a b c : Bool) (x : ℕ) → c ≡ true → cond ((a && b) && not c) x 0 ≡ 0
side_decided true true c x h = rw h refl
side_decided true false c x h = refl
side_decided false b c x h = refl

side_elsewhere : (a b c : Bool) (x : ℕ) → b ≡ false → cond ((a && b) && not c) x 0 ≡ 0
side_elsewhere true b c x h = rw h refl
side_elsewhere false b c x h = refl

-- what a Link adds by which of its segments are decided
pub link_gate : (a b c d e : Bool) (x y : ℕ) → cond (((a && b) && not d) && e) x (cond (((a && c) && d) && not e) y 0) ≡ cond (not d && e) (cond (a && b) x 0) (cond (d && not e) (cond (a && c) y 0) 0)
link_gate true true true true true x y = refl
link_gate true true true true false x y = refl
link_gate true true true false true x y = refl
link_gate true true true false false x y = refl
link_gate true true false true true x y = refl
link_gate true true false true false x y = refl
link_gate true true false false true x y = refl
link_gate true true false false false x y = refl
link_gate true false true true true x y = refl
link_gate true false true true false x y = refl
link_gate true false true false true x y = refl
link_gate true false true false false x y = refl
link_gate true false false true true x y = refl
link_gate true false false true false x y = refl
link_gate true false false false true x y = refl
link_gate true false false false false x y = refl
link_gate false true true true true x y = refl
link_gate false true true true false x y = refl
link_gate false true true false true x y = refl
link_gate false true true false false x y = refl
link_gate false true false true true x y = refl
link_gate false true false true false x y = refl
link_gate false true false false true x y = refl
link_gate false true false false false x y = refl
link_gate false false true true true x y = refl
link_gate false false true true false x y = refl
link_gate false false true false true x y = refl
link_gate false false true false false x y = refl
link_gate false false false true true x y = refl
link_gate false false false true false x y = refl
link_gate false false false false true x y = refl
link_gate false false false false false x y = refl

-- a pair on a segment: the lesser line first, or not, and what a Side costs by that
side_answer : (order : List LineId) (first second : LineId) (w : ℕ) → first.0 ≢ second.0 → is_placed order first ≡ true
    → cond (same_answer (first.0 == (pair_of first second).lesser.0) (comes_before order (pair_of first second).lesser (pair_of first second).greater)) 0 w
    ≡ cond (comes_before order second first) w 0
side_answer order first second w ne on = by_test (nat_lt first.0 second.0)
  where
    turned : (a b : Bool) → b ≡ not a → cond (same_answer true a) 0 w ≡ cond b w 0
    turned true b e = rw e refl
    turned false b e = rw e refl

    straight : (a : Bool) → cond (same_answer false a) 0 w ≡ cond a w 0
    straight true = refl
    straight false = refl

    differ : (first.0 == second.0) ≡ false
    differ = by_eq (first.0 == second.0) refl
      where
        by_eq : (t : Bool) → (first.0 == second.0) ≡ t → t ≡ false
        by_eq true e = absurd (ne (eqb-true first.0 second.0 e))
        by_eq false e = refl

    by_test : (t : Bool) → cond (same_answer (first.0 == (cond t (pair first second) (pair second first)).lesser.0) (comes_before order (cond t (pair first second) (pair second first)).lesser (cond t (pair first second) (pair second first)).greater)) 0 w
        ≡ cond (comes_before order second first) w 0
    by_test true = let here = eq-eqb first.0 first.0 refl in rw here (turned (comes_before order first second) (comes_before order second first) (before_total order first second ne on))
    by_test false = rw differ (straight (comes_before order second first))

pub own_side : (segs placed orders : List (List LineId)) (slots : List SegId) (k : ℕ) (seg : SegId) (first second : LineId) (w : ℕ) → AreApartSegments slots → Completing segs placed orders seg
    → first.0 ≢ second.0 → is_placed (lines_on segs seg) first ≡ true
    → decided_cost segs placed (Side seg first second w) + added_for placed orders slots (pair_of first second) k (Side seg first second w) ≤ term_cost orders (Side seg first second w)
own_side segs placed orders slots k seg first second w apart done ne on = by_test (is_decided placed seg first second) refl
  where
    on_order : is_placed (lines_on orders seg) first ≡ true
    on_order = sym (has_permutation (lines_on segs seg) (lines_on orders seg) first done.permutation) ∙ on

    by_test : (d : Bool) → is_decided placed seg first second ≡ d
        → cond d (cond (comes_before (lines_on placed seg) second first) w 0) 0 + (sum_by (λ s. open_cost placed (pair_of first second) s (choice_of orders (pair_of first second) s) (Side seg first second w)) slots + 0)
        ≤ cond (comes_before (lines_on orders seg) second first) w 0
    by_test true e =
        let none = sum_zero (λ s. open_cost placed (pair_of first second) s (choice_of orders (pair_of first second) s) (Side seg first second w)) slots
        (each_of (λ s. open_cost placed (pair_of first second) s (choice_of orders (pair_of first second) s) (Side seg first second w) ≡ 0) slots
        (λ s. side_decided (is_pair (pair_of first second) (pair_of first second)) (seg.0 == s.0) (is_decided placed seg first second)
        (cond (same_answer (first.0 == (pair_of first second).lesser.0) (choice_of orders (pair_of first second) s)) 0 w) e)) in
        let same = before_same segs placed orders seg second first done (either_swapped (is_placed (lines_on placed seg) first) (is_placed (lines_on placed seg) second) e) in
        omega (arith, none, ap (λ b. cond b w 0) same)
    by_test false e =
        let most = one_segment seg (λ s. open_cost placed (pair_of first second) s (choice_of orders (pair_of first second) s) (Side seg first second w))
        (cond (comes_before (lines_on orders seg) second first) w 0) slots apart
        (λ s h. side_elsewhere (is_pair (pair_of first second) (pair_of first second)) (seg.0 == s.0) (is_decided placed seg first second)
        (cond (same_answer (first.0 == (pair_of first second).lesser.0) (choice_of orders (pair_of first second) s)) 0 w) h)
        (gate_most ((is_pair (pair_of first second) (pair_of first second) && seg.0 == seg.0) && not (is_decided placed seg first second))
        (cond (same_answer (first.0 == (pair_of first second).lesser.0) (choice_of orders (pair_of first second) seg)) 0 w)
        (cond (comes_before (lines_on orders seg) second first) w 0)
        (equal_most (cond (same_answer (first.0 == (pair_of first second).lesser.0) (choice_of orders (pair_of first second) seg)) 0 w) (cond (comes_before (lines_on orders seg) second first) w 0)
        (side_answer (lines_on orders seg) first second w ne on_order))) in
        omega (arith, most)

-- what a Link costs by the answers on its segments
abbrev link_by : Bool → ℕ → Bool → Bool → ℕ
link_by flip w here there = cond (same_answer flip (same_answer here there)) w 0

-- what an open Link adds
linked : (c : Bool) (x : ℕ) (l : OpenLink) (choice : Choice) → link_cost choice l ≡ x → sum_by (link_cost choice) (cond c (l ∷ []) []) ≤ x
linked true x l choice h = omega (arith, h, sum_by-cons (link_cost choice) l [])
linked false x l choice h = omega arith

no_link : (a c : Bool) (l : OpenLink) (choice : Choice) → c ≡ true → sum_by (link_cost choice) (cond (a && not c) (l ∷ []) []) ≡ 0
no_link true c l choice h = rw h refl
no_link false c l choice h = refl

module _ (segs placed orders : List (List LineId)) (slots : List SegId) (k : ℕ) (seg other : SegId) (flip : Bool) (a b : LineId) (w : ℕ) (apart : AreApartSegments slots)
    (done : Completing segs placed orders seg) (done_other : Completing segs placed orders other) where
  abbrev link : Term
  link = Link seg other flip a b w

  abbrev choice : Choice
  choice = choice_of orders (pair a b)

  abbrev is_own : Bool
  is_own = is_pair (pair a b) (pair_of a b)

  abbrev open_at : SegId → ℕ
  open_at s = open_cost placed (pair a b) s (choice s) link

  abbrev here_at : SegId → ℕ
  here_at s = link_by flip w (choice s) (comes_before (lines_on placed other) a b)

  abbrev there_at : SegId → ℕ
  there_at s = link_by flip w (comes_before (lines_on placed seg) a b) (choice s)

  gate_at : (s : SegId) → open_at s ≡ cond (not (is_decided placed seg a b) && is_decided placed other a b) (cond (is_own && seg.0 == s.0) (here_at s) 0)
      (cond (is_decided placed seg a b && not (is_decided placed other a b)) (cond (is_own && other.0 == s.0) (there_at s) 0) 0)
  gate_at s = link_gate is_own (seg.0 == s.0) (other.0 == s.0) (is_decided placed seg a b) (is_decided placed other a b) (here_at s) (there_at s)

  own_link_pair : decided_cost segs placed link + added_for placed orders slots (pair a b) k link ≤ term_cost orders link
  own_link_pair = by_tests (is_decided placed seg a b) refl (is_decided placed other a b) refl
    where
      whole : ℕ
      whole = link_by flip w (choice seg) (choice other)

      by_tests : (d : Bool) → is_decided placed seg a b ≡ d → (e : Bool) → is_decided placed other a b ≡ e
          → cond (d && e) (link_by flip w (comes_before (lines_on placed seg) a b) (comes_before (lines_on placed other) a b)) 0
          + (sum_by open_at slots + sum_by (link_cost choice) (open_link placed (pair a b) k link)) ≤ link_by flip w (choice seg) (choice other)
      by_tests true d true e =
          let none = sum_zero open_at slots (each_of (λ s. open_at s ≡ 0) slots (λ s. gate_at s ∙ rw (d, e) refl)) in
          let links = no_link is_own (is_decided placed seg a b || is_decided placed other a b) (record { number = k; seg = seg; other = other; flip = flip; weight = w }) choice
          (or_left (is_decided placed seg a b) (is_decided placed other a b) d) in
          let same = before_same segs placed orders seg a b done d in
          let same_other = before_same segs placed orders other a b done_other e in
          let first : link_by flip w (choice seg) (choice other) ≡ link_by flip w (comes_before (lines_on placed seg) a b) (comes_before (lines_on placed other) a b) =
          ap (λ x. link_by flip w x (choice other)) same ∙ ap (λ x. link_by flip w (comes_before (lines_on placed seg) a b) x) same_other in
          omega (arith, none, links, first)
      by_tests false d true e =
          let links = no_link is_own (is_decided placed seg a b || is_decided placed other a b) (record { number = k; seg = seg; other = other; flip = flip; weight = w }) choice
          (or_right (is_decided placed seg a b) (is_decided placed other a b) e) in
          let same_other = before_same segs placed orders other a b done_other e in
          let gate : (s : SegId) → open_at s ≡ cond (is_own && seg.0 == s.0) (here_at s) 0 = λ s. gate_at s ∙ rw (d, e) refl in
          let most = one_segment seg open_at (link_by flip w (choice seg) (choice other)) slots apart
          (λ s h. gate s ∙ gate_second is_own (seg.0 == s.0) (here_at s) h)
          (subst (λ x. x ≤ link_by flip w (choice seg) (choice other)) (sym (gate seg))
          (gate_most (is_own && seg.0 == seg.0) (here_at seg) (link_by flip w (choice seg) (choice other)) (equal_most (here_at seg) (link_by flip w (choice seg) (choice other)) (ap (λ x. link_by flip w (choice seg) x) (sym same_other))))) in
          omega (arith, links, most)
      by_tests true d false e =
          let links = no_link is_own (is_decided placed seg a b || is_decided placed other a b) (record { number = k; seg = seg; other = other; flip = flip; weight = w }) choice
          (or_left (is_decided placed seg a b) (is_decided placed other a b) d) in
          let same = before_same segs placed orders seg a b done d in
          let gate : (s : SegId) → open_at s ≡ cond (is_own && other.0 == s.0) (there_at s) 0 = λ s. gate_at s ∙ rw (d, e) refl in
          let most = one_segment other open_at (link_by flip w (choice seg) (choice other)) slots apart
          (λ s h. gate s ∙ gate_second is_own (other.0 == s.0) (there_at s) h)
          (subst (λ x. x ≤ link_by flip w (choice seg) (choice other)) (sym (gate other))
          (gate_most (is_own && other.0 == other.0) (there_at other) (link_by flip w (choice seg) (choice other)) (equal_most (there_at other) (link_by flip w (choice seg) (choice other)) (ap (λ x. link_by flip w x (choice other)) (sym same))))) in
          omega (arith, links, most)
      by_tests false d false e =
          let none = sum_zero open_at slots (each_of (λ s. open_at s ≡ 0) slots (λ s. gate_at s ∙ rw (d, e) refl)) in
          let links = linked (is_own && not (is_decided placed seg a b || is_decided placed other a b)) (link_by flip w (choice seg) (choice other))
          (record { number = k; seg = seg; other = other; flip = flip; weight = w }) choice refl in
          omega (arith, none, links)

pub pair_is : (a b : LineId) → a.0 < b.0 → pair_of a b ≡ pair a b
pair_is a b h = let below : nat_lt a.0 b.0 ≡ true = lt-ltb a.0 b.0 h in rw below refl

pub own_link : (segs placed orders : List (List LineId)) (slots : List SegId) (k : ℕ) (seg other : SegId) (flip : Bool) (a b : LineId) (w : ℕ) → AreApartSegments slots
    → Completing segs placed orders seg → Completing segs placed orders other → a.0 < b.0
    → decided_cost segs placed (Link seg other flip a b w) + added_for placed orders slots (pair_of a b) k (Link seg other flip a b w) ≤ term_cost orders (Link seg other flip a b w)
own_link segs placed orders slots k seg other flip a b w apart done done_other below =
    subst (λ p. decided_cost segs placed (Link seg other flip a b w) + added_for placed orders slots p k (Link seg other flip a b w) ≤ term_cost orders (Link seg other flip a b w))
    (sym (pair_is a b below)) (own_link_pair segs placed orders slots k seg other flip a b w apart done done_other)

pub own_apart : (segs placed orders : List (List LineId)) (slots : List SegId) (k : ℕ) (seg other : SegId) (a b : LineId) (w : ℕ) → Completing segs placed orders seg → Completing segs placed orders other
    → a.0 ≢ b.0 → is_placed (lines_on segs seg) a ≡ true → is_placed (lines_on segs seg) b ≡ true → is_placed (lines_on segs other) a ≡ true → is_placed (lines_on segs other) b ≡ true
    → decided_cost segs placed (Apart seg other a b w) + added_for placed orders slots (pair_of a b) k (Apart seg other a b w) ≤ term_cost orders (Apart seg other a b w)
own_apart segs placed orders slots k seg other a b w done done_other ne on_a on_b on_a_other on_b_other =
    let none = sum_zero (λ s. open_cost placed (pair_of a b) s (choice_of orders (pair_of a b) s) (Apart seg other a b w)) slots
    (each_of (λ s. open_cost placed (pair_of a b) s (choice_of orders (pair_of a b) s) (Apart seg other a b w) ≡ 0) slots (λ s. refl)) in
    let settled = by_looks (neighbours_on (lines_on segs seg) (lines_on placed seg) a b) refl (neighbours_on (lines_on segs other) (lines_on placed other) a b) refl in
    omega (arith, none, settled)
  where
    turned : (x y : Bool) → cond (same_answer x y) 0 w ≤ cond (not (same_answer x y)) w 0
    turned true true = omega arith
    turned true false = omega arith
    turned false true = omega arith
    turned false false = omega arith

    by_looks : (here : Option Bool) → neighbours_on (lines_on segs seg) (lines_on placed seg) a b ≡ here
        → (there : Option Bool) → neighbours_on (lines_on segs other) (lines_on placed other) a b ≡ there
        → apart_cost w here there ≤ cond (not (same_answer (are_neighbours (lines_on orders seg) a b) (are_neighbours (lines_on orders other) a b))) w 0
    by_looks None d there e = omega arith
    by_looks (Some x) d None e = omega arith
    by_looks (Some x) d (Some y) e =
        let same = neighbours_known (lines_on segs seg) (lines_on placed seg) (lines_on orders seg) a b x done.rising done.permutation done.begins ne on_a on_b d in
        let same_other = neighbours_known (lines_on segs other) (lines_on placed other) (lines_on orders other) a b y done_other.rising done_other.permutation done_other.begins ne on_a_other on_b_other e in
        rw (same, same_other) (turned x y)
