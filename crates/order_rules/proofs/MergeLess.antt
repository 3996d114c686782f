-- Where a merge applies, orders in which `from` has the order of `into`, or its reverse, cost no more.
use Rattle.std.proofs.Common.{◌≡◌, ◌≢◌, ℕ, ◌+◌, ◌≤◌, ◌==◌, Bool, true, false, not, cond, ◌||◌, ◌&&◌, List, [], ◌∷◌, refl, sym, ap, ◌∙◌, arith, inl, inr, ◌⊎◌, true≢false, eqb-true, leb-true}
use Rattle.std.specs.Prelude.{nat_le}
use Rattle.std.specs.List.{All, AllByRecursion, sum_by}
use Rattle.std.proofs.lemmas.Bool.{or_left, or_right}
use Rattle.std.proofs.lemmas.List.Elements.{All-head, All-tail}
use Rattle.map_base.specs.declared.ids.SegId.{SegId}
use Rattle.map_base.specs.declared.ids.LineId.{LineId}
use Rattle.order_model.specs.declared.term.Term.{Term}
use Rattle.order_model.specs.declared.term.Term.TheVariants.{Side, Link, Apart}
use Rattle.order_model.specs.Problems.{lines_on, IsOn, IsTerm}
use Rattle.order_model.specs.Costs.{comes_before, are_neighbours, are_these, same_answer, weight_of, seg_of, other_of, cost_on, term_cost, cost_of}
use Rattle.order_model.specs.Parts.{is_between}
use Rattle.order_model.proofs.Lines.{both_true, either_true, neither, same_line}
use Rattle.order_model.proofs.PlaceLemmas.{AreOnce}
use Rattle.order_rules.specs.PairWeights.{is_link, is_apart, is_on, is_of_lines, all_pairs}
use Rattle.order_rules.specs.Merging.{has_flip, is_link_between, is_joining, is_beside, link_weight, apart_weight, weight_beside, aparts_beside, outweighs}
use Rattle.order_rules.proofs.Reversed.{AreTwoOf, before_other, shared, shared_before, shared_beside, two_shared}
use Rattle.order_rules.proofs.PairSums.{sum_same, sum_both, sum_less, sum_none, pairs_less, first_of, second_of, AreTwoIn, of_lines, of_pair, pair_sum, by_pairs}
use Rattle.order_rules.proofs.MergeCosts.{AreShared, with_shared, at_from, at_other, between_cost, same_comm, flip_is, seg_is, on_from, differ_below}

-- Two orders of the same lines, where two lines change.

-- of two lines the one comes first in the one order, and the other in the other; or with `aparts` they are neighbours in one
-- of the two orders alone
abbrev pub changes : Bool → List LineId → List LineId → LineId → LineId → Bool
changes true xs ys a b = not (same_answer (are_neighbours xs a b) (are_neighbours ys a b))
changes false xs ys a b = not (same_answer (comes_before xs a b) (comes_before ys a b))

-- the same of the two lines of a term
abbrev pub is_changed : List LineId → List LineId → Term → Bool
is_changed xs ys t = changes (is_apart t) xs ys (first_of t) (second_of t)

same_not : (x y : Bool) → same_answer (not x) (not y) ≡ same_answer x y
same_not true true = refl
same_not true false = refl
same_not false true = refl
same_not false false = refl

pub neighbours_swapped : (xs : List LineId) (a b : LineId) → are_neighbours xs b a ≡ are_neighbours xs a b
neighbours_swapped [] a b = refl
neighbours_swapped (x ∷ []) a b = refl
neighbours_swapped (x ∷ y ∷ xs) a b = ap (λ (m : Bool). m || are_neighbours (y ∷ xs) b a) (or_swapped (x.0 == b.0 && y.0 == a.0) (x.0 == a.0 && y.0 == b.0))
    ∙ ap (λ (m : Bool). are_these x y a b || m) (neighbours_swapped (y ∷ xs) a b)
  where
    or_swapped : (p q : Bool) → (p || q) ≡ (q || p)
    or_swapped true true = refl
    or_swapped true false = refl
    or_swapped false true = refl
    or_swapped false false = refl

changes_swapped : (k : Bool) (xs ys : List LineId) (a b : LineId) → AreTwoOf xs a b → AreTwoOf ys a b → changes k xs ys b a ≡ changes k xs ys a b
changes_swapped true xs ys a b h g =
    ap (λ (m : Bool). not (same_answer m (are_neighbours ys b a))) (neighbours_swapped xs a b)
    ∙ ap (λ (m : Bool). not (same_answer (are_neighbours xs a b) m)) (neighbours_swapped ys a b)
changes_swapped false xs ys a b h g =
    ap (λ (m : Bool). not (same_answer m (comes_before ys b a))) (before_other xs a b h)
    ∙ (ap (λ (m : Bool). not (same_answer (not (comes_before xs a b)) m)) (before_other ys a b g)
    ∙ ap not (same_not (comes_before xs a b) (comes_before ys a b)))

-- What a term costs before and after.

not_same : (x y : Bool) → not (same_answer x y) ≡ false → x ≡ y
not_same true true h = refl
not_same true false h = absurd (true≢false h)
not_same false true h = absurd (true≢false h)
not_same false false h = refl

pub at_most_more : (m n d : Bool) (w : ℕ) → (d ≡ false → m ≡ n) → cond m w 0 ≤ cond n w 0 + cond d w 0
at_most_more true n true w h = omega arith
at_most_more false n true w h = omega arith
at_most_more true n false w h = rw (sym (h refl)) (omega arith)
at_most_more false n false w h = omega arith

link_changed : (flip x y : Bool) → same_answer flip (same_answer x y) ≡ not (same_answer y (same_answer (not flip) x))
link_changed true true true = refl
link_changed true true false = refl
link_changed true false true = refl
link_changed true false false = refl
link_changed false true true = refl
link_changed false true false = refl
link_changed false false true = refl
link_changed false false false = refl

-- The tests of weights, by what they are made of.

-- no term of two lines that don't change costs more
none_more : (of kind on change : Bool) (w : ℕ) → (of ≡ true → kind ≡ true → on ≡ true → change ≡ false)
    → cond of (cond kind (cond on (cond change w 0) 0) 0) 0 ≤ 0
none_more false kind on change w h = omega arith
none_more true false on change w h = omega arith
none_more true true false change w h = omega arith
none_more true true true true w h = absurd (true≢false (h refl refl refl))
none_more true true true false w h = omega arith

-- a term costs at most its weight more
weight_more : (of kind on change : Bool) (w : ℕ) → cond of (cond kind (cond on (cond change w 0) 0) 0) 0 ≤ cond (kind && (on && of)) w 0
weight_more false kind on change w = omega arith
weight_more true false on change w = omega arith
weight_more true true false change w = omega arith
weight_more true true true true w = omega arith
weight_more true true true false w = omega arith

-- a term between the segments of two lines that change saves its weight
weight_saved : (test of kind between change : Bool) (w : ℕ) → (test ≡ true → kind ≡ true)
    → (of ≡ true → kind ≡ true → between ≡ true → change ≡ true)
    → cond (test && (between && of)) w 0 ≤ cond of (cond kind (cond between (cond change w 0) 0) 0) 0
weight_saved false of kind between change w h g = omega arith
weight_saved true of kind false change w h g = omega arith
weight_saved true false kind true change w h g = omega arith
weight_saved true true false true change w h g = absurd (true≢false (sym (h refl)))
weight_saved true true true true true w h g = omega arith
weight_saved true true true true false w h g = absurd (true≢false (sym (g refl refl refl)))

link_kind : (t : Term) → is_link t ≡ true → same_answer false (is_apart t) ≡ true
link_kind (Side seg first second w) h = refl
link_kind (Link seg other turns a b w) h = refl
link_kind (Apart seg other a b w) h = absurd (true≢false (sym h))

pub each_of_all : (P : Term → Type 0) (terms : List Term) → All P terms → AllByRecursion P terms
each_of_all P [] h = tt
each_of_all P (t ∷ terms) h = (All-head P t terms h, each_of_all P terms (All-tail P t terms h))

pub each_weaker : (P Q : Term → Type 0) (terms : List Term) → ((t : Term) → P t → Q t) → AllByRecursion P terms → AllByRecursion Q terms
each_weaker P Q [] f h = tt
each_weaker P Q (t ∷ terms) f h = (f t h.0, each_weaker P Q terms f h.1)

pub each_both : (P Q : Term → Type 0) (terms : List Term) → AllByRecursion P terms → AllByRecursion Q terms → AllByRecursion (λ t. P t × Q t) terms
each_both P Q [] h k = tt
each_both P Q (t ∷ terms) h k = ((h.0, k.0), each_both P Q terms h.1 k.1)

-- a term on f is of two of its lines
pub on_two : (segs : List (List LineId)) (f : SegId) (t : Term) → IsTerm segs t → is_on f t ≡ true → AreTwoIn (lines_on segs f) (first_of t) (second_of t)
on_two segs f (Side seg first second w) t h =
    let here : (seg.0 == f.0) ≡ true = elim (either_true (seg.0 == f.0) (seg.0 == f.0) h) [ inl k ↦ k | inr k ↦ k ] in
    record { differ = t.differ; x_on = on_from segs seg f first here t.first_on; y_on = on_from segs seg f second here t.second_on }
on_two segs f (Link seg other turns a b w) t h = elim (either_true (seg.0 == f.0) (other.0 == f.0) h) [
  | inl k ↦ record { differ = differ_below a b t.a_below; x_on = on_from segs seg f a k t.a_on; y_on = on_from segs seg f b k t.b_on }
  | inr k ↦ record { differ = differ_below a b t.a_below; x_on = on_from segs other f a k t.a_on_other; y_on = on_from segs other f b k t.b_on_other }
]
on_two segs f (Apart seg other a b w) t h = elim (either_true (seg.0 == f.0) (other.0 == f.0) h) [
  | inl k ↦ record { differ = differ_below a b t.a_below; x_on = on_from segs seg f a k t.a_on; y_on = on_from segs seg f b k t.b_on }
  | inr k ↦ record { differ = differ_below a b t.a_below; x_on = on_from segs other f a k t.a_on_other; y_on = on_from segs other f b k t.b_on_other }
]

ends_on : (s o e f : ℕ) → ((s == e && o == f) || (s == f && o == e)) ≡ true → (s == f || o == f) ≡ true
ends_on s o e f h = elim (either_true (s == e && o == f) (s == f && o == e) h) [
  | inl k ↦ or_right (s == f) (o == f) (both_true (s == e) (o == f) k).1
  | inr k ↦ or_left (s == f) (o == f) (both_true (s == f) (o == e) k).0
]

pub between_on : (e f : SegId) (t : Term) → is_between t e.0 f.0 ≡ true → is_on f t ≡ true
between_on e f (Side seg first second w) h = absurd (true≢false (sym h))
between_on e f (Link seg other turns a b w) h = ends_on seg.0 other.0 e.0 f.0 h
between_on e f (Apart seg other a b w) h = ends_on seg.0 other.0 e.0 f.0 h

-- orders of the problem, whose lists for e and f are orders of the same lines
pub record AreCompared (segs q : List (List LineId)) (e f : SegId) : Type 0 where
  pub shared : AreShared segs q e f
  pub old : (a b : LineId) → IsOn segs f a → IsOn segs f b → a.0 ≢ b.0 → AreTwoOf (lines_on q f) a b
  pub once : AreOnce (lines_on segs f)

module _ (segs q : List (List LineId)) (e f : SegId) (flip : Bool) (ok : AreCompared segs q e f) where
  abbrev L : List (List LineId)
  L = with_shared q e f flip

  abbrev o : List LineId
  o = lines_on q e

  abbrev xs : List LineId
  xs = lines_on q f

  abbrev ys : List LineId
  ys = shared flip o

  off_same : (t : Term) → is_on f t ≡ false → term_cost L t ≡ term_cost q t
  off_same t h =
      let parts = neither ((seg_of t).0 == f.0) ((other_of t).0 == f.0) h in
      ap (λ (zs : List LineId). cost_on zs (lines_on L (other_of t)) t) (at_other q e f (seg_of t) flip parts.0)
      ∙ ap (λ (zs : List LineId). cost_on (lines_on q (seg_of t)) zs t) (at_other q e f (other_of t) flip parts.1)

  -- a term on f costs at most its weight more, and no more where its lines don't change
  on_more : (t : Term) → IsTerm segs t → is_on f t ≡ true → is_between t e.0 f.0 ≡ false
      → term_cost L t ≤ term_cost q t + cond (is_changed xs ys t) (weight_of t) 0
  on_more (Side seg first second w) t h apart =
      let here : (seg.0 == f.0) ≡ true = elim (either_true (seg.0 == f.0) (seg.0 == f.0) h) [ inl k ↦ k | inr k ↦ k ] in
      let a_on : IsOn segs f first = on_from segs seg f first here t.first_on in
      let b_on : IsOn segs f second = on_from segs seg f second here t.second_on in
      let two_x : AreTwoOf xs first second = ok.old first second a_on b_on t.differ in
      let two_y : AreTwoOf ys first second = two_shared flip o first second (ok.shared.two first second a_on b_on t.differ) in
      let new : lines_on L seg ≡ ys = at_from q e f seg flip ok.shared.known here in
      let was : lines_on q seg ≡ xs = ap (lines_on q) (seg_is seg f here) in
      rw (new, was)
      (at_most_more (comes_before ys second first) (comes_before xs second first) (changes false xs ys first second) w
      (λ d. sym (not_same (comes_before xs second first) (comes_before ys second first) (changes_swapped false xs ys first second two_x two_y ∙ d))))
  on_more (Link seg other turns a b w) t h apart = by_tests (seg.0 == f.0) (other.0 == f.0) refl refl
    where
      d_is : changes false xs ys a b ≡ false → comes_before ys a b ≡ comes_before xs a b
      d_is d = sym (not_same (comes_before xs a b) (comes_before ys a b) d)

      by_tests : (c k : Bool) → (seg.0 == f.0) ≡ c → (other.0 == f.0) ≡ k
          → term_cost L (Link seg other turns a b w) ≤ term_cost q (Link seg other turns a b w) + cond (changes false xs ys a b) w 0
      by_tests true true c k = absurd (omega (arith, eqb-true seg.0 f.0 c, eqb-true other.0 f.0 k, t.seg_below))
      by_tests true false c k =
          let new : lines_on L seg ≡ ys = at_from q e f seg flip ok.shared.known c in
          let was : lines_on q seg ≡ xs = ap (lines_on q) (seg_is seg f c) in
          let there : lines_on L other ≡ lines_on q other = at_other q e f other flip k in
          rw (new, was, there)
          (at_most_more (same_answer turns (same_answer (comes_before ys a b) (comes_before (lines_on q other) a b)))
          (same_answer turns (same_answer (comes_before xs a b) (comes_before (lines_on q other) a b))) (changes false xs ys a b) w
          (λ d. ap (λ (m : Bool). same_answer turns (same_answer m (comes_before (lines_on q other) a b))) (d_is d)))
      by_tests false true c k =
          let new : lines_on L other ≡ ys = at_from q e f other flip ok.shared.known k in
          let was : lines_on q other ≡ xs = ap (lines_on q) (seg_is other f k) in
          let there : lines_on L seg ≡ lines_on q seg = at_other q e f seg flip c in
          rw (new, was, there)
          (at_most_more (same_answer turns (same_answer (comes_before (lines_on q seg) a b) (comes_before ys a b)))
          (same_answer turns (same_answer (comes_before (lines_on q seg) a b) (comes_before xs a b))) (changes false xs ys a b) w
          (λ d. ap (λ (m : Bool). same_answer turns (same_answer (comes_before (lines_on q seg) a b) m)) (d_is d)))
      by_tests false false c k = elim (either_true (seg.0 == f.0) (other.0 == f.0) h) [ inl g ↦ absurd (true≢false (sym g ∙ c)) | inr g ↦ absurd (true≢false (sym g ∙ k)) ]
  on_more (Apart seg other a b w) t h apart = by_tests (seg.0 == f.0) (other.0 == f.0) refl refl
    where
      d_is : changes true xs ys a b ≡ false → are_neighbours ys a b ≡ are_neighbours xs a b
      d_is d = sym (not_same (are_neighbours xs a b) (are_neighbours ys a b) d)

      by_tests : (c k : Bool) → (seg.0 == f.0) ≡ c → (other.0 == f.0) ≡ k
          → term_cost L (Apart seg other a b w) ≤ term_cost q (Apart seg other a b w) + cond (changes true xs ys a b) w 0
      by_tests true true c k = absurd (omega (arith, eqb-true seg.0 f.0 c, eqb-true other.0 f.0 k, t.seg_below))
      by_tests true false c k =
          let new : lines_on L seg ≡ ys = at_from q e f seg flip ok.shared.known c in
          let was : lines_on q seg ≡ xs = ap (lines_on q) (seg_is seg f c) in
          let there : lines_on L other ≡ lines_on q other = at_other q e f other flip k in
          rw (new, was, there)
          (at_most_more (not (same_answer (are_neighbours ys a b) (are_neighbours (lines_on q other) a b)))
          (not (same_answer (are_neighbours xs a b) (are_neighbours (lines_on q other) a b))) (changes true xs ys a b) w
          (λ d. ap (λ (m : Bool). not (same_answer m (are_neighbours (lines_on q other) a b))) (d_is d)))
      by_tests false true c k =
          let new : lines_on L other ≡ ys = at_from q e f other flip ok.shared.known k in
          let was : lines_on q other ≡ xs = ap (lines_on q) (seg_is other f k) in
          let there : lines_on L seg ≡ lines_on q seg = at_other q e f seg flip c in
          rw (new, was, there)
          (at_most_more (not (same_answer (are_neighbours (lines_on q seg) a b) (are_neighbours ys a b)))
          (not (same_answer (are_neighbours (lines_on q seg) a b) (are_neighbours xs a b))) (changes true xs ys a b) w
          (λ d. ap (λ (m : Bool). not (same_answer (are_neighbours (lines_on q seg) a b) m)) (d_is d)))
      by_tests false false c k = elim (either_true (seg.0 == f.0) (other.0 == f.0) h) [ inl g ↦ absurd (true≢false (sym g ∙ c)) | inr g ↦ absurd (true≢false (sym g ∙ k)) ]

  -- a term between the two segments costs its weight exactly where its lines change
  between_was : (t : Term) → IsTerm segs t → is_between t e.0 f.0 ≡ true → (is_link_between e f t ≡ true → has_flip flip t ≡ true)
      → term_cost q t ≡ cond (is_changed xs ys t) (weight_of t) 0
  between_was (Side seg first second w) t h flips = absurd (true≢false (sym h))
  between_was (Link seg other turns a b w) t h flips = elim (either_true (seg.0 == e.0 && other.0 == f.0) (seg.0 == f.0 && other.0 == e.0) h) [
    | inl k ↦ (let parts = both_true (seg.0 == e.0) (other.0 == f.0) k in
        let two : AreTwoOf o a b = ok.shared.two a b (on_from segs other f a parts.1 t.a_on_other) (on_from segs other f b parts.1 t.b_on_other) (differ_below a b t.a_below) in
        let first : lines_on q seg ≡ o = ap (lines_on q) (seg_is seg e parts.0) in
        let second : lines_on q other ≡ xs = ap (lines_on q) (seg_is other f parts.1) in
        rw (first, second, is) (ap (λ (m : Bool). cond m w 0)
        (link_changed flip (comes_before o a b) (comes_before xs a b) ∙ ap (λ (m : Bool). not (same_answer (comes_before xs a b) m)) (sym (shared_before flip o a b two)))))
    | inr k ↦ (let parts = both_true (seg.0 == f.0) (other.0 == e.0) k in
        let two : AreTwoOf o a b = ok.shared.two a b (on_from segs seg f a parts.0 t.a_on) (on_from segs seg f b parts.0 t.b_on) (differ_below a b t.a_below) in
        let first : lines_on q seg ≡ xs = ap (lines_on q) (seg_is seg f parts.0) in
        let second : lines_on q other ≡ o = ap (lines_on q) (seg_is other e parts.1) in
        rw (first, second, is) (ap (λ (m : Bool). cond m w 0)
        (ap (same_answer flip) (same_comm (comes_before xs a b) (comes_before o a b))
        ∙ (link_changed flip (comes_before o a b) (comes_before xs a b) ∙ ap (λ (m : Bool). not (same_answer (comes_before xs a b) m)) (sym (shared_before flip o a b two))))))
  ]
    where
      is : turns ≡ flip
      is = flip_is flip turns (flips h)
  between_was (Apart seg other a b w) t h flips = elim (either_true (seg.0 == e.0 && other.0 == f.0) (seg.0 == f.0 && other.0 == e.0) h) [
    | inl k ↦ (let parts = both_true (seg.0 == e.0) (other.0 == f.0) k in
        let two : AreTwoOf o a b = ok.shared.two a b (on_from segs other f a parts.1 t.a_on_other) (on_from segs other f b parts.1 t.b_on_other) (differ_below a b t.a_below) in
        let first : lines_on q seg ≡ o = ap (lines_on q) (seg_is seg e parts.0) in
        let second : lines_on q other ≡ xs = ap (lines_on q) (seg_is other f parts.1) in
        rw (first, second) (ap (λ (m : Bool). cond (not m) w 0)
        (same_comm (are_neighbours o a b) (are_neighbours xs a b) ∙ ap (same_answer (are_neighbours xs a b)) (sym (shared_beside flip o a b two)))))
    | inr k ↦ (let parts = both_true (seg.0 == f.0) (other.0 == e.0) k in
        let two : AreTwoOf o a b = ok.shared.two a b (on_from segs seg f a parts.0 t.a_on) (on_from segs seg f b parts.0 t.b_on) (differ_below a b t.a_below) in
        let first : lines_on q seg ≡ xs = ap (lines_on q) (seg_is seg f parts.0) in
        let second : lines_on q other ≡ o = ap (lines_on q) (seg_is other e parts.1) in
        rw (first, second) (ap (λ (m : Bool). cond (not m) w 0) (ap (same_answer (are_neighbours xs a b)) (sym (shared_beside flip o a b two)))))
  ]

  -- what a term may cost more, and what it saves
  abbrev extra : Term → ℕ
  extra t = cond (is_on f t && not (is_between t e.0 f.0)) (cond (is_changed xs ys t) (weight_of t) 0) 0

  abbrev saved : Term → ℕ
  saved t = cond (is_between t e.0 f.0) (cond (is_changed xs ys t) (weight_of t) 0) 0

  pub term_more : (t : Term) → IsTerm segs t → (is_link_between e f t ≡ true → has_flip flip t ≡ true) → term_cost L t + saved t ≤ term_cost q t + extra t
  term_more t is flips = by_tests (is_on f t) (is_between t e.0 f.0) refl refl
    where
      change : ℕ
      change = cond (is_changed xs ys t) (weight_of t) 0

      by_tests : (c d : Bool) → is_on f t ≡ c → is_between t e.0 f.0 ≡ d
          → term_cost L t + cond d (cond (is_changed xs ys t) (weight_of t) 0) 0 ≤ term_cost q t + cond (c && not d) (cond (is_changed xs ys t) (weight_of t) 0) 0
      by_tests c true h k = omega (arith, between_cost segs q e f flip ok.shared t is k flips, between_was t is k flips)
      by_tests true false h k = omega (arith, on_more t is h k)
      by_tests false false h k = omega (arith, off_same t h)

  -- The same for the terms of one kind: Sides and Links, or Aparts.

  abbrev extra_of : Bool → Term → ℕ
  extra_of k t = cond (same_answer k (is_apart t)) (extra t) 0

  abbrev saved_of : Bool → Term → ℕ
  saved_of k t = cond (same_answer k (is_apart t)) (saved t) 0

  -- the lines of a term of two lines change where these do
  changed_is : (t : Term) (a b : LineId) → IsTerm segs t → is_on f t ≡ true → is_of_lines a b t ≡ true → is_changed xs ys t ≡ changes (is_apart t) xs ys a b
  changed_is t a b is on of =
      let two = on_two segs f t is on in
      let x : LineId = first_of t in
      let y : LineId = second_of t in
      let two_x : AreTwoOf xs x y = ok.old x y two.x_on two.y_on two.differ in
      let two_y : AreTwoOf ys x y = two_shared flip o x y (ok.shared.two x y two.x_on two.y_on two.differ) in
      elim (either_true (x.0 == a.0 && y.0 == b.0) (x.0 == b.0 && y.0 == a.0) (sym (of_lines t a b) ∙ of)) [
        | inl k ↦ (let parts = both_true (x.0 == a.0) (y.0 == b.0) k in
            ap (λ (l : LineId). changes (is_apart t) xs ys l y) (same_line x a parts.0) ∙ ap (changes (is_apart t) xs ys a) (same_line y b parts.1))
        | inr k ↦ (let parts = both_true (x.0 == b.0) (y.0 == a.0) k in
            sym (changes_swapped (is_apart t) xs ys x y two_x two_y)
            ∙ (ap (λ (l : LineId). changes (is_apart t) xs ys l x) (same_line y a parts.1) ∙ ap (changes (is_apart t) xs ys a) (same_line x b parts.0)))
      ]

  change_of_kind : (k : Bool) (t : Term) (a b : LineId) → IsTerm segs t → is_on f t ≡ true → is_of_lines a b t ≡ true → same_answer k (is_apart t) ≡ true
      → is_changed xs ys t ≡ changes k xs ys a b
  change_of_kind k t a b is on of kind = changed_is t a b is on of ∙ ap (λ (m : Bool). changes m xs ys a b) (flip_is k (is_apart t) kind)

  module _ (terms : List Term) (all : AllByRecursion (IsTerm segs) terms) (fits : all_pairs (outweighs e f terms) (lines_on segs f) ≡ true) where
    -- the weights of the one kind and of the other
    abbrev beside_of : Bool → LineId → LineId → ℕ
    beside_of true a b = aparts_beside e f terms a b
    beside_of false a b = weight_beside e f terms a b

    abbrev between_of : Bool → LineId → LineId → ℕ
    between_of true a b = apart_weight e f terms a b
    between_of false a b = link_weight e f terms a b

    weighs : (k : Bool) (a b : LineId) → outweighs e f terms a b ≡ true → beside_of k a b ≤ between_of k a b
    weighs true a b h = leb-true (aparts_beside e f terms a b) (apart_weight e f terms a b)
        (both_true (nat_le (weight_beside e f terms a b) (link_weight e f terms a b)) (nat_le (aparts_beside e f terms a b) (apart_weight e f terms a b)) h).1
    weighs false a b h = leb-true (weight_beside e f terms a b) (link_weight e f terms a b)
        (both_true (nat_le (weight_beside e f terms a b) (link_weight e f terms a b)) (nat_le (aparts_beside e f terms a b) (apart_weight e f terms a b)) h).0

    abbrev on_only : Term → Bool
    on_only t = is_on f t && not (is_between t e.0 f.0)

    only_on : (t : Term) → on_only t ≡ true → is_on f t ≡ true
    only_on t h = (both_true (is_on f t) (not (is_between t e.0 f.0)) h).0

    extra_beside : (k : Bool) (a b : LineId) → pair_sum (extra_of k) terms a b ≤ beside_of k a b
    extra_beside true a b =
        sum_less (of_pair (extra_of true) a b) (λ t. cond (is_apart t && is_beside e f a b t) (weight_of t) 0) terms
        (each_weaker (IsTerm segs) (λ t. of_pair (extra_of true) a b t ≤ cond (is_apart t && is_beside e f a b t) (weight_of t) 0) terms
        (λ t is. weight_more (is_of_lines a b t) (is_apart t) (on_only t) (is_changed xs ys t) (weight_of t)) all)
    extra_beside false a b =
        sum_less (of_pair (extra_of false) a b) (λ t. cond (not (is_apart t) && is_beside e f a b t) (weight_of t) 0) terms
        (each_weaker (IsTerm segs) (λ t. of_pair (extra_of false) a b t ≤ cond (not (is_apart t) && is_beside e f a b t) (weight_of t) 0) terms
        (λ t is. weight_more (is_of_lines a b t) (not (is_apart t)) (on_only t) (is_changed xs ys t) (weight_of t)) all)

    between_saved : (k : Bool) (a b : LineId) → changes k xs ys a b ≡ true → between_of k a b ≤ pair_sum (saved_of k) terms a b
    between_saved true a b h =
        sum_less (λ t. cond (is_apart t && is_joining e f a b t) (weight_of t) 0) (of_pair (saved_of true) a b) terms
        (each_weaker (IsTerm segs) (λ t. cond (is_apart t && is_joining e f a b t) (weight_of t) 0 ≤ of_pair (saved_of true) a b t) terms
        (λ t is. weight_saved (is_apart t) (is_of_lines a b t) (is_apart t) (is_between t e.0 f.0) (is_changed xs ys t) (weight_of t) (λ i. i)
        (λ of kind between. change_of_kind true t a b is (between_on e f t between) of kind ∙ h)) all)
    between_saved false a b h =
        sum_less (λ t. cond (is_link t && is_joining e f a b t) (weight_of t) 0) (of_pair (saved_of false) a b) terms
        (each_weaker (IsTerm segs) (λ t. cond (is_link t && is_joining e f a b t) (weight_of t) 0 ≤ of_pair (saved_of false) a b t) terms
        (λ t is. weight_saved (is_link t) (is_of_lines a b t) (not (is_apart t)) (is_between t e.0 f.0) (is_changed xs ys t) (weight_of t) (link_kind t)
        (λ of kind between. change_of_kind false t a b is (between_on e f t between) of kind ∙ h)) all)

    extra_none : (k : Bool) (a b : LineId) → changes k xs ys a b ≡ false → pair_sum (extra_of k) terms a b ≤ 0
    extra_none k a b h =
        let less = sum_less (of_pair (extra_of k) a b) (λ t. 0) terms
        (each_weaker (IsTerm segs) (λ t. of_pair (extra_of k) a b t ≤ 0) terms
        (λ t is. none_more (is_of_lines a b t) (same_answer k (is_apart t)) (on_only t) (is_changed xs ys t) (weight_of t)
        (λ of kind on. change_of_kind k t a b is (only_on t on) of kind ∙ h)) all) in
        omega (arith, less, sum_none {A = Term} (λ t. 0) terms (λ t. refl))

    pair_less : (k : Bool) (a b : LineId) → outweighs e f terms a b ≡ true → pair_sum (extra_of k) terms a b ≤ pair_sum (saved_of k) terms a b
    pair_less k a b h = by_change (changes k xs ys a b) refl
      where
        by_change : (c : Bool) → changes k xs ys a b ≡ c → pair_sum (extra_of k) terms a b ≤ pair_sum (saved_of k) terms a b
        by_change true e = omega (arith, extra_beside k a b, weighs k a b h, between_saved k a b e)
        by_change false e = omega (arith, extra_none k a b e)

    extra_two : (k : Bool) (t : Term) → IsTerm segs t → (extra_of k t ≡ 0) ⊎ AreTwoIn (lines_on segs f) (first_of t) (second_of t)
    extra_two k t is = by_on (is_on f t) refl
      where
        by_on : (c : Bool) → is_on f t ≡ c → (extra_of k t ≡ 0) ⊎ AreTwoIn (lines_on segs f) (first_of t) (second_of t)
        by_on true h = inr (on_two segs f t is h)
        by_on false h = inl (ap (λ (m : Bool). cond (same_answer k (is_apart t)) (cond (m && not (is_between t e.0 f.0)) (cond (is_changed xs ys t) (weight_of t) 0) 0) 0) h
            ∙ nothing (same_answer k (is_apart t)))
          where
            nothing : (c : Bool) → cond c (cond false (cond (is_changed xs ys t) (weight_of t) 0) 0) 0 ≡ 0
            nothing true = refl
            nothing false = refl

    saved_two : (k : Bool) (t : Term) → IsTerm segs t → (saved_of k t ≡ 0) ⊎ AreTwoIn (lines_on segs f) (first_of t) (second_of t)
    saved_two k t is = by_between (is_between t e.0 f.0) refl
      where
        by_between : (c : Bool) → is_between t e.0 f.0 ≡ c → (saved_of k t ≡ 0) ⊎ AreTwoIn (lines_on segs f) (first_of t) (second_of t)
        by_between true h = inr (on_two segs f t is (between_on e f t h))
        by_between false h = inl (ap (λ (m : Bool). cond (same_answer k (is_apart t)) (cond m (cond (is_changed xs ys t) (weight_of t) 0) 0) 0) h
            ∙ nothing (same_answer k (is_apart t)))
          where
            nothing : (c : Bool) → cond c (cond false (cond (is_changed xs ys t) (weight_of t) 0) 0) 0 ≡ 0
            nothing true = refl
            nothing false = refl

    kind_less : (k : Bool) → sum_by (extra_of k) terms ≤ sum_by (saved_of k) terms
    kind_less k =
        let left = by_pairs (extra_of k) (lines_on segs f) terms ok.once (each_weaker (IsTerm segs) (λ t. (extra_of k t ≡ 0) ⊎ AreTwoIn (lines_on segs f) (first_of t) (second_of t)) terms (extra_two k) all) in
        let right = by_pairs (saved_of k) (lines_on segs f) terms ok.once (each_weaker (IsTerm segs) (λ t. (saved_of k t ≡ 0) ⊎ AreTwoIn (lines_on segs f) (first_of t) (second_of t)) terms (saved_two k) all) in
        omega (arith, left, right, pairs_less (outweighs e f terms) (pair_sum (extra_of k) terms) (pair_sum (saved_of k) terms) (lines_on segs f) (pair_less k) fits)

    both_kinds : (S : Term → ℕ) (t : Term) → cond (same_answer true (is_apart t)) (S t) 0 + cond (same_answer false (is_apart t)) (S t) 0 ≡ S t
    both_kinds S t = by_kind (is_apart t)
      where
        by_kind : (c : Bool) → cond (same_answer true c) (S t) 0 + cond (same_answer false c) (S t) 0 ≡ S t
        by_kind true = omega arith
        by_kind false = omega arith

    all_kinds : (S : Term → ℕ) → sum_by (λ t. cond (same_answer true (is_apart t)) (S t) 0) terms + sum_by (λ t. cond (same_answer false (is_apart t)) (S t) 0) terms ≡ sum_by S terms
    all_kinds S =
        sym (sum_both (λ t. cond (same_answer true (is_apart t)) (S t) 0) (λ t. cond (same_answer false (is_apart t)) (S t) 0) terms)
        ∙ sum_same (λ t. cond (same_answer true (is_apart t)) (S t) 0 + cond (same_answer false (is_apart t)) (S t) 0) S terms (both_kinds S)

    -- the orders in which f has the order of e, or its reverse, cost no more
    pub shared_less : AllByRecursion (λ t. is_link_between e f t ≡ true → has_flip flip t ≡ true) terms → cost_of terms L ≤ cost_of terms q
    shared_less flips =
        let each = sum_less (λ t. term_cost L t + saved t) (λ t. term_cost q t + extra t) terms
        (each_weaker (λ t. IsTerm segs t × (is_link_between e f t ≡ true → has_flip flip t ≡ true)) (λ t. term_cost L t + saved t ≤ term_cost q t + extra t) terms
        (λ t h. term_more t h.0 h.1) (each_both (IsTerm segs) (λ t. is_link_between e f t ≡ true → has_flip flip t ≡ true) terms all flips)) in
        omega (
          arith,
          each,
          sum_both (term_cost L) saved terms,
          sum_both (term_cost q) extra terms,
          all_kinds saved,
          all_kinds extra,
          kind_less true,
          kind_less false,
        )
