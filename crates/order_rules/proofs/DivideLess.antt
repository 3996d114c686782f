-- Where a division applies, orders in which the group stands before the other lines cost no more.
use Rattle.std.proofs.Common.{◌≡◌, ◌≢◌, ℕ, ◌+◌, ◌<◌, ◌≤◌, ◌==◌, Bool, true, false, not, cond, ◌||◌, ◌&&◌, List, [], ◌∷◌, ◌++◌, length, refl, sym, ap, ◌∙◌, arith, inl, inr, ◌⊎◌, true≢false, eqb-true, eq-eqb, max}
use Rattle.std.specs.Prelude.{filter, slice_set}
use Rattle.std.specs.List.{AllByRecursion, Contains}
use Rattle.std.proofs.lemmas.Bool.{or_parts, eqb-false}
use Rattle.std.proofs.lemmas.Bool.Decides.{nat_tests}
use Rattle.std.proofs.lemmas.List.{get_or-set_same, get_or-set_other}
use Rattle.map_base.specs.declared.ids.SegId.{SegId}
use Rattle.map_base.specs.declared.ids.LineId.{LineId}
use Rattle.order_model.specs.declared.term.Term.{Term}
use Rattle.order_model.specs.declared.term.Term.TheVariants.{Side, Link, Apart}
use Rattle.order_model.specs.Problems.{lines_on, IsOn, IsTerm}
use Rattle.order_model.specs.Costs.{comes_before, are_these, are_neighbours, same_answer, weight_of, seg_of, other_of, cost_on, term_cost, cost_of}
use Rattle.order_model.specs.Places.{has_line}
use Rattle.order_model.proofs.Lines.{both_true, either_true, not_true, same_line}
use Rattle.order_model.proofs.PlaceLemmas.{AreOnce}
use Rattle.order_rules.specs.PairWeights.{is_side, is_apart, is_on, is_of_lines, weight_where, most_by, most_over_pairs}
use Rattle.order_rules.proofs.MergeCosts.{seg_is, same_comm}
use Rattle.order_rules.proofs.MergeLess.{at_most_more, neighbours_swapped, each_weaker, on_two}
use Rattle.order_rules.proofs.PairSums.{sum_both, sum_less, sum_none, first_of, second_of, AreTwoIn, of_lines, of_pair, pair_sum, by_pairs}
use Rattle.order_rules.proofs.GroupOrders.{before_front, before_back, before_out, neighbours_front, neighbours_back}
use Rattle.order_rules.proofs.Grouped.{has_filter, has_filtered, before_kept, neighbours_kept}
use Rattle.order_rules.proofs.NewNeighbours.{own, is_new, is_inverted, news_at_most, pairs_less_in}
use Rattle.order_rules.proofs.DivideCosts.{IsFree}

-- The greatest number of two lines.

max_left : (m n : ℕ) → m ≤ max m n
max_left m n = omega arith

max_right : (m n : ℕ) → n ≤ max m n
max_right m n = omega arith

row_most : (f : LineId → ℕ) (xs : List LineId) (b : LineId) → has_line xs b ≡ true → f b ≤ most_by f xs
row_most f [] b h = absurd (true≢false (sym h))
row_most f (x ∷ xs) b h = elim (either_true (x.0 == b.0) (has_line xs b) h) [
  | inl e ↦ (let same : f x ≡ f b = ap f (same_line x b e) in omega (arith, same, max_left (f x) (most_by f xs)))
  | inr later ↦ omega (arith, row_most f xs b later, max_right (f x) (most_by f xs))
]

pub pairs_most : (f : LineId → LineId → ℕ) (xs : List LineId) (a b : LineId) → ((c d : LineId) → f c d ≡ f d c) → has_line xs a ≡ true → has_line xs b ≡ true → a.0 ≢ b.0
    → f a b ≤ most_over_pairs f xs
pairs_most f [] a b sy ha hb n = absurd (true≢false (sym ha))
pairs_most f (x ∷ xs) a b sy ha hb n = by_both (either_true (x.0 == a.0) (has_line xs a) ha) (either_true (x.0 == b.0) (has_line xs b) hb) (λ i j. pairs_most f xs a b sy i j n)
  where
    by_both : ((x.0 == a.0) ≡ true) ⊎ (has_line xs a ≡ true) → ((x.0 == b.0) ≡ true) ⊎ (has_line xs b ≡ true)
        → (has_line xs a ≡ true → has_line xs b ≡ true → f a b ≤ most_over_pairs f xs) → f a b ≤ max (most_by (f x) xs) (most_over_pairs f xs)
    by_both (inl i) (inl j) rest = absurd (n (sym (eqb-true x.0 a.0 i) ∙ eqb-true x.0 b.0 j))
    by_both (inl i) (inr j) rest =
        let same : f x b ≡ f a b = ap (λ (l : LineId). f l b) (same_line x a i) in
        omega (arith, same, row_most (f x) xs b j, max_left (most_by (f x) xs) (most_over_pairs f xs))
    by_both (inr i) (inl j) rest =
        let same : f x a ≡ f b a = ap (λ (l : LineId). f l a) (same_line x b j) in
        omega (arith, same, sy a b, row_most (f x) xs a i, max_left (most_by (f x) xs) (most_over_pairs f xs))
    by_both (inr i) (inr j) rest = omega (arith, rest i j, max_right (most_by (f x) xs) (most_over_pairs f xs))

these_back : (x y a b : LineId) → are_these x y a b ≡ are_these x y b a
these_back x y a b = grind (arith, nat_tests)

pub of_swapped : (t : Term) (a b : LineId) → is_of_lines a b t ≡ is_of_lines b a t
of_swapped t a b = of_lines t a b ∙ (these_back (first_of t) (second_of t) a b ∙ sym (of_lines t b a))

-- Tests.

new_none : (m o : Bool) → (o ≡ true → m ≡ true) → (m && not o) ≡ false → m ≡ o
new_none true true h k = refl
new_none true false h k = absurd (true≢false k)
new_none false true h k = absurd (true≢false (sym (h refl)))
new_none false false h k = refl

answers_same : (x y : Bool) → x ≡ y → same_answer x y ≡ true
answers_same true y h = sym h
answers_same false y h = ap not (sym h)

-- the order with the group first
abbrev pub grouped : (LineId → Bool) → List LineId → List LineId
grouped g xs = filter g xs ++ filter (λ a. not (g a)) xs

module _ (g : LineId → Bool) (xs : List LineId) where
  not_of : (a : LineId) → g a ≡ true → not (g a) ≡ false
  not_of a h = ap not h

  of_not : (a : LineId) → g a ≡ false → not (g a) ≡ true
  of_not a h = ap not h

  -- two lines of one side stand in their order, and are neighbours where they are among their side's lines
  before_same : (c : Bool) (a b : LineId) → has_line xs a ≡ true → g a ≡ c → g b ≡ c → comes_before (grouped g xs) a b ≡ comes_before xs a b
  before_same true a b on ha hb =
      before_front (filter g xs) (filter (λ l. not (g l)) xs) a b (ap (λ (m : Bool). m || has_line (filter g xs) b) (has_filtered g xs a ha ∙ on))
      ∙ before_kept g xs a b ha hb
  before_same false a b on ha hb =
      before_back (filter g xs) (filter (λ l. not (g l)) xs) a b (has_filter g xs a ha) (has_filter g xs b hb)
      ∙ before_kept (λ l. not (g l)) xs a b (of_not a ha) (of_not b hb)

  beside_same : (c : Bool) (a b : LineId) → g a ≡ c → g b ≡ c → are_neighbours (grouped g xs) a b ≡ are_neighbours (filter (own g 0 c) xs) a b
  beside_same true a b ha hb =
      neighbours_front (filter g xs) (filter (λ l. not (g l)) xs) a b (has_filter (λ l. not (g l)) xs a (not_of a ha)) (has_filter (λ l. not (g l)) xs b (not_of b hb))
  beside_same false a b ha hb = neighbours_back (filter g xs) (filter (λ l. not (g l)) xs) a b (has_filter g xs a ha) (has_filter g xs b hb)

  kept_same : (c : Bool) (a b : LineId) → g a ≡ c → g b ≡ c → are_neighbours xs a b ≡ true → are_neighbours (filter (own g 0 c) xs) a b ≡ true
  kept_same true a b ha hb h = neighbours_kept g xs a b ha hb h
  kept_same false a b ha hb h = neighbours_kept (λ l. not (g l)) xs a b (of_not a ha) (of_not b hb) h

  -- a line of the group stands before one of the rest
  before_across : (a b : LineId) → has_line xs a ≡ true → g a ≡ true → g b ≡ false → comes_before (grouped g xs) b a ≡ false
  before_across a b on ha hb =
      let first_in : has_line (filter g xs) a ≡ true = has_filtered g xs a ha ∙ on in
      let second_out : has_line (filter g xs) b ≡ false = has_filter g xs b hb in
      before_front (filter g xs) (filter (λ l. not (g l)) xs) b a (ap (λ (m : Bool). m || has_line (filter g xs) a) second_out ∙ first_in)
      ∙ before_out (filter g xs) b a second_out

  -- two lines of one side that are no new neighbours are neighbours as before
  beside_old : (T : ℕ) (a b : LineId) → g b ≡ g a → is_new g T xs a b ≡ false → are_neighbours (grouped g xs) a b ≡ are_neighbours xs a b
  beside_old T a b same h =
      let alike : same_answer (g a) (g b) ≡ true = answers_same (g a) (g b) (sym same) in
      let rest : (are_neighbours (filter (own g T (g a)) xs) a b && not (are_neighbours xs a b)) ≡ false =
      ap (λ (m : Bool). m && (are_neighbours (filter (own g T (g a)) xs) a b && not (are_neighbours xs a b))) (sym alike) ∙ h in
      beside_same (g a) a b refl same
      ∙ new_none (are_neighbours (filter (own g T (g a)) xs) a b) (are_neighbours xs a b) (kept_same (g a) a b refl same) rest

  new_swapped : (T : ℕ) (a b : LineId) → is_new g T xs b a ≡ is_new g T xs a b
  new_swapped T a b = by_same (same_answer (g b) (g a)) refl
    where
      by_same : (c : Bool) → same_answer (g b) (g a) ≡ c → is_new g T xs b a ≡ is_new g T xs a b
      by_same true h =
          let one : g a ≡ g b = is_one (g b) (g a) h in
          ap (λ (m : Bool). m && (are_neighbours (filter (own g T (g b)) xs) b a && not (are_neighbours xs b a))) (same_comm (g b) (g a))
          ∙ (ap (λ (m : Bool). same_answer (g a) (g b) && (are_neighbours (filter (own g T m) xs) b a && not (are_neighbours xs b a))) (sym one)
          ∙ (ap (λ (m : Bool). same_answer (g a) (g b) && (m && not (are_neighbours xs b a))) (neighbours_swapped (filter (own g T (g a)) xs) a b)
          ∙ ap (λ (m : Bool). same_answer (g a) (g b) && (are_neighbours (filter (own g T (g a)) xs) a b && not m)) (neighbours_swapped xs a b)))
        where
          is_one : (x y : Bool) → same_answer x y ≡ true → y ≡ x
          is_one true y k = k
          is_one false true k = absurd (true≢false (sym k))
          is_one false false k = refl
      by_same false h =
          let other : same_answer (g a) (g b) ≡ false = same_comm (g a) (g b) ∙ h in
          ap (λ (m : Bool). m && (are_neighbours (filter (own g T (g b)) xs) b a && not (are_neighbours xs b a))) h
          ∙ sym (ap (λ (m : Bool). m && (are_neighbours (filter (own g T (g a)) xs) a b && not (are_neighbours xs a b))) other)

no_change : (of k change : Bool) (w : ℕ) → (of ≡ true → change ≡ false) → cond of (cond k (cond change w 0) 0) 0 ≤ 0
no_change false k change w h = omega arith
no_change true false change w h = omega arith
no_change true true true w h = absurd (true≢false (h refl))
no_change true true false w h = omega arith

weight_more : (of k change : Bool) (w : ℕ) → cond of (cond k (cond change w 0) 0) 0 ≤ cond (k && of) w 0
weight_more false k change w = omega arith
weight_more true false change w = omega arith
weight_more true true true w = omega arith
weight_more true true false w = omega arith

weight_saved : (k one of change : Bool) (w : ℕ) → one ≡ of → (k ≡ true → of ≡ true → change ≡ true) → cond (k && one) w 0 ≤ cond of (cond k (cond change w 0) 0) 0
weight_saved false one of change w e h = omega arith
weight_saved true false of change w e h = omega arith
weight_saved true true false change w e h = absurd (true≢false e)
weight_saved true true true true w e h = omega arith
weight_saved true true true false w e h = absurd (true≢false (sym (h refl refl)))

-- orders of the problem, whose list for e has the lines of the group and of the rest
pub record AreSplit (segs q : List (List LineId)) (e : SegId) (group rest : List LineId) : Type 0 where
  pub known : e.0 < length q
  pub once : AreOnce (lines_on q e)
  pub on : (a : LineId) → IsOn segs e a → has_line (lines_on q e) a ≡ true
  pub contains : (a : LineId) → IsOn segs e a → Contains (lines_on q e) a
  pub outside : (a : LineId) → IsOn segs e a → has_line group a ≡ false → has_line rest a ≡ true

module _ (segs q : List (List LineId)) (e : SegId) (group rest : List LineId) (T : ℕ) (ok : AreSplit segs q e group rest) where
  abbrev g : LineId → Bool
  g a = has_line group a

  abbrev xs : List LineId
  xs = lines_on q e

  abbrev pub L : List (List LineId)
  L = slice_set q e.0 (grouped g xs)

  at_e : (s : SegId) → (s.0 == e.0) ≡ true → lines_on L s ≡ grouped g xs
  at_e s h = ap (lines_on L) (seg_is s e h) ∙ get_or-set_same q e.0 (grouped g xs) [] ok.known

  at_other : (s : SegId) → (s.0 == e.0) ≡ false → lines_on L s ≡ lines_on q s
  at_other s h = get_or-set_other q e.0 s.0 (grouped g xs) [] (eqb-false s.0 e.0 h)

  look_before : (a b : LineId) (s : SegId) → has_line xs a ≡ true → g b ≡ g a → comes_before (lines_on L s) a b ≡ comes_before (lines_on q s) a b
  look_before a b s on same = by_test (s.0 == e.0) refl
    where
      by_test : (c : Bool) → (s.0 == e.0) ≡ c → comes_before (lines_on L s) a b ≡ comes_before (lines_on q s) a b
      by_test true h =
          let now : lines_on L s ≡ grouped g xs = at_e s h in
          let was : lines_on q s ≡ xs = ap (lines_on q) (seg_is s e h) in
          ap (λ (zs : List LineId). comes_before zs a b) now ∙ (before_same g xs (g a) a b on refl same ∙ ap (λ (zs : List LineId). comes_before zs a b) (sym was))
      by_test false h = ap (λ (zs : List LineId). comes_before zs a b) (at_other s h)

  look_beside : (a b : LineId) (s : SegId) → g b ≡ g a → is_new g T xs a b ≡ false → are_neighbours (lines_on L s) a b ≡ are_neighbours (lines_on q s) a b
  look_beside a b s same old = by_test (s.0 == e.0) refl
    where
      by_test : (c : Bool) → (s.0 == e.0) ≡ c → are_neighbours (lines_on L s) a b ≡ are_neighbours (lines_on q s) a b
      by_test true h =
          let now : lines_on L s ≡ grouped g xs = at_e s h in
          let was : lines_on q s ≡ xs = ap (lines_on q) (seg_is s e h) in
          ap (λ (zs : List LineId). are_neighbours zs a b) now ∙ (beside_old g xs T a b same old ∙ ap (λ (zs : List LineId). are_neighbours zs a b) (sym was))
      by_test false h = ap (λ (zs : List LineId). are_neighbours zs a b) (at_other s h)

  off_same : (t : Term) → is_on e t ≡ false → term_cost L t ≡ term_cost q t
  off_same t h =
      let parts = or_parts ((seg_of t).0 == e.0) ((other_of t).0 == e.0) h in
      ap (λ (zs : List LineId). cost_on zs (lines_on L (other_of t)) t) (at_other (seg_of t) parts.0)
      ∙ ap (λ (zs : List LineId). cost_on (lines_on q (seg_of t)) zs t) (at_other (other_of t) parts.1)

  -- what a term may cost more, and what it saves
  abbrev extra : Term → ℕ
  extra t = cond (is_apart t && is_on e t) (cond (is_new g T xs (first_of t) (second_of t)) (weight_of t) 0) 0

  abbrev saved : Term → ℕ
  saved t = cond (is_side t && is_on e t) (cond (g (first_of t) && (not (g (second_of t)) && comes_before xs (second_of t) (first_of t))) (weight_of t) 0) 0

  these_self : (x y : LineId) → are_these x y x y ≡ true
  these_self x y = let i : (x.0 == x.0) ≡ true = eq-eqb x.0 x.0 refl in let j : (y.0 == y.0) ≡ true = eq-eqb y.0 y.0 refl in rw (i, j) refl

  -- the two lines of a Link or an Apart are of one side
  one_side : (on : Bool) (a b : LineId) → on ≡ true → IsOn segs e a → IsOn segs e b
      → ((x y : LineId) → has_line group x ≡ true → has_line rest y ≡ true → (on && are_these a b x y) ≡ false) → g b ≡ g a
  one_side on a b is a_on b_on free = by_sides (g a) (g b) refl refl
    where
      by_sides : (c d : Bool) → g a ≡ c → g b ≡ d → d ≡ c
      by_sides true true h k = refl
      by_sides false false h k = refl
      by_sides true false h k = absurd (true≢false (sym (ap (λ (m : Bool). m && are_these a b a b) is ∙ these_self a b) ∙ free a b h (ok.outside b b_on k)))
      by_sides false true h k = absurd (true≢false (sym (ap (λ (m : Bool). m && are_these a b b a) is ∙ (sym (these_back a b a b) ∙ these_self a b)) ∙ free b a k (ok.outside a a_on h)))

  side_more : (seg : SegId) (first second : LineId) (w : ℕ) → IsTerm segs (Side seg first second w) → IsFree e group rest (Side seg first second w)
      → term_cost L (Side seg first second w) + saved (Side seg first second w) ≤ term_cost q (Side seg first second w) + extra (Side seg first second w)
  side_more seg first second w t free = by_on (is_on e (Side seg first second w)) refl
    where
      there : Term
      there = Side seg first second w

      by_sides : (c d : Bool) → g first ≡ c → g second ≡ d → (seg.0 == e.0) ≡ true → IsOn segs e first → IsOn segs e second
          → term_cost L (Side seg first second w) + cond (c && (not d && comes_before xs second first)) w 0 ≤ term_cost q (Side seg first second w) + 0
      by_sides true true h k here x y =
          let same : comes_before (lines_on L seg) second first ≡ comes_before (lines_on q seg) second first = look_before second first seg (ok.on second y) (h ∙ sym k) in
          omega (arith, ap (λ (m : Bool). cond m w 0) same)
      by_sides false false h k here x y =
          let same : comes_before (lines_on L seg) second first ≡ comes_before (lines_on q seg) second first = look_before second first seg (ok.on second y) (h ∙ sym k) in
          omega (arith, ap (λ (m : Bool). cond m w 0) same)
      by_sides true false h k here x y =
          let none : comes_before (lines_on L seg) second first ≡ false = ap (λ (zs : List LineId). comes_before zs second first) (at_e seg here) ∙ before_across g xs first second (ok.on first x) h k in
          let was : comes_before (lines_on q seg) second first ≡ comes_before xs second first = ap (λ (s : SegId). comes_before (lines_on q s) second first) (seg_is seg e here) in
          omega (arith, ap (λ (m : Bool). cond m w 0) none, ap (λ (m : Bool). cond m w 0) was)
      by_sides false true h k here x y =
          let against = free second first k (ok.outside first x h) in
          let i : (first.0 == first.0) ≡ true = eq-eqb first.0 first.0 refl in
          let j : (second.0 == second.0) ≡ true = eq-eqb second.0 second.0 refl in
          absurd (true≢false (sym (rw (here, i, j) refl) ∙ against))

      by_on : (c : Bool) → is_on e (Side seg first second w) ≡ c
          → term_cost L (Side seg first second w) + cond c (cond (g first && (not (g second) && comes_before xs second first)) w 0) 0 ≤ term_cost q (Side seg first second w) + 0
      by_on true on =
          let two = on_two segs e (Side seg first second w) t on in
          let here : (seg.0 == e.0) ≡ true = elim (either_true (seg.0 == e.0) (seg.0 == e.0) on) [ inl k ↦ k | inr k ↦ k ] in
          by_sides (g first) (g second) refl refl here two.x_on two.y_on
      by_on false on = omega (arith, off_same (Side seg first second w) on)

  link_same : (seg other : SegId) (turns : Bool) (a b : LineId) (w : ℕ) → IsTerm segs (Link seg other turns a b w) → IsFree e group rest (Link seg other turns a b w)
      → term_cost L (Link seg other turns a b w) ≡ term_cost q (Link seg other turns a b w)
  link_same seg other turns a b w t free = by_on (is_on e (Link seg other turns a b w)) refl
    where
      by_on : (c : Bool) → is_on e (Link seg other turns a b w) ≡ c → term_cost L (Link seg other turns a b w) ≡ term_cost q (Link seg other turns a b w)
      by_on true on =
          let two = on_two segs e (Link seg other turns a b w) t on in
          let same : g b ≡ g a = one_side (seg.0 == e.0 || other.0 == e.0) a b on two.x_on two.y_on free in
          ap (λ (m : Bool). cond (same_answer turns (same_answer m (comes_before (lines_on L other) a b))) w 0) (look_before a b seg (ok.on a two.x_on) same)
          ∙ ap (λ (m : Bool). cond (same_answer turns (same_answer (comes_before (lines_on q seg) a b) m)) w 0) (look_before a b other (ok.on a two.x_on) same)
      by_on false on = off_same (Link seg other turns a b w) on

  apart_more : (seg other : SegId) (a b : LineId) (w : ℕ) → IsTerm segs (Apart seg other a b w) → IsFree e group rest (Apart seg other a b w)
      → term_cost L (Apart seg other a b w) ≤ term_cost q (Apart seg other a b w) + extra (Apart seg other a b w)
  apart_more seg other a b w t free = by_on (is_on e (Apart seg other a b w)) refl
    where
      by_on : (c : Bool) → is_on e (Apart seg other a b w) ≡ c
          → term_cost L (Apart seg other a b w) ≤ term_cost q (Apart seg other a b w) + cond c (cond (is_new g T xs a b) w 0) 0
      by_on true on =
          let two = on_two segs e (Apart seg other a b w) t on in
          let same : g b ≡ g a = one_side (seg.0 == e.0 || other.0 == e.0) a b on two.x_on two.y_on free in
          at_most_more (not (same_answer (are_neighbours (lines_on L seg) a b) (are_neighbours (lines_on L other) a b)))
          (not (same_answer (are_neighbours (lines_on q seg) a b) (are_neighbours (lines_on q other) a b))) (is_new g T xs a b) w
          (λ d. ap (λ (m : Bool). not (same_answer m (are_neighbours (lines_on L other) a b))) (look_beside a b seg same d)
          ∙ ap (λ (m : Bool). not (same_answer (are_neighbours (lines_on q seg) a b) m)) (look_beside a b other same d))
      by_on false on = omega (arith, off_same (Apart seg other a b w) on)

  pub term_more : (t : Term) → IsTerm segs t → IsFree e group rest t → term_cost L t + saved t ≤ term_cost q t + extra t
  term_more (Side seg first second w) t free = side_more seg first second w t free
  term_more (Link seg other turns a b w) t free = omega (arith, link_same seg other turns a b w t free)
  term_more (Apart seg other a b w) t free = omega (arith, apart_more seg other a b w t free)

  -- Pair by pair.

  new_is : (t : Term) (a b : LineId) → is_of_lines a b t ≡ true → is_new g T xs (first_of t) (second_of t) ≡ is_new g T xs a b
  new_is t a b of =
      let x : LineId = first_of t in
      let y : LineId = second_of t in
      elim (either_true (x.0 == a.0 && y.0 == b.0) (x.0 == b.0 && y.0 == a.0) (sym (of_lines t a b) ∙ of)) [
        | inl k ↦ (let parts = both_true (x.0 == a.0) (y.0 == b.0) k in
            ap (λ (l : LineId). is_new g T xs l y) (same_line x a parts.0) ∙ ap (λ (l : LineId). is_new g T xs a l) (same_line y b parts.1))
        | inr k ↦ (let parts = both_true (x.0 == b.0) (y.0 == a.0) k in
            ap (λ (l : LineId). is_new g T xs l y) (same_line x b parts.0)
            ∙ (ap (λ (l : LineId). is_new g T xs b l) (same_line y a parts.1) ∙ new_swapped g xs T a b))
      ]

  inverted_is : (t : Term) (a b : LineId) → IsTerm segs t → IsFree e group rest t → (is_side t && is_on e t) ≡ true → is_of_lines a b t ≡ true
      → g a ≡ false → g b ≡ true → comes_before xs a b ≡ true
      → (g (first_of t) && (not (g (second_of t)) && comes_before xs (second_of t) (first_of t))) ≡ true
  inverted_is (Side seg first second w) a b t free k of ga gb before =
      let two = on_two segs e (Side seg first second w) t k in
      let here : (seg.0 == e.0) ≡ true = elim (either_true (seg.0 == e.0) (seg.0 == e.0) k) [ inl m ↦ m | inr m ↦ m ] in
      elim (either_true (first.0 == a.0 && second.0 == b.0) (first.0 == b.0 && second.0 == a.0) of) [
        | inl m ↦ (let parts = both_true (first.0 == a.0) (second.0 == b.0) m in
            let gf : g first ≡ false = ap (λ (l : LineId). has_line group l) (same_line first a parts.0) ∙ ga in
            let gs : g second ≡ true = ap (λ (l : LineId). has_line group l) (same_line second b parts.1) ∙ gb in
            let against = free second first gs (ok.outside first two.x_on gf) in
            let i : (first.0 == first.0) ≡ true = eq-eqb first.0 first.0 refl in
            let j : (second.0 == second.0) ≡ true = eq-eqb second.0 second.0 refl in
            absurd (true≢false (sym (rw (here, i, j) refl) ∙ against)))
        | inr m ↦ (let parts = both_true (first.0 == b.0) (second.0 == a.0) m in
            let gf : g first ≡ true = ap (λ (l : LineId). has_line group l) (same_line first b parts.0) ∙ gb in
            let gs : g second ≡ false = ap (λ (l : LineId). has_line group l) (same_line second a parts.1) ∙ ga in
            let bf : comes_before xs second first ≡ true = ap (λ (l : LineId). comes_before xs l first) (same_line second a parts.1) ∙ (ap (comes_before xs a) (same_line first b parts.0) ∙ before) in
            ap (λ (m : Bool). m && (not (g second) && comes_before xs second first)) gf ∙ (ap (λ (m : Bool). not m && comes_before xs second first) gs ∙ bf))
      ]
  inverted_is (Link seg other turns x y w) a b t free k of ga gb before = absurd (true≢false (sym k))
  inverted_is (Apart seg other x y w) a b t free k of ga gb before = absurd (true≢false (sym k))

  module _ (terms : List Term) (all : AllByRecursion (λ t. IsTerm segs t × IsFree e group rest t) terms)
      (most : (a b : LineId) → has_line xs a ≡ true → has_line xs b ≡ true → weight_where (λ t. is_apart t && is_on e t && is_of_lines a b t) terms ≤ T)
      (sides : (a b : LineId) → g a ≡ true → has_line xs a ≡ true → g b ≡ false → has_line xs b ≡ true
      → T + T ≤ weight_where (λ t. is_side t && is_on e t && is_of_lines a b t) terms) where
    pair_extra : (a b : LineId) → has_line xs a ≡ true → has_line xs b ≡ true → pair_sum extra terms a b ≤ cond (is_new g T xs a b) T 0
    pair_extra a b ha hb = by_new (is_new g T xs a b) refl
      where
        by_new : (c : Bool) → is_new g T xs a b ≡ c → pair_sum extra terms a b ≤ cond c T 0
        by_new true h =
            let less = sum_less (of_pair extra a b) (λ t. cond (is_apart t && is_on e t && is_of_lines a b t) (weight_of t) 0) terms
            (each_weaker (λ t. IsTerm segs t × IsFree e group rest t) (λ t. of_pair extra a b t ≤ cond (is_apart t && is_on e t && is_of_lines a b t) (weight_of t) 0) terms
            (λ t is. weight_more (is_of_lines a b t) (is_apart t && is_on e t) (is_new g T xs (first_of t) (second_of t)) (weight_of t)) all) in
            omega (arith, less, most a b ha hb)
        by_new false h =
            let less = sum_less (of_pair extra a b) (λ t. 0) terms
            (each_weaker (λ t. IsTerm segs t × IsFree e group rest t) (λ t. of_pair extra a b t ≤ 0) terms
            (λ t is. no_change (is_of_lines a b t) (is_apart t && is_on e t) (is_new g T xs (first_of t) (second_of t)) (weight_of t) (λ of. new_is t a b of ∙ h)) all) in
            omega (arith, less, sum_none {A = Term} (λ t. 0) terms (λ t. refl))

    pair_saved : (a b : LineId) → has_line xs a ≡ true → has_line xs b ≡ true → cond (is_inverted g T xs a b) (T + T) 0 ≤ pair_sum saved terms a b
    pair_saved a b ha hb = by_inverted (is_inverted g T xs a b) refl
      where
        by_inverted : (c : Bool) → is_inverted g T xs a b ≡ c → cond c (T + T) 0 ≤ pair_sum saved terms a b
        by_inverted false h = omega arith
        by_inverted true h =
            let parts = both_true (comes_before xs a b) (not (g a) && g b) h in
            let ends = both_true (not (g a)) (g b) parts.1 in
            let ga : g a ≡ false = not_true (g a) ends.0 in
            let less = sum_less (λ t. cond (is_side t && is_on e t && is_of_lines b a t) (weight_of t) 0) (of_pair saved a b) terms
            (each_weaker (λ t. IsTerm segs t × IsFree e group rest t) (λ t. cond (is_side t && is_on e t && is_of_lines b a t) (weight_of t) 0 ≤ of_pair saved a b t) terms
            (λ t is. weight_saved (is_side t && is_on e t) (is_of_lines b a t) (is_of_lines a b t)
            (g (first_of t) && (not (g (second_of t)) && comes_before xs (second_of t) (first_of t))) (weight_of t) (of_swapped t b a)
            (λ k of. inverted_is t a b is.0 is.1 k of ga ends.1 parts.0)) all) in
            omega (arith, less, sides b a ends.1 hb ga ha)

    two_on : (t : Term) → IsTerm segs t → is_on e t ≡ true → AreTwoIn xs (first_of t) (second_of t)
    two_on t is h =
        let two = on_two segs e t is h in
        record { differ = two.differ; x_on = ok.contains (first_of t) two.x_on; y_on = ok.contains (second_of t) two.y_on }

    off_none : (k on : Bool) (n : ℕ) → on ≡ false → cond (k && on) n 0 ≡ 0
    off_none true on n h = ap (λ (m : Bool). cond m n 0) h
    off_none false on n h = refl

    two_or_none : (k : Term → Bool) (n : Term → ℕ) (t : Term) → IsTerm segs t → (cond (k t && is_on e t) (n t) 0 ≡ 0) ⊎ AreTwoIn xs (first_of t) (second_of t)
    two_or_none k n t is = by_on (is_on e t) refl
      where
        by_on : (c : Bool) → is_on e t ≡ c → (cond (k t && is_on e t) (n t) 0 ≡ 0) ⊎ AreTwoIn xs (first_of t) (second_of t)
        by_on true h = inr (two_on t is h)
        by_on false h = inl (off_none (k t) (is_on e t) (n t) h)

    -- the orders in which the group stands first cost no more
    pub grouped_less : cost_of terms L ≤ cost_of terms q
    grouped_less =
        let each = sum_less (λ t. term_cost L t + saved t) (λ t. term_cost q t + extra t) terms
        (each_weaker (λ t. IsTerm segs t × IsFree e group rest t) (λ t. term_cost L t + saved t ≤ term_cost q t + extra t) terms (λ t h. term_more t h.0 h.1) all) in
        let extras = by_pairs extra xs terms ok.once (each_weaker (λ t. IsTerm segs t × IsFree e group rest t) (λ t. (extra t ≡ 0) ⊎ AreTwoIn xs (first_of t) (second_of t)) terms
        (λ t h. two_or_none is_apart (λ t. cond (is_new g T xs (first_of t) (second_of t)) (weight_of t) 0) t h.0) all) in
        let saves = by_pairs saved xs terms ok.once (each_weaker (λ t. IsTerm segs t × IsFree e group rest t) (λ t. (saved t ≡ 0) ⊎ AreTwoIn xs (first_of t) (second_of t)) terms
        (λ t h. two_or_none is_side (λ t. cond (g (first_of t) && (not (g (second_of t)) && comes_before xs (second_of t) (first_of t))) (weight_of t) 0) t h.0) all) in
        let less = pairs_less_in (pair_sum extra terms) (λ a b. cond (is_new g T xs a b) T 0) xs pair_extra in
        let more = pairs_less_in (λ a b. cond (is_inverted g T xs a b) (T + T) 0) (pair_sum saved terms) xs pair_saved in
        omega (arith, each, sum_both (term_cost L) saved terms, sum_both (term_cost q) extra terms, extras, saves, less, more, news_at_most g T xs ok.once)
