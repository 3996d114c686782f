-- What a term costs where a segment has the order of a group of its lines and then that of the others.
use Rattle.std.proofs.Common.{◌≡◌, suc, ◌<◌, ◌==◌, Bool, true, false, not, cond, ◌||◌, ◌&&◌, List, [], ◌∷◌, ◌++◌, length, take, map, refl, sym, ap, ◌∙◌, arith, inl, inr, ◌⊎◌, true≢false, eq-eqb}
use Rattle.std.specs.Prelude.{slice_set, filter}
use Rattle.std.specs.List.{All, AllByRecursion}
use Rattle.std.proofs.lemmas.Bool.{or_parts, eqb-false}
use Rattle.std.proofs.lemmas.List.{get_or-set_same, get_or-set_other, get_or-take, length-take}
use Rattle.std.proofs.lemmas.List.Elements.{All-head, All-tail}
use Rattle.std.proofs.lemmas.List.Sums.{sum_by-cons}
use Rattle.map_base.specs.declared.ids.SegId.{SegId}
use Rattle.map_base.specs.declared.ids.LineId.{LineId}
use Rattle.order_model.specs.declared.term.Term.{Term}
use Rattle.order_model.specs.declared.term.Term.TheVariants.{Side, Link, Apart}
use Rattle.order_model.specs.Problems.{lines_on, IsOn, IsTerm}
use Rattle.order_model.specs.Costs.{are_these, seg_of, other_of, cost_on, term_cost, cost_of}
use Rattle.order_model.specs.Places.{has_line}
use Rattle.order_model.proofs.Lines.{both_true, either_true}
use Rattle.order_rules.specs.PairWeights.{is_on}
use Rattle.order_rules.specs.Merging.{renamed}
use Rattle.order_rules.specs.Dividing.{is_against, is_with, is_across, renumbered, sent}
use Rattle.order_rules.proofs.PairSums.{first_of, second_of}
use Rattle.order_rules.proofs.MergeCosts.{turned_cost, seg_is}
use Rattle.order_rules.proofs.MergeLess.{on_two}
use Rattle.order_rules.proofs.GroupOrders.{before_front, before_out, AreAlike, alike_same, alike_front, alike_back, alike_cost}

-- a line is of the group alone, or of the rest alone
abbrev pub IsOfOne : List LineId → List LineId → LineId → Type 0
IsOfOne group rest a = ((has_line group a ≡ true) × (has_line rest a ≡ false)) ⊎ ((has_line group a ≡ false) × (has_line rest a ≡ true))

abbrev pub new_seg : List (List LineId) → SegId
new_seg segs = record { 0 = length segs }

-- orders of the segments after a division
pub record AreDivided (segs q : List (List LineId)) (e : SegId) (group rest : List LineId) : Type 0 where
  pub known : e.0 < length segs
  pub each : length q ≡ suc (length segs)
  pub covers : (a : LineId) → IsOn segs e a → IsOfOne group rest a
  pub group_order : (a : LineId) → has_line (lines_on q e) a ≡ has_line group a
  pub rest_order : (a : LineId) → has_line (lines_on q (new_seg segs)) a ≡ has_line rest a

-- the orders in which the segment has both orders, and the new one is gone
abbrev pub joined : List (List LineId) → List (List LineId) → SegId → List (List LineId)
joined segs q e = slice_set (take (length segs) q) e.0 (lines_on q e ++ lines_on q (new_seg segs))

with_is : (lines : List LineId) (t : Term) → is_with lines t ≡ (has_line lines (first_of t) || has_line lines (second_of t))
with_is lines (Side seg first second w) = refl
with_is lines (Link seg other flip a b w) = refl
with_is lines (Apart seg other a b w) = refl

pub seg_below : (segs : List (List LineId)) (t : Term) → IsTerm segs t → (seg_of t).0 < length segs
seg_below segs (Side seg first second w) t = t.seg_known
seg_below segs (Link seg other flip a b w) t = omega (arith, t.seg_below, t.other_known)
seg_below segs (Apart seg other a b w) t = omega (arith, t.seg_below, t.other_known)

pub other_below : (segs : List (List LineId)) (t : Term) → IsTerm segs t → (other_of t).0 < length segs
other_below segs (Side seg first second w) t = t.seg_known
other_below segs (Link seg other flip a b w) t = t.other_known
other_below segs (Apart seg other a b w) t = t.other_known

renumbered_cost : (q : List (List LineId)) (e new : SegId) (t : Term)
    → cost_on (lines_on q (renamed new e (seg_of t))) (lines_on q (renamed new e (other_of t))) t ≡ term_cost q (renumbered e new t)
renumbered_cost q e new (Side seg first second w) = refl
renumbered_cost q e new (Link seg other flip a b w) = sym (turned_cost q (Link (renamed new e seg) (renamed new e other) flip a b w))
renumbered_cost q e new (Apart seg other a b w) = sym (turned_cost q (Apart (renamed new e seg) (renamed new e other) a b w))

these_true : (x y : LineId) → are_these x y x y ≡ true
these_true x y = let i : (x.0 == x.0) ≡ true = eq-eqb x.0 x.0 refl in let j : (y.0 == y.0) ≡ true = eq-eqb y.0 y.0 refl in rw (i, j) refl

these_turned : (x y : LineId) → are_these x y y x ≡ true
these_turned x y = let i : (x.0 == x.0) ≡ true = eq-eqb x.0 x.0 refl in let j : (y.0 == y.0) ≡ true = eq-eqb y.0 y.0 refl in rw (i, j) (or_last (x.0 == y.0 && y.0 == x.0))
  where
    or_last : (c : Bool) → (c || true) ≡ true
    or_last true = refl
    or_last false = refl

-- nothing speaks against the group's lines before the others
abbrev pub IsFree : SegId → List LineId → List LineId → Term → Type 0
IsFree e group rest t = (a b : LineId) → has_line group a ≡ true → has_line rest b ≡ true → is_against e a b t ≡ false

-- a Link or an Apart across speaks against
pub tied : (group rest : List LineId) (on : Bool) (x y : LineId) → on ≡ true → IsOfOne group rest x → IsOfOne group rest y
    → (has_line group x || has_line group y) ≡ true → (has_line rest x || has_line rest y) ≡ true
    → ((a b : LineId) → has_line group a ≡ true → has_line rest b ≡ true → (on && are_these x y a b) ≡ false) → ⊥
tied group rest on x y is (inl hx) (inl hy) hg hr free = true≢false (sym hr ∙ (ap (λ (m : Bool). m || has_line rest y) hx.1 ∙ hy.1))
tied group rest on x y is (inr hx) (inr hy) hg hr free = true≢false (sym hg ∙ (ap (λ (m : Bool). m || has_line group y) hx.0 ∙ hy.0))
tied group rest on x y is (inl hx) (inr hy) hg hr free = true≢false (sym (ap (λ (m : Bool). m && are_these x y x y) is ∙ these_true x y) ∙ free x y hx.0 hy.1)
tied group rest on x y is (inr hx) (inl hy) hg hr free = true≢false (sym (ap (λ (m : Bool). m && are_these x y y x) is ∙ these_turned x y) ∙ free y x hy.0 hx.1)

module _ (segs q : List (List LineId)) (e : SegId) (group rest : List LineId) (ok : AreDivided segs q e group rest) where
  abbrev L : List (List LineId)
  L = joined segs q e

  abbrev g : List LineId
  g = lines_on q e

  abbrev r : List LineId
  r = lines_on q (new_seg segs)

  at_e : (s : SegId) → (s.0 == e.0) ≡ true → lines_on L s ≡ g ++ r
  at_e s h =
      ap (lines_on L) (seg_is s e h)
      ∙ get_or-set_same (take (length segs) q) e.0 (g ++ r) [] (omega (arith, length-take (length segs) q, ok.each, ok.known))

  at_other : (s : SegId) → s.0 < length segs → (s.0 == e.0) ≡ false → lines_on L s ≡ lines_on q s
  at_other s below h = get_or-set_other (take (length segs) q) e.0 s.0 (g ++ r) [] (eqb-false s.0 e.0 h) ∙ get_or-take (length segs) q s.0 [] below

  -- Lines of the group.

  look_front : (x y : LineId) (s : SegId) → s.0 < length segs → (has_line group x ≡ true) × (has_line rest x ≡ false) → (has_line group y ≡ true) × (has_line rest y ≡ false)
      → AreAlike (lines_on L s) (lines_on q s) x y
  look_front x y s below hx hy = by_test (s.0 == e.0) refl
    where
      by_test : (c : Bool) → (s.0 == e.0) ≡ c → AreAlike (lines_on L s) (lines_on q s) x y
      by_test true h =
          let now : lines_on L s ≡ g ++ r = at_e s h in
          let was : lines_on q s ≡ g = ap (lines_on q) (seg_is s e h) in
          rw (now, was)
          (alike_front g r x y (ok.group_order x ∙ hx.0) (ok.rest_order x ∙ hx.1) (ok.rest_order y ∙ hy.1) (ok.group_order y ∙ hy.0))
      by_test false h = let now : lines_on L s ≡ lines_on q s = at_other s below h in rw now (alike_same (lines_on q s) x y)

  -- Lines of the rest.

  look_back : (x y : LineId) (s : SegId) → s.0 < length segs → has_line group x ≡ false → has_line group y ≡ false
      → AreAlike (lines_on L s) (lines_on q (renamed (new_seg segs) e s)) x y
  look_back x y s below hx hy = by_test (s.0 == e.0) refl
    where
      by_test : (c : Bool) → (s.0 == e.0) ≡ c → AreAlike (lines_on L s) (lines_on q (cond c (new_seg segs) s)) x y
      by_test true h =
          let now : lines_on L s ≡ g ++ r = at_e s h in
          rw now (alike_back g r x y (ok.group_order x ∙ hx) (ok.group_order y ∙ hy))
      by_test false h = let now : lines_on L s ≡ lines_on q s = at_other s below h in rw now (alike_same (lines_on q s) x y)

  of_one : (t : Term) → IsTerm segs t → is_on e t ≡ true → IsOfOne group rest (first_of t) × IsOfOne group rest (second_of t)
  of_one t is on = let two = on_two segs e t is on in (ok.covers (first_of t) two.x_on, ok.covers (second_of t) two.y_on)

  kept_cost : (t : Term) → IsTerm segs t → is_on e t ≡ true → is_with rest t ≡ false → term_cost L t ≡ term_cost q t
  kept_cost t is on h =
      let x : LineId = first_of t in
      let y : LineId = second_of t in
      let out = or_parts (has_line rest x) (has_line rest y) (sym (with_is rest t) ∙ h) in
      let ones = of_one t is on in
      let hx = in_group x ones.0 out.0 in
      let hy = in_group y ones.1 out.1 in
      alike_cost t (lines_on L (seg_of t)) (lines_on L (other_of t)) (lines_on q (seg_of t)) (lines_on q (other_of t))
      (look_front x y (seg_of t) (seg_below segs t is) hx hy) (look_front x y (other_of t) (other_below segs t is) hx hy)
    where
      in_group : (a : LineId) → IsOfOne group rest a → has_line rest a ≡ false → (has_line group a ≡ true) × (has_line rest a ≡ false)
      in_group a (inl k) out = k
      in_group a (inr k) out = absurd (true≢false (sym k.1 ∙ out))

  gone_cost : (t : Term) → IsTerm segs t → is_on e t ≡ true → is_with group t ≡ false → term_cost L t ≡ term_cost q (renumbered e (new_seg segs) t)
  gone_cost t is on h =
      let x : LineId = first_of t in
      let y : LineId = second_of t in
      let out = or_parts (has_line group x) (has_line group y) (sym (with_is group t) ∙ h) in
      alike_cost t (lines_on L (seg_of t)) (lines_on L (other_of t)) (lines_on q (renamed (new_seg segs) e (seg_of t))) (lines_on q (renamed (new_seg segs) e (other_of t)))
      (look_back x y (seg_of t) (seg_below segs t is) out.0 out.1) (look_back x y (other_of t) (other_below segs t is) out.0 out.1)
      ∙ renumbered_cost q e (new_seg segs) t

  off_cost : (t : Term) → IsTerm segs t → is_on e t ≡ false → term_cost L t ≡ term_cost q t
  off_cost t is h =
      let parts = or_parts ((seg_of t).0 == e.0) ((other_of t).0 == e.0) h in
      ap (λ (zs : List LineId). cost_on zs (lines_on L (other_of t)) t) (at_other (seg_of t) (seg_below segs t is) parts.0)
      ∙ ap (λ (zs : List LineId). cost_on (lines_on q (seg_of t)) zs t) (at_other (other_of t) (other_below segs t is) parts.1)

  -- a term across costs nothing: it is a Side whose first line is of the group
  across_cost : (t : Term) → IsTerm segs t → is_across e group rest t ≡ true → IsFree e group rest t → term_cost L t ≡ 0
  across_cost (Side seg first second w) t h free =
      let parts = both_true (is_on e (Side seg first second w) && is_with group (Side seg first second w)) (is_with rest (Side seg first second w)) h in
      let front = both_true (is_on e (Side seg first second w)) (is_with group (Side seg first second w)) parts.0 in
      let here : (seg.0 == e.0) ≡ true = elim (either_true (seg.0 == e.0) (seg.0 == e.0) front.0) [ inl k ↦ k | inr k ↦ k ] in
      let ones = of_one (Side seg first second w) t front.0 in
      by_sides here ones.0 ones.1 front.1 parts.1
    where
      by_sides : (seg.0 == e.0) ≡ true → IsOfOne group rest first → IsOfOne group rest second
          → (has_line group first || has_line group second) ≡ true → (has_line rest first || has_line rest second) ≡ true → term_cost L (Side seg first second w) ≡ 0
      by_sides here (inl x) (inl y) hg hr = absurd (true≢false (sym hr ∙ (ap (λ (m : Bool). m || has_line rest second) x.1 ∙ y.1)))
      by_sides here (inr x) (inr y) hg hr = absurd (true≢false (sym hg ∙ (ap (λ (m : Bool). m || has_line group second) x.0 ∙ y.0)))
      by_sides here (inr x) (inl y) hg hr =
          let against = free second first y.0 x.1 in
          let i : (first.0 == first.0) ≡ true = eq-eqb first.0 first.0 refl in
          let j : (second.0 == second.0) ≡ true = eq-eqb second.0 second.0 refl in
          absurd (true≢false (sym (rw (here, i, j) refl) ∙ against))
      by_sides here (inl x) (inr y) hg hr =
          let now : lines_on L seg ≡ g ++ r = at_e seg here in
          let first_in : has_line g first ≡ true = ok.group_order first ∙ x.0 in
          let second_out : has_line g second ≡ false = ok.group_order second ∙ y.0 in
          rw now (ap (λ (m : Bool). cond m w 0) (before_front g r second first (ap (λ (m : Bool). m || has_line g first) second_out ∙ first_in) ∙ before_out g second first second_out))
  across_cost (Link seg other flip a b w) t h free =
      let parts = both_true (is_on e (Link seg other flip a b w) && is_with group (Link seg other flip a b w)) (is_with rest (Link seg other flip a b w)) h in
      let front = both_true (is_on e (Link seg other flip a b w)) (is_with group (Link seg other flip a b w)) parts.0 in
      let ones = of_one (Link seg other flip a b w) t front.0 in
      absurd (tied group rest (seg.0 == e.0 || other.0 == e.0) a b front.0 ones.0 ones.1 front.1 parts.1 free)
  across_cost (Apart seg other a b w) t h free =
      let parts = both_true (is_on e (Apart seg other a b w) && is_with group (Apart seg other a b w)) (is_with rest (Apart seg other a b w)) h in
      let front = both_true (is_on e (Apart seg other a b w)) (is_with group (Apart seg other a b w)) parts.0 in
      let ones = of_one (Apart seg other a b w) t front.0 in
      absurd (tied group rest (seg.0 == e.0 || other.0 == e.0) a b front.0 ones.0 ones.1 front.1 parts.1 free)

  sent_cost : (t : Term) → IsTerm segs t → is_across e group rest t ≡ false → term_cost L t ≡ term_cost q (sent e (new_seg segs) rest t)
  sent_cost t is h = by_tests (is_on e t) (is_with group t) (is_with rest t) refl refl refl h
    where
      by_tests : (c d k : Bool) → is_on e t ≡ c → is_with group t ≡ d → is_with rest t ≡ k → (c && d && k) ≡ false
          → term_cost L t ≡ term_cost q (cond (c && k) (renumbered e (new_seg segs) t) t)
      by_tests false d k hc hd hk h = off_cost t is hc
      by_tests true d false hc hd hk h = kept_cost t is hc hk
      by_tests true false true hc hd hk h = gone_cost t is hc hd
      by_tests true true true hc hd hk h = absurd (true≢false h)

  pub divided_cost : (terms : List Term) → All (IsTerm segs) terms → AllByRecursion (IsFree e group rest) terms
      → cost_of terms L ≡ cost_of (map (sent e (new_seg segs) rest) (filter (λ t. not (is_across e group rest t)) terms)) q
  divided_cost [] all free = refl
  divided_cost (t ∷ terms) all free =
      by_test (is_across e group rest t) refl (All-head (IsTerm segs) t terms all) (divided_cost terms (All-tail (IsTerm segs) t terms all) free.1)
    where
      by_test : (c : Bool) → is_across e group rest t ≡ c → IsTerm segs t
          → cost_of terms L ≡ cost_of (map (sent e (new_seg segs) rest) (filter (λ t. not (is_across e group rest t)) terms)) q
          → cost_of (t ∷ terms) L ≡ cost_of (map (sent e (new_seg segs) rest) (cond (not c) (t ∷ filter (λ t. not (is_across e group rest t)) terms) (filter (λ t. not (is_across e group rest t)) terms))) q
      by_test true h here rest_is = omega (arith, sum_by-cons (term_cost L) t terms, across_cost t here h free.0, rest_is)
      by_test false h here rest_is =
          omega (
            arith,
            sum_by-cons (term_cost L) t terms,
            sent_cost t here h,
            rest_is,
            sum_by-cons (term_cost q) (sent e (new_seg segs) rest t) (map (sent e (new_seg segs) rest) (filter (λ t. not (is_across e group rest t)) terms)),
          )
