-- What the shares of all segments come to for one term: at most 1000 times what it costs.
use Rattle.std.proofs.Common.{◌≡◌, ℕ, zero, suc, ◌+◌, ◌*◌, ◌<◌, ◌≤◌, ◌==◌, ◌||◌, ◌&&◌, not, Bool, true, false, cond, List, [], ◌∷◌, length, map, filter, get_or, refl, sym, ◌∙◌, ap, subst, arith, ◌⊎◌, inl, inr, true≢false, eqb-true}
use Rattle.std.specs.Prelude.{IsPermutation, ℤ, pos, ◌+ℤ◌, ◌-ℤ◌, ◌≤ℤ◌, unsigned_abs, nat_le}
use Rattle.std.specs.List.{All, AllByRecursion, list_all, list_any}
use Rattle.std.proofs.lemmas.Bool.{eqb-false, ne_eqb, leb-true, and_parts}
use Rattle.std.proofs.lemmas.Int.{ints}
use Rattle.map_base.specs.declared.ids.SegId.{SegId}
use Rattle.map_base.specs.declared.ids.LineId.{LineId}
use Rattle.order_model.specs.declared.term.Term.{Term}
use Rattle.order_model.specs.declared.term.Term.TheVariants.{Side, Link, Apart}
use Rattle.order_model.specs.Problems.{lines_on, IsTerm}
use Rattle.order_model.specs.Costs.{comes_before, are_neighbours, same_answer, seg_of, other_of, is_met_on, weight_of, term_cost, AreOrders}
use Rattle.order_model.specs.PartTerms.{is_in, is_of}
use Rattle.order_model.specs.Prefixes.{is_placed}
use Rattle.order_model.proofs.Lines.{has_permutation}
use Rattle.order_values.specs.PriceLists.{price_at}
use Rattle.whole_sums.specs.Sums.{int_sum}
use Rattle.whole_sums.proofs.Sums.{int_sum_zero}
use Rattle.least_orders.proofs.Lists.{Among, all_at}
use Rattle.dual_bound.specs.Shares.{thousand, where_so, x_of, z_of, term_share}
use Rattle.dual_bound.specs.Values.{allows, are_allowed}
use Rattle.dual_bound.proofs.Segments.{order_at, contains_placed, before_or_behind, AreApart, one_counts, int_sum_less_by}

-- Two answers at the ends of a term: a price stands for no more than 1000 times its weight, and only where they differ.

differ_bound : (x z : Bool) (p : ℤ) (w : ℕ) → unsigned_abs p ≤ thousand * w → (where_so z p -ℤ where_so x p) ≤ℤ pos (thousand * cond (not (same_answer x z)) w 0)
differ_bound true true p w h = omega (arith, ints)
differ_bound true false p w h = omega (arith, ints, h)
differ_bound false true p w h = omega (arith, ints, h)
differ_bound false false p w h = omega (arith, ints)

-- the answers of a Link told by its greater line
link_met : (flip x z : Bool) → same_answer flip (same_answer (not x) (not z)) ≡ not (same_answer x (cond flip (not z) z))
link_met true true true = refl
link_met true true false = refl
link_met true false true = refl
link_met true false false = refl
link_met false true true = refl
link_met false true false = refl
link_met false false true = refl
link_met false false false = refl

-- Prices within their weights.

pub price_within : (prices : List (ℕ × ℤ)) (terms : List (ℕ × Term)) (t : ℕ × Term) → ((u : ℕ × Term) → Among u terms → u.0 ≡ t.0 → u ≡ t)
    → are_allowed terms prices ≡ true → unsigned_abs (price_at prices t.0) ≤ thousand * weight_of t.1
price_within [] terms t only ok = omega arith
price_within (q ∷ prices) terms t only ok =
    let parts = and_parts (list_any (allows q) terms) (are_allowed terms prices) ok in
    by_test (q.0 == t.0) refl parts.0 (price_within prices terms t only parts.1)
  where
    passed : (terms : List (ℕ × Term)) → list_any (allows q) terms ≡ true → (u : ℕ × Term) × Among u terms × (allows q u ≡ true)
    passed [] h = absurd (true≢false (sym h))
    passed (u ∷ terms) h = by_head (allows q u) refl h (λ g. passed terms g)
      where
        by_head : (b : Bool) → allows q u ≡ b → (b || list_any (allows q) terms) ≡ true → (list_any (allows q) terms ≡ true → (v : ℕ × Term) × Among v terms × (allows q v ≡ true))
            → (v : ℕ × Term) × ((v ≡ u) ⊎ Among v terms) × (allows q v ≡ true)
        by_head true e g rest = (u, inl refl, e)
        by_head false e g rest = let later = rest g in (later.0, inr later.1, later.2)

    allowed : (k : ℕ) (x : Term) → allows q (k, x) ≡ true → (k ≡ q.0) × (unsigned_abs q.1 ≤ thousand * weight_of x)
    allowed k (Side seg first second w) h = absurd (true≢false (sym h))
    allowed k (Link seg other flip a b w) h =
        let both = and_parts (k == q.0) (nat_le (unsigned_abs q.1) (thousand * w)) h in
        (eqb-true k q.0 both.0, leb-true (unsigned_abs q.1) (thousand * w) both.1)
    allowed k (Apart seg other a b w) h =
        let both = and_parts (k == q.0) (nat_le (unsigned_abs q.1) (thousand * w)) h in
        (eqb-true k q.0 both.0, leb-true (unsigned_abs q.1) (thousand * w) both.1)

    by_test : (b : Bool) → (q.0 == t.0) ≡ b → list_any (allows q) terms ≡ true → unsigned_abs (price_at prices t.0) ≤ thousand * weight_of t.1
        → unsigned_abs (cond b q.1 (price_at prices t.0)) ≤ thousand * weight_of t.1
    by_test false e any rest = rest
    by_test true e any rest =
        let one = passed terms any in
        let is = allowed one.0.0 one.0.1 one.2 in
        let same : one.0 ≡ t = only one.0 one.1 (is.0 ∙ eqb-true q.0 t.0 e) in
        subst (λ (u : ℕ × Term). unsigned_abs q.1 ≤ thousand * weight_of u.1) same is.1

-- One term over all segments of a part.

module _ (segs orders : List (List LineId)) (part : List SegId) (apart : AreApart part) (are_orders : AreOrders segs orders) where
  on_order : (s : SegId) (a : LineId) → is_placed (lines_on segs s) a ≡ true → is_placed (lines_on orders s) a ≡ true
  on_order s a h = sym (has_permutation (lines_on segs s) (lines_on orders s) a (order_at segs orders s.0 are_orders)) ∙ h

  -- the sum of what falls to the two ends
  ends_sum : (seg other : SegId) (here there : SegId → ℤ) → is_in part seg ≡ true → is_in part other ≡ true
      → int_sum (λ (s : SegId). cond (other.0 == s.0) (there s) (pos 0) -ℤ cond (seg.0 == s.0) (here s) (pos 0)) part ≡ there other -ℤ here seg
  ends_sum seg other here there h k =
      let sum = int_sum_less_by (λ (s : SegId). cond (other.0 == s.0) (there s) (pos 0)) (λ (s : SegId). cond (seg.0 == s.0) (here s) (pos 0)) part in
      let first = one_counts other there part apart k in
      let second = one_counts seg here part apart h in
      sum ∙ (ap (λ v. v -ℤ int_sum (λ (s : SegId). cond (seg.0 == s.0) (here s) (pos 0)) part) first ∙ ap (λ v. there other -ℤ v) second)

  less_line : (a b : LineId) → a.0 < b.0 → (a.0 == b.0) ≡ false
  less_line a b h = ne_eqb a.0 b.0 (λ e. absurd (omega (arith, h, e)))

  pub term_shares : (p : ℤ) (t : Term) → IsTerm segs t → is_of part t ≡ true → unsigned_abs p ≤ thousand * weight_of t
      → int_sum (λ (s : SegId). term_share p s (lines_on orders s) t) part ≤ℤ pos (thousand * term_cost orders t)
  term_shares p (Side seg first second w) is of within =
      let both = and_parts (is_in part seg) (is_in part seg) of in
      let sum = one_counts seg (λ (s : SegId). where_so (comes_before (lines_on orders s) second first) (pos (thousand * w))) part apart both.0 in
      subst (λ v. v ≤ℤ pos (thousand * cond (comes_before (lines_on orders seg) second first) w 0)) (sym sum) (by_test (comes_before (lines_on orders seg) second first))
    where
      by_test : (b : Bool) → where_so b (pos (thousand * w)) ≤ℤ pos (thousand * cond b w 0)
      by_test true = omega (arith, ints)
      by_test false = omega (arith, ints)
  term_shares p (Link seg other flip a b w) is of within =
      let both = and_parts (is_in part seg) (is_in part other) of in
      let sum = ends_sum seg other (λ (s : SegId). where_so (x_of (lines_on orders s) a b) p) (λ (s : SegId). where_so (z_of (lines_on orders s) flip a b) p) both.0 both.1 in
      let differ = less_line a b is.a_below in
      let here = before_or_behind (lines_on orders seg) a b differ (on_order seg a (contains_placed (lines_on segs seg) a is.a_on)) (on_order seg b (contains_placed (lines_on segs seg) b is.b_on)) in
      let there = before_or_behind (lines_on orders other) a b differ (on_order other a (contains_placed (lines_on segs other) a is.a_on_other)) (on_order other b (contains_placed (lines_on segs other) b is.b_on_other)) in
      let met : is_met_on (lines_on orders seg) (lines_on orders other) (Link seg other flip a b w) ≡ not (same_answer (x_of (lines_on orders seg) a b) (z_of (lines_on orders other) flip a b)) =
      ap (λ t. same_answer flip (same_answer t (comes_before (lines_on orders other) a b))) here
      ∙ (ap (λ t. same_answer flip (same_answer (not (comes_before (lines_on orders seg) b a)) t)) there ∙ link_met flip (comes_before (lines_on orders seg) b a) (comes_before (lines_on orders other) b a)) in
      subst (λ v. v ≤ℤ pos (thousand * term_cost orders (Link seg other flip a b w))) (sym sum)
      (subst (λ m. (where_so (z_of (lines_on orders other) flip a b) p -ℤ where_so (x_of (lines_on orders seg) a b) p) ≤ℤ pos (thousand * cond m w 0)) (sym met)
      (differ_bound (x_of (lines_on orders seg) a b) (z_of (lines_on orders other) flip a b) p w within))
  term_shares p (Apart seg other a b w) is of within =
      let both = and_parts (is_in part seg) (is_in part other) of in
      let sum = ends_sum seg other (λ (s : SegId). where_so (are_neighbours (lines_on orders s) a b) p) (λ (s : SegId). where_so (are_neighbours (lines_on orders s) a b) p) both.0 both.1 in
      subst (λ v. v ≤ℤ pos (thousand * term_cost orders (Apart seg other a b w))) (sym sum)
      (differ_bound (are_neighbours (lines_on orders seg) a b) (are_neighbours (lines_on orders other) a b) p w within)
