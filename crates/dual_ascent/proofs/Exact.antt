-- Prices of 1000 times the weight times z - x: under them the shares of these orders come to 1000 times their cost.
use Rattle.std.proofs.Common.{◌≡◌, ℕ, suc, ◌+◌, ◌*◌, ◌<◌, ◌==◌, not, Bool, true, false, cond, List, [], ◌∷◌, length, map, get_or, refl, sym, ◌∙◌, ap, arith}
use Rattle.std.specs.Prelude.{ℤ, pos, ◌+ℤ◌, ◌-ℤ◌, ◌*ℤ◌}
use Rattle.std.specs.List.{All, AllByRecursion}
use Rattle.std.proofs.lemmas.Bool.{and_parts, ne_eqb}
use Rattle.std.proofs.lemmas.Int.{ints}
use Rattle.std.proofs.lemmas.List.Elements.{recursion_from_All}
use Rattle.std.proofs.lemmas.List.Sums.{sum_by-cons}
use Rattle.map_base.specs.declared.ids.SegId.{SegId}
use Rattle.map_base.specs.declared.ids.LineId.{LineId}
use Rattle.order_model.specs.declared.term.Term.{Term}
use Rattle.order_model.specs.declared.term.Term.TheVariants.{Side, Link, Apart}
use Rattle.order_model.specs.declared.problem.ProblemParts.{ProblemParts}
use Rattle.order_model.specs.Problems.{lines_on, IsTerm}
use Rattle.order_model.specs.Costs.{comes_before, are_neighbours, same_answer, is_met_on, term_cost, cost_of, AreOrders}
use Rattle.order_model.specs.PartTerms.{numbered_from, is_in, is_of}
use Rattle.order_model.specs.Prefixes.{is_placed}
use Rattle.order_model.proofs.Lines.{has_permutation}
use Rattle.whole_sums.specs.Sums.{int_sum}
use Rattle.whole_sums.proofs.Sums.{int_sum_swap}
use Rattle.dual_bound.specs.Shares.{thousand, where_so, x_of, z_of, term_share}
use Rattle.dual_bound.proofs.Segments.{order_at, contains_placed, before_or_behind, part_apart, AreApart, one_counts, int_sum_less_by}
use Rattle.dual_ascent.specs.OwnNumbers.{all_segments, all_terms, number_of}
use Rattle.dual_ascent.specs.DualSteps.{subgradient, most_price, share_under}
use Rattle.dual_ascent.specs.Walks.{exact_prices}
use Rattle.dual_ascent.proofs.OwnParts.{segments_rise, all_are_of}

-- the price of a term under which orders have 1000 times its cost
abbrev exact_price : List (List LineId) → Term → ℤ
exact_price orders t = pos (most_price t) *ℤ subgradient orders t

differ_exact : (x z : Bool) (w : ℕ) → where_so z (pos (thousand * w) *ℤ (where_so z (pos 1) -ℤ where_so x (pos 1))) -ℤ where_so x (pos (thousand * w) *ℤ (where_so z (pos 1) -ℤ where_so x (pos 1)))
    ≡ pos (thousand * cond (not (same_answer x z)) w 0)
differ_exact true true w = omega (arith, ints)
differ_exact true false w = omega (arith, ints)
differ_exact false true w = omega (arith, ints)
differ_exact false false w = omega (arith, ints)

link_told : (flip x z : Bool) → same_answer flip (same_answer (not x) (not z)) ≡ not (same_answer x (cond flip (not z) z))
link_told true true true = refl
link_told true true false = refl
link_told true false true = refl
link_told true false false = refl
link_told false true true = refl
link_told false true false = refl
link_told false false true = refl
link_told false false false = refl

module _ (segs orders : List (List LineId)) (part : List SegId) (apart : AreApart part) (are_orders : AreOrders segs orders) where
  on_order : (s : SegId) (a : LineId) → is_placed (lines_on segs s) a ≡ true → is_placed (lines_on orders s) a ≡ true
  on_order s a h = sym (has_permutation (lines_on segs s) (lines_on orders s) a (order_at segs orders s.0 are_orders)) ∙ h

  ends_sum : (seg other : SegId) (here there : SegId → ℤ) → is_in part seg ≡ true → is_in part other ≡ true
      → int_sum (λ (s : SegId). cond (other.0 == s.0) (there s) (pos 0) -ℤ cond (seg.0 == s.0) (here s) (pos 0)) part ≡ there other -ℤ here seg
  ends_sum seg other here there h k =
      let sum = int_sum_less_by (λ (s : SegId). cond (other.0 == s.0) (there s) (pos 0)) (λ (s : SegId). cond (seg.0 == s.0) (here s) (pos 0)) part in
      let first = one_counts other there part apart k in
      let second = one_counts seg here part apart h in
      sum ∙ (ap (λ v. v -ℤ int_sum (λ (s : SegId). cond (seg.0 == s.0) (here s) (pos 0)) part) first ∙ ap (λ v. there other -ℤ v) second)

  less_line : (a b : LineId) → a.0 < b.0 → (a.0 == b.0) ≡ false
  less_line a b h = ne_eqb a.0 b.0 (λ e. absurd (omega (arith, h, e)))

  pub exact_shares : (t : Term) → IsTerm segs t → is_of part t ≡ true → int_sum (λ (s : SegId). term_share (exact_price orders t) s (lines_on orders s) t) part ≡ pos (thousand * term_cost orders t)
  exact_shares (Side seg first second w) is of =
      let both = and_parts (is_in part seg) (is_in part seg) of in
      one_counts seg (λ (s : SegId). where_so (comes_before (lines_on orders s) second first) (pos (thousand * w))) part apart both.0
      ∙ by_test (comes_before (lines_on orders seg) second first)
    where
      by_test : (b : Bool) → where_so b (pos (thousand * w)) ≡ pos (thousand * cond b w 0)
      by_test true = refl
      by_test false = refl
  exact_shares (Link seg other flip a b w) is of =
      let p : ℤ = exact_price orders (Link seg other flip a b w) in
      let both = and_parts (is_in part seg) (is_in part other) of in
      let sum = ends_sum seg other (λ (s : SegId). where_so (x_of (lines_on orders s) a b) p) (λ (s : SegId). where_so (z_of (lines_on orders s) flip a b) p) both.0 both.1 in
      let differ = less_line a b is.a_below in
      let here = before_or_behind (lines_on orders seg) a b differ (on_order seg a (contains_placed (lines_on segs seg) a is.a_on)) (on_order seg b (contains_placed (lines_on segs seg) b is.b_on)) in
      let there = before_or_behind (lines_on orders other) a b differ (on_order other a (contains_placed (lines_on segs other) a is.a_on_other)) (on_order other b (contains_placed (lines_on segs other) b is.b_on_other)) in
      let met : is_met_on (lines_on orders seg) (lines_on orders other) (Link seg other flip a b w) ≡ not (same_answer (x_of (lines_on orders seg) a b) (z_of (lines_on orders other) flip a b)) =
      ap (λ t. same_answer flip (same_answer t (comes_before (lines_on orders other) a b))) here
      ∙ (ap (λ t. same_answer flip (same_answer (not (comes_before (lines_on orders seg) b a)) t)) there ∙ link_told flip (comes_before (lines_on orders seg) b a) (comes_before (lines_on orders other) b a)) in
      sum ∙ (differ_exact (x_of (lines_on orders seg) a b) (z_of (lines_on orders other) flip a b) w ∙ ap (λ m. pos (thousand * cond m w 0)) (sym met))
  exact_shares (Apart seg other a b w) is of =
      let p : ℤ = exact_price orders (Apart seg other a b w) in
      let both = and_parts (is_in part seg) (is_in part other) of in
      let sum = ends_sum seg other (λ (s : SegId). where_so (are_neighbours (lines_on orders s) a b) p) (λ (s : SegId). where_so (are_neighbours (lines_on orders s) a b) p) both.0 both.1 in
      sum ∙ differ_exact (are_neighbours (lines_on orders seg) a b) (are_neighbours (lines_on orders other) a b) w

-- a sum over numbered terms whose number alone tells a price
numbered_sum : (g : ℤ → Term → ℤ) (f : Term → ℤ) (price : ℕ → ℤ) (k : ℕ) (terms : List Term) → ((i : ℕ) → i < length terms → price (k + i) ≡ get_or (map f terms) i (pos 0))
    → int_sum (λ (t : ℕ × Term). g (price t.0) t.1) (numbered_from k terms) ≡ int_sum (λ (t : Term). g (f t) t) terms
numbered_sum g f price k [] h = refl
numbered_sum g f price k (t ∷ terms) h =
    let here : price k ≡ f t = ap price (none k) ∙ h 0 (omega (arith)) in
    let rest = numbered_sum g f price (k + 1) terms (λ i below. ap price (next k i) ∙ h (suc i) (omega (arith, below))) in
    ap (λ v. g v t +ℤ int_sum (λ (t : ℕ × Term). g (price t.0) t.1) (numbered_from (k + 1) terms)) here ∙ ap (λ v. g (f t) t +ℤ v) rest
  where
    none : (k : ℕ) → k ≡ k + 0
    none k = omega (arith)

    next : (k i : ℕ) → (k + 1) + i ≡ k + suc i
    next k i = omega (arith)

sum_to_cost : (orders : List (List LineId)) (h : Term → ℤ) (terms : List Term) → AllByRecursion (λ (t : Term). h t ≡ pos (thousand * term_cost orders t)) terms
    → int_sum h terms ≡ pos (thousand * cost_of terms orders)
sum_to_cost orders h [] e = refl
sum_to_cost orders h (t ∷ terms) e =
    let here = e.0 in
    let rest = sum_to_cost orders h terms e.1 in
    let sum = sum_by-cons (term_cost orders) t terms in
    joined (h t) (int_sum h terms) (term_cost orders t) (cost_of terms orders) (cost_of (t ∷ terms) orders) here rest sum
  where
    joined : (u v : ℤ) (a b c : ℕ) → u ≡ pos (thousand * a) → v ≡ pos (thousand * b) → c ≡ a + b → u +ℤ v ≡ pos (thousand * c)
    joined u v a b c e f g = omega (arith, ints, e, f, g)

-- the shares of the orders under their exact prices
pub exact_sum : (p : ProblemParts) (orders : List (List LineId)) → 0 < length p.segs → All (IsTerm p.segs) p.terms → AreOrders p.segs orders
    → int_sum (λ (s : SegId). share_under p (exact_prices p orders) s (lines_on orders s)) (all_segments p) ≡ pos (thousand * cost_of p.terms orders)
exact_sum p orders some fit are =
    int_sum_swap (λ (s : SegId) (t : ℕ × Term). term_share (number_of (exact_prices p orders) t.0) s (lines_on orders s) t.1) (all_segments p) (all_terms p)
    ∙ (numbered_sum (λ (v : ℤ) (t : Term). int_sum (λ (s : SegId). term_share v s (lines_on orders s) t) (all_segments p)) (exact_price orders) (number_of (exact_prices p orders)) 0 p.terms (λ i below. ap (number_of (exact_prices p orders)) (sym (from_none i)))
    ∙ sum_to_cost orders (λ (t : Term). int_sum (λ (s : SegId). term_share (exact_price orders t) s (lines_on orders s) t) (all_segments p)) p.terms
    (each p.terms (recursion_from_All (IsTerm p.segs) p.terms fit)))
  where
    from_none : (i : ℕ) → i ≡ 0 + i
    from_none i = omega (arith)

    each : (terms : List Term) → AllByRecursion (IsTerm p.segs) terms
        → AllByRecursion (λ (t : Term). int_sum (λ (s : SegId). term_share (exact_price orders t) s (lines_on orders s) t) (all_segments p) ≡ pos (thousand * term_cost orders t)) terms
    each [] h = tt
    each (t ∷ terms) h = (exact_shares p.segs orders (all_segments p) (part_apart (all_segments p) (segments_rise 0 p.segs some)) are t h.0 (all_are_of p.segs t h.0), each terms h.1)
