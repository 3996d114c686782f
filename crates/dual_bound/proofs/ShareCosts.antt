-- The share of an order is what it costs under the costs that the terms make pairs of lines have.
use Rattle.std.proofs.Common.{◌≡◌, ℕ, zero, suc, ◌+◌, ◌*◌, ◌<◌, ◌==◌, ◌&&◌, not, Bool, true, false, cond, List, [], ◌∷◌, refl, sym, ◌∙◌, ap, subst, arith, true≢false, inl, inr, ◌⊎◌, Option}
use Rattle.std.specs.Prelude.{IsPermutation, ℤ, pos, ◌+ℤ◌, ◌-ℤ◌}
use Rattle.std.specs.List.{All, AllByRecursion, IsDistinct}
use Rattle.std.specs.Option.{option_map}
use Rattle.std.proofs.lemmas.Bool.{ne_eqb, eqb-true}
use Rattle.std.proofs.lemmas.Int.{ints}
use Rattle.map_base.specs.declared.ids.SegId.{SegId}
use Rattle.map_base.specs.declared.ids.LineId.{LineId}
use Rattle.graph_core.specs.Consistent.{AreRising}
use Rattle.order_model.specs.declared.term.Term.{Term}
use Rattle.order_model.specs.declared.term.Term.TheVariants.{Side, Link, Apart}
use Rattle.order_model.specs.Problems.{lines_on, IsTerm}
use Rattle.order_model.specs.Costs.{comes_before, are_neighbours}
use Rattle.order_model.specs.Prefixes.{is_placed}
use Rattle.order_model.proofs.Lines.{has_permutation, order_distinct}
use Rattle.whole_sums.specs.Sums.{int_sum}
use Rattle.whole_sums.proofs.Sums.{int_sum_same}
use Rattle.least_orders.specs.OrderCosts.{PairCosts, order_cost, summed_costs, less_costs, no_costs, cost_before, cost_beside}
use Rattle.least_orders.specs.Arrangements.{keeps, all_orders, kept_orders}
use Rattle.least_orders.specs.LeastOrders.{least_value, least_cost, first_least}
use Rattle.least_orders.proofs.Lists.{Among, each_at, each_among, each_filter}
use Rattle.least_orders.proofs.LeastValues.{least_value_same}
use Rattle.least_orders.proofs.Arranging.{order_is_permutation}
use Rattle.least_orders.proofs.CostSums.{order_cost_sum, order_cost_less, order_cost_none, order_cost_before, order_cost_beside}
use Rattle.dual_bound.specs.declared.settled.SettledPair.{SettledPair}
use Rattle.dual_bound.specs.Settled.{settled_on}
use Rattle.dual_bound.specs.Shares.{thousand, where_so, x_of, z_of, term_share, share_of}
use Rattle.dual_bound.specs.ShareCosts.{costs_where, link_costs, term_costs, share_costs}
use Rattle.dual_bound.specs.Values.{least_share}
use Rattle.dual_bound.proofs.Segments.{rising_at, contains_placed, before_or_behind, same_seg}

abbrev same : LineId → LineId → Bool
same a b = a.0 == b.0

module _ (segs : List (List LineId)) (rising : All AreRising segs) (s : SegId) (o : List LineId) (moved : IsPermutation (lines_on segs s) o) where
  distinct : IsDistinct same o
  distinct = order_distinct (lines_on segs s) o (rising_at segs s.0 rising) moved

  on : (t : SegId) (a : LineId) → (t.0 == s.0) ≡ true → is_placed (lines_on segs t) a ≡ true → is_placed o a ≡ true
  on t a e h = sym (has_permutation (lines_on segs s) o a moved) ∙ (ap (λ u. is_placed (lines_on segs u) a) (sym (same_seg t s e)) ∙ h)

  -- costs that count on one segment alone
  cost_where : (b : Bool) (costs : PairCosts) (v : ℤ) → (b ≡ true → order_cost costs o ≡ v) → order_cost (costs_where b costs) o ≡ cond b v (pos 0)
  cost_where true costs v h = h refl
  cost_where false costs v h = order_cost_none o

  less_line : (a b : LineId) → a.0 < b.0 → (a.0 == b.0) ≡ false
  less_line a b h = ne_eqb a.0 b.0 (λ e. absurd (omega (arith, h, e)))

  more_line : (a b : LineId) → a.0 < b.0 → (b.0 == a.0) ≡ false
  more_line a b h = ne_eqb b.0 a.0 (λ e. absurd (omega (arith, h, e)))

  link_there : (flip : Bool) (a b : LineId) (p : ℤ) → a.0 < b.0 → is_placed o a ≡ true → is_placed o b ≡ true → order_cost (link_costs flip a b p) o ≡ where_so (z_of o flip a b) p
  link_there true a b p below here there = order_cost_before a b p o distinct (less_line a b below) there ∙ ap (λ t. cond t p (pos 0)) (before_or_behind o a b (less_line a b below) here there)
  link_there false a b p below here there = order_cost_before b a p o distinct (more_line a b below) here

  pub term_cost_is : (p : ℤ) (t : Term) → IsTerm segs t → order_cost (term_costs p s t) o ≡ term_share p s o t
  term_cost_is p (Side seg first second w) is =
      cost_where (seg.0 == s.0) (cost_before second first (pos (thousand * w))) (where_so (comes_before o second first) (pos (thousand * w)))
      (λ e. order_cost_before second first (pos (thousand * w)) o distinct (ne_eqb second.0 first.0 (λ f. is.differ (sym f))) (on seg first e (contains_placed (lines_on segs seg) first is.first_on)))
  term_cost_is p (Link seg other flip a b w) is =
      order_cost_less (costs_where (other.0 == s.0) (link_costs flip a b p)) (costs_where (seg.0 == s.0) (cost_before b a p)) o
      ∙ (ap (λ v. v -ℤ order_cost (costs_where (seg.0 == s.0) (cost_before b a p)) o)
      (cost_where (other.0 == s.0) (link_costs flip a b p) (where_so (z_of o flip a b) p)
      (λ e. link_there flip a b p is.a_below (on other a e (contains_placed (lines_on segs other) a is.a_on_other)) (on other b e (contains_placed (lines_on segs other) b is.b_on_other))))
      ∙ ap (λ v. cond (other.0 == s.0) (where_so (z_of o flip a b) p) (pos 0) -ℤ v)
      (cost_where (seg.0 == s.0) (cost_before b a p) (where_so (x_of o a b) p)
      (λ e. order_cost_before b a p o distinct (more_line a b is.a_below) (on seg a e (contains_placed (lines_on segs seg) a is.a_on)))))
  term_cost_is p (Apart seg other a b w) is =
      order_cost_less (costs_where (other.0 == s.0) (cost_beside a b p)) (costs_where (seg.0 == s.0) (cost_beside a b p)) o
      ∙ (ap (λ v. v -ℤ order_cost (costs_where (seg.0 == s.0) (cost_beside a b p)) o)
      (cost_where (other.0 == s.0) (cost_beside a b p) (where_so (are_neighbours o a b) p) (λ e. order_cost_beside a b p o distinct))
      ∙ ap (λ v. cond (other.0 == s.0) (where_so (are_neighbours o a b) p) (pos 0) -ℤ v)
      (cost_where (seg.0 == s.0) (cost_beside a b p) (where_so (are_neighbours o a b) p) (λ e. order_cost_beside a b p o distinct)))

  pub share_is_cost : (terms : List (ℕ × Term)) (price : ℕ → ℤ) → AllByRecursion (λ (t : ℕ × Term). IsTerm segs t.1) terms → order_cost (share_costs terms price s) o ≡ share_of terms price s o
  share_is_cost terms price fit =
      order_cost_sum (λ (t : ℕ × Term). term_costs (price t.0) s t.1) terms o
      ∙ int_sum_same (λ (t : ℕ × Term). order_cost (term_costs (price t.0) s t.1) o) (λ (t : ℕ × Term). term_share (price t.0) s o t.1) terms (each terms fit)
    where
      each : (ts : List (ℕ × Term)) → AllByRecursion (λ (t : ℕ × Term). IsTerm segs t.1) ts → AllByRecursion (λ (t : ℕ × Term). order_cost (term_costs (price t.0) s t.1) o ≡ term_share (price t.0) s o t.1) ts
      each [] h = tt
      each (t ∷ ts) h = (term_cost_is (price t.0) t.1 h.0, each ts h.1)

-- the least share of a segment is the least cost under them
pub least_share_is_cost : (segs : List (List LineId)) (terms : List (ℕ × Term)) (price : ℕ → ℤ) (settled : List SettledPair) (s : SegId) → All AreRising segs
    → AllByRecursion (λ (t : ℕ × Term). IsTerm segs t.1) terms
    → least_share segs terms price settled s ≡ least_cost (share_costs terms price s) (settled_on settled s) (lines_on segs s)
least_share_is_cost segs terms price settled s rising fit =
    least_value_same (share_of terms price s) (order_cost (share_costs terms price s)) (kept_orders (settled_on settled s) (lines_on segs s))
    (each_filter (λ o. share_of terms price s o ≡ order_cost (share_costs terms price s) o) (keeps (settled_on settled s)) (all_orders (lines_on segs s))
    (each_among (λ o. share_of terms price s o ≡ order_cost (share_costs terms price s) o) (all_orders (lines_on segs s))
    (λ o h. sym (share_is_cost segs rising s o (order_is_permutation (lines_on segs s) o h) terms price fit))))
