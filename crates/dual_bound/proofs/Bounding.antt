-- No orders that keep the settled pairs cost less than a thousandth of the value of allowed prices.
use Rattle.std.proofs.Common.{◌≡◌, ℕ, zero, suc, ◌+◌, ◌*◌, ◌<◌, ◌≤◌, ◌==◌, ◌||◌, ◌&&◌, Bool, true, false, cond, List, [], ◌∷◌, length, map, filter, refl, sym, ◌∙◌, ap, subst, arith, ◌⊎◌, inl, inr, true≢false, Option, Some, None}
use Rattle.std.specs.Prelude.{IsPermutation, ℤ, pos, ◌+ℤ◌, ◌≤ℤ◌, unsigned_abs}
use Rattle.std.specs.List.{All, AllByRecursion, list_all, sum_by}
use Rattle.std.proofs.lemmas.Bool.{and_parts}
use Rattle.std.proofs.lemmas.Int.{ints}
use Rattle.std.proofs.lemmas.List.Elements.{recursion_from_All}
use Rattle.std.proofs.lemmas.List.Sums.{sum_by-cons}
use Rattle.map_base.specs.declared.ids.SegId.{SegId}
use Rattle.map_base.specs.declared.ids.LineId.{LineId}
use Rattle.graph_core.specs.Consistent.{AreRising}
use Rattle.order_model.specs.declared.term.Term.{Term}
use Rattle.order_model.specs.Problems.{lines_on, IsTerm}
use Rattle.order_model.specs.Costs.{weight_of, term_cost, cost_of, AreOrders}
use Rattle.order_model.specs.Parts.{IsRisingPart}
use Rattle.order_model.specs.PartTerms.{is_of, numbered_from, part_terms, plain_terms}
use Rattle.order_values.specs.PriceLists.{price_at}
use Rattle.whole_sums.specs.Sums.{int_sum}
use Rattle.whole_sums.proofs.Sums.{int_sum_swap, int_sum_less}
use Rattle.least_orders.specs.Arrangements.{keeps, all_orders, kept_orders}
use Rattle.least_orders.specs.LeastOrders.{least_value}
use Rattle.least_orders.proofs.Lists.{Among, each_among, among_filter, all_at}
use Rattle.least_orders.proofs.LeastValues.{least_below, some_least}
use Rattle.least_orders.proofs.Arranging.{permutation_is_order}
use Rattle.dual_bound.specs.declared.settled.SettledPair.{SettledPair}
use Rattle.dual_bound.specs.Settled.{settled_on, keep_all}
use Rattle.dual_bound.specs.Shares.{thousand, term_share, share_of}
use Rattle.dual_bound.specs.Values.{least_share, plus, value_of, are_allowed}
use Rattle.dual_bound.proofs.Segments.{order_at, rising_at, part_apart}
use Rattle.dual_bound.proofs.TermShares.{price_within, term_shares}

-- The terms of a part, each by its number.

number_from : (k : ℕ) (terms : List Term) (t : ℕ × Term) → Among t (numbered_from k terms) → k ≤ t.0
number_from k [] t h = absurd h
number_from k (x ∷ terms) t (inl is) = let same = ap (λ (u : ℕ × Term). u.0) is in omega (arith, same)
number_from k (x ∷ terms) t (inr later) = let more = number_from (k + 1) terms t later in omega (arith, more)

one_of_number : (k : ℕ) (terms : List Term) (t u : ℕ × Term) → Among t (numbered_from k terms) → Among u (numbered_from k terms) → u.0 ≡ t.0 → u ≡ t
one_of_number k [] t u h g e = absurd h
one_of_number k (x ∷ terms) t u (inl h) (inl g) e = g ∙ sym h
one_of_number k (x ∷ terms) t u (inl h) (inr g) e =
    let more = number_from (k + 1) terms u g in
    let same = ap (λ (v : ℕ × Term). v.0) h in
    absurd (omega (arith, more, same, e))
one_of_number k (x ∷ terms) t u (inr h) (inl g) e =
    let more = number_from (k + 1) terms t h in
    let same = ap (λ (v : ℕ × Term). v.0) g in
    absurd (omega (arith, more, same, e))
one_of_number k (x ∷ terms) t u (inr h) (inr g) e = one_of_number (k + 1) terms t u h g e

pub among_kept : {A : Type 0} (p : A → Bool) (x : A) (xs : List A) → Among x (filter p xs) → Among x xs × (p x ≡ true)
among_kept p x [] h = absurd h
among_kept {A = A} p x (y ∷ xs) h = by_test (p y) refl h (λ g. among_kept p x xs g)
  where
    by_test : (b : Bool) → p y ≡ b → Among x (cond b (y ∷ filter p xs) (filter p xs)) → (Among x (filter p xs) → Among x xs × (p x ≡ true)) → ((x ≡ y) ⊎ Among x xs) × (p x ≡ true)
    by_test true e (inl is) rest = (inl is, ap p is ∙ e)
    by_test true e (inr later) rest = let more = rest later in (inr more.0, more.1)
    by_test false e g rest = let more = rest g in (inr more.0, more.1)

numbered_are : (P : Term → Type 0) (k : ℕ) (terms : List Term) (t : ℕ × Term) → AllByRecursion P terms → Among t (numbered_from k terms) → P t.1
numbered_are P k [] t h g = absurd g
numbered_are P k (x ∷ terms) t h (inl is) = subst (λ (u : ℕ × Term). P u.1) (sym is) h.0
numbered_are P k (x ∷ terms) t h (inr later) = numbered_are P (k + 1) terms t h.1 later

-- 1000 times the cost, by terms
thousand_costs : (orders : List (List LineId)) (terms : List (ℕ × Term)) → int_sum (λ (t : ℕ × Term). pos (thousand * term_cost orders t.1)) terms ≡ pos (thousand * cost_of (plain_terms terms) orders)
thousand_costs orders [] = refl
thousand_costs orders (t ∷ terms) =
    let rest = thousand_costs orders terms in
    let sum = sum_by-cons (term_cost orders) t.1 (plain_terms terms) in
    ap (λ v. pos (thousand * term_cost orders t.1) +ℤ v) rest ∙ joined (term_cost orders t.1) (cost_of (plain_terms terms) orders) (cost_of (plain_terms (t ∷ terms)) orders) sum
  where
    joined : (a b c : ℕ) → c ≡ a + b → pos (thousand * a) +ℤ pos (thousand * b) ≡ pos (thousand * c)
    joined a b c e = omega (arith, ints, e)

-- there is a value, and it is at most this
abbrev pub ValueBelow : Option ℤ → ℤ → Type 0
ValueBelow None w = ⊥
ValueBelow (Some v) w = v ≤ℤ w

module _ (segs orders : List (List LineId)) (part : List SegId) (settled : List SettledPair)
    (rising : All AreRising segs) (are_orders : AreOrders segs orders) where
  -- Least shares are at most the shares of these orders.

  among_orders : (s : SegId) → keeps (settled_on settled s) (lines_on orders s) ≡ true → Among (lines_on orders s) (kept_orders (settled_on settled s) (lines_on segs s))
  among_orders s kept =
      among_filter (keeps (settled_on settled s)) (lines_on orders s) (all_orders (lines_on segs s))
      (permutation_is_order (lines_on segs s) (lines_on orders s) (rising_at segs s.0 rising) (order_at segs orders s.0 are_orders)) kept

  value_below : (terms : List (ℕ × Term)) (price : ℕ → ℤ) (these : List SegId) → keep_all settled these orders ≡ true
      → ValueBelow (value_of segs terms price settled these) (int_sum (λ (s : SegId). share_of terms price s (lines_on orders s)) these)
  value_below terms price [] kept = omega (arith, ints)
  value_below terms price (s ∷ these) kept =
      let both = and_parts (keeps (settled_on settled s) (lines_on orders s)) (keep_all settled these orders) kept in
      by_share (least_share segs terms price settled s) refl (value_of segs terms price settled these) (among_orders s both.0) (value_below terms price these both.1)
    where
      by_share : (v : Option ℤ) → least_share segs terms price settled s ≡ v → (w : Option ℤ) → Among (lines_on orders s) (kept_orders (settled_on settled s) (lines_on segs s))
          → ValueBelow w (int_sum (λ (s : SegId). share_of terms price s (lines_on orders s)) these)
          → ValueBelow (plus v w) (share_of terms price s (lines_on orders s) +ℤ int_sum (λ (s : SegId). share_of terms price s (lines_on orders s)) these)
      by_share None e w h below = absurd (some_least (share_of terms price s) (kept_orders (settled_on settled s) (lines_on segs s)) (lines_on orders s) h e)
      by_share (Some v) e None h below = absurd below
      by_share (Some v) e (Some w) h below =
          let here = least_below (share_of terms price s) (kept_orders (settled_on settled s) (lines_on segs s)) (lines_on orders s) v h e in
          omega (arith, ints, here, below)

  -- no value is above 1000 times the cost
  pub value_bounds : (terms : List Term) (prices : List (ℕ × ℤ)) → All (IsTerm segs) terms → IsRisingPart part → are_allowed (part_terms terms part) prices ≡ true
      → keep_all settled part orders ≡ true
      → ValueBelow (value_of segs (part_terms terms part) (price_at prices) settled part) (pos (thousand * cost_of (plain_terms (part_terms terms part)) orders))
  value_bounds terms prices fit part_rises allowed kept =
      by_value (value_of segs (part_terms terms part) (price_at prices) settled part) (value_below (part_terms terms part) (price_at prices) part kept)
    where
      each_term : AllByRecursion (λ (t : ℕ × Term). int_sum (λ (s : SegId). term_share (price_at prices t.0) s (lines_on orders s) t.1) part ≤ℤ pos (thousand * term_cost orders t.1)) (part_terms terms part)
      each_term = each_among (λ (t : ℕ × Term). int_sum (λ (s : SegId). term_share (price_at prices t.0) s (lines_on orders s) t.1) part ≤ℤ pos (thousand * term_cost orders t.1)) (part_terms terms part) (λ t h.
          let is = among_kept (λ (q : ℕ × Term). is_of part q.1) t (numbered_from 0 terms) h in
          let only = λ (u : ℕ × Term) (g : Among u (part_terms terms part)) (e : u.0 ≡ t.0). one_of_number 0 terms t u is.0 (among_kept (λ (q : ℕ × Term). is_of part q.1) u (numbered_from 0 terms) g).0 e in
          term_shares segs orders part (part_apart part part_rises) are_orders (price_at prices t.0) t.1
          (numbered_are (IsTerm segs) 0 terms t (recursion_from_All (IsTerm segs) terms fit) is.0) is.1
          (price_within prices (part_terms terms part) t only allowed))

      total : int_sum (λ (s : SegId). share_of (part_terms terms part) (price_at prices) s (lines_on orders s)) part ≤ℤ pos (thousand * cost_of (plain_terms (part_terms terms part)) orders)
      total =
          let swapped = int_sum_swap (λ (s : SegId) (t : ℕ × Term). term_share (price_at prices t.0) s (lines_on orders s) t.1) part (part_terms terms part) in
          let less = int_sum_less (λ (t : ℕ × Term). int_sum (λ (s : SegId). term_share (price_at prices t.0) s (lines_on orders s) t.1) part) (λ (t : ℕ × Term). pos (thousand * term_cost orders t.1)) (part_terms terms part) each_term in
          let costs = thousand_costs orders (part_terms terms part) in
          subst (λ v. v ≤ℤ pos (thousand * cost_of (plain_terms (part_terms terms part)) orders)) (sym swapped)
          (subst (λ v. int_sum (λ (t : ℕ × Term). int_sum (λ (s : SegId). term_share (price_at prices t.0) s (lines_on orders s) t.1) part) (part_terms terms part) ≤ℤ v) costs less)

      by_value : (v : Option ℤ) → ValueBelow v (int_sum (λ (s : SegId). share_of (part_terms terms part) (price_at prices) s (lines_on orders s)) part)
          → ValueBelow v (pos (thousand * cost_of (plain_terms (part_terms terms part)) orders))
      by_value None h = h
      by_value (Some v) h = below v (int_sum (λ (s : SegId). share_of (part_terms terms part) (price_at prices) s (lines_on orders s)) part) (pos (thousand * cost_of (plain_terms (part_terms terms part)) orders)) h total
        where
          below : (a b c : ℤ) → a ≤ℤ b → b ≤ℤ c → a ≤ℤ c
          below a b c h k = omega (arith, ints, h, k)
