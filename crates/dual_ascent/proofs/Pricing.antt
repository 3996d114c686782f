-- Prices within their weights are allowed, and the value of a round is the value of its prices.
use Rattle.std.proofs.Common.{◌≡◌, ℕ, zero, suc, ◌+◌, ◌*◌, ◌<◌, ◌≤◌, ◌==◌, ◌||◌, ◌&&◌, Bool, true, false, cond, List, [], ◌∷◌, map, get_or, refl, sym, ◌∙◌, ap, subst, arith, true≢false, eq-eqb, eqb-true, Option, Some, None}
use Rattle.std.specs.Prelude.{ℤ, pos, negsuc, neg_ℤ, ◌+ℤ◌, ◌-ℤ◌, ◌*ℤ◌, ◌≤ℤ◌, int_lt, int_div, nat_le, unsigned_abs, unwrap_or, option_map}
use Rattle.std.specs.Int.{int_min, int_max}
use Rattle.std.specs.List.{list_any}
use Rattle.std.proofs.lemmas.Bool.{ne_eqb, and_from}
use Rattle.std.proofs.lemmas.Bool.Decides.{nat_tests}
use Rattle.std.proofs.lemmas.Int.{ints}
use Rattle.map_base.specs.declared.ids.SegId.{SegId}
use Rattle.map_base.specs.declared.ids.LineId.{LineId}
use Rattle.order_model.specs.declared.term.Term.{Term}
use Rattle.order_model.specs.declared.term.Term.TheVariants.{Side, Link, Apart}
use Rattle.order_model.specs.declared.problem.ProblemParts.{ProblemParts}
use Rattle.order_model.specs.Problems.{lines_on}
use Rattle.order_model.specs.Costs.{are_neighbours}
use Rattle.order_model.specs.PartTerms.{numbered_from}
use Rattle.order_model.specs.Questions.{question}
use Rattle.order_values.specs.PriceLists.{price_at}
use Rattle.whole_sums.specs.Sums.{int_sum}
use Rattle.least_orders.specs.Arrangements.{kept_orders}
use Rattle.least_orders.specs.LeastOrders.{lesser_of, least_value, first_least}
use Rattle.least_orders.proofs.LeastValues.{least_of_first}
use Rattle.dual_bound.specs.declared.settled.SettledPair.{SettledPair}
use Rattle.dual_bound.specs.Settled.{settled_on}
use Rattle.dual_bound.specs.Shares.{thousand, where_so, x_of, z_of, term_share, share_of}
use Rattle.dual_bound.specs.Values.{least_share, plus, value_of, allows, are_allowed}
use Rattle.dual_bound.specs.Accepting.{is_narrow, shows, is_stopped}
use Rattle.dual_ascent.specs.OwnNumbers.{all_segments, all_terms, number_of, listed_from, listed}
use Rattle.dual_ascent.specs.DualSteps.{share_under, answer_on, answers, value_with, subgradient, most_price, AreWithin, cut_to, next_price, square_sum, next_prices}
use Rattle.dual_ascent.specs.Rounds.{LowerBound}
use Rattle.dual_ascent.specs.Walks.{exact_prices}
use Rattle.dual_ascent.proofs.OwnParts.{seg_number, all_made_at, all_sums_same}

pub zeros_within : (terms : List Term) → AreWithin terms (map (λ (t : Term). pos 0) terms)
zeros_within [] = tt
zeros_within (t ∷ terms) = (omega (arith), zeros_within terms)

abs_within : (m : ℕ) (z : ℤ) → neg_ℤ (pos m) ≤ℤ z → z ≤ℤ pos m → unsigned_abs z ≤ m
abs_within m (pos n) low high = omega (arith, ints, high)
abs_within zero (negsuc n) low high = absurd (omega (arith, ints, low))
abs_within (suc m) (negsuc n) low high = omega (arith, ints, low)

cut_within : (m : ℕ) (y : ℤ) → unsigned_abs (cut_to m y) ≤ m
cut_within m y = abs_within m (cut_to m y) (above (neg_ℤ (pos m)) (int_min (pos m) y)) (below m y)
  where
    above : (a b : ℤ) → a ≤ℤ int_max a b
    above a b = grind (arith, ints)

    least : (a b : ℤ) → int_min a b ≤ℤ a
    least a b = grind (arith, ints)

    most : (a b c : ℤ) → a ≤ℤ c → b ≤ℤ c → int_max a b ≤ℤ c
    most a b c h k = grind (arith, ints)

    negative : (m : ℕ) → neg_ℤ (pos m) ≤ℤ pos m
    negative m = omega (arith, ints)

    below : (m : ℕ) (y : ℤ) → cut_to m y ≤ℤ pos m
    below m y = most (neg_ℤ (pos m)) (int_min (pos m) y) (pos m) (negative m) (least (pos m) y)

made_within : (f : ℕ × Term → ℤ) → ((q : ℕ × Term) → unsigned_abs (f q) ≤ most_price q.1) → (k : ℕ) (terms : List Term) → AreWithin terms (map f (numbered_from k terms))
made_within f h k [] = tt
made_within f h k (t ∷ terms) = (h (k, t), made_within f h (k + 1) terms)

pub next_within : (p : ProblemParts) (step : ℕ) (gap : ℤ) (prices directions : List ℤ) → AreWithin p.terms (next_prices p step gap prices directions)
next_within p step gap prices directions =
    made_within (λ (q : ℕ × Term). next_price step gap (square_sum directions) (most_price q.1) (number_of prices q.0) (number_of directions q.0))
    (λ q. cut_within (most_price q.1) (number_of prices q.0 +ℤ int_div (((pos step *ℤ gap) *ℤ pos 64) *ℤ number_of directions q.0) (pos (1000 * square_sum directions)))) 0 p.terms

signed : (m : ℕ) (z x : Bool) → unsigned_abs (pos m *ℤ (where_so z (pos 1) -ℤ where_so x (pos 1))) ≤ m
signed m true true = abs_within m (pos m *ℤ (pos 1 -ℤ pos 1)) (omega (arith, ints)) (omega (arith, ints))
signed m true false = abs_within m (pos m *ℤ (pos 1 -ℤ pos 0)) (omega (arith, ints)) (omega (arith, ints))
signed m false true = abs_within m (pos m *ℤ (pos 0 -ℤ pos 1)) (omega (arith, ints)) (omega (arith, ints))
signed m false false = abs_within m (pos m *ℤ (pos 0 -ℤ pos 0)) (omega (arith, ints)) (omega (arith, ints))

pub exact_within : (p : ProblemParts) (orders : List (List LineId)) → AreWithin p.terms (exact_prices p orders)
exact_within p orders = each p.terms
  where
    one : (t : Term) → unsigned_abs (pos (most_price t) *ℤ subgradient orders t) ≤ most_price t
    one (Side seg first second w) = omega (arith)
    one (Link seg other flip a b w) = signed (thousand * w) (z_of (lines_on orders other) flip a b) (x_of (lines_on orders seg) a b)
    one (Apart seg other a b w) = signed (thousand * w) (are_neighbours (lines_on orders other) a b) (are_neighbours (lines_on orders seg) a b)

    each : (terms : List Term) → AreWithin terms (map (λ (t : Term). pos (most_price t) *ℤ subgradient orders t) terms)
    each [] = tt
    each (t ∷ terms) = (one t, each terms)

-- Listed prices.

zero_is : (y : ℤ) → (unsigned_abs y == 0) ≡ true → y ≡ pos 0
zero_is y e = by_sign y (eqb-true (unsigned_abs y) 0 e)
  where
    by_sign : (y : ℤ) → unsigned_abs y ≡ 0 → y ≡ pos 0
    by_sign (pos n) h = ap pos h
    by_sign (negsuc n) h = absurd (omega (arith, h))

price_below : (ys : List ℤ) (k n : ℕ) → n < k → price_at (listed_from k ys) n ≡ pos 0
price_below [] k n h = refl
price_below (y ∷ ys) k n h = by_test (unsigned_abs y == 0) (price_below ys (k + 1) n (omega (arith, h)))
  where
    by_test : (t : Bool) → price_at (listed_from (k + 1) ys) n ≡ pos 0 → price_at (cond t (listed_from (k + 1) ys) ((k, y) ∷ listed_from (k + 1) ys)) n ≡ pos 0
    by_test true rest = rest
    by_test false rest = ap (λ u. cond u y (price_at (listed_from (k + 1) ys) n)) (ne_eqb k n (λ e. absurd (omega (arith, h, e)))) ∙ rest

price_listed : (ys : List ℤ) (k n : ℕ) → price_at (listed_from k ys) (k + n) ≡ get_or ys n (pos 0)
price_listed [] k n = refl
price_listed (y ∷ ys) k zero = by_test (unsigned_abs y == 0) refl
  where
    at_first : (k : ℕ) → (k == k + 0) ≡ true
    at_first k = eq-eqb k (k + 0) (omega (arith))

    by_test : (t : Bool) → (unsigned_abs y == 0) ≡ t → price_at (cond t (listed_from (k + 1) ys) ((k, y) ∷ listed_from (k + 1) ys)) (k + 0) ≡ y
    by_test true e = price_below ys (k + 1) (k + 0) (omega (arith)) ∙ sym (zero_is y e)
    by_test false e = ap (λ u. cond u y (price_at (listed_from (k + 1) ys) (k + 0))) (at_first k)
price_listed (y ∷ ys) k (suc n) = by_test (unsigned_abs y == 0) (ap (price_at (listed_from (k + 1) ys)) (next k n) ∙ price_listed ys (k + 1) n)
  where
    next : (k n : ℕ) → k + suc n ≡ (k + 1) + n
    next k n = omega (arith)

    by_test : (t : Bool) → price_at (listed_from (k + 1) ys) (k + suc n) ≡ get_or ys n (pos 0)
        → price_at (cond t (listed_from (k + 1) ys) ((k, y) ∷ listed_from (k + 1) ys)) (k + suc n) ≡ get_or ys n (pos 0)
    by_test true rest = rest
    by_test false rest = ap (λ u. cond u y (price_at (listed_from (k + 1) ys) (k + suc n))) (ne_eqb k (k + suc n) (λ e. absurd (omega (arith, e)))) ∙ rest

-- the price of each term
pub listed_price : (prices : List ℤ) (k : ℕ) → price_at (listed prices) k ≡ number_of prices k
listed_price prices k = ap (price_at (listed prices)) (from_none k) ∙ price_listed prices 0 k
  where
    from_none : (i : ℕ) → i ≡ 0 + i
    from_none i = omega (arith)

more_allowed : (x : ℕ × Term) (terms : List (ℕ × Term)) (prices : List (ℕ × ℤ)) → are_allowed terms prices ≡ true → are_allowed (x ∷ terms) prices ≡ true
more_allowed x terms [] h = refl
more_allowed x terms (q ∷ prices) h =
    let both = parts (list_any (allows q) terms) (are_allowed terms prices) h in
    and_from (allows q x || list_any (allows q) terms) (are_allowed (x ∷ terms) prices) (second (allows q x) (list_any (allows q) terms) both.0) (more_allowed x terms prices both.1)
  where
    parts : (s t : Bool) → (s && t) ≡ true → (s ≡ true) × (t ≡ true)
    parts true t h = (refl, h)
    parts false t h = absurd (true≢false (sym h))

    second : (s t : Bool) → t ≡ true → (s || t) ≡ true
    second true t h = refl
    second false t h = h

listed_allowed : (k : ℕ) (terms : List Term) (prices : List ℤ) → AreWithin terms prices → are_allowed (numbered_from k terms) (listed_from k prices) ≡ true
listed_allowed k [] [] h = refl
listed_allowed k (t ∷ terms) (y ∷ prices) h =
    by_test (unsigned_abs y == 0) refl (more_allowed (k, t) (numbered_from (k + 1) terms) (listed_from (k + 1) prices) (listed_allowed (k + 1) terms prices h.1))
  where
    low : (a b : ℕ) → a ≤ b → nat_le a b ≡ true
    low a b h = grind (arith, nat_tests)

    none : (n : ℕ) → n ≤ 0 → (n == 0) ≡ false → ⊥
    none n h e = grind (arith, nat_tests)

    here : (t : Term) → unsigned_abs y ≤ most_price t → (unsigned_abs y == 0) ≡ false → allows (k, y) (k, t) ≡ true
    here (Side seg first second w) h e = absurd (none (unsigned_abs y) h e)
    here (Link seg other flip a b w) h e = and_from (k == k) (nat_le (unsigned_abs y) (thousand * w)) (eq-eqb k k refl) (low (unsigned_abs y) (thousand * w) h)
    here (Apart seg other a b w) h e = and_from (k == k) (nat_le (unsigned_abs y) (thousand * w)) (eq-eqb k k refl) (low (unsigned_abs y) (thousand * w) h)

    first : (s t : Bool) → s ≡ true → (s || t) ≡ true
    first true t h = refl
    first false t h = absurd (true≢false (sym h))

    by_test : (u : Bool) → (unsigned_abs y == 0) ≡ u → are_allowed ((k, t) ∷ numbered_from (k + 1) terms) (listed_from (k + 1) prices) ≡ true
        → are_allowed ((k, t) ∷ numbered_from (k + 1) terms) (cond u (listed_from (k + 1) prices) ((k, y) ∷ listed_from (k + 1) prices)) ≡ true
    by_test true e rest = rest
    by_test false e rest =
        and_from (allows (k, y) (k, t) || list_any (allows (k, y)) (numbered_from (k + 1) terms)) (are_allowed ((k, t) ∷ numbered_from (k + 1) terms) (listed_from (k + 1) prices))
        (first (allows (k, y) (k, t)) (list_any (allows (k, y)) (numbered_from (k + 1) terms)) (here t h.0 e)) rest
listed_allowed k [] (y ∷ prices) h = absurd h
listed_allowed k (t ∷ terms) [] h = absurd h

-- Values under prices that agree.

least_same : {A : Type 0} (f g : A → ℤ) → ((x : A) → f x ≡ g x) → (xs : List A) → least_value f xs ≡ least_value g xs
least_same f g e [] = refl
least_same f g e (x ∷ xs) = ap (λ v. Some (lesser_of v (least_value f xs))) (e x) ∙ ap (λ v. Some (lesser_of (g x) v)) (least_same f g e xs)

share_same : (f g : ℕ → ℤ) → ((k : ℕ) → f k ≡ g k) → (s : SegId) (order : List LineId) (terms : List (ℕ × Term)) → share_of terms f s order ≡ share_of terms g s order
share_same f g e s order [] = refl
share_same f g e s order (t ∷ terms) =
    ap (λ v. term_share v s order t.1 +ℤ share_of terms f s order) (e t.0) ∙ ap (λ v. term_share (g t.0) s order t.1 +ℤ v) (share_same f g e s order terms)

pub value_same : (segs : List (List LineId)) (terms : List (ℕ × Term)) (f g : ℕ → ℤ) → ((k : ℕ) → f k ≡ g k) → (settled : List SettledPair) (part : List SegId)
    → value_of segs terms f settled part ≡ value_of segs terms g settled part
value_same segs terms f g e settled [] = refl
value_same segs terms f g e settled (s ∷ part) =
    ap (λ v. plus v (value_of segs terms f settled part)) (least_same (share_of terms f s) (share_of terms g s) (λ order. share_same f g e s order terms) (kept_orders (settled_on settled s) (lines_on segs s)))
    ∙ ap (λ v. plus (least_share segs terms g settled s) v) (value_same segs terms f g e settled part)

-- the value, where there is one
abbrev pub IsValue : Option ℤ → ℤ → Type 0
IsValue None w = Unit {0}
IsValue (Some v) w = v ≡ w

module _ (p : ProblemParts) (settled : List SettledPair) (prices : List ℤ) where
  -- the value of the prices is the sum of the shares of the orders that answer them
  answers_value : (part : List SegId) → IsValue (value_of p.segs (all_terms p) (number_of prices) settled part) (int_sum (λ (s : SegId). share_under p prices s (answer_on p settled prices s)) part)
  answers_value [] = refl
  answers_value (s ∷ part) =
      subst (λ v. IsValue (plus v (value_of p.segs (all_terms p) (number_of prices) settled part)) (share_under p prices s (answer_on p settled prices s) +ℤ int_sum (λ (s : SegId). share_under p prices s (answer_on p settled prices s)) part))
      (sym (least_of_first (share_under p prices s) (kept_orders (settled_on settled s) (lines_on p.segs s))))
      (by_first (first_least (share_under p prices s) (kept_orders (settled_on settled s) (lines_on p.segs s))) (value_of p.segs (all_terms p) (number_of prices) settled part) (answers_value part))
    where
      by_first : (o : Option (List LineId)) (w : Option ℤ) → IsValue w (int_sum (λ (s : SegId). share_under p prices s (answer_on p settled prices s)) part)
          → IsValue (plus (option_map (share_under p prices s) o) w) (share_under p prices s (unwrap_or o (lines_on p.segs s)) +ℤ int_sum (λ (s : SegId). share_under p prices s (answer_on p settled prices s)) part)
      by_first None w h = tt
      by_first (Some x) None h = tt
      by_first (Some x) (Some v) h = ap (λ u. share_under p prices s x +ℤ u) h

  pub round_value : IsValue (value_of p.segs (all_terms p) (number_of prices) settled (all_segments p)) (value_with p prices (answers p settled prices))
  round_value =
      subst (IsValue (value_of p.segs (all_terms p) (number_of prices) settled (all_segments p)))
      (sym (all_sums_same (λ (s : SegId). share_under p prices s (lines_on (answers p settled prices) s)) (λ (s : SegId). share_under p prices s (answer_on p settled prices s)) p.segs
      (λ i below. ap (share_under p prices (seg_number i)) (all_made_at p.segs (answer_on p settled prices) i [] below))))
      (answers_value (all_segments p))

-- Lower bounds.

-- the prices are within their weights, and have this value
pub record IsSound (p : ProblemParts) (settled : List SettledPair) (b : LowerBound) : Type 0 where
  pub within : AreWithin p.terms b.prices
  pub value : IsValue (value_of p.segs (all_terms p) (number_of b.prices) settled (all_segments p)) b.value

pub shows_less : (target more : ℕ) (v : Option ℤ) → target ≤ more → shows more v ≡ true → shows target v ≡ true
shows_less target more None h e = refl
shows_less target more (Some v) h e = lower target more v h e
  where
    lower : (t m : ℕ) (v : ℤ) → t ≤ m → int_lt (pos thousand *ℤ (pos m -ℤ pos 1)) v ≡ true → int_lt (pos thousand *ℤ (pos t -ℤ pos 1)) v ≡ true
    lower t m v h e = strictly (pos thousand *ℤ (pos t -ℤ pos 1)) v (then_less (pos thousand *ℤ (pos t -ℤ pos 1)) (pos thousand *ℤ (pos m -ℤ pos 1)) v (omega (arith, ints, h)) e)
      where
        then_less : (a b c : ℤ) → a ≤ℤ b → int_lt b c ≡ true → int_lt a c ≡ true
        then_less a b c h e = grind (arith, ints)

        strictly : (a b : ℤ) → int_lt a b ≡ true → int_lt a b ≡ true
        strictly a b e = e

-- a stop with the prices of a lower bound that shows the target
pub stop_holds : (p : ProblemParts) (settled : List SettledPair) (value : ℤ) (prices : List ℤ) (target : ℕ) → is_narrow p.segs (all_segments p) ≡ true
    → AreWithin p.terms prices → IsValue (value_of p.segs (all_terms p) (number_of prices) settled (all_segments p)) value → shows target (Some value) ≡ true
    → is_stopped (question p.segs (all_segments p) (all_terms p) target) settled (listed prices) ≡ true
stop_holds p settled value prices target narrow within is shown =
    and_from (are_allowed (all_terms p) (listed prices)) (is_narrow p.segs (all_segments p) && shows target (value_of p.segs (all_terms p) (price_at (listed prices)) settled (all_segments p)))
    (listed_allowed 0 p.terms prices within)
    (and_from (is_narrow p.segs (all_segments p)) (shows target (value_of p.segs (all_terms p) (price_at (listed prices)) settled (all_segments p))) narrow
    (ap (shows target) (value_same p.segs (all_terms p) (price_at (listed prices)) (number_of prices) (listed_price prices) settled (all_segments p))
    ∙ by_value (value_of p.segs (all_terms p) (number_of prices) settled (all_segments p)) is))
  where
    by_value : (v : Option ℤ) → IsValue v value → shows target v ≡ true
    by_value None h = refl
    by_value (Some v) h = ap (λ u. shows target (Some u)) h ∙ shown
