-- The value of the canonical prices of a forest of Links is the least cost of a choice.
use Rattle.std.proofs.Common.{◌≡◌, ◌≢◌, ℕ, zero, suc, ◌+◌, ◌==◌, ◌≤◌, Bool, true, false, not, cond, ◌||◌, List, [], ◌∷◌, ◌++◌, length, map, filter, min, refl, sym, ap, subst, ◌∙◌, ◌⊎◌, inl, inr, arith, eqb-true, eq-eqb, true≢false}
use Rattle.std.specs.Prelude.{ℤ, pos, ◌+ℤ◌, ◌-ℤ◌, sum_by, int_lt}
use Rattle.std.specs.List.{AllByRecursion}
use Rattle.std.proofs.lemmas.Int.{ints, clamps}
use Rattle.std.proofs.lemmas.Bool.{or_left, or_right, or_cases, or_parts}
use Rattle.std.proofs.lemmas.List.Sums.{sum_by-cons}
use lib.Signed.{◌≤ℤ◌}
use Rattle.map_base.specs.declared.ids.SegId.{SegId}
use Rattle.order_model.specs.Costs.{same_answer}
use Rattle.order_model.specs.PartTerms.{is_in}
use Rattle.order_bound.specs.Pairs.{OpenLink}
pub use Rattle.order_bound.specs.Pairs.{AreApartSegments}
use Rattle.order_bound.specs.Bounds.{Choice, link_cost, choice_cost, with_answer, least_over}
use Rattle.order_bound.specs.Values.{where_one, is_one, is_one_there, share, least_answer}
use Rattle.whole_sums.specs.Sums.{int_sum}
use Rattle.order_bound.specs.CanonicalPrices.{ChildLink, ends_at, far_end, child_link, walked, children_of, cut_to, shares, rise_of, turned_by, price_for, priced}
use Rattle.order_bound.proofs.Lists.{each_weaker, each_append, each_map, each_filter, each_of}
use Rattle.whole_sums.proofs.Sums.{int_sum_both, int_sum_equal, int_sum_same, int_sum_less, int_sum_below, int_sum_zero, int_sum_pos}
use Rattle.order_bound.proofs.Cuts.{weight_if}
use Rattle.order_bound.proofs.Forests.{IsForest}
use Rattle.order_bound.proofs.Walks.{IsParentFirst, parents_first, links_taken}
use Rattle.order_bound.proofs.Pricing.{paid, IsLeastOn, below_cost, is_child, agree_from, assigned}

-- a Link between two of these segments
pub record IsBetween (slots : List SegId) (l : OpenLink) : Type 0 where
  pub differ : l.seg.0 ≢ l.other.0
  pub here : is_in slots l.seg ≡ true
  pub there : is_in slots l.other ≡ true

-- Each end of a Link adds its share once.

eqb_turned : (a b : ℕ) → (a == b) ≡ false → (b == a) ≡ false
eqb_turned a b h = by_test (b == a) refl
  where
    by_test : (c : Bool) → (b == a) ≡ c → c ≡ false
    by_test true e = absurd (true≢false (sym (eq-eqb a b (sym (eqb-true b a e))) ∙ h))
    by_test false e = refl

-- a number on one segment, 0 on all others
abbrev on_segment : SegId → SegId → ℤ → ℤ
on_segment k s y = cond (k.0 == s.0) y (pos 0)

sum_elsewhere : (k : SegId) (g : SegId → ℤ) (slots : List SegId) → is_in slots k ≡ false → int_sum (λ s. on_segment k s (g s)) slots ≡ pos 0
sum_elsewhere k g [] h = refl
sum_elsewhere k g (s ∷ slots) h =
    let parts = or_parts (s.0 == k.0) (is_in slots k) h in
    let here : (k.0 == s.0) ≡ false = eqb_turned s.0 k.0 parts.0 in
    let rest = sum_elsewhere k g slots parts.1 in
    rw (here, rest) refl

sum_at : (k : SegId) (g : SegId → ℤ) (slots : List SegId) → AreApartSegments slots → is_in slots k ≡ true → int_sum (λ s. on_segment k s (g s)) slots ≡ g k
sum_at k g [] apart h = absurd (true≢false (sym h))
sum_at k g (s ∷ slots) apart h = by_test (s.0 == k.0) refl h (λ later. sum_at k g slots apart.1 later)
  where
    add_zero : (x : ℤ) → x +ℤ pos 0 ≡ x
    add_zero x = omega (arith, ints)

    zero_add : (x : ℤ) → pos 0 +ℤ x ≡ x
    zero_add x = omega (arith, ints)

    by_test : (b : Bool) → (s.0 == k.0) ≡ b → (b || is_in slots k) ≡ true → (is_in slots k ≡ true → int_sum (λ s. on_segment k s (g s)) slots ≡ g k)
        → on_segment k s (g s) +ℤ int_sum (λ s. on_segment k s (g s)) slots ≡ g k
    by_test true e h rest =
        let P : ℕ → SegId = λ n. record { 0 = n } in
        let same : s ≡ k = ap P (eqb-true s.0 k.0 e) in
        let here : (k.0 == s.0) ≡ true = eq-eqb k.0 s.0 (sym (eqb-true s.0 k.0 e)) in
        let none : int_sum (λ s. on_segment k s (g s)) slots ≡ pos 0 = sum_elsewhere k g slots (subst (λ u. is_in slots u ≡ false) same apart.0) in
        rw (here, none) (add_zero (g s) ∙ ap g same)
    by_test false e h rest =
        let here : (k.0 == s.0) ≡ false = eqb_turned s.0 k.0 e in
        let last = rest h in
        rw here (zero_add (int_sum (λ s. on_segment k s (g s)) slots) ∙ last)

-- the shares of a price, over all segments
shared_once : (choice : Choice) (slots : List SegId) (l : OpenLink) (y : ℤ) → AreApartSegments slots → IsBetween slots l
    → int_sum (λ s. share y l s (choice s)) slots ≡ paid choice l y
shared_once choice slots l y apart between =
    int_sum_both (λ s. on_segment l.seg s (where_one (is_one (choice s)) (pos 0 -ℤ y))) (λ s. on_segment l.other s (where_one (is_one_there l (choice s)) y)) slots
    ∙ (ap (λ k. k +ℤ int_sum (λ s. on_segment l.other s (where_one (is_one_there l (choice s)) y)) slots)
    (sum_at l.seg (λ s. where_one (is_one (choice s)) (pos 0 -ℤ y)) slots apart between.here)
    ∙ ap (λ k. where_one (is_one (choice l.seg)) (pos 0 -ℤ y) +ℤ k) (sum_at l.other (λ s. where_one (is_one_there l (choice s)) y) slots apart between.there))

pub shares_once : (choice : Choice) (slots : List SegId) (prices : List (OpenLink × ℤ)) → AreApartSegments slots → AllByRecursion (λ (q : OpenLink × ℤ). IsBetween slots q.0) prices
    → int_sum (λ s. shares prices s (choice s)) slots ≡ int_sum (λ (q : OpenLink × ℤ). paid choice q.0 q.1) prices
shares_once choice slots [] apart between = int_sum_zero slots
shares_once choice slots (q ∷ prices) apart between =
    int_sum_both (λ s. share q.1 q.0 s (choice s)) (λ s. shares prices s (choice s)) slots
    ∙ (ap (λ k. k +ℤ int_sum (λ s. shares prices s (choice s)) slots) (shared_once choice slots q.0 q.1 apart between.0)
    ∙ ap (λ k. paid choice q.0 q.1 +ℤ k) (shares_once choice slots prices apart between.1))

-- what segments cost with shares of prices, by a choice
pub sum_with_shares : (cost : SegId → Bool → ℕ) (choice : Choice) (slots : List SegId) (prices : List (OpenLink × ℤ)) → AreApartSegments slots
    → AllByRecursion (λ (q : OpenLink × ℤ). IsBetween slots q.0) prices
    → int_sum (λ s. below_cost cost prices s (choice s)) slots ≡ pos (sum_by (λ s. cost s (choice s)) slots) +ℤ int_sum (λ (q : OpenLink × ℤ). paid choice q.0 q.1) prices
sum_with_shares cost choice slots prices apart between =
    int_sum_both (λ s. pos (cost s (choice s))) (λ s. shares prices s (choice s)) slots
    ∙ (ap (λ k. k +ℤ int_sum (λ s. shares prices s (choice s)) slots) (int_sum_pos (λ s. cost s (choice s)) slots)
    ∙ ap (λ k. pos (sum_by (λ s. cost s (choice s)) slots) +ℤ k) (shares_once choice slots prices apart between))

-- No choice costs less.

-- a price is within the weight of its Link
pub record IsWithin (l : OpenLink) (y : ℤ) : Type 0 where
  pub low : (pos 0 -ℤ pos l.weight) ≤ℤ y
  pub high : y ≤ℤ pos l.weight

pub paid_below : (choice : Choice) (l : OpenLink) (y : ℤ) → IsWithin l y → paid choice l y ≤ℤ pos (link_cost choice l)
paid_below choice l y within = by_answers (choice l.seg) (choice l.other) l.flip l.weight within.low within.high
  where
    by_answers : (here there flip : Bool) (w : ℕ) → (pos 0 -ℤ pos w) ≤ℤ y → y ≤ℤ pos w
        → (where_one (is_one here) (pos 0 -ℤ y) +ℤ where_one (same_answer flip there) y) ≤ℤ pos (weight_if (same_answer flip (same_answer here there)) w)
    by_answers true true true w p q = omega (arith, ints)
    by_answers true true false w p q = omega (arith, ints)
    by_answers true false true w p q = omega (arith, ints)
    by_answers true false false w p q = omega (arith, ints)
    by_answers false true true w p q = omega (arith, ints)
    by_answers false true false w p q = omega (arith, ints)
    by_answers false false true w p q = omega (arith, ints)
    by_answers false false false w p q = omega (arith, ints)

pub least_below : (cost : Bool → ℤ) (x : Bool) → least_answer cost ≤ℤ cost x
least_below cost true = omega (arith, ints, clamps)
least_below cost false = omega (arith, ints, clamps)

-- the sum of least costs is at most what a choice costs, where the prices are within weights
pub worth_below : (cost : SegId → Bool → ℕ) (choice : Choice) (slots : List SegId) (prices : List (OpenLink × ℤ)) → AreApartSegments slots
    → AllByRecursion (λ (q : OpenLink × ℤ). IsBetween slots q.0) prices → AllByRecursion (λ (q : OpenLink × ℤ). IsWithin q.0 q.1) prices
    → int_sum (λ s. least_answer (below_cost cost prices s)) slots ≤ℤ (pos (sum_by (λ s. cost s (choice s)) slots) +ℤ int_sum (λ (q : OpenLink × ℤ). pos (link_cost choice q.0)) prices)
worth_below cost choice slots prices apart between within =
    let first = int_sum_below (λ s. least_answer (below_cost cost prices s)) (λ s. below_cost cost prices s (choice s)) slots (λ s. least_below (below_cost cost prices s) (choice s)) in
    let whole = sum_with_shares cost choice slots prices apart between in
    let last = int_sum_less (λ (q : OpenLink × ℤ). paid choice q.0 q.1) (λ (q : OpenLink × ℤ). pos (link_cost choice q.0)) prices
    (each_weaker (λ (q : OpenLink × ℤ). IsWithin q.0 q.1) (λ (q : OpenLink × ℤ). paid choice q.0 q.1 ≤ℤ pos (link_cost choice q.0)) prices (λ q h. paid_below choice q.0 q.1 h) within) in
    omega (arith, ints, first, whole, last)

-- The least over all choices.

min_cases : (a b : ℕ) → (min a b ≡ a) ⊎ (min a b ≡ b)
min_cases a b = grind arith

-- a choice that is taken on some segments
abbrev chosen : List SegId → Choice → Choice → Choice
chosen [] start choice = start
chosen (s ∷ rest) start choice = chosen rest (with_answer start s (choice s)) choice

min_left : (a b c : ℕ) → a ≤ c → min a b ≤ c
min_left a b c h = omega arith

min_right : (a b c : ℕ) → b ≤ c → min a b ≤ c
min_right a b c h = omega arith

least_chosen : (slots : List SegId) (start choice : Choice) (cost : Choice → ℕ) → least_over slots start cost ≤ cost (chosen slots start choice)
least_chosen [] start choice cost = omega arith
least_chosen (s ∷ rest) start choice cost = by_answer (choice s) (λ x. least_chosen rest (with_answer start s x) choice cost)
  where
    by_answer : (x : Bool) → ((x : Bool) → least_over rest (with_answer start s x) cost ≤ cost (chosen rest (with_answer start s x) choice))
        → min (least_over rest (with_answer start s true) cost) (least_over rest (with_answer start s false) cost) ≤ cost (chosen rest (with_answer start s x) choice)
    by_answer true h = min_left (least_over rest (with_answer start s true) cost) (least_over rest (with_answer start s false) cost) (cost (chosen rest (with_answer start s true) choice)) (h true)
    by_answer false h = min_right (least_over rest (with_answer start s true) cost) (least_over rest (with_answer start s false) cost) (cost (chosen rest (with_answer start s false) choice)) (h false)

chosen_as : (slots : List SegId) (start choice : Choice) (v : SegId) → (start v ≡ choice v) ⊎ (is_in slots v ≡ true) → chosen slots start choice v ≡ choice v
chosen_as [] start choice v (inl h) = h
chosen_as [] start choice v (inr h) = absurd (true≢false (sym h))
chosen_as (s ∷ rest) start choice v h = chosen_as rest (with_answer start s (choice s)) choice v (by_test (v.0 == s.0) refl h)
  where
    by_test : (b : Bool) → (v.0 == s.0) ≡ b → (start v ≡ choice v) ⊎ ((s.0 == v.0 || is_in rest v) ≡ true) → (cond b (choice s) (start v) ≡ choice v) ⊎ (is_in rest v ≡ true)
    by_test true e h = let P : ℕ → SegId = λ n. record { 0 = n } in inl (ap choice (ap P (sym (eqb-true v.0 s.0 e))))
    by_test false e (inl h) = inl h
    by_test false e (inr h) = elim (or_cases (s.0 == v.0) (is_in rest v) h) [
      | inl here ↦ absurd (true≢false (sym (eq-eqb v.0 s.0 (sym (eqb-true s.0 v.0 here))) ∙ e))
      | inr later ↦ inr later
    ]

-- choices that agree on the segments cost the same
costs_same : (cost : SegId → Bool → ℕ) (one two : Choice) (all some : List SegId) → ((v : SegId) → is_in all v ≡ true → one v ≡ two v)
    → AllByRecursion (λ v. is_in all v ≡ true) some → sum_by (λ s. cost s (one s)) some ≡ sum_by (λ s. cost s (two s)) some
costs_same cost one two all [] same h = refl
costs_same cost one two all (s ∷ some) same h =
    sum_by-cons (λ s. cost s (one s)) s some
    ∙ (ap (λ x. cost s x + sum_by (λ s. cost s (one s)) some) (same s h.0)
    ∙ (ap (λ k. cost s (two s) + k) (costs_same cost one two all some same h.1) ∙ sym (sum_by-cons (λ s. cost s (two s)) s some)))

links_same : (one two : Choice) (all : List SegId) (links : List OpenLink) → ((v : SegId) → is_in all v ≡ true → one v ≡ two v)
    → AllByRecursion (IsBetween all) links → sum_by (link_cost one) links ≡ sum_by (link_cost two) links
links_same one two all [] same h = refl
links_same one two all (l ∷ links) same h =
    sum_by-cons (link_cost one) l links
    ∙ (ap (λ x. weight_if (same_answer l.flip (same_answer x (one l.other))) l.weight + sum_by (link_cost one) links) (same l.seg h.0.here)
    ∙ (ap (λ x. weight_if (same_answer l.flip (same_answer (two l.seg) x)) l.weight + sum_by (link_cost one) links) (same l.other h.0.there)
    ∙ (ap (λ k. link_cost two l + k) (links_same one two all links same h.1) ∙ sym (sum_by-cons (link_cost two) l links))))

seg_itself : (n : ℕ) → (n == n) ≡ true
seg_itself n = eq-eqb n n refl

pub each_in_itself : (slots : List SegId) → AllByRecursion (λ v. is_in slots v ≡ true) slots
each_in_itself [] = tt
each_in_itself (s ∷ slots) = (
  or_left (s.0 == s.0) (is_in slots s) (seg_itself s.0),
  each_weaker (λ v. is_in slots v ≡ true) (λ v. is_in (s ∷ slots) v ≡ true) slots (λ v h. or_right (s.0 == v.0) (is_in slots v) h) (each_in_itself slots),
)

-- no choice costs less than the least
pub least_least : (slots : List SegId) (start choice : Choice) (cost : SegId → Bool → ℕ) (links : List OpenLink) → AllByRecursion (IsBetween slots) links
    → least_over slots start (choice_cost slots cost links) ≤ choice_cost slots cost links choice
least_least slots start choice cost links between =
    let taken : Choice = chosen slots start choice in
    let same : (v : SegId) → is_in slots v ≡ true → taken v ≡ choice v = λ v h. chosen_as slots start choice v (inr h) in
    omega (arith, least_chosen slots start choice (choice_cost slots cost links), costs_same cost taken choice slots slots same (each_in_itself slots), links_same taken choice slots links same between)

-- some choice costs the least
pub least_reached : (slots : List SegId) (start : Choice) (cost : Choice → ℕ) → (choice : Choice) × (least_over slots start cost ≡ cost choice)
least_reached [] start cost = (start, refl)
least_reached (s ∷ rest) start cost =
    let first = least_reached rest (with_answer start s true) cost in
    let second = least_reached rest (with_answer start s false) cost in
    elim (min_cases (least_over rest (with_answer start s true) cost) (least_over rest (with_answer start s false) cost)) [
      | inl h ↦ (first.0, h ∙ first.1)
      | inr h ↦ (second.0, h ∙ second.1)
    ]

-- The children and their prices.

pub each_taken : (Q : OpenLink → Type 0) (n : ℕ) (waiting : List SegId) (links : List OpenLink) → AllByRecursion Q links → AllByRecursion (λ (c : ChildLink). Q c.link) (walked n waiting links)
each_taken Q zero waiting links h = tt
each_taken Q (suc n) [] links h = tt
each_taken Q (suc n) (s ∷ waiting) links h =
    each_append (λ (c : ChildLink). Q c.link) (map (child_link s) (filter (ends_at s) links)) (walked n (map (far_end s) (filter (ends_at s) links) ++ waiting) (filter (λ l. not (ends_at s l)) links))
    (each_map (λ (c : ChildLink). Q c.link) (child_link s) (filter (ends_at s) links) (each_filter Q (ends_at s) links h))
    (each_taken Q n (map (far_end s) (filter (ends_at s) links) ++ waiting) (filter (λ l. not (ends_at s l)) links) (each_filter Q (λ l. not (ends_at s l)) links h))

pub each_priced : (Q : OpenLink → Type 0) (cost : SegId → Bool → ℕ) (children : List ChildLink) → AllByRecursion (λ (c : ChildLink). Q c.link) children
    → AllByRecursion (λ (q : OpenLink × ℤ). Q q.0) (priced cost children)
each_priced Q cost [] h = tt
each_priced Q cost (c ∷ later) h = (h.0, each_priced Q cost later h.1)

pub price_within : (c : ChildLink) (d : ℤ) → IsWithin c.link (price_for c d)
price_within c d = by_tests (c.link.seg.0 == c.child.0) c.link.flip
  where
    by_tests : (b flip : Bool) → IsWithin c.link (cond b (cut_to c.link.weight d) (pos 0 -ℤ cut_to c.link.weight (turned_by flip d)))
    by_tests true flip = record { low = omega (arith, ints, clamps); high = omega (arith, ints, clamps) }
    by_tests false true = record { low = omega (arith, ints, clamps); high = omega (arith, ints, clamps) }
    by_tests false false = record { low = omega (arith, ints, clamps); high = omega (arith, ints, clamps) }

pub each_within : (cost : SegId → Bool → ℕ) (children : List ChildLink) → AllByRecursion (λ (q : OpenLink × ℤ). IsWithin q.0 q.1) (priced cost children)
each_within cost [] = tt
each_within cost (c ∷ later) = (price_within c (rise_of (below_cost cost (priced cost later) c.child)), each_within cost later)

pub sum_priced : (f : OpenLink → ℤ) (cost : SegId → Bool → ℕ) (children : List ChildLink) → int_sum (λ (q : OpenLink × ℤ). f q.0) (priced cost children) ≡ int_sum (λ (c : ChildLink). f c.link) children
sum_priced f cost [] = refl
sum_priced f cost (c ∷ later) = ap (λ k. f c.link +ℤ k) (sum_priced f cost later)

-- a choice that is least on all segments where no child stands
least_start : (SegId → Bool → ℤ) → Choice
least_start full s = not (int_lt (full s false) (full s true))

start_least : (full : SegId → Bool → ℤ) (s : SegId) → IsLeastOn full (least_start full) s
unfolding least_start
start_least full s = by_test (int_lt (full s false) (full s true))
  where
    by_test : (b : Bool) → full s (not b) ≡ cond b (full s false) (full s true)
    by_test true = refl
    by_test false = refl

least_everywhere : (full : SegId → Bool → ℤ) (choice start : Choice) (children : List ChildLink) (s : SegId) → AllByRecursion (λ (c : ChildLink). IsLeastOn full choice c.child) children
    → (is_child s children ≡ false → choice s ≡ start s) → IsLeastOn full start s → IsLeastOn full choice s
least_everywhere full choice start [] s h same least = ap (full s) (same refl) ∙ least
least_everywhere full choice start (c ∷ children) s h same least = by_test (s.0 == c.child.0) refl (λ same. least_everywhere full choice start children s h.1 same least) same
  where
    by_test : (b : Bool) → (s.0 == c.child.0) ≡ b → ((is_child s children ≡ false → choice s ≡ start s) → IsLeastOn full choice s)
        → ((b || is_child s children) ≡ false → choice s ≡ start s) → IsLeastOn full choice s
    by_test true e rest same = let P : ℕ → SegId = λ n. record { 0 = n } in subst (λ u. IsLeastOn full choice u) (ap P (sym (eqb-true s.0 c.child.0 e))) h.0
    by_test false e rest same = rest same

-- The value of the canonical prices is the least over all choices.
pub worth : (slots : List SegId) (start : Choice) (cost : SegId → Bool → ℕ) (links : List OpenLink) → AreApartSegments slots → AllByRecursion (IsBetween slots) links → IsForest (λ s. s) links
    → int_sum (λ s. least_answer (below_cost cost (priced cost (children_of slots links)) s)) slots ≡ pos (least_over slots start (choice_cost slots cost links))
worth slots start cost links apart between forest =
    let children : List ChildLink = children_of slots links in
    let prices : List (OpenLink × ℤ) = priced cost children in
    let full : SegId → Bool → ℤ = below_cost cost prices in
    let first : IsParentFirst children = parents_first (length slots + length links) slots links forest in
    let placed : AllByRecursion (λ (q : OpenLink × ℤ). IsBetween slots q.0) prices = each_priced (IsBetween slots) cost children (each_taken (IsBetween slots) (length slots + length links) slots links between) in
    let taken : (choice : Choice) → int_sum (λ (q : OpenLink × ℤ). pos (link_cost choice q.0)) prices ≡ pos (sum_by (link_cost choice) links) =
    λ choice. sum_priced (λ l. pos (link_cost choice l)) cost children
    ∙ (links_taken (λ l. pos (link_cost choice l)) (length slots + length links) slots links refl (each_weaker (IsBetween slots) (λ l. is_in slots l.seg ≡ true) links (λ l h. h.here) between)
    ∙ int_sum_pos (link_cost choice) links) in
    let reached = least_reached slots start (choice_cost slots cost links) in
    let below = worth_below cost reached.0 slots prices apart placed (each_within cost children) in
    let found = assigned full cost children first (agree_from full cost children first (each_of (λ (d : ChildLink). (x : Bool) → full d.child x ≡ below_cost cost prices d.child x) children (λ d x. refl))) (least_start full) in
    let choice : Choice = found.0 in
    let least = int_sum_equal (λ s. least_answer (full s)) (λ s. full s (choice s)) slots
    (λ s. sym (least_everywhere full choice (least_start full) children s found.2 (found.3 s) (start_least full s))) in
    let whole = sum_with_shares cost choice slots prices apart placed in
    let pays = int_sum_same (λ (q : OpenLink × ℤ). paid choice q.0 q.1) (λ (q : OpenLink × ℤ). pos (link_cost choice q.0)) prices found.1 in
    let at_most = least_least slots start choice cost links between in
    both_ways (int_sum (λ s. least_answer (full s)) slots) (least_over slots start (choice_cost slots cost links)) (choice_cost slots cost links choice)
    (least ∙ (whole ∙ (ap (λ k. pos (sum_by (λ s. cost s (choice s)) slots) +ℤ k) (pays ∙ taken choice)))) at_most
    (low (int_sum (λ s. least_answer (full s)) slots) (sum_by (λ s. cost s (reached.0 s)) slots) (sum_by (link_cost reached.0) links) (least_over slots start (choice_cost slots cost links))
    (int_sum (λ (q : OpenLink × ℤ). pos (link_cost reached.0 q.0)) prices) below (taken reached.0) reached.1)
  where
    low : (v : ℤ) (a b l : ℕ) (k : ℤ) → v ≤ℤ (pos a +ℤ k) → k ≡ pos b → l ≡ a + b → v ≤ℤ pos l
    low v a b l k p q r = omega (arith, ints)

    both_ways : (v : ℤ) (l c : ℕ) → v ≡ pos c → l ≤ c → v ≤ℤ pos l → v ≡ pos l
    both_ways v l c p q r = omega (arith, ints)
