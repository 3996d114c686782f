-- The canonical prices of a prefix are allowed, and their value is its bound.
use Rattle.std.proofs.Common.{◌≡◌, ◌≢◌, ℕ, zero, suc, ◌+◌, ◌<◌, ◌≤◌, ◌==◌, nat_le, Bool, true, false, not, cond, ◌||◌, ◌&&◌, List, [], ◌∷◌, ◌++◌, length, Some, refl, sym, ap, subst, ◌∙◌, ◌⊎◌, inl, inr, arith, eqb-true, eq-eqb, le-leb, true≢false}
use Rattle.std.specs.Prelude.{ℤ, pos, negsuc, ◌+ℤ◌, ◌-ℤ◌, unsigned_abs, sum_by}
use Rattle.std.specs.List.{AllByRecursion, list_any, list_all}
use Rattle.std.proofs.lemmas.Int.{ints, clamps}
use Rattle.std.proofs.lemmas.Bool.{or_left, or_right, and_parts, and_from}
use Rattle.std.proofs.lemmas.List.Folds.{list_all-append}
use Rattle.std.proofs.lemmas.List.Sums.{sum_by-cons, sum_by-append}
use Rattle.map_base.specs.declared.ids.SegId.{SegId}
use Rattle.map_base.specs.declared.ids.LineId.{LineId}
use Rattle.order_model.specs.declared.term.Term.{Term}
use Rattle.order_model.specs.declared.term.Term.TheVariants.{Side, Link, Apart}
use Rattle.order_model.specs.Costs.{same_answer}
use Rattle.order_model.specs.Looks.{is_decided}
use Rattle.order_model.specs.PartTerms.{is_in}
use Rattle.order_bound.specs.Decided.{decided_sum}
use Rattle.order_bound.specs.Pairs.{Pair, pair_of, pair_in, is_pair, pairs_of, is_open_on, open_segments, OpenLink, open_link, open_links, kept_links}
use Rattle.order_bound.specs.Bounds.{slot_cost, pair_bound, bound_of}
use Rattle.order_bound.specs.Values.{share, least_answer, priced_cost, pair_value, value_of, allows, are_allowed, value}
use Rattle.order_values.specs.PriceLists.{price_at}
use Rattle.whole_sums.specs.Sums.{int_sum}
use Rattle.order_bound.specs.CanonicalPrices.{children_of, shares, pair_prices, price_among, listed, prices_on, prices_for}
use Rattle.order_bound.proofs.Lists.{each_weaker, each_append, each_both, Among, each_among, is_false}
use Rattle.whole_sums.proofs.Sums.{int_sum_equal, int_sum_same, int_sum_pos, int_sum_zero}
use Rattle.order_bound.proofs.Forests.{kept_forest}
use Rattle.order_bound.proofs.Walks.{links_taken}
use Rattle.order_bound.proofs.Pricing.{below_cost}
use Rattle.order_bound.proofs.Worth.{IsBetween, IsWithin, each_taken, each_priced, each_within, sum_priced, worth}
use Rattle.order_bound.proofs.Completing.{IsPart, same_pair, apart_filter}
use Rattle.order_bound.proofs.Bounding.{AreNumbered, links_between, each_kept, kept_less}

-- Prices by number.

listed_here : (k : ℕ) (y : ℤ) (rest : List (ℕ × ℤ)) → price_at rest k ≡ pos 0 → price_at (listed k y ++ rest) k ≡ y
listed_here k (pos zero) rest h = h
listed_here k (pos (suc n)) rest h = let here = eq-eqb k k refl in rw here refl
listed_here k (negsuc n) rest h = let here = eq-eqb k k refl in rw here refl

listed_elsewhere : (j k : ℕ) (y : ℤ) (rest : List (ℕ × ℤ)) → (j == k) ≡ false → price_at (listed j y ++ rest) k ≡ price_at rest k
listed_elsewhere j k (pos zero) rest h = refl
listed_elsewhere j k (pos (suc n)) rest h = rw h refl
listed_elsewhere j k (negsuc n) rest h = rw h refl

apart_numbers : (j k : ℕ) → j ≢ k → (j == k) ≡ false
apart_numbers j k h = is_false (j == k) (λ e. h (eqb-true j k e))

none_above : (segs placed : List (List LineId)) (part : List SegId) (all some : List (ℕ × Term)) (k : ℕ) → AllByRecursion (λ (u : ℕ × Term). k < u.0) some
    → price_at (prices_on segs part all placed some) k ≡ pos 0
none_above segs placed part all [] k above = refl
none_above segs placed part all (t ∷ some) k above =
    let below = above.0 in
    listed_elsewhere t.0 k (price_among (pair_prices segs placed part all (pair_in t.1)) t.0) (prices_on segs part all placed some) (apart_numbers t.0 k (λ e. absurd (omega (arith, below, e))))
    ∙ none_above segs placed part all some k above.1

number_above : (k : ℕ) (terms : List (ℕ × Term)) (t : ℕ × Term) → AllByRecursion (λ (u : ℕ × Term). k < u.0) terms → Among t terms → k < t.0
number_above k [] t above h = absurd h
number_above k (u ∷ terms) t above (inl e) = let below = above.0 in omega (arith, below, ap (λ (v : ℕ × Term). v.0) e)
number_above k (u ∷ terms) t above (inr h) = number_above k terms t above.1 h

-- the canonical price of a term
price_on : (segs placed : List (List LineId)) (part : List SegId) (all some : List (ℕ × Term)) (t : ℕ × Term) → AreNumbered some → Among t some
    → price_at (prices_on segs part all placed some) t.0 ≡ price_among (pair_prices segs placed part all (pair_in t.1)) t.0
price_on segs placed part all [] t numbered h = absurd h
price_on segs placed part all (u ∷ some) t numbered (inl e) =
    subst (λ (v : ℕ × Term). price_at (prices_on segs part all placed (u ∷ some)) v.0 ≡ price_among (pair_prices segs placed part all (pair_in v.1)) v.0) (sym e)
    (listed_here u.0 (price_among (pair_prices segs placed part all (pair_in u.1)) u.0) (prices_on segs part all placed some) (none_above segs placed part all some u.0 numbered.0))
price_on segs placed part all (u ∷ some) t numbered (inr h) =
    let below = number_above u.0 some t numbered.0 h in
    listed_elsewhere u.0 t.0 (price_among (pair_prices segs placed part all (pair_in u.1)) u.0) (prices_on segs part all placed some) (apart_numbers u.0 t.0 (λ e. absurd (omega (arith, below, e))))
    ∙ price_on segs placed part all some t numbered.1 h

link_price : (segs placed : List (List LineId)) (part : List SegId) (all : List (ℕ × Term)) (p : Pair) (k : ℕ) (t : Term) → AreNumbered all → Among (k, t) all
    → AllByRecursion (λ (l : OpenLink). price_at (prices_for segs part all placed) l.number ≡ price_among (pair_prices segs placed part all p) l.number) (open_link placed p k t)
link_price segs placed part all p k (Side seg first second w) numbered h = tt
link_price segs placed part all p k (Apart seg other a b w) numbered h = tt
link_price segs placed part all p k (Link seg other flip a b w) numbered h =
    by_test (is_pair p (pair_of a b) && not (is_decided placed seg a b || is_decided placed other a b)) refl
  where
    by_test : (c : Bool) → (is_pair p (pair_of a b) && not (is_decided placed seg a b || is_decided placed other a b)) ≡ c
        → AllByRecursion (λ (l : OpenLink). price_at (prices_for segs part all placed) l.number ≡ price_among (pair_prices segs placed part all p) l.number)
        (cond c (record { number = k; seg = seg; other = other; flip = flip; weight = w } ∷ []) [])
    by_test false e = tt
    by_test true e =
        let mine : p ≡ pair_of a b = same_pair p (pair_of a b) (and_parts (is_pair p (pair_of a b)) (not (is_decided placed seg a b || is_decided placed other a b)) e).0 in
        (price_on segs placed part all all (k, Link seg other flip a b w) numbered h ∙ ap (λ q. price_among (pair_prices segs placed part all q) k) (sym mine), tt)

links_price : (segs placed : List (List LineId)) (part : List SegId) (all some : List (ℕ × Term)) (p : Pair) → AreNumbered all → ((t : ℕ × Term) → Among t some → Among t all)
    → AllByRecursion (λ (l : OpenLink). price_at (prices_for segs part all placed) l.number ≡ price_among (pair_prices segs placed part all p) l.number) (open_links placed p some)
links_price segs placed part all [] p numbered sub = tt
links_price segs placed part all (t ∷ some) p numbered sub =
    each_append (λ (l : OpenLink). price_at (prices_for segs part all placed) l.number ≡ price_among (pair_prices segs placed part all p) l.number) (open_link placed p t.0 t.1) (open_links placed p some)
    (link_price segs placed part all p t.0 t.1 numbered (sub t (inl refl))) (links_price segs placed part all some p numbered (λ u h. sub u (inr h)))

-- Numbers of Links stand once.

abbrev counted : Bool → ℕ
counted b = cond b 1 0

abbrev has_number : ℕ → OpenLink → ℕ
has_number k l = counted (l.number == k)

abbrev pub AreOnceNumbered : List OpenLink → Type 0
AreOnceNumbered links = (k : ℕ) → sum_by (has_number k) links ≤ 1

few_of_one : (placed : List (List LineId)) (p : Pair) (j k : ℕ) (t : Term) → sum_by (has_number k) (open_link placed p j t) ≤ cond (j == k) 1 0
few_of_one placed p j k (Side seg first second w) = omega arith
few_of_one placed p j k (Apart seg other a b w) = omega arith
few_of_one placed p j k (Link seg other flip a b w) = by_test (is_pair p (pair_of a b) && not (is_decided placed seg a b || is_decided placed other a b))
  where
    by_test : (c : Bool) → sum_by (has_number k) (cond c (record { number = j; seg = seg; other = other; flip = flip; weight = w } ∷ []) []) ≤ cond (j == k) 1 0
    by_test true = omega (arith, sum_by-cons (has_number k) (record { number = j; seg = seg; other = other; flip = flip; weight = w }) [])
    by_test false = omega arith

none_of_above : (placed : List (List LineId)) (p : Pair) (k : ℕ) (terms : List (ℕ × Term)) → AllByRecursion (λ (u : ℕ × Term). k < u.0) terms → sum_by (has_number k) (open_links placed p terms) ≡ 0
none_of_above placed p k [] above = refl
none_of_above placed p k (t ∷ terms) above =
    let below = above.0 in
    let one = few_of_one placed p t.0 k t.1 in
    let none : counted (t.0 == k) ≡ 0 = ap counted (apart_numbers t.0 k (λ e. absurd (omega (arith, below, e)))) in
    omega (arith, one, none, none_of_above placed p k terms above.1, sum_by-append (has_number k) (open_link placed p t.0 t.1) (open_links placed p terms))

open_once : (placed : List (List LineId)) (p : Pair) (terms : List (ℕ × Term)) → AreNumbered terms → AreOnceNumbered (open_links placed p terms)
open_once placed p [] numbered k = omega arith
open_once placed p (t ∷ terms) numbered k = by_test (t.0 == k) refl (few_of_one placed p t.0 k t.1) (open_once placed p terms numbered.1 k)
  where
    by_test : (b : Bool) → (t.0 == k) ≡ b → sum_by (has_number k) (open_link placed p t.0 t.1) ≤ cond b 1 0 → sum_by (has_number k) (open_links placed p terms) ≤ 1
        → sum_by (has_number k) (open_link placed p t.0 t.1 ++ open_links placed p terms) ≤ 1
    by_test true e one rest =
        let none = none_of_above placed p k terms (subst (λ j. AllByRecursion (λ (u : ℕ × Term). j < u.0) terms) (eqb-true t.0 k e) numbered.0) in
        omega (arith, one, none, sum_by-append (has_number k) (open_link placed p t.0 t.1) (open_links placed p terms))
    by_test false e one rest = omega (arith, one, rest, sum_by-append (has_number k) (open_link placed p t.0 t.1) (open_links placed p terms))

-- how often a number stands among priced Links
abbrev priced_number : ℕ → OpenLink × ℤ → ℕ
priced_number k q = has_number k q.0

no_price : (k : ℕ) (prices : List (OpenLink × ℤ)) → sum_by (priced_number k) prices ≡ 0 → price_among prices k ≡ pos 0
no_price k [] h = refl
no_price k (q ∷ prices) h = by_test (q.0.number == k) refl (no_price k prices)
  where
    by_test : (b : Bool) → (q.0.number == k) ≡ b → (sum_by (priced_number k) prices ≡ 0 → price_among prices k ≡ pos 0) → cond b q.1 (price_among prices k) ≡ pos 0
    by_test true e rest = let one : has_number k q.0 ≡ 1 = ap counted e in absurd (omega (arith, h, one, sum_by-cons (priced_number k) q prices))
    by_test false e rest = rest (omega (arith, h, sum_by-cons (priced_number k) q prices))

same_number : (q : OpenLink) (links : List OpenLink) (l : OpenLink) → sum_by (has_number l.number) links ≡ 0 → Among q links → (q.number == l.number) ≡ true → ⊥
same_number q [] l none h e = h
same_number q (m ∷ links) l none (inl is) e =
    let one : has_number l.number m ≡ 1 = ap counted (ap (λ (n : OpenLink). n.number == l.number) (sym is) ∙ e) in
    absurd (omega (arith, none, one, sum_by-cons (has_number l.number) m links))
same_number q (m ∷ links) l none (inr h) e = same_number q links l (omega (arith, none, sum_by-cons (has_number l.number) m links)) h e

-- a sum over Links of which one alone has another summand
sums_elsewhere : (f g : OpenLink → ℤ) (k : ℕ) (links : List OpenLink) → sum_by (has_number k) links ≡ 0 → int_sum (λ l. cond (k == l.number) (f l) (g l)) links ≡ int_sum g links
sums_elsewhere f g k [] none = refl
sums_elsewhere f g k (l ∷ links) none = by_test (k == l.number) refl (sums_elsewhere f g k links (omega (arith, none, sum_by-cons (has_number k) l links)))
  where
    by_test : (b : Bool) → (k == l.number) ≡ b → int_sum (λ l. cond (k == l.number) (f l) (g l)) links ≡ int_sum g links
        → cond b (f l) (g l) +ℤ int_sum (λ l. cond (k == l.number) (f l) (g l)) links ≡ g l +ℤ int_sum g links
    by_test true e rest =
        let one : has_number k l ≡ 1 = ap counted (eq-eqb l.number k (sym (eqb-true k l.number e))) in
        absurd (omega (arith, none, one, sum_by-cons (has_number k) l links))
    by_test false e rest = ap (λ n. g l +ℤ n) rest

sums_at : (f g : OpenLink → ℤ) (q : OpenLink) (links : List OpenLink) → AreOnceNumbered links → Among q links → g q ≡ pos 0
    → int_sum (λ l. cond (q.number == l.number) (f l) (g l)) links ≡ f q +ℤ int_sum g links
sums_at f g q [] once h none = absurd h
sums_at f g q (l ∷ links) once h none = by_test (q.number == l.number) refl h (sums_at f g q links (λ k. omega (arith, once k, sum_by-cons (has_number k) l links)))
  where
    here : (a b c : ℤ) → b ≡ pos 0 → a +ℤ c ≡ a +ℤ (b +ℤ c)
    here a b c e = omega (arith, ints)

    moved : (a b c : ℤ) → b +ℤ (a +ℤ c) ≡ a +ℤ (b +ℤ c)
    moved a b c = omega (arith, ints)

    alone : sum_by (has_number l.number) links ≡ 0
    alone = let one : has_number l.number l ≡ 1 = ap counted (eq-eqb l.number l.number refl) in omega (arith, once l.number, one, sum_by-cons (has_number l.number) l links)

    by_test : (b : Bool) → (q.number == l.number) ≡ b → (q ≡ l) ⊎ Among q links
        → (Among q links → g q ≡ pos 0 → int_sum (λ l. cond (q.number == l.number) (f l) (g l)) links ≡ f q +ℤ int_sum g links)
        → cond b (f l) (g l) +ℤ int_sum (λ l. cond (q.number == l.number) (f l) (g l)) links ≡ f q +ℤ (g l +ℤ int_sum g links)
    by_test true e (inl is) rest =
        ap (λ n. f l +ℤ n) (sums_elsewhere f g q.number links (ap (λ k. sum_by (has_number k) links) (eqb-true q.number l.number e) ∙ alone))
        ∙ (here (f l) (g l) (int_sum g links) (ap g (sym is) ∙ none) ∙ ap (λ m. f m +ℤ (g l +ℤ int_sum g links)) (sym is))
    by_test true e (inr later) rest = absurd (same_number q links l alone later e)
    by_test false e (inl is) rest = absurd (true≢false (sym (eq-eqb q.number l.number (ap (λ (m : OpenLink). m.number) is)) ∙ e))
    by_test false e (inr later) rest = ap (λ n. g l +ℤ n) (rest later none) ∙ moved (f q) (g l) (int_sum g links)

no_share : (l : OpenLink) (s : SegId) (x : Bool) → share (pos 0) l s x ≡ pos 0
no_share l s x = by_tests (l.seg.0 == s.0) (l.other.0 == s.0) (not x) (same_answer l.flip x)
  where
    by_tests : (a b c d : Bool) → cond a (cond c (pos 0 -ℤ pos 0) (pos 0)) (pos 0) +ℤ cond b (cond d (pos 0) (pos 0)) (pos 0) ≡ pos 0
    by_tests true true true true = omega (arith, ints)
    by_tests true true true false = omega (arith, ints)
    by_tests true true false true = omega (arith, ints)
    by_tests true true false false = omega (arith, ints)
    by_tests true false true d = omega (arith, ints)
    by_tests true false false d = omega (arith, ints)
    by_tests false true c true = omega (arith, ints)
    by_tests false true c false = omega (arith, ints)
    by_tests false false c d = omega (arith, ints)

share_if : (b : Bool) (y z : ℤ) (l : OpenLink) (s : SegId) (x : Bool) → share (cond b y z) l s x ≡ cond b (share y l s x) (share z l s x)
share_if true y z l s x = refl
share_if false y z l s x = refl

alone_priced : (q : OpenLink × ℤ) (prices : List (OpenLink × ℤ)) → ((k : ℕ) → sum_by (priced_number k) (q ∷ prices) ≤ 1) → sum_by (priced_number q.0.number) prices ≡ 0
alone_priced q prices few =
    let one : has_number q.0.number q.0 ≡ 1 = ap counted (eq-eqb q.0.number q.0.number refl) in
    omega (arith, few q.0.number, one, sum_by-cons (priced_number q.0.number) q prices)

-- the sum of shares by number is that of the priced Links
shares_by_number : (s : SegId) (x : Bool) (links : List OpenLink) (prices : List (OpenLink × ℤ)) → AreOnceNumbered links → ((k : ℕ) → sum_by (priced_number k) prices ≤ 1)
    → AllByRecursion (λ (q : OpenLink × ℤ). Among q.0 links) prices → int_sum (λ (l : OpenLink). share (price_among prices l.number) l s x) links ≡ shares prices s x
shares_by_number s x links [] once few inside = int_sum_equal (λ (l : OpenLink). share (pos 0) l s x) (λ l. pos 0) links (λ l. no_share l s x) ∙ int_sum_zero links
shares_by_number s x links (q ∷ prices) once few inside =
    let none : price_among prices q.0.number ≡ pos 0 = no_price q.0.number prices (alone_priced q prices few) in
    let rest = shares_by_number s x links prices once (λ k. omega (arith, few k, sum_by-cons (priced_number k) q prices)) inside.1 in
    int_sum_equal (λ (l : OpenLink). share (cond (q.0.number == l.number) q.1 (price_among prices l.number)) l s x)
    (λ (l : OpenLink). cond (q.0.number == l.number) (share q.1 l s x) (share (price_among prices l.number) l s x)) links (λ l. share_if (q.0.number == l.number) q.1 (price_among prices l.number) l s x)
    ∙ (sums_at (λ (l : OpenLink). share q.1 l s x) (λ (l : OpenLink). share (price_among prices l.number) l s x) q.0 links once inside.0 (ap (λ y. share y q.0 s x) none ∙ no_share q.0 s x)
    ∙ ap (λ k. share q.1 q.0 s x +ℤ k) rest)

-- the canonical prices of a pair are on open Links, each once
module _ (segs placed : List (List LineId)) (part : List SegId) (terms : List (ℕ × Term)) (p : Pair) (ok : IsPart segs part terms) (numbered : AreNumbered terms) where
  abbrev slots : List SegId
  slots = open_segments segs placed part p

  abbrev links : List OpenLink
  links = open_links placed p terms

  abbrev the_prices : List (OpenLink × ℤ)
  the_prices = pair_prices segs placed part terms p

  kept_between : AllByRecursion (IsBetween slots) (kept_links placed p terms)
  kept_between = each_kept (IsBetween slots) (λ s. s) links (links_between segs placed part p terms ok.known ok.inside)

  on_links : (P : OpenLink → Type 0) → AllByRecursion P links → AllByRecursion (λ (q : OpenLink × ℤ). P q.0) the_prices
  on_links P h =
      each_priced P (slot_cost placed terms p) (children_of slots (kept_links placed p terms))
      (each_taken P (length slots + length (kept_links placed p terms)) slots (kept_links placed p terms) (each_kept P (λ s. s) links h))

  each_once : (k : ℕ) → sum_by (priced_number k) the_prices ≤ 1
  each_once k =
      let over = int_sum_pos (priced_number k) the_prices in
      let priced_sum_is = sum_priced (λ l. pos (has_number k l)) (slot_cost placed terms p) (children_of slots (kept_links placed p terms)) in
      let taken = links_taken (λ l. pos (has_number k l)) (length slots + length (kept_links placed p terms)) slots (kept_links placed p terms) refl
      (each_weaker (IsBetween slots) (λ l. is_in slots l.seg ≡ true) (kept_links placed p terms) (λ l h. h.here) kept_between) in
      let under = int_sum_pos (has_number k) (kept_links placed p terms) in
      few (sum_by (priced_number k) the_prices) (sum_by (has_number k) (kept_links placed p terms)) (sum_by (has_number k) links)
      (sym over ∙ (priced_sum_is ∙ (taken ∙ under))) (kept_less (has_number k) (λ s. s) links) (open_once placed p terms numbered k)
    where
      few : (a b c : ℕ) → pos a ≡ pos b → b ≤ c → c ≤ 1 → a ≤ 1
      few a b c e h k = omega (arith, ints)

  pair_value_is : pair_value segs placed part terms (prices_for segs part terms placed) p ≡ pos (pair_bound segs placed part terms p)
  pair_value_is =
      int_sum_equal (λ s. least_answer (priced_cost (slot_cost placed terms p) links (λ l. price_at (prices_for segs part terms placed) l.number) s))
      (λ s. least_answer (below_cost (slot_cost placed terms p) the_prices s)) slots
      (λ s. least_same (priced_cost (slot_cost placed terms p) links (λ l. price_at (prices_for segs part terms placed) l.number) s) (below_cost (slot_cost placed terms p) the_prices s)
      (λ x. ap (λ k. pos (slot_cost placed terms p s x) +ℤ k) (same_shares s x)))
      ∙ worth slots (λ s. true) (slot_cost placed terms p) (kept_links placed p terms) (apart_filter (is_open_on segs placed p) part ok.apart) kept_between (kept_forest (λ s. s) links)
    where
      least_same : (f g : Bool → ℤ) → ((x : Bool) → f x ≡ g x) → least_answer f ≡ least_answer g
      least_same f g h = omega (arith, ints, clamps, h true, h false)

      same_shares : (s : SegId) (x : Bool) → int_sum (λ (l : OpenLink). share (price_at (prices_for segs part terms placed) l.number) l s x) links ≡ shares the_prices s x
      same_shares s x =
          int_sum_same (λ (l : OpenLink). share (price_at (prices_for segs part terms placed) l.number) l s x) (λ (l : OpenLink). share (price_among the_prices l.number) l s x) links
          (each_weaker (λ (l : OpenLink). price_at (prices_for segs part terms placed) l.number ≡ price_among the_prices l.number)
          (λ (l : OpenLink). share (price_at (prices_for segs part terms placed) l.number) l s x ≡ share (price_among the_prices l.number) l s x) links
          (λ l e. ap (λ y. share y l s x) e) (links_price segs placed part terms terms p numbered (λ t h. h)))
          ∙ shares_by_number s x links the_prices (open_once placed p terms numbered) each_once (on_links (λ l. Among l links) (each_among (λ l. Among l links) links (λ l h. h)))

pub canonical_value : (segs placed : List (List LineId)) (part : List SegId) (terms : List (ℕ × Term)) → IsPart segs part terms → AreNumbered terms
    → value_of segs part terms placed (prices_for segs part terms placed) ≡ pos (bound_of segs part terms placed)
canonical_value segs placed part terms ok numbered =
    let each = int_sum_equal (pair_value segs placed part terms (prices_for segs part terms placed)) (λ p. pos (pair_bound segs placed part terms p)) (pairs_of terms)
    (λ p. pair_value_is segs placed part terms p ok numbered) in
    let sums = int_sum_pos (pair_bound segs placed part terms) (pairs_of terms) in
    ap (λ k. pos (decided_sum segs placed terms) +ℤ k) (each ∙ sums)

-- The canonical prices are allowed.

abbrev is_allowed_on : List (List LineId) → List (ℕ × Term) → ℕ × ℤ → Bool
is_allowed_on placed terms q = list_any (λ (t : ℕ × Term). allows placed q t.0 t.1) terms

small_price : (l : OpenLink) (y : ℤ) → IsWithin l y → unsigned_abs y ≤ l.weight
small_price l y h = let low = h.low in let high = h.high in omega (arith, ints)

one_allows : (placed : List (List LineId)) (p : Pair) (k : ℕ) (t : Term) → AllByRecursion (λ (l : OpenLink). (y : ℤ) → IsWithin l y → allows placed (l.number, y) k t ≡ true) (open_link placed p k t)
one_allows placed p k (Side seg first second w) = tt
one_allows placed p k (Apart seg other a b w) = tt
one_allows placed p k (Link seg other flip a b w) = by_test (is_pair p (pair_of a b)) (not (is_decided placed seg a b || is_decided placed other a b)) refl
  where
    by_test : (c d : Bool) → not (is_decided placed seg a b || is_decided placed other a b) ≡ d
        → AllByRecursion (λ (l : OpenLink). (y : ℤ) → IsWithin l y → ((k == l.number && not (is_decided placed seg a b || is_decided placed other a b)) && nat_le (unsigned_abs y) w) ≡ true)
        (cond (c && d) (record { number = k; seg = seg; other = other; flip = flip; weight = w } ∷ []) [])
    by_test false d e = tt
    by_test true false e = tt
    by_test true true e = (
      λ y h. and_from (k == k && not (is_decided placed seg a b || is_decided placed other a b)) (nat_le (unsigned_abs y) w)
          (and_from (k == k) (not (is_decided placed seg a b || is_decided placed other a b)) (eq-eqb k k refl) e)
          (le-leb (unsigned_abs y) w (small_price (record { number = k; seg = seg; other = other; flip = flip; weight = w }) y h)),
      tt,
    )

each_allows : (placed : List (List LineId)) (p : Pair) (terms : List (ℕ × Term))
    → AllByRecursion (λ (l : OpenLink). (y : ℤ) → IsWithin l y → is_allowed_on placed terms (l.number, y) ≡ true) (open_links placed p terms)
each_allows placed p [] = tt
each_allows placed p (t ∷ terms) =
    each_append (λ (l : OpenLink). (y : ℤ) → IsWithin l y → is_allowed_on placed (t ∷ terms) (l.number, y) ≡ true) (open_link placed p t.0 t.1) (open_links placed p terms)
    (each_weaker (λ (l : OpenLink). (y : ℤ) → IsWithin l y → allows placed (l.number, y) t.0 t.1 ≡ true) (λ (l : OpenLink). (y : ℤ) → IsWithin l y → is_allowed_on placed (t ∷ terms) (l.number, y) ≡ true)
    (open_link placed p t.0 t.1) (λ l f y h. or_left (allows placed (l.number, y) t.0 t.1) (is_allowed_on placed terms (l.number, y)) (f y h)) (one_allows placed p t.0 t.1))
    (each_weaker (λ (l : OpenLink). (y : ℤ) → IsWithin l y → is_allowed_on placed terms (l.number, y) ≡ true) (λ (l : OpenLink). (y : ℤ) → IsWithin l y → is_allowed_on placed (t ∷ terms) (l.number, y) ≡ true)
    (open_links placed p terms) (λ l f y h. or_right (allows placed (l.number, y) t.0 t.1) (is_allowed_on placed terms (l.number, y)) (f y h)) (each_allows placed p terms))

price_allowed : (placed : List (List LineId)) (terms : List (ℕ × Term)) (prices : List (OpenLink × ℤ)) (k : ℕ)
    → AllByRecursion (λ (q : OpenLink × ℤ). is_allowed_on placed terms (q.0.number, q.1) ≡ true) prices
    → (price_among prices k ≡ pos 0) ⊎ (is_allowed_on placed terms (k, price_among prices k) ≡ true)
price_allowed placed terms [] k h = inl refl
price_allowed placed terms (q ∷ prices) k h = by_test (q.0.number == k) refl (price_allowed placed terms prices k h.1)
  where
    by_test : (b : Bool) → (q.0.number == k) ≡ b → (price_among prices k ≡ pos 0) ⊎ (is_allowed_on placed terms (k, price_among prices k) ≡ true)
        → (cond b q.1 (price_among prices k) ≡ pos 0) ⊎ (is_allowed_on placed terms (k, cond b q.1 (price_among prices k)) ≡ true)
    by_test true e rest = inr (subst (λ j. is_allowed_on placed terms (j, q.1) ≡ true) (eqb-true q.0.number k e) h.0)
    by_test false e rest = rest

listed_allowed : (placed : List (List LineId)) (terms : List (ℕ × Term)) (k : ℕ) (y : ℤ) → (y ≡ pos 0) ⊎ (is_allowed_on placed terms (k, y) ≡ true) → list_all (is_allowed_on placed terms) (listed k y) ≡ true
listed_allowed placed terms k (pos zero) h = refl
listed_allowed placed terms k (pos (suc n)) (inl e) = absurd (omega (arith, ints, e))
listed_allowed placed terms k (pos (suc n)) (inr h) = and_from (is_allowed_on placed terms (k, pos (suc n))) true h refl
listed_allowed placed terms k (negsuc n) (inl e) = absurd (omega (arith, ints, e))
listed_allowed placed terms k (negsuc n) (inr h) = and_from (is_allowed_on placed terms (k, negsuc n)) true h refl

all_allowed : (segs placed : List (List LineId)) (part : List SegId) (all some : List (ℕ × Term)) → IsPart segs part all → AreNumbered all
    → list_all (is_allowed_on placed all) (prices_on segs part all placed some) ≡ true
all_allowed segs placed part all [] ok numbered = refl
all_allowed segs placed part all (t ∷ some) ok numbered =
    let p : Pair = pair_in t.1 in
    let prices : List (OpenLink × ℤ) = pair_prices segs placed part all p in
    let each = on_links segs placed part all p ok numbered (λ l. (y : ℤ) → IsWithin l y → is_allowed_on placed all (l.number, y) ≡ true) (each_allows placed p all) in
    let within = each_within (slot_cost placed all p) (children_of (open_segments segs placed part p) (kept_links placed p all)) in
    let both = each_both (λ (q : OpenLink × ℤ). (y : ℤ) → IsWithin q.0 y → is_allowed_on placed all (q.0.number, y) ≡ true) (λ (q : OpenLink × ℤ). IsWithin q.0 q.1) prices each within in
    let here = listed_allowed placed all t.0 (price_among prices t.0) (price_allowed placed all prices t.0
    (each_weaker (λ (q : OpenLink × ℤ). ((y : ℤ) → IsWithin q.0 y → is_allowed_on placed all (q.0.number, y) ≡ true) × IsWithin q.0 q.1) (λ (q : OpenLink × ℤ). is_allowed_on placed all (q.0.number, q.1) ≡ true) prices
    (λ q h. h.0 q.1 h.1) both)) in
    list_all-append (is_allowed_on placed all) (listed t.0 (price_among prices t.0)) (prices_on segs part all placed some)
    ∙ and_from (list_all (is_allowed_on placed all) (listed t.0 (price_among prices t.0))) (list_all (is_allowed_on placed all) (prices_on segs part all placed some)) here
    (all_allowed segs placed part all some ok numbered)

-- the canonical prices are allowed, and their value is the bound
pub canonical_prices_reach : (segs placed : List (List LineId)) (part : List SegId) (terms : List (ℕ × Term)) → IsPart segs part terms → AreNumbered terms
    → value segs part terms placed (prices_for segs part terms placed) ≡ Some (pos (bound_of segs part terms placed))
canonical_prices_reach segs placed part terms ok numbered =
    let allowed : are_allowed placed terms (prices_for segs part terms placed) ≡ true = all_allowed segs placed part terms terms ok numbered in
    rw allowed (ap Some (canonical_value segs placed part terms ok numbered))
