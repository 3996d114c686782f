-- The bound of a prefix and the value of allowed prices are at most the cost of each completion.
use Rattle.std.proofs.Common.{◌≡◌, ℕ, ◌+◌, ◌<◌, ◌≤◌, ◌==◌, nat_le, Bool, true, false, not, cond, ◌||◌, ◌&&◌, List, [], ◌∷◌, map, filter, Some, None, refl, sym, ap, subst, ◌∙◌, ◌⊎◌, inl, inr, arith, eqb-true, leb-true, true≢false}
use Rattle.std.specs.Prelude.{ℤ, pos, ◌+ℤ◌, unsigned_abs, sum_by}
use Rattle.std.specs.List.{AllByRecursion, list_any}
use Rattle.std.proofs.lemmas.Int.{ints, clamps}
use Rattle.std.proofs.lemmas.Bool.{or_left, or_right, or_cases, or_parts, and_parts, and_from}
use Rattle.std.proofs.lemmas.List.Sums.{sum_by-cons}
use lib.Signed.{◌≤ℤ◌}
use Rattle.map_base.specs.declared.ids.SegId.{SegId}
use Rattle.map_base.specs.declared.ids.LineId.{LineId}
use Rattle.order_model.specs.declared.term.Term.{Term}
use Rattle.order_model.specs.declared.term.Term.TheVariants.{Side, Link, Apart}
use Rattle.order_model.specs.Problems.{lines_on, IsTerm}
use Rattle.order_model.specs.Costs.{cost_of, AreOrders}
use Rattle.order_model.specs.Places.{has_line}
use Rattle.order_model.specs.PartTerms.{is_in, is_of, plain_terms}
use Rattle.order_model.specs.Completions.{Completes}
use Rattle.order_model.specs.Looks.{is_decided}
use Rattle.order_bound.specs.Decided.{decided_sum}
use Rattle.order_bound.specs.Pairs.{Pair, pair_of, is_pair, pairs_of, is_open_on, open_segments, OpenLink, open_link, open_links, joined, kept, kept_links}
use Rattle.order_bound.specs.Bounds.{Choice, slot_cost, link_cost, choice_cost, pair_bound, bound_of}
use Rattle.order_bound.specs.Values.{share, least_answer, priced_cost, priced_sum, pair_value, value_of, allows, are_allowed, value}
use Rattle.order_values.specs.PriceLists.{price_at}
use Rattle.whole_sums.specs.Sums.{int_sum}
use Rattle.order_bound.specs.CanonicalPrices.{shares}
use Rattle.order_bound.proofs.Lists.{each_append, each_map, each_of, Among, not_passes}
use Rattle.whole_sums.proofs.Sums.{int_sum_equal, int_sum_below, int_sum_pos, int_sum-map}
use Rattle.order_bound.proofs.Pricing.{below_cost}
use Rattle.order_bound.proofs.Worth.{IsBetween, IsWithin, worth_below, least_least}
use Rattle.order_bound.proofs.Sums.{sum_less}
use Rattle.order_bound.proofs.TermCosts.{choice_of, pair_is}
use Rattle.order_bound.proofs.Completing.{IsPart, on_placed, same_pair, apart_filter, completion_costs}

-- The open Links of a pair lie between its open segments.

in_filter : (p : SegId → Bool) (part : List SegId) (s : SegId) → is_in part s ≡ true → p s ≡ true → is_in (filter p part) s ≡ true
in_filter p [] s h e = h
in_filter p (t ∷ part) s h e = by_test (p t) refl (or_cases (t.0 == s.0) (is_in part s) h) (λ k. in_filter p part s k e)
  where
    same : (t.0 == s.0) ≡ true → t ≡ s
    same k = let P : ℕ → SegId = λ n. record { 0 = n } in ap P (eqb-true t.0 s.0 k)

    by_test : (b : Bool) → p t ≡ b → ((t.0 == s.0) ≡ true) ⊎ (is_in part s ≡ true) → (is_in part s ≡ true → is_in (filter p part) s ≡ true) → is_in (cond b (t ∷ filter p part) (filter p part)) s ≡ true
    by_test true d (inl here) rest = or_left (t.0 == s.0) (is_in (filter p part) s) here
    by_test true d (inr later) rest = or_right (t.0 == s.0) (is_in (filter p part) s) (rest later)
    by_test false d (inl here) rest = absurd (true≢false (sym (ap p (same here) ∙ e) ∙ d))
    by_test false d (inr later) rest = rest later

open_there : (segs placed : List (List LineId)) (part : List SegId) (p : Pair) (s : SegId) → is_in part s ≡ true → has_line (lines_on segs s) p.lesser ≡ true → has_line (lines_on segs s) p.greater ≡ true
    → is_decided placed s p.lesser p.greater ≡ false → is_in (open_segments segs placed part p) s ≡ true
open_there segs placed part p s inside on_a on_b undecided =
    in_filter (is_open_on segs placed p) part s inside
    (and_from (has_line (lines_on segs s) p.lesser && has_line (lines_on segs s) p.greater) (not (is_decided placed s p.lesser p.greater))
    (and_from (has_line (lines_on segs s) p.lesser) (has_line (lines_on segs s) p.greater) on_a on_b) (ap not undecided))

pub link_between : (segs placed : List (List LineId)) (part : List SegId) (p : Pair) (k : ℕ) (t : Term) → IsTerm segs t → is_of part t ≡ true
    → AllByRecursion (IsBetween (open_segments segs placed part p)) (open_link placed p k t)
link_between segs placed part p k (Side seg first second w) known inside = tt
link_between segs placed part p k (Apart seg other a b w) known inside = tt
link_between segs placed part p k (Link seg other flip a b w) known inside =
    by_test (is_pair p (pair_of a b) && not (is_decided placed seg a b || is_decided placed other a b)) refl
  where
    by_test : (c : Bool) → (is_pair p (pair_of a b) && not (is_decided placed seg a b || is_decided placed other a b)) ≡ c
        → AllByRecursion (IsBetween (open_segments segs placed part p)) (cond c (record { number = k; seg = seg; other = other; flip = flip; weight = w } ∷ []) [])
    by_test false e = tt
    by_test true e =
        let parts = and_parts (is_pair p (pair_of a b)) (not (is_decided placed seg a b || is_decided placed other a b)) e in
        let mine : p ≡ record { lesser = a; greater = b } = same_pair p (pair_of a b) parts.0 ∙ pair_is a b known.a_below in
        let undecided = or_parts (is_decided placed seg a b) (is_decided placed other a b) (not_passes (is_decided placed seg a b || is_decided placed other a b) parts.1) in
        let in_part = and_parts (is_in part seg) (is_in part other) inside in
        subst (λ (q : Pair). AllByRecursion (IsBetween (open_segments segs placed part q)) (record { number = k; seg = seg; other = other; flip = flip; weight = w } ∷ [])) (sym mine) (
          record {
            differ = (let below = known.seg_below in λ f. absurd (omega (arith, below, f)));
            here = open_there segs placed part (record { lesser = a; greater = b }) seg in_part.0 (on_placed (lines_on segs seg) a known.a_on) (on_placed (lines_on segs seg) b known.b_on) undecided.0;
            there = open_there segs placed part (record { lesser = a; greater = b }) other in_part.1 (on_placed (lines_on segs other) a known.a_on_other) (on_placed (lines_on segs other) b known.b_on_other) undecided.1;
          },
          tt,
        )

pub links_between : (segs placed : List (List LineId)) (part : List SegId) (p : Pair) (terms : List (ℕ × Term)) → ((t : ℕ × Term) → Among t terms → IsTerm segs t.1) → ((t : ℕ × Term) → Among t terms → is_of part t.1 ≡ true)
    → AllByRecursion (IsBetween (open_segments segs placed part p)) (open_links placed p terms)
links_between segs placed part p [] known inside = tt
links_between segs placed part p (t ∷ terms) known inside =
    each_append (IsBetween (open_segments segs placed part p)) (open_link placed p t.0 t.1) (open_links placed p terms)
    (link_between segs placed part p t.0 t.1 (known t (inl refl)) (inside t (inl refl)))
    (links_between segs placed part p terms (λ u h. known u (inr h)) (λ u h. inside u (inr h)))

-- Kept Links are open Links.

pub each_kept : (P : OpenLink → Type 0) (label : ℕ → ℕ) (links : List OpenLink) → AllByRecursion P links → AllByRecursion P (kept label links)
each_kept P label [] h = tt
each_kept P label (l ∷ links) h = by_test (label l.seg.0 == label l.other.0) (each_kept P label links h.1) (each_kept P (joined label l.seg.0 l.other.0) links h.1)
  where
    by_test : (b : Bool) → AllByRecursion P (kept label links) → AllByRecursion P (kept (joined label l.seg.0 l.other.0) links)
        → AllByRecursion P (cond b (kept label links) (l ∷ kept (joined label l.seg.0 l.other.0) links))
    by_test true same rest = same
    by_test false same rest = (h.0, rest)

pub kept_less : (f : OpenLink → ℕ) (label : ℕ → ℕ) (links : List OpenLink) → sum_by f (kept label links) ≤ sum_by f links
kept_less f label [] = omega arith
kept_less f label (l ∷ links) = by_test (label l.seg.0 == label l.other.0) (kept_less f label links) (kept_less f (joined label l.seg.0 l.other.0) links)
  where
    by_test : (b : Bool) → sum_by f (kept label links) ≤ sum_by f links → sum_by f (kept (joined label l.seg.0 l.other.0) links) ≤ sum_by f links
        → sum_by f (cond b (kept label links) (l ∷ kept (joined label l.seg.0 l.other.0) links)) ≤ sum_by f (l ∷ links)
    by_test true same rest = omega (arith, same, sum_by-cons f l links)
    by_test false same rest = omega (arith, rest, sum_by-cons f l links, sum_by-cons f l (kept (joined label l.seg.0 l.other.0) links))

-- The bound.

pub bound_below : (segs placed orders : List (List LineId)) (part : List SegId) (terms : List (ℕ × Term)) → IsPart segs part terms → AreOrders segs orders → Completes part placed orders
    → bound_of segs part terms placed ≤ cost_of (plain_terms terms) orders
bound_below segs placed orders part terms ok are done =
    let each = sum_less (pair_bound segs placed part terms)
    (λ p. choice_cost (open_segments segs placed part p) (slot_cost placed terms p) (open_links placed p terms) (choice_of orders p)) (pairs_of terms)
    (each_of (λ p. pair_bound segs placed part terms p ≤ choice_cost (open_segments segs placed part p) (slot_cost placed terms p) (open_links placed p terms) (choice_of orders p)) (pairs_of terms)
    (λ p.
    let between = each_kept (IsBetween (open_segments segs placed part p)) (λ s. s) (open_links placed p terms) (links_between segs placed part p terms ok.known ok.inside) in
    omega (
      arith,
      least_least (open_segments segs placed part p) (λ s. true) (choice_of orders p) (slot_cost placed terms p) (kept_links placed p terms) between,
      kept_less (link_cost (choice_of orders p)) (λ s. s) (open_links placed p terms),
    ))) in
    omega (arith, each, completion_costs segs placed orders part terms ok are done)

-- The value of prices.

-- the numbers of terms rise
abbrev pub AreNumbered : List (ℕ × Term) → Type 0
AreNumbered [] = Unit {0}
AreNumbered (t ∷ terms) = AllByRecursion (λ (u : ℕ × Term). t.0 < u.0) terms × AreNumbered terms

allowed_number : (placed : List (List LineId)) (q : ℕ × ℤ) (k : ℕ) (t : Term) → allows placed q k t ≡ true → k ≡ q.0
allowed_number placed q k (Side seg first second w) h = absurd (true≢false (sym h))
allowed_number placed q k (Apart seg other a b w) h = absurd (true≢false (sym h))
allowed_number placed q k (Link seg other flip a b w) h =
    let parts = and_parts (k == q.0 && not (is_decided placed seg a b || is_decided placed other a b)) (nat_le (unsigned_abs q.1) w) h in
    eqb-true k q.0 (and_parts (k == q.0) (not (is_decided placed seg a b || is_decided placed other a b)) parts.0).0

none_later : (placed : List (List LineId)) (q : ℕ × ℤ) (k : ℕ) (terms : List (ℕ × Term)) → AllByRecursion (λ (u : ℕ × Term). k < u.0) terms → q.0 ≡ k
    → list_any (λ (t : ℕ × Term). allows placed q t.0 t.1) terms ≡ true → ⊥
none_later placed q k [] above e h = true≢false (sym h)
none_later placed q k (t ∷ terms) above e h = elim (or_cases (allows placed q t.0 t.1) (list_any (λ (t : ℕ × Term). allows placed q t.0 t.1) terms) h) [
  | inl here ↦ (let same = allowed_number placed q t.0 t.1 here in let below = above.0 in absurd (omega (arith, same, below, e)))
  | inr later ↦ none_later placed q k terms above.1 e later
]

all_above : (k : ℕ) (terms : List (ℕ × Term)) (t : ℕ × Term) → AllByRecursion (λ (u : ℕ × Term). k < u.0) terms → Among t terms → k < t.0
all_above k [] t above h = absurd h
all_above k (u ∷ terms) t above (inl e) = let below = above.0 in omega (arith, below, ap (λ (v : ℕ × Term). v.0) e)
all_above k (u ∷ terms) t above (inr h) = all_above k terms t above.1 h

-- what is allowed on some term is allowed on the term of the price's number
allowed_here : (placed : List (List LineId)) (q : ℕ × ℤ) (terms : List (ℕ × Term)) (t : ℕ × Term) → AreNumbered terms → Among t terms → q.0 ≡ t.0
    → list_any (λ (t : ℕ × Term). allows placed q t.0 t.1) terms ≡ true → allows placed q t.0 t.1 ≡ true
allowed_here placed q [] t numbered h e any = absurd h
allowed_here placed q (u ∷ terms) t numbered (inl here) e any = elim (or_cases (allows placed q u.0 u.1) (list_any (λ (t : ℕ × Term). allows placed q t.0 t.1) terms) any) [
  | inl first ↦ ap (λ (v : ℕ × Term). allows placed q v.0 v.1) here ∙ first
  | inr later ↦ absurd (none_later placed q u.0 terms numbered.0 (e ∙ ap (λ (v : ℕ × Term). v.0) here) later)
]
allowed_here placed q (u ∷ terms) t numbered (inr h) e any = elim (or_cases (allows placed q u.0 u.1) (list_any (λ (t : ℕ × Term). allows placed q t.0 t.1) terms) any) [
  | inl first ↦ (let same = allowed_number placed q u.0 u.1 first in let below = all_above u.0 terms t numbered.0 h in absurd (omega (arith, same, below, e)))
  | inr later ↦ allowed_here placed q terms t numbered.1 h e later
]

within_abs : (l : OpenLink) (y : ℤ) → unsigned_abs y ≤ l.weight → IsWithin l y
within_abs l y h = record { low = omega (arith, ints); high = omega (arith, ints) }

zero_within : (l : OpenLink) → IsWithin l (pos 0)
zero_within l = record { low = omega (arith, ints); high = omega (arith, ints) }

-- the price of an open Link, where all prices are allowed
price_within : (placed : List (List LineId)) (terms : List (ℕ × Term)) (prices : List (ℕ × ℤ)) (k : ℕ) (seg other : SegId) (flip : Bool) (a b : LineId) (w : ℕ) → AreNumbered terms
    → Among (k, Link seg other flip a b w) terms → are_allowed placed terms prices ≡ true
    → IsWithin (record { number = k; seg = seg; other = other; flip = flip; weight = w }) (price_at prices k)
price_within placed terms [] k seg other flip a b w numbered h allowed = zero_within (record { number = k; seg = seg; other = other; flip = flip; weight = w })
price_within placed terms (q ∷ prices) k seg other flip a b w numbered h allowed =
    let parts = and_parts (list_any (λ (t : ℕ × Term). allows placed q t.0 t.1) terms) (are_allowed placed terms prices) allowed in
    by_test (q.0 == k) refl parts.0 (price_within placed terms prices k seg other flip a b w numbered h parts.1)
  where
    by_test : (c : Bool) → (q.0 == k) ≡ c → list_any (λ (t : ℕ × Term). allows placed q t.0 t.1) terms ≡ true
        → IsWithin (record { number = k; seg = seg; other = other; flip = flip; weight = w }) (price_at prices k)
        → IsWithin (record { number = k; seg = seg; other = other; flip = flip; weight = w }) (cond c q.1 (price_at prices k))
    by_test true e any rest =
        let here = allowed_here placed q terms (k, Link seg other flip a b w) numbered h (eqb-true q.0 k e) any in
        let most = (and_parts (k == q.0 && not (is_decided placed seg a b || is_decided placed other a b)) (nat_le (unsigned_abs q.1) w) here).1 in
        within_abs (record { number = k; seg = seg; other = other; flip = flip; weight = w }) q.1 (leb-true (unsigned_abs q.1) w most)
    by_test false e any rest = rest

link_within : (placed : List (List LineId)) (terms : List (ℕ × Term)) (prices : List (ℕ × ℤ)) (p : Pair) (k : ℕ) (t : Term) → AreNumbered terms → Among (k, t) terms → are_allowed placed terms prices ≡ true
    → AllByRecursion (λ (l : OpenLink). IsWithin l (price_at prices l.number)) (open_link placed p k t)
link_within placed terms prices p k (Side seg first second w) numbered h allowed = tt
link_within placed terms prices p k (Apart seg other a b w) numbered h allowed = tt
link_within placed terms prices p k (Link seg other flip a b w) numbered h allowed =
    by_test (is_pair p (pair_of a b) && not (is_decided placed seg a b || is_decided placed other a b))
  where
    by_test : (c : Bool) → AllByRecursion (λ (l : OpenLink). IsWithin l (price_at prices l.number)) (cond c (record { number = k; seg = seg; other = other; flip = flip; weight = w } ∷ []) [])
    by_test false = tt
    by_test true = (price_within placed terms prices k seg other flip a b w numbered h allowed, tt)

links_within : (placed : List (List LineId)) (all : List (ℕ × Term)) (prices : List (ℕ × ℤ)) (p : Pair) (terms : List (ℕ × Term)) → AreNumbered all → ((t : ℕ × Term) → Among t terms → Among t all)
    → are_allowed placed all prices ≡ true → AllByRecursion (λ (l : OpenLink). IsWithin l (price_at prices l.number)) (open_links placed p terms)
links_within placed all prices p [] numbered sub allowed = tt
links_within placed all prices p (t ∷ terms) numbered sub allowed =
    each_append (λ (l : OpenLink). IsWithin l (price_at prices l.number)) (open_link placed p t.0 t.1) (open_links placed p terms)
    (link_within placed all prices p t.0 t.1 numbered (sub t (inl refl)) allowed)
    (links_within placed all prices p terms numbered (λ u h. sub u (inr h)) allowed)

-- Links with the prices that a list gives them
abbrev pub with_prices : (OpenLink → ℤ) → List OpenLink → List (OpenLink × ℤ)
with_prices price links = map (λ l. (l, price l)) links

pub shares_sum : (price : OpenLink → ℤ) (links : List OpenLink) (s : SegId) (x : Bool) → int_sum (λ (l : OpenLink). share (price l) l s x) links ≡ shares (with_prices price links) s x
shares_sum price [] s x = refl
shares_sum price (l ∷ links) s x = ap (λ k. share (price l) l s x +ℤ k) (shares_sum price links s x)

least_same : (f g : Bool → ℤ) → f true ≡ g true → f false ≡ g false → least_answer f ≡ least_answer g
least_same f g h k = omega (arith, ints, clamps, h, k)

-- the value of a pair is what its segments cost with shares
pub priced_shares : (slots : List SegId) (cost : SegId → Bool → ℕ) (links : List OpenLink) (price : OpenLink → ℤ)
    → priced_sum slots cost links price ≡ int_sum (λ s. least_answer (below_cost cost (with_prices price links) s)) slots
priced_shares slots cost links price =
    int_sum_equal (λ s. least_answer (priced_cost cost links price s)) (λ s. least_answer (below_cost cost (with_prices price links) s)) slots
    (λ s. least_same (priced_cost cost links price s) (below_cost cost (with_prices price links) s)
    (ap (λ k. pos (cost s true) +ℤ k) (shares_sum price links s true)) (ap (λ k. pos (cost s false) +ℤ k) (shares_sum price links s false)))

pair_value_below : (segs placed orders : List (List LineId)) (part : List SegId) (terms : List (ℕ × Term)) (prices : List (ℕ × ℤ)) (p : Pair) → IsPart segs part terms → AreNumbered terms
    → are_allowed placed terms prices ≡ true
    → pair_value segs placed part terms prices p ≤ℤ pos (choice_cost (open_segments segs placed part p) (slot_cost placed terms p) (open_links placed p terms) (choice_of orders p))
pair_value_below segs placed orders part terms prices p ok numbered allowed =
    let slots : List SegId = open_segments segs placed part p in
    let links : List OpenLink = open_links placed p terms in
    let price : OpenLink → ℤ = λ l. price_at prices l.number in
    let choice : Choice = choice_of orders p in
    let most = worth_below (slot_cost placed terms p) choice slots (with_prices price links) (apart_filter (is_open_on segs placed p) part ok.apart)
    (each_map (λ (q : OpenLink × ℤ). IsBetween slots q.0) (λ l. (l, price l)) links (links_between segs placed part p terms ok.known ok.inside))
    (each_map (λ (q : OpenLink × ℤ). IsWithin q.0 q.1) (λ l. (l, price l)) links (links_within placed terms prices p terms numbered (λ t h. h) allowed)) in
    let sums = int_sum-map (λ (q : OpenLink × ℤ). pos (link_cost choice q.0)) (λ l. (l, price l)) links ∙ int_sum_pos (link_cost choice) links in
    last (pair_value segs placed part terms prices p) (int_sum (λ s. least_answer (below_cost (slot_cost placed terms p) (with_prices price links) s)) slots)
    (int_sum (λ (q : OpenLink × ℤ). pos (link_cost choice q.0)) (with_prices price links)) (sum_by (λ s. slot_cost placed terms p s (choice s)) slots) (sum_by (link_cost choice) links)
    (priced_shares slots (slot_cost placed terms p) links price) most sums
  where
    last : (v w k : ℤ) (a b : ℕ) → v ≡ w → w ≤ℤ (pos a +ℤ k) → k ≡ pos b → v ≤ℤ pos (a + b)
    last v w k a b e h f = omega (arith, ints)

pub value_below : (segs placed orders : List (List LineId)) (part : List SegId) (terms : List (ℕ × Term)) (prices : List (ℕ × ℤ)) → IsPart segs part terms → AreNumbered terms
    → are_allowed placed terms prices ≡ true → AreOrders segs orders → Completes part placed orders → value_of segs part terms placed prices ≤ℤ pos (cost_of (plain_terms terms) orders)
value_below segs placed orders part terms prices ok numbered allowed are done =
    let cost : Pair → ℕ = λ p. choice_cost (open_segments segs placed part p) (slot_cost placed terms p) (open_links placed p terms) (choice_of orders p) in
    let each = int_sum_below (pair_value segs placed part terms prices) (λ p. pos (cost p)) (pairs_of terms)
    (λ p. pair_value_below segs placed orders part terms prices p ok numbered allowed) in
    last (int_sum (pair_value segs placed part terms prices) (pairs_of terms)) (int_sum (λ p. pos (cost p)) (pairs_of terms)) (decided_sum segs placed terms) (sum_by cost (pairs_of terms)) (cost_of (plain_terms terms) orders)
    each (int_sum_pos cost (pairs_of terms)) (completion_costs segs placed orders part terms ok are done)
  where
    last : (v k : ℤ) (d s c : ℕ) → v ≤ℤ k → k ≡ pos s → d + s ≤ c → (pos d +ℤ v) ≤ℤ pos c
    last v k d s c h e f = omega (arith, ints)

-- no completion costs less than the value of allowed prices
pub value_bounds : (segs placed orders : List (List LineId)) (part : List SegId) (terms : List (ℕ × Term)) (prices : List (ℕ × ℤ)) (v : ℤ) → IsPart segs part terms → AreNumbered terms
    → value segs part terms placed prices ≡ Some v → AreOrders segs orders → Completes part placed orders → v ≤ℤ pos (cost_of (plain_terms terms) orders)
value_bounds segs placed orders part terms prices v ok numbered known are done = by_test (are_allowed placed terms prices) refl known
  where
    same_some : (x y : ℤ) → Some x ≡ Some y → x ≡ y
    same_some x y e = cc

    no_none : (x : ℤ) → None ≡ Some x → ⊥
    no_none x e = cc

    by_test : (b : Bool) → are_allowed placed terms prices ≡ b → cond b (Some (value_of segs part terms placed prices)) None ≡ Some v → v ≤ℤ pos (cost_of (plain_terms terms) orders)
    by_test true e h = subst (λ x. x ≤ℤ pos (cost_of (plain_terms terms) orders)) (same_some (value_of segs part terms placed prices) v h)
        (value_below segs placed orders part terms prices ok numbered e are done)
    by_test false e h = absurd (no_none v h)
