-- Prices are allowed by the terms of their numbers.
use Rattle.std.proofs.Common.{◌≡◌, ◌≢◌, ℕ, zero, suc, ◌+◌, ◌*◌, ◌<◌, ◌≤◌, ◌==◌, ◌||◌, ◌&&◌, Bool, true, false, cond, List, [], ◌∷◌, length, map, filter, get_or, refl, sym, ◌∙◌, ap, arith, inl, inr, true≢false, eqb-true, eq-eqb, Result, Ok, Err}
use Rattle.std.specs.Prelude.{ℤ, pos, unsigned_abs, nat_le}
use Rattle.std.specs.List.{All, AllByRecursion, HoldsAt, list_all, list_any}
use Rattle.std.specs.List.Sorted.{IsNonDecreasingBy, IsPartitionPoint}
use Rattle.std.specs.Ordering.{nat_cmp, ordering_index}
use Rattle.std.specs.Result.{MatchResult, is_ok}
use Rattle.std.specs.declared.cmp.Ordering.TheVariants.{Less, Equal, Greater}
use Rattle.std.proofs.lemmas.Bool.{and_parts, cases_lt, leb-true, ne_eqb}
use Rattle.std.proofs.lemmas.Bool.Decides.{nat_tests}
use Rattle.std.proofs.lemmas.List.Elements.{All-head, All-tail, All-nil, All-cons}
use Rattle.order_model.specs.declared.term.Term.{Term}
use Rattle.order_model.specs.declared.term.Term.TheVariants.{Side, Link, Apart}
use Rattle.order_model.specs.Problems.{IsTerm}
use Rattle.order_model.specs.Costs.{weight_of}
use Rattle.order_model.specs.PartTerms.{numbered_from, is_of, part_terms, part_numbers, no_term, terms_by_number}
use Rattle.order_model.proofs.KeptTerms.{part_numbers_known, part_terms_by_number}
use Rattle.order_model.proofs.Lines.{either_true}
use Rattle.map_base.specs.declared.ids.SegId.{SegId}
use Rattle.map_base.specs.declared.ids.LineId.{LineId}
use Rattle.order_values.specs.PriceLists.{price_at, AreRisingPrices}
use Rattle.least_orders.proofs.Lists.{each_weaker}
use Rattle.dual_bound.specs.Values.{allows, are_allowed}
use Rattle.dual_check.specs.declared.asked.Asked.{Asked}
use Rattle.dual_check.specs.Asking.{IsAsked, question_of}
use Rattle.dual_check.specs.Nodes.{ArePrices}
use Rattle.dual_check.proofs.Finding.{part_fits}
use Rattle.dual_check.specs.Prices.{may_have, AreSmallPrices}

allows_is : (q : ℕ × ℤ) (k : ℕ) (t : Term) → allows q (k, t) ≡ ((k == q.0) && may_have t q.1)
allows_is q k (Side seg first second w) = never (k == q.0)
  where
    never : (b : Bool) → false ≡ (b && false)
    never true = refl
    never false = refl
allows_is q k (Link seg other flip a b w) = refl
allows_is q k (Apart seg other a b w) = refl

-- a price is allowed where its number is one of these, and its term may have it
pub any_allows : (terms : List Term) (q : ℕ × ℤ) (numbers : List ℕ)
    → list_any (allows q) (terms_by_number terms numbers) ≡ (list_any (λ n. n == q.0) numbers && may_have (get_or terms q.0 no_term) q.1)
any_allows terms q [] = refl
any_allows terms q (n ∷ numbers) =
    ap (λ b. b || list_any (allows q) (terms_by_number terms numbers)) (allows_is q n (get_or terms n no_term))
    ∙ (ap (λ b. ((n == q.0) && may_have (get_or terms n no_term) q.1) || b) (any_allows terms q numbers) ∙ by_number (n == q.0) refl)
  where
    joined : (s t : Bool) → (s || (t && s)) ≡ s
    joined true t = refl
    joined false true = refl
    joined false false = refl

    by_number : (b : Bool) → (n == q.0) ≡ b
        → ((b && may_have (get_or terms n no_term) q.1) || (list_any (λ n. n == q.0) numbers && may_have (get_or terms q.0 no_term) q.1))
        ≡ ((b || list_any (λ n. n == q.0) numbers) && may_have (get_or terms q.0 no_term) q.1)
    by_number true e =
        ap (λ k. may_have (get_or terms k no_term) q.1 || (list_any (λ n. n == q.0) numbers && may_have (get_or terms q.0 no_term) q.1)) (eqb-true n q.0 e)
        ∙ joined (may_have (get_or terms q.0 no_term) q.1) (list_any (λ n. n == q.0) numbers)
    by_number false e = refl

-- a number among rising ones
pub has_number : (numbers : List ℕ) (n i : ℕ) → i < length numbers → get_or numbers i 0 ≡ n → list_any (λ m. m == n) numbers ≡ true
has_number [] n i below here = absurd (omega (arith, below))
has_number (m ∷ numbers) n zero below here = ap (λ b. b || list_any (λ m. m == n) numbers) (eq-eqb m n here)
has_number (m ∷ numbers) n (suc i) below here = or_second (m == n) (list_any (λ m. m == n) numbers) (has_number numbers n i (omega (arith, below)) here)
  where
    or_second : (s t : Bool) → t ≡ true → (s || t) ≡ true
    or_second true t h = refl
    or_second false t h = h

pub has_no_number : (numbers : List ℕ) (n : ℕ) → ((i : ℕ) → i < length numbers → get_or numbers i 0 ≢ n) → list_any (λ m. m == n) numbers ≡ false
has_no_number [] n h = refl
has_no_number (m ∷ numbers) n h =
    ap (λ b. b || list_any (λ m. m == n) numbers) (ne_eqb m n (h 0 (omega arith))) ∙ has_no_number numbers n (λ i below. h (suc i) (omega (arith, below)))

-- Allowed prices are small where the weights are.

pub small_where_allowed : (terms : List (ℕ × Term)) (prices : List (ℕ × ℤ)) → AllByRecursion (λ (t : ℕ × Term). weight_of t.1 ≤ 256000) terms
    → list_all (λ (q : ℕ × ℤ). list_any (allows q) terms) prices ≡ true → AreSmallPrices prices
small_where_allowed terms [] weights ok k = omega arith
small_where_allowed terms (q ∷ prices) weights ok k =
    let both = and_parts (list_any (allows q) terms) (list_all (λ (q : ℕ × ℤ). list_any (allows q) terms) prices) ok in
    by_test (q.0 == k) (one_small terms weights both.0) (small_where_allowed terms prices weights both.1 k)
  where
    by_test : (b : Bool) → unsigned_abs q.1 ≤ 256000000 → unsigned_abs (price_at prices k) ≤ 256000000 → unsigned_abs (cond b q.1 (price_at prices k)) ≤ 256000000
    by_test true h rest = h
    by_test false h rest = rest

    within : (n : ℕ) (t : Term) → weight_of t ≤ 256000 → allows q (n, t) ≡ true → unsigned_abs q.1 ≤ 256000000
    within n (Side seg first second w) small h = absurd (true≢false (sym h))
    within n (Link seg other flip a b w) small h = let most = leb-true (unsigned_abs q.1) (1000 * w) (and_parts (n == q.0) (nat_le (unsigned_abs q.1) (1000 * w)) h).1 in omega (arith, small, most)
    within n (Apart seg other a b w) small h = let most = leb-true (unsigned_abs q.1) (1000 * w) (and_parts (n == q.0) (nat_le (unsigned_abs q.1) (1000 * w)) h).1 in omega (arith, small, most)

    one_small : (terms : List (ℕ × Term)) → AllByRecursion (λ (t : ℕ × Term). weight_of t.1 ≤ 256000) terms → list_any (allows q) terms ≡ true → unsigned_abs q.1 ≤ 256000000
    one_small [] weights h = absurd (true≢false (sym h))
    one_small (t ∷ terms) weights h = by_head (allows q t) refl h (λ g. one_small terms weights.1 g)
      where
        by_head : (b : Bool) → allows q t ≡ b → (b || list_any (allows q) terms) ≡ true → (list_any (allows q) terms ≡ true → unsigned_abs q.1 ≤ 256000000) → unsigned_abs q.1 ≤ 256000000
        by_head true e g rest = within t.0 t.1 weights.0 e
        by_head false e g rest = rest g

-- Numbers of a part's terms rise.

abbrev pub RiseAbove : ℕ → List ℕ → Type 0
RiseAbove low [] = Unit {0}
RiseAbove low (n ∷ numbers) = (low ≤ n) × RiseAbove (n + 1) numbers

lower : (low less : ℕ) (numbers : List ℕ) → less ≤ low → RiseAbove low numbers → RiseAbove less numbers
lower low less [] h rise = tt
lower low less (n ∷ numbers) h rise = (let at = rise.0 in omega (arith, h, at), rise.1)

kept_rise : (p : ℕ × Term → Bool) (k : ℕ) (terms : List Term) → RiseAbove k (map (λ (q : ℕ × Term). q.0) (filter p (numbered_from k terms)))
kept_rise p k [] = tt
kept_rise p k (t ∷ terms) = by_test (p (k, t)) (kept_rise p (k + 1) terms)
  where
    by_test : (b : Bool) → RiseAbove (k + 1) (map (λ (q : ℕ × Term). q.0) (filter p (numbered_from (k + 1) terms)))
        → RiseAbove k (map (λ (q : ℕ × Term). q.0) (cond b ((k, t) ∷ filter p (numbered_from (k + 1) terms)) (filter p (numbered_from (k + 1) terms))))
    by_test true rest = (omega arith, rest)
    by_test false rest = lower (k + 1) k (map (λ (q : ℕ × Term). q.0) (filter p (numbered_from (k + 1) terms))) (omega arith) rest

rise_pairs : (low : ℕ) (numbers : List ℕ) → RiseAbove low numbers → (i j : ℕ) → i ≤ j → j < length numbers → get_or numbers i 0 ≤ get_or numbers j 0
rise_pairs low [] h i j below within = absurd (omega (arith, within))
rise_pairs low (n ∷ numbers) h zero zero below within = omega arith
rise_pairs low (n ∷ numbers) h zero (suc j) below within = let more = least_at (n + 1) numbers h.1 j (omega (arith, within)) in omega (arith, more)
  where
    least_at : (low : ℕ) (ms : List ℕ) → RiseAbove low ms → (j : ℕ) → j < length ms → low ≤ get_or ms j 0
    least_at low [] h j within = absurd (omega (arith, within))
    least_at low (m ∷ ms) h zero within = h.0
    least_at low (m ∷ ms) h (suc j) within = let more = least_at (m + 1) ms h.1 j (omega (arith, within)) in let first = h.0 in omega (arith, more, first)
rise_pairs low (n ∷ numbers) h (suc i) zero below within = absurd (omega (arith, below))
rise_pairs low (n ∷ numbers) h (suc i) (suc j) below within = rise_pairs (n + 1) numbers h.1 i j (omega (arith, below)) (omega (arith, within))

pub part_numbers_rise : (part : List SegId) (terms : List Term) (i j : ℕ) → i ≤ j → j < length (part_numbers terms part) → get_or (part_numbers terms part) i 0 ≤ get_or (part_numbers terms part) j 0
part_numbers_rise part terms i j below within = rise_pairs 0 (part_numbers terms part) (kept_rise (λ (q : ℕ × Term). is_of part q.1) 0 terms) i j below within

-- as a search among the numbers tells
pub number_found : (numbers : List ℕ) (n : ℕ) (r : Result ℕ ℕ)
    → MatchResult r (λ i. (i < length numbers) × (get_or numbers i 0 ≡ n)) (λ i. (i ≤ length numbers) × ((k : ℕ) → k < i → get_or numbers k 0 < n) × ((k : ℕ) → i ≤ k → k < length numbers → n < get_or numbers k 0))
    → list_any (λ m. m == n) numbers ≡ is_ok r
number_found numbers n (Ok i) h = has_number numbers n i h.0 h.1
number_found numbers n (Err i) h = has_no_number numbers n (λ k below here. elim (cases_lt k i) [
  | inl under ↦ (let low = h.1 k under in absurd (omega (arith, low, here)))
  | inr over ↦ (let high = h.2 k over below in absurd (omega (arith, high, here)))
])

-- A search among rising prices.

prices_rise : (prices : List (ℕ × ℤ)) (i j : ℕ) (d : ℕ × ℤ) → AreRisingPrices prices → i < j → j < length prices → (get_or prices i d).0 < (get_or prices j d).0
prices_rise [] i j d h below within = absurd (omega (arith, within))
prices_rise (p ∷ []) i j d h below within = absurd (omega (arith, below, within))
prices_rise (p ∷ q ∷ prices) i zero d h below within = absurd (omega (arith, below))
prices_rise (p ∷ q ∷ prices) zero (suc zero) d h below within = h.0
prices_rise (p ∷ q ∷ prices) zero (suc (suc j)) d h below within =
    let rest = prices_rise (q ∷ prices) zero (suc j) d h.1 (omega arith) (omega (arith, within)) in let first = h.0 in omega (arith, rest, first)
prices_rise (p ∷ q ∷ prices) (suc i) (suc j) d h below within = prices_rise (q ∷ prices) i j d h.1 (omega (arith, below)) (omega (arith, within))

comparisons_rise : (prices : List (ℕ × ℤ)) (n : ℕ) → AreRisingPrices prices → IsNonDecreasingBy (λ (q : ℕ × ℤ). ordering_index (nat_cmp q.0 n)) prices
comparisons_rise prices n rising i j d under within = by_number (get_or prices i d).0 (get_or prices j d).0 n (elim (cases_lt i j) [
  | inl less ↦ (let rise = prices_rise prices i j d rising less within in omega (arith, rise))
  | inr over ↦ (let same = ap (λ k. (get_or prices k d).0) {x = i} {y = j} (omega (arith, under, over)) in omega (arith, same))
])
  where
    by_number : (a b q : ℕ) → a ≤ b → ordering_index (nat_cmp a q) ≤ ordering_index (nat_cmp b q)
    by_number a b q l = grind (arith, nat_tests)

price_there : (prices : List (ℕ × ℤ)) (n i : ℕ) (d : ℕ × ℤ) → ((k : ℕ) → k < i → (get_or prices k d).0 ≢ n) → i < length prices → (get_or prices i d).0 ≡ n → (get_or prices i d).1 ≡ price_at prices n
price_there [] n i d none below here = absurd (omega (arith, below))
price_there (q ∷ prices) n zero d none below here = sym (ap (λ b. cond b q.1 (price_at prices n)) (eq-eqb q.0 n here))
price_there (q ∷ prices) n (suc i) d none below here =
    price_there prices n i d (λ k low. none (suc k) (omega (arith, low))) (omega (arith, below)) here ∙ sym (ap (λ b. cond b q.1 (price_at prices n)) (ne_eqb q.0 n (none 0 (omega arith))))

price_nowhere : (prices : List (ℕ × ℤ)) (n : ℕ) (d : ℕ × ℤ) → ((k : ℕ) → k < length prices → (get_or prices k d).0 ≢ n) → pos 0 ≡ price_at prices n
price_nowhere [] n d none = refl
price_nowhere (q ∷ prices) n d none =
    price_nowhere prices n d (λ k low. none (suc k) (omega (arith, low))) ∙ sym (ap (λ b. cond b q.1 (price_at prices n)) (ne_eqb q.0 n (none 0 (omega arith))))

pub price_found : (prices : List (ℕ × ℤ)) (n k : ℕ) (q : ℕ × ℤ) → AreRisingPrices prices → k < length prices → q ≡ get_or prices k q → HoldsAt (λ (q : ℕ × ℤ). nat_cmp q.0 n ≡ Equal) prices k → q.1 ≡ price_at prices n
price_found prices n k q rising below is here =
    ap (λ (r : ℕ × ℤ). r.1) is
    ∙ price_there prices n k q (λ i low same. (let rise = prices_rise prices i k q rising low below in absurd (omega (arith, rise, same, there)))) below there
  where
    level : (a b : ℕ) → nat_cmp a b ≡ Equal → a ≡ b
    level a b h = grind (arith, nat_tests)

    there : (get_or prices k q).0 ≡ n
    there = level (get_or prices k q).0 n (here q)

pub price_missing : (prices : List (ℕ × ℤ)) (n at : ℕ) → AreRisingPrices prices
    → (IsNonDecreasingBy (λ (q : ℕ × ℤ). ordering_index (nat_cmp q.0 n)) prices → IsPartitionPoint (λ (q : ℕ × ℤ). nat_cmp q.0 n ≡ Less) (λ (q : ℕ × ℤ). nat_cmp q.0 n ≡ Greater) prices at) → pos 0 ≡ price_at prices n
price_missing prices n at rising found = price_nowhere prices n (0, pos 0) (λ k below here. elim (cases_lt k at) [
  | inl under ↦ absurd (low (get_or prices k (0, pos 0)).0 n ((found (comparisons_rise prices n rising)).0 k (0, pos 0) (omega arith) under) here)
  | inr over ↦ absurd (high (get_or prices k (0, pos 0)).0 n ((found (comparisons_rise prices n rising)).1 k (0, pos 0) over below) here)
])
  where
    low : (a b : ℕ) → nat_cmp a b ≡ Less → a ≡ b → ⊥
    low a b h e = grind (arith, nat_tests)

    high : (a b : ℕ) → nat_cmp a b ≡ Greater → a ≡ b → ⊥
    high a b h e = grind (arith, nat_tests)

-- Allowed prices are prices on terms of the problem.

weight_small : (segs : List (List LineId)) (t : Term) → IsTerm segs t → weight_of t ≤ 256000
weight_small segs (Side seg first second w) is = is.weight.1
weight_small segs (Link seg other flip a b w) is = is.weight.1
weight_small segs (Apart seg other a b w) is = is.weight.1

pub one_known : (numbers : List ℕ) (n m : ℕ) → All (λ k. k < m) numbers → list_any (λ k. k == n) numbers ≡ true → n < m
one_known [] n m all h = absurd (true≢false (sym h))
one_known (k ∷ numbers) n m all h = elim (either_true (k == n) (list_any (λ k. k == n) numbers) h) [
  | inl here ↦ (let below = All-head (λ k. k < m) k numbers all in let same = eqb-true k n here in omega (arith, below, same))
  | inr later ↦ one_known numbers n m (All-tail (λ k. k < m) k numbers all) later
]

-- whether a price is allowed on a term of a part
pub allowed_by : (terms : List Term) (part : List SegId) (q : ℕ × ℤ) → list_any (allows q) (part_terms terms part) ≡ (list_any (λ n. n == q.0) (part_numbers terms part) && may_have (get_or terms q.0 no_term) q.1)
allowed_by terms part q = ap (list_any (allows q)) (sym (part_terms_by_number part terms)) ∙ any_allows terms q (part_numbers terms part)

all_known : (terms : List Term) (numbers : List ℕ) (prices : List (ℕ × ℤ)) → All (λ k. k < length terms) numbers → list_all (λ (q : ℕ × ℤ). list_any (allows q) (terms_by_number terms numbers)) prices ≡ true
    → All (λ (q : ℕ × ℤ). q.0 < length terms) prices
all_known terms numbers [] known ok = All-nil (λ (q : ℕ × ℤ). q.0 < length terms)
all_known terms numbers (q ∷ prices) known ok =
    let both = and_parts (list_any (allows q) (terms_by_number terms numbers)) (list_all (λ (q : ℕ × ℤ). list_any (allows q) (terms_by_number terms numbers)) prices) ok in
    let one = and_parts (list_any (λ n. n == q.0) numbers) (may_have (get_or terms q.0 no_term) q.1) (sym (any_allows terms q numbers) ∙ both.0) in
    All-cons (λ (q : ℕ × ℤ). q.0 < length terms) q prices (one_known numbers q.0 (length terms) known one.0) (all_known terms numbers prices known both.1)

pub allowed_are_prices : (asked : Asked) (prices : List (ℕ × ℤ)) → IsAsked asked → AreRisingPrices prices → are_allowed (question_of asked).terms prices ≡ true → ArePrices asked prices
allowed_are_prices asked prices is rising ok = record { rising = rising; small = small_where_allowed (terms_by_number terms numbers) prices weights by_number; known = all_known terms numbers prices known by_number }
  where
    terms : List Term
    terms = asked.problem.now.terms

    numbers : List ℕ
    numbers = part_numbers asked.problem.now.terms asked.part.now

    known : All (λ k. k < length terms) numbers
    known = part_numbers_known asked.part.now asked.problem.now.terms

    by_number : are_allowed (terms_by_number terms numbers) prices ≡ true
    by_number = ap (λ (ts : List (ℕ × Term)). are_allowed ts prices) (part_terms_by_number asked.part.now asked.problem.now.terms) ∙ ok

    weights : AllByRecursion (λ (t : ℕ × Term). weight_of t.1 ≤ 256000) (terms_by_number terms numbers)
    weights =
        each_weaker (λ (t : ℕ × Term). IsTerm asked.problem.now.segs t.1) (λ (t : ℕ × Term). weight_of t.1 ≤ 256000) (terms_by_number terms numbers)
        (λ t fit. weight_small asked.problem.now.segs t.1 fit) (part_fits asked.problem.now.segs terms numbers is.problem.terms known)
