-- Prices are added to a table, one by one.
use Rattle.std.proofs.Common.{◌≡◌, ◌≢◌, ℕ, zero, suc, ◌+◌, ◌<◌, ◌≤◌, ◌==◌, ◌&&◌, ◌||◌, not, nat_le, Bool, true, false, cond, List, [], ◌∷◌, length, map, take, set, get_or, refl, sym, ◌∙◌, ap, subst, arith, Some, None, inl, inr, true≢false, eqb-true, eq-eqb}
use Rattle.std.specs.Prelude.{ℤ, pos, ◌+ℤ◌, ◌-ℤ◌, unsigned_abs}
use Rattle.std.proofs.lemmas.Bool.{eqb-false, ne_eqb, cases_lt}
use Rattle.std.proofs.lemmas.Int.{ints}
use Rattle.std.proofs.lemmas.List.{get_or-set_same, get_or-set_other, get_or-take, length-map, length-take-le, take_all}
use Rattle.map_base.specs.declared.ids.LineId.{LineId}
use Rattle.order_model.specs.declared.term.Term.{Term}
use Rattle.order_model.specs.declared.term.Term.TheVariants.{Side, Link, Apart}
use Rattle.order_model.specs.Problems.{lines_on}
use Rattle.order_model.specs.Costs.{same_answer, comes_before}
use Rattle.order_model.specs.Looks.{is_decided}
use Rattle.order_values.specs.PriceLists.{AreRisingPrices}
use Rattle.order_values.specs.PriceLists.{price_at}
use Rattle.whole_sums.specs.Sums.{int_sum}
use Rattle.order_check.specs.declared.slot.PartTerm.{PartTerm}
use Rattle.order_check.specs.declared.slot.Charges.{Charges}
use Rattle.order_check.specs.Slots.{charge_on}
use Rattle.order_check.specs.Charges.{open_charges, link_charges, charges_by, price_charges}
use Rattle.order_check.specs.Charging.{no_part_term, added_at, charged, AreTerms}
use Rattle.order_check.specs.Counting.{added_by}
use Rattle.order_check.specs.Prices.{may_have, AreNumbersOf, IsPlaceOf}
use Rattle.order_check.specs.Pricing.{priced_by, term_of, priced_if, price_on, ArePriced, AreSmallPrices}
use Rattle.order_check.proofs.SignedSums.{sum_more}
use Rattle.order_check.proofs.Charging.{small_charged}
use Rattle.order_check.proofs.Counting.{terms_small}
use Rattle.order_check.proofs.PriceLemmas.{count_read, number_read, rising_all, spread_none, spread_more}

-- What an open Link adds.

open_link : (segs placed : List (List LineId)) (t : Term) (here there : ℕ) (y z : ℤ) → may_have placed t y ≡ true → charges_by segs placed t here there z ≡ price_charges t here there z
open_link segs placed (Side seg first second w) here there y z h = absurd (true≢false (sym h))
open_link segs placed (Link seg other flip a b w) here there y z h = by_tests (is_decided placed seg a b) (is_decided placed other a b) h
  where
    by_tests : (t u : Bool) → (not (t || u) && nat_le (unsigned_abs y) w) ≡ true
        → link_charges here there (cond t (Some (comes_before (lines_on placed seg) a b)) None) (cond u (Some (comes_before (lines_on placed other) a b)) None) flip w z ≡ open_charges here there flip z
    by_tests true u g = absurd (true≢false (sym g))
    by_tests false true g = absurd (true≢false (sym g))
    by_tests false false g = refl
open_link segs placed (Apart seg other a b w) here there y z h = absurd (true≢false (sym h))

-- with no price it adds nothing
free_link : (placed : List (List LineId)) (t : Term) (here there k : ℕ) (x : Bool) (y : ℤ) → may_have placed t y ≡ true
    → (let c : Charges = price_charges t here there (pos 0) in charge_on c.here k x +ℤ charge_on c.there k x) ≡ pos 0
free_link placed (Side seg first second w) here there k x y h = absurd (true≢false (sym h))
free_link placed (Link seg other flip a b w) here there k x y h = by_tests ((here == k) && same_answer false x) ((there == k) && same_answer flip x)
  where
    by_tests : (t u : Bool) → (cond t (pos 0 -ℤ pos 0) (pos 0) +ℤ cond u (pos 0) (pos 0)) ≡ pos 0
    by_tests true true = omega (arith, ints)
    by_tests true false = omega (arith, ints)
    by_tests false true = omega (arith, ints)
    by_tests false false = omega (arith, ints)
free_link placed (Apart seg other a b w) here there k x y h = absurd (true≢false (sym h))

pub price_small : (t : Term) (here there : ℕ) (y : ℤ) → unsigned_abs y ≤ 256000
    → (unsigned_abs (price_charges t here there y).here.amount ≤ 256000) × (unsigned_abs (price_charges t here there y).there.amount ≤ 256000)
price_small (Side seg first second w) here there y h = (omega (arith, ints), omega (arith, ints))
price_small (Link seg other flip a b w) here there y h = (omega (arith, ints, h), h)
price_small (Apart seg other a b w) here there y h = (omega (arith, ints), omega (arith, ints))

-- Sums under prices.

added_as : (segs placed : List (List LineId)) (table : List PartTerm) (prices : List ℤ) (i k : ℕ) (x : Bool) (y : ℤ) → get_or prices i (pos 0) ≡ y
    → added_at segs placed table prices i k x
    ≡ (let c : Charges = charges_by segs placed (get_or table i no_part_term).term (get_or table i no_part_term).here (get_or table i no_part_term).there y in charge_on c.here k x +ℤ charge_on c.there k x)
added_as segs placed table prices i k x y e =
    ap (λ z. (let c : Charges = charges_by segs placed (get_or table i no_part_term).term (get_or table i no_part_term).here (get_or table i no_part_term).there z in charge_on c.here k x +ℤ charge_on c.there k x)) e

-- prices that are all 0 add nothing
charged_plain : (segs placed : List (List LineId)) (table : List PartTerm) (prices : List ℤ) (i k : ℕ) (x : Bool) → ((j : ℕ) → get_or prices j (pos 0) ≡ pos 0) → i ≤ length table
    → charged segs placed table prices i k x ≡ int_sum (added_by segs placed k x) (take i table)
charged_plain segs placed table prices zero k x none h = refl
charged_plain segs placed table prices (suc i) k x none h =
    let e : suc i ≡ i + 1 = omega arith in
    ap (λ v. v +ℤ added_at segs placed table prices i k x) (charged_plain segs placed table prices i k x none (omega (arith, h)))
    ∙ ap (λ v. int_sum (added_by segs placed k x) (take i table) +ℤ v) (added_as segs placed table prices i k x (pos 0) (none i))
    ∙ sym (ap (λ n. int_sum (added_by segs placed k x) (take n table)) e ∙ sum_more (added_by segs placed k x) table i no_part_term (omega (arith, h)))

-- a price at a later place
charged_before : (segs placed : List (List LineId)) (table : List PartTerm) (prices : List ℤ) (i : ℕ) (y : ℤ) (n k : ℕ) (x : Bool) → n ≤ i
    → charged segs placed table (set prices i y) n k x ≡ charged segs placed table prices n k x
charged_before segs placed table prices i y zero k x h = refl
charged_before segs placed table prices i y (suc n) k x h =
    ap (λ v. v +ℤ added_at segs placed table (set prices i y) n k x) (charged_before segs placed table prices i y n k x (omega (arith, h)))
    ∙ ap (λ v. charged segs placed table prices n k x +ℤ v)
    (added_as segs placed table (set prices i y) n k x (get_or prices n (pos 0)) (get_or-set_other prices i n y (pos 0) (omega (arith, h)))
    ∙ sym (added_as segs placed table prices n k x (get_or prices n (pos 0)) refl))

-- one price more, where nothing was added
charged_set : (segs placed : List (List LineId)) (table : List PartTerm) (prices : List ℤ) (i : ℕ) (y : ℤ) (n k : ℕ) (x : Bool) → i < n → i < length prices
    → added_at segs placed table prices i k x ≡ pos 0
    → charged segs placed table (set prices i y) n k x ≡ charged segs placed table prices n k x
    +ℤ (let c : Charges = charges_by segs placed (get_or table i no_part_term).term (get_or table i no_part_term).here (get_or table i no_part_term).there y in charge_on c.here k x +ℤ charge_on c.there k x)
charged_set segs placed table prices i y zero k x below known free = absurd (omega (arith, below))
charged_set segs placed table prices i y (suc n) k x below known free = by_test (n == i) refl (λ h. charged_set segs placed table prices i y n k x h known free)
  where
    by_test : (b : Bool) → (n == i) ≡ b
        → (i < n
        → charged segs placed table (set prices i y) n k x ≡ charged segs placed table prices n k x
        +ℤ (let c : Charges = charges_by segs placed (get_or table i no_part_term).term (get_or table i no_part_term).here (get_or table i no_part_term).there y in charge_on c.here k x +ℤ charge_on c.there k x))
        → charged segs placed table (set prices i y) n k x +ℤ added_at segs placed table (set prices i y) n k x
        ≡ (charged segs placed table prices n k x +ℤ added_at segs placed table prices n k x)
        +ℤ (let c : Charges = charges_by segs placed (get_or table i no_part_term).term (get_or table i no_part_term).here (get_or table i no_part_term).there y in charge_on c.here k x +ℤ charge_on c.there k x)
    by_test true e again =
        let same : n ≡ i = eqb-true n i e in
        let before = charged_before segs placed table prices i y n k x (omega (arith, same)) in
        let here = added_as segs placed table (set prices i y) i k x y (get_or-set_same prices i y (pos 0) known) in
        let there = ap (λ m. added_at segs placed table (set prices i y) m k x) same ∙ here in
        let nothing = ap (λ m. added_at segs placed table prices m k x) same ∙ free in
        last (charged segs placed table (set prices i y) n k x) (charged segs placed table prices n k x) (added_at segs placed table (set prices i y) n k x) (added_at segs placed table prices n k x)
        (let c : Charges = charges_by segs placed (get_or table i no_part_term).term (get_or table i no_part_term).here (get_or table i no_part_term).there y in charge_on c.here k x +ℤ charge_on c.there k x)
        before there nothing
      where
        last : (a b u v w : ℤ) → a ≡ b → u ≡ w → v ≡ pos 0 → (a +ℤ u) ≡ ((b +ℤ v) +ℤ w)
        last a b u v w p q r = omega (arith, ints, p, q, r)
    by_test false e again =
        let differ : n ≢ i = eqb-false n i e in
        let rest = again (omega (arith, below, differ)) in
        let same = added_as segs placed table (set prices i y) n k x (get_or prices n (pos 0)) (get_or-set_other prices i n y (pos 0) differ)
        ∙ sym (added_as segs placed table prices n k x (get_or prices n (pos 0)) refl) in
        last (charged segs placed table (set prices i y) n k x) (charged segs placed table prices n k x) (added_at segs placed table (set prices i y) n k x) (added_at segs placed table prices n k x)
        (let c : Charges = charges_by segs placed (get_or table i no_part_term).term (get_or table i no_part_term).here (get_or table i no_part_term).there y in charge_on c.here k x +ℤ charge_on c.there k x)
        rest same
      where
        last : (a b u v w : ℤ) → a ≡ b +ℤ w → u ≡ v → (a +ℤ u) ≡ ((b +ℤ v) +ℤ w)
        last a b u v w p q = omega (arith, ints, p, q)

-- The table under no prices.

zeros : (table : List PartTerm) (i : ℕ) → get_or (map (λ (t : PartTerm). pos 0) table) i (pos 0) ≡ pos 0
zeros [] i = refl
zeros (t ∷ table) zero = refl
zeros (t ∷ table) (suc i) = zeros table i

pub priced_none : (segs placed : List (List LineId)) (table : List PartTerm) → ArePriced segs placed table []
priced_none segs placed table = record {
  prices = map (λ (t : PartTerm). pos 0) table;
  spread = spread_none placed table (map (λ (t : PartTerm). pos 0) table) (length-map table (λ (t : PartTerm). pos 0)) (zeros table);
  slots = λ k x. charged_plain segs placed table (map (λ (t : PartTerm). pos 0) table) (length table) k x (zeros table) (omega arith)
      ∙ ap (int_sum (added_by segs placed k x)) (take_all (length table) table (omega arith)) ∙ none_more (int_sum (added_by segs placed k x) table);
}
  where
    none_more : (a : ℤ) → a ≡ a +ℤ pos 0
    none_more a = omega (arith, ints)

-- what they add is small
priced_small : (segs placed : List (List LineId)) (table : List PartTerm) (qs : List (ℕ × ℤ)) → AreTerms segs table → length table ≤ 4000000 → ArePriced segs placed table qs
    → (k : ℕ) (x : Bool) → unsigned_abs (int_sum (price_on table k x) qs) ≤ 2048000000000
priced_small segs placed table qs fits few priced k x =
    let most = small_charged segs placed table priced.prices (length table) k x fits priced.spread.small (omega arith) in
    let plain = terms_small segs placed table k x fits in
    difference (charged segs placed table priced.prices (length table) k x) (int_sum (added_by segs placed k x) table) (int_sum (price_on table k x) qs) (priced.slots k x)
    (omega (arith, most, few)) (omega (arith, plain, few))
  where
    difference : (a b c : ℤ) → a ≡ b +ℤ c → unsigned_abs a ≤ 1024000000000 → unsigned_abs b ≤ 1024000000000 → unsigned_abs c ≤ 2048000000000
    difference a b c e p q = omega (arith, ints, e, p, q)

-- The term of a number.

none_found : (table : List PartTerm) (n : ℕ) → ((i : ℕ) → i < length table → (get_or table i no_part_term).number ≢ n) → term_of table n ≡ None
none_found [] n none = refl
none_found (t ∷ table) n none =
    ap (λ b. cond b (Some t) (term_of table n)) (ne_eqb t.number n (none 0 (omega arith))) ∙ none_found table n (λ i h. none (suc i) (omega (arith, h)))

found_at : (table : List PartTerm) (n i : ℕ) → i < length table → (get_or table i no_part_term).number ≡ n → ((j : ℕ) → j < i → (get_or table j no_part_term).number ≢ n)
    → term_of table n ≡ Some (get_or table i no_part_term)
found_at [] n i below is none = absurd (omega (arith, below))
found_at (t ∷ table) n zero below is none = ap (λ b. cond b (Some t) (term_of table n)) (eq-eqb t.number n is)
found_at (t ∷ table) n (suc i) below is none =
    ap (λ b. cond b (Some t) (term_of table n)) (ne_eqb t.number n (none 0 (omega arith)))
    ∙ found_at table n i (omega (arith, below)) is (λ j h. none (suc j) (omega (arith, h)))

pub term_nowhere : (table : List PartTerm) (numbers : List ℕ) (n : ℕ) → AreNumbersOf table numbers → IsPlaceOf numbers n None → term_of table n ≡ None
term_nowhere table numbers n ok none =
    none_found table n (λ i h. (let here = number_read table numbers i ok.listed h in let not = none i (omega (arith, h, count_read table numbers ok)) in λ e. not (here ∙ e)))

pub term_at : (table : List PartTerm) (numbers : List ℕ) (n i : ℕ) → AreNumbersOf table numbers → IsPlaceOf numbers n (Some i) → term_of table n ≡ Some (get_or table i no_part_term)
term_at table numbers n i ok there =
    let inside : i < length table = omega (arith, there.0, count_read table numbers ok) in
    found_at table n i inside (sym (number_read table numbers i ok.listed inside) ∙ there.1)
    (λ j h. (let up = ok.rising j i h there.0 in let here = number_read table numbers j ok.listed (omega (arith, h, inside)) in λ e. omega (arith, up, here, e, there.1)))

-- One price more.

price_none : (qs : List (ℕ × ℤ)) (n : ℕ) → ((j : ℕ) → j < length qs → (get_or qs j (0, pos 0)).0 < n) → price_at qs n ≡ pos 0
price_none [] n under = refl
price_none (q ∷ qs) n under = by_test (q.0 == n) refl (price_none qs n (λ j h. under (suc j) (omega (arith, h))))
  where
    by_test : (b : Bool) → (q.0 == n) ≡ b → price_at qs n ≡ pos 0 → cond b q.1 (price_at qs n) ≡ pos 0
    by_test true e rest = absurd (let first = under 0 (omega arith) in omega (arith, first, eqb-true q.0 n e))
    by_test false e rest = rest

pub priced_more : (segs placed : List (List LineId)) (table : List PartTerm) (numbers : List ℕ) (list : List (ℕ × ℤ)) (j i : ℕ) → AreTerms segs table → AreNumbersOf table numbers
    → AreRisingPrices list → j < length list → ArePriced segs placed table (take j list) → i < length numbers → get_or numbers i 0 ≡ (get_or list j (0, pos 0)).0
    → may_have placed (get_or table i no_part_term).term (get_or list j (0, pos 0)).1 ≡ true → ArePriced segs placed table (take (j + 1) list)
priced_more segs placed table numbers list j i fits ok rising known priced below here may = record {
  prices = set priced.prices i (get_or list j (0, pos 0)).1;
  spread = spread_more segs placed table numbers list j i priced.prices fits ok rising known priced.spread below here may;
  slots = λ k x.
      charged_set segs placed table priced.prices i (get_or list j (0, pos 0)).1 (length table) k x inside (omega (arith, inside, priced.spread.each)) (free k x)
      ∙ ap (λ (c : Charges). charged segs placed table priced.prices (length table) k x +ℤ (charge_on c.here k x +ℤ charge_on c.there k x))
      (open_link segs placed (get_or table i no_part_term).term (get_or table i no_part_term).here (get_or table i no_part_term).there (get_or list j (0, pos 0)).1 (get_or list j (0, pos 0)).1 may)
      ∙ ap (λ v. v +ℤ priced_by k x (get_or table i no_part_term) (get_or list j (0, pos 0)).1) (priced.slots k x)
      ∙ moved (int_sum (added_by segs placed k x) table) (int_sum (price_on table k x) (take j list)) (priced_by k x (get_or table i no_part_term) (get_or list j (0, pos 0)).1)
      ∙ ap (λ o. int_sum (added_by segs placed k x) table +ℤ (int_sum (price_on table k x) (take j list) +ℤ priced_if k x o (get_or list j (0, pos 0)).1))
      (sym (term_at table numbers (get_or list j (0, pos 0)).0 i ok (below, here)))
      ∙ ap (λ v. int_sum (added_by segs placed k x) table +ℤ v) (sym (sum_more (price_on table k x) list j (0, pos 0) known));
}
  where
    moved : (a b c : ℤ) → (a +ℤ b) +ℤ c ≡ a +ℤ (b +ℤ c)
    moved a b c = omega (arith, ints)

    inside : i < length table
    inside = omega (arith, below, count_read table numbers ok)

    own : (get_or table i no_part_term).number ≡ (get_or list j (0, pos 0)).0
    own = sym (number_read table numbers i ok.listed (omega (arith, below, count_read table numbers ok))) ∙ here

    unpriced : get_or priced.prices i (pos 0) ≡ pos 0
    unpriced =
        priced.spread.told i (omega (arith, below, count_read table numbers ok))
        ∙ price_none (take j list) (get_or table i no_part_term).number (λ m h.
        (let under : m < j = omega (arith, h, length-take-le j list (omega (arith, known))) in
        let same : get_or (take j list) m (0, pos 0) ≡ get_or list m (0, pos 0) = get_or-take j list m (0, pos 0) under in
        let up = rising_all list rising m j under known in
        rw same (omega (arith, up, own))))

    free : (k : ℕ) (x : Bool) → added_at segs placed table priced.prices i k x ≡ pos 0
    free k x =
        added_as segs placed table priced.prices i k x (pos 0) unpriced
        ∙ ap (λ (c : Charges). charge_on c.here k x +ℤ charge_on c.there k x)
        (open_link segs placed (get_or table i no_part_term).term (get_or table i no_part_term).here (get_or table i no_part_term).there (get_or list j (0, pos 0)).1 (pos 0) may)
        ∙ free_link placed (get_or table i no_part_term).term (get_or table i no_part_term).here (get_or table i no_part_term).there k x (get_or list j (0, pos 0)).1 may

-- Small prices.

pub small_none : (table : List PartTerm) (qs : List (ℕ × ℤ)) → AreSmallPrices table qs 0
small_none table qs = record {
  each = λ i h. absurd (omega (arith, h));
  sums = λ i h k x. (let none : i ≡ 0 = omega (arith, h) in rw none (omega (arith, ints)));
}

pub small_more : (segs placed : List (List LineId)) (table : List PartTerm) (qs : List (ℕ × ℤ)) (j : ℕ) → AreTerms segs table → length table ≤ 4000000 → AreSmallPrices table qs j
    → unsigned_abs (get_or qs j (0, pos 0)).1 ≤ 256000 → ArePriced segs placed table (take (j + 1) qs) → AreSmallPrices table qs (j + 1)
small_more segs placed table qs j fits few small one priced = record {
  each = λ i h. elim (cases_lt i j) [
    | inl under ↦ small.each i under
    | inr over ↦ subst (λ n. unsigned_abs (get_or qs n (0, pos 0)).1 ≤ 256000) (last i h over) one
  ];
  sums = λ i h k x. elim (cases_lt j i) [
    | inl past ↦ subst (λ n. unsigned_abs (int_sum (price_on table k x) (take n qs)) ≤ 2048000000000) (next i h past) (priced_small segs placed table (take (j + 1) qs) fits few priced k x)
    | inr within ↦ small.sums i (omega (arith, within)) k x
  ];
}
  where
    last : (i : ℕ) → i < j + 1 → j ≤ i → j ≡ i
    last i h over = omega (arith, h, over)

    next : (i : ℕ) → i ≤ j + 1 → j < i → j + 1 ≡ i
    next i h past = omega (arith, h, past)
