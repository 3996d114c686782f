-- Prices, one by one, at the terms of their numbers.
use Rattle.std.proofs.Common.{◌≡◌, ◌≢◌, ℕ, zero, suc, ◌+◌, ◌<◌, ◌≤◌, ◌==◌, ◌&&◌, ◌||◌, not, nat_le, Bool, true, false, cond, List, [], ◌∷◌, ◌++◌, length, map, take, set, get_or, refl, sym, ◌∙◌, ap, subst, arith, true≢false, eqb-true, eq-eqb, inl, inr, ◌⊎◌}
use Rattle.std.specs.Prelude.{ℤ, pos, unsigned_abs}
use Rattle.std.specs.List.{list_all, list_any}
use Rattle.std.proofs.lemmas.Bool.{and_parts, and_from, eqb-false, leb-true, cases_lt}
use Rattle.std.proofs.lemmas.Int.{ints}
use Rattle.std.proofs.lemmas.List.{get_or-map, length-map, get_or-set_same, get_or-set_other, length-set, take_more, length-take-le, get_or-take}
use Rattle.map_base.specs.declared.ids.LineId.{LineId}
use Rattle.order_model.specs.declared.term.Term.{Term}
use Rattle.order_model.specs.declared.term.Term.TheVariants.{Side, Link, Apart}
use Rattle.order_model.specs.Problems.{IsTerm}
use Rattle.order_model.specs.Looks.{is_decided}
use Rattle.order_values.specs.PriceLists.{AreRisingPrices}
use Rattle.order_bound.specs.Values.{allows, are_allowed}
use Rattle.order_values.specs.PriceLists.{price_at}
use Rattle.order_check.specs.declared.slot.PartTerm.{PartTerm}
use Rattle.order_check.specs.Slots.{plain_term}
use Rattle.order_check.specs.Charging.{no_part_term, AreTerms}
use Rattle.order_check.specs.Prices.{may_have, AreNumbersOf}
use Rattle.order_check.specs.Pricing.{AreSpread}

same_or_other : (i j : ℕ) → (i ≡ j) ⊎ (i ≢ j)
same_or_other i j = by_test (i == j) refl
  where
    by_test : (b : Bool) → (i == j) ≡ b → (i ≡ j) ⊎ (i ≢ j)
    by_test true e = inl (eqb-true i j e)
    by_test false e = inr (eqb-false i j e)

-- the price is allowed on one of these terms
abbrev pub is_allowed : List (List LineId) → List (ℕ × Term) → (ℕ × ℤ) → Bool
is_allowed placed terms q = list_any (λ (t : ℕ × Term). allows placed q t.0 t.1) terms

-- A price is allowed on the term of its number alone.

allows_own : (placed : List (List LineId)) (q : ℕ × ℤ) (k : ℕ) (t : Term) → k ≡ q.0 → allows placed q k t ≡ may_have placed t q.1
allows_own placed q k (Side seg first second w) e = refl
allows_own placed q k (Link seg other flip a b w) e = rw (eq-eqb k q.0 e) refl
allows_own placed q k (Apart seg other a b w) e = refl

allows_other : (placed : List (List LineId)) (q : ℕ × ℤ) (k : ℕ) (t : Term) → k ≢ q.0 → allows placed q k t ≡ false
allows_other placed q k (Side seg first second w) n = refl
allows_other placed q k (Link seg other flip a b w) n = by_test (k == q.0) refl
  where
    by_test : (t : Bool) → (k == q.0) ≡ t → ((t && not (is_decided placed seg a b || is_decided placed other a b)) && nat_le (unsigned_abs q.1) w) ≡ false
    by_test true e = absurd (n (eqb-true k q.0 e))
    by_test false e = refl
allows_other placed q k (Apart seg other a b w) n = refl

none_allows : (placed : List (List LineId)) (table : List PartTerm) (q : ℕ × ℤ) → ((i : ℕ) → i < length table → (get_or table i no_part_term).number ≢ q.0)
    → is_allowed placed (map plain_term table) q ≡ false
none_allows placed [] q others = refl
none_allows placed (t ∷ table) q others =
    rw (allows_other placed q t.number t.term (others 0 (omega arith)), none_allows placed table q (λ i h. others (suc i) (omega (arith, h)))) refl

one_allows : (placed : List (List LineId)) (table : List PartTerm) (q : ℕ × ℤ) (i : ℕ) → i < length table → (get_or table i no_part_term).number ≡ q.0
    → ((j : ℕ) → j < length table → j ≢ i → (get_or table j no_part_term).number ≢ q.0) → is_allowed placed (map plain_term table) q ≡ may_have placed (get_or table i no_part_term).term q.1
one_allows placed [] q i below here others = absurd (omega (arith, below))
one_allows placed (t ∷ table) q zero below here others =
    let rest : is_allowed placed (map plain_term table) q ≡ false = none_allows placed table q (λ j h. others (suc j) (omega (arith, h)) (λ e. omega (arith, e))) in
    ap (λ b. allows placed q t.number t.term || b) rest ∙ or_none (allows placed q t.number t.term) ∙ allows_own placed q t.number t.term here
  where
    or_none : (b : Bool) → (b || false) ≡ b
    or_none true = refl
    or_none false = refl
one_allows placed (t ∷ table) q (suc i) below here others =
    ap (λ b. b || is_allowed placed (map plain_term table) q) (allows_other placed q t.number t.term (others 0 (omega arith) (λ e. omega (arith, e))))
    ∙ one_allows placed table q i (omega (arith, below)) here (λ j h n. others (suc j) (omega (arith, h)) (λ e. n (omega (arith, e))))

pub number_read : (table : List PartTerm) (numbers : List ℕ) (i : ℕ) → map (λ (t : PartTerm). t.number) table ≡ numbers → i < length table
    → get_or numbers i 0 ≡ (get_or table i no_part_term).number
number_read table numbers i listed below = ap (λ ns. get_or ns i 0) (sym listed) ∙ get_or-map (λ (t : PartTerm). t.number) table i no_part_term 0 below

pub count_read : (table : List PartTerm) (numbers : List ℕ) → AreNumbersOf table numbers → length numbers ≡ length table
count_read table numbers ok = ap length (sym ok.listed) ∙ length-map table (λ (t : PartTerm). t.number)

numbers_differ : (table : List PartTerm) (numbers : List ℕ) → AreNumbersOf table numbers → (i j : ℕ) → i < length table → j < length table → j ≢ i
    → (get_or table j no_part_term).number ≢ (get_or table i no_part_term).number
numbers_differ table numbers ok i j below below_too n e = elim (cases_lt i j) [
  | inl under ↦ (let up = ok.rising i j under (omega (arith, below_too, count_read table numbers ok)) in
      absurd (omega (arith, up, e, number_read table numbers i ok.listed below, number_read table numbers j ok.listed below_too)))
  | inr over ↦ (let up = ok.rising j i (omega (arith, over, n)) (omega (arith, below, count_read table numbers ok)) in
      absurd (omega (arith, up, e, number_read table numbers i ok.listed below, number_read table numbers j ok.listed below_too)))
]

-- whether a price is allowed, by the place of its number
pub allowed_at : (placed : List (List LineId)) (table : List PartTerm) (numbers : List ℕ) (q : ℕ × ℤ) (i : ℕ) → AreNumbersOf table numbers → i < length numbers → get_or numbers i 0 ≡ q.0
    → is_allowed placed (map plain_term table) q ≡ may_have placed (get_or table i no_part_term).term q.1
allowed_at placed table numbers q i ok below here =
    let inside : i < length table = omega (arith, below, count_read table numbers ok) in
    let own : (get_or table i no_part_term).number ≡ q.0 = sym (number_read table numbers i ok.listed inside) ∙ here in
    one_allows placed table q i inside own (λ j h n e. numbers_differ table numbers ok i j inside h n (e ∙ sym own))

pub allowed_nowhere : (placed : List (List LineId)) (table : List PartTerm) (numbers : List ℕ) (q : ℕ × ℤ) → AreNumbersOf table numbers
    → ((i : ℕ) → i < length numbers → get_or numbers i 0 ≢ q.0) → is_allowed placed (map plain_term table) q ≡ false
allowed_nowhere placed table numbers q ok others =
    none_allows placed table q (λ i h e. others i (omega (arith, h, count_read table numbers ok)) (number_read table numbers i ok.listed h ∙ e))

-- One price more.

all_more : (f : ℕ × ℤ → Bool) (qs : List (ℕ × ℤ)) (q : ℕ × ℤ) → list_all f (qs ++ q ∷ []) ≡ (list_all f qs && f q)
all_more f [] q = and_true (f q)
  where
    and_true : (b : Bool) → (b && true) ≡ b
    and_true true = refl
    and_true false = refl
all_more f (r ∷ qs) q = ap (λ b. f r && b) (all_more f qs q) ∙ moved (f r) (list_all f qs) (f q)
  where
    moved : (a b c : Bool) → (a && (b && c)) ≡ ((a && b) && c)
    moved true b c = refl
    moved false b c = refl

-- one of the prices isn't allowed
pub not_all : (f : ℕ × ℤ → Bool) (qs : List (ℕ × ℤ)) (j : ℕ) (d : ℕ × ℤ) → j < length qs → f (get_or qs j d) ≡ false → list_all f qs ≡ false
not_all f [] j d below h = absurd (omega (arith, below))
not_all f (q ∷ qs) zero d below h = rw h refl
not_all f (q ∷ qs) (suc j) d below h = rw (not_all f qs j d (omega (arith, below)) h) (and_none (f q))
  where
    and_none : (b : Bool) → (b && false) ≡ false
    and_none true = refl
    and_none false = refl

price_push : (qs : List (ℕ × ℤ)) (q : ℕ × ℤ) (n : ℕ) → ((j : ℕ) → j < length qs → (get_or qs j (0, pos 0)).0 < q.0) → price_at (qs ++ q ∷ []) n ≡ cond (q.0 == n) q.1 (price_at qs n)
price_push [] q n under = refl
price_push (r ∷ qs) q n under = by_tests (r.0 == n) refl (q.0 == n) refl (price_push qs q n (λ j h. under (suc j) (omega (arith, h))))
  where
    by_tests : (s : Bool) → (r.0 == n) ≡ s → (t : Bool) → (q.0 == n) ≡ t → price_at (qs ++ q ∷ []) n ≡ cond t q.1 (price_at qs n)
        → cond s r.1 (price_at (qs ++ q ∷ []) n) ≡ cond t q.1 (cond s r.1 (price_at qs n))
    by_tests true e true f rest = absurd (let first = under 0 (omega arith) in omega (arith, first, eqb-true r.0 n e, eqb-true q.0 n f))
    by_tests true e false f rest = refl
    by_tests false e t f rest = rest

pub rising_all : (qs : List (ℕ × ℤ)) → AreRisingPrices qs → (i j : ℕ) → i < j → j < length qs → (get_or qs i (0, pos 0)).0 < (get_or qs j (0, pos 0)).0
rising_all [] h i j below known = absurd (omega (arith, known))
rising_all (q ∷ []) h i j below known = absurd (omega (arith, below, known))
rising_all (q ∷ r ∷ qs) h zero zero below known = absurd (omega (arith, below))
rising_all (q ∷ r ∷ qs) h zero (suc zero) below known = h.0
rising_all (q ∷ r ∷ qs) h zero (suc (suc j)) below known =
    let rest = rising_all (r ∷ qs) h.1 zero (suc j) (omega arith) (omega (arith, known)) in omega (arith, h.0, rest)
rising_all (q ∷ r ∷ qs) h (suc i) zero below known = absurd (omega (arith, below))
rising_all (q ∷ r ∷ qs) h (suc i) (suc j) below known = rising_all (r ∷ qs) h.1 i j (omega (arith, below)) (omega (arith, known))

pub spread_none : (placed : List (List LineId)) (table : List PartTerm) (prices : List ℤ) → length prices ≡ length table → ((i : ℕ) → get_or prices i (pos 0) ≡ pos 0) → AreSpread placed table [] prices
spread_none placed table prices each none = record {
  each = each;
  allowed = refl;
  told = λ i h. none i;
  small = λ i h. (let is = none i in rw is (omega (arith, ints)));
}

pub small_allowed : (segs placed : List (List LineId)) (t : Term) (y : ℤ) → IsTerm segs t → may_have placed t y ≡ true → unsigned_abs y ≤ 256000
small_allowed segs placed (Side seg first second w) y fits h = absurd (true≢false (sym h))
small_allowed segs placed (Link seg other flip a b w) y fits h =
    let most = leb-true (unsigned_abs y) w (and_parts (not (is_decided placed seg a b || is_decided placed other a b)) (nat_le (unsigned_abs y) w) h).1 in
    omega (arith, most, fits.weight.1)
small_allowed segs placed (Apart seg other a b w) y fits h = absurd (true≢false (sym h))

pub spread_more : (segs placed : List (List LineId)) (table : List PartTerm) (numbers : List ℕ) (list : List (ℕ × ℤ)) (j i : ℕ) (prices : List ℤ) → AreTerms segs table → AreNumbersOf table numbers
    → AreRisingPrices list → j < length list → AreSpread placed table (take j list) prices → i < length numbers → get_or numbers i 0 ≡ (get_or list j (0, pos 0)).0
    → may_have placed (get_or table i no_part_term).term (get_or list j (0, pos 0)).1 ≡ true → AreSpread placed table (take (j + 1) list) (set prices i (get_or list j (0, pos 0)).1)
spread_more segs placed table numbers list j i prices fits ok rising known so_far below here may =
    subst (λ qs. AreSpread placed table qs (set prices i q.1)) (sym (take_more list j (0, pos 0) known)) (record {
      each = length-set prices i q.1 ∙ so_far.each;
      allowed = all_more (is_allowed placed (map plain_term table)) (take j list) q ∙ and_from (are_allowed placed (map plain_term table) (take j list)) (is_allowed placed (map plain_term table) q)
          so_far.allowed (allowed_at placed table numbers q i ok below here ∙ may);
      told = λ m h. price_told m h;
      small = λ m h. elim (same_or_other m i) [
        | inl e ↦ rw (e, get_or-set_same prices i q.1 (pos 0) at) (small_allowed segs placed (get_or table i no_part_term).term q.1 (fits i no_part_term inside) may)
        | inr n ↦ rw (get_or-set_other prices i m q.1 (pos 0) n) (so_far.small m h)
      ];
    })
  where
    q : ℕ × ℤ
    q = get_or list j (0, pos 0)

    inside : i < length table
    inside = omega (arith, below, count_read table numbers ok)

    at : i < length prices
    at = omega (arith, below, count_read table numbers ok, so_far.each)

    own : (get_or table i no_part_term).number ≡ q.0
    own = sym (number_read table numbers i ok.listed (omega (arith, below, count_read table numbers ok))) ∙ here

    pushed : (n : ℕ) → price_at (take j list ++ get_or list j (0, pos 0) ∷ []) n ≡ cond ((get_or list j (0, pos 0)).0 == n) (get_or list j (0, pos 0)).1 (price_at (take j list) n)
    pushed n = price_push (take j list) (get_or list j (0, pos 0)) n (λ m h.
        (let under : m < j = omega (arith, h, length-take-le j list (omega (arith, known))) in
        let same : get_or (take j list) m (0, pos 0) ≡ get_or list m (0, pos 0) = get_or-take j list m (0, pos 0) under in
        rw same (rising_all list rising m j under known)))

    price_told : (m : ℕ) → m < length table → get_or (set prices i (get_or list j (0, pos 0)).1) m (pos 0) ≡ price_at (take j list ++ get_or list j (0, pos 0) ∷ []) (get_or table m no_part_term).number
    price_told m h = elim (same_or_other m i) [
      | inl e ↦ rw (e, get_or-set_same prices i (get_or list j (0, pos 0)).1 (pos 0) (omega (arith, below, count_read table numbers ok, so_far.each)))
          (sym (pushed (get_or table i no_part_term).number ∙ ap (λ b. cond b (get_or list j (0, pos 0)).1 (price_at (take j list) (get_or table i no_part_term).number))
          (eq-eqb (get_or list j (0, pos 0)).0 (get_or table i no_part_term).number (sym (sym (number_read table numbers i ok.listed (omega (arith, below, count_read table numbers ok))) ∙ here)))))
      | inr n ↦ get_or-set_other prices i m (get_or list j (0, pos 0)).1 (pos 0) n ∙ so_far.told m h
          ∙ sym (pushed (get_or table m no_part_term).number ∙ ap (λ b. cond b (get_or list j (0, pos 0)).1 (price_at (take j list) (get_or table m no_part_term).number))
          (not_equal (get_or list j (0, pos 0)).0 (get_or table m no_part_term).number
          (λ e. numbers_differ table numbers ok i m (omega (arith, below, count_read table numbers ok)) h n (sym e ∙ sym here ∙ number_read table numbers i ok.listed (omega (arith, below, count_read table numbers ok))))))
    ]
      where
        not_equal : (a b : ℕ) → (a ≡ b → ⊥) → (a == b) ≡ false
        not_equal a b n = by_test (a == b) refl
          where
            by_test : (t : Bool) → (a == b) ≡ t → t ≡ false
            by_test false e = refl
            by_test true e = absurd (n (eqb-true a b e))
