-- The closure of a line of a segment: the lines of a group that can stand before the others.
use Rattle.std.proofs.Common.{◌≡◌, ℕ, zero, suc, ◌+◌, ◌<◌, ◌≤◌, ◌==◌, Bool, true, false, not, cond, ◌||◌, ◌&&◌, List, [], ◌∷◌, length, refl, sym, ap, subst, ◌∙◌, arith, inl, inr, true≢false, eq-eqb, nat_lt, lt-ltb}
use Rattle.std.specs.Prelude.{filter}
use Rattle.std.specs.List.{list_any, list_all}
use Rattle.std.proofs.lemmas.Bool.{or_parts, or_left, ltb-true, ltb-false}
use Rattle.map_base.specs.declared.ids.SegId.{SegId}
use Rattle.map_base.specs.declared.ids.LineId.{LineId}
use Rattle.graph_core.specs.Consistent.{AreRising}
use Rattle.order_model.specs.declared.term.Term.{Term}
use Rattle.order_model.specs.declared.problem.ProblemParts.{ProblemParts}
use Rattle.order_model.specs.Problems.{lines_on}
use Rattle.order_model.specs.Places.{has_line}
use Rattle.order_model.proofs.Lines.{either_true, same_line}
use Rattle.order_rules.specs.Dividing.{are_none, is_rising, others, most_apart, can_part, is_group, divide_applies, is_held, grown, closure}
use Rattle.order_rules.proofs.Grouped.{has_filter, has_filtered}
use Rattle.order_rules.proofs.DivideProblem.{rising_kept}

-- What two tests keep of a list.

abbrev pub Weaker : (LineId → Bool) → (LineId → Bool) → Type 0
Weaker p q = (a : LineId) → p a ≡ true → q a ≡ true

pub kept_more : (p q : LineId → Bool) (xs : List LineId) → Weaker p q → length (filter p xs) ≤ length (filter q xs)
kept_more p q [] h = omega arith
kept_more p q (x ∷ xs) h = by_tests (p x) (q x) refl refl (kept_more p q xs h)
  where
    by_tests : (c d : Bool) → p x ≡ c → q x ≡ d → length (filter p xs) ≤ length (filter q xs)
        → length (cond c (x ∷ filter p xs) (filter p xs)) ≤ length (cond d (x ∷ filter q xs) (filter q xs))
    by_tests true true k m rest = omega (arith, rest)
    by_tests true false k m rest = absurd (true≢false (sym (h x k) ∙ m))
    by_tests false true k m rest = omega (arith, rest)
    by_tests false false k m rest = rest

-- tests that keep equally many keep the same
pub kept_same : (p q : LineId → Bool) (xs : List LineId) → Weaker p q → length (filter q xs) ≤ length (filter p xs) → filter p xs ≡ filter q xs
kept_same p q [] h few = refl
kept_same p q (x ∷ xs) h few = by_tests (p x) (q x) refl refl few (kept_same p q xs h) (kept_more p q xs h)
  where
    by_tests : (c d : Bool) → p x ≡ c → q x ≡ d → length (cond d (x ∷ filter q xs) (filter q xs)) ≤ length (cond c (x ∷ filter p xs) (filter p xs))
        → (length (filter q xs) ≤ length (filter p xs) → filter p xs ≡ filter q xs) → length (filter p xs) ≤ length (filter q xs)
        → cond c (x ∷ filter p xs) (filter p xs) ≡ cond d (x ∷ filter q xs) (filter q xs)
    by_tests true true k m less rest most = ap (λ (ys : List LineId). x ∷ ys) (rest (omega (arith, less)))
    by_tests true false k m less rest most = absurd (true≢false (sym (h x k) ∙ m))
    by_tests false true k m less rest most = absurd (omega (arith, less, most))
    by_tests false false k m less rest most = rest less

-- tests that agree on the lines of a list keep the same
pub kept_alike : (p q : LineId → Bool) (xs : List LineId) → ((a : LineId) → has_line xs a ≡ true → p a ≡ q a) → filter p xs ≡ filter q xs
kept_alike p q [] h = refl
kept_alike p q (x ∷ xs) h =
    by_tests (p x) (q x) (h x (or_left (x.0 == x.0) (has_line xs x) (eq-eqb x.0 x.0 refl)))
    (kept_alike p q xs (λ a k. h a (or_later (x.0 == a.0) (has_line xs a) k)))
  where
    or_later : (s t : Bool) → t ≡ true → (s || t) ≡ true
    or_later true t k = refl
    or_later false t k = k

    by_tests : (c d : Bool) → c ≡ d → filter p xs ≡ filter q xs → cond c (x ∷ filter p xs) (filter p xs) ≡ cond d (x ∷ filter q xs) (filter q xs)
    by_tests c d same rest = ap (λ (b : Bool). cond b (x ∷ filter p xs) (filter p xs)) same ∙ ap (λ (ys : List LineId). cond d (x ∷ ys) ys) rest

all_kept : (p : LineId → Bool) (xs : List LineId) → length xs ≤ length (filter p xs) → filter p xs ≡ xs
all_kept p xs h = kept_same p (λ a. true) xs (λ a k. refl) (omega (arith, h, ap length (every xs))) ∙ every xs
  where
    every : (ys : List LineId) → filter (λ a. true) ys ≡ ys
    every [] = refl
    every (y ∷ ys) = ap (λ (zs : List LineId). y ∷ zs) (every ys)

-- The group grows until it has each line that is held.

module _ (most : ℕ) (terms : List Term) (e : SegId) (lines : List LineId) where
  abbrev held : List LineId → LineId → Bool
  held group = is_held most terms e group

  -- the group as what a test keeps of the lines
  abbrev pub IsKept : List LineId → Type 0
  IsKept group = filter (has_line group) lines ≡ group

  -- each line that is held is of the group
  abbrev pub IsClosed : List LineId → Type 0
  IsClosed group = filter (held group) lines ≡ group

  kept_held : (group : List LineId) → IsKept (filter (held group) lines)
  kept_held group = kept_alike (has_line (filter (held group) lines)) (held group) lines (λ a k. by_test a k (held group a) refl)
    where
      by_test : (a : LineId) → has_line lines a ≡ true → (c : Bool) → held group a ≡ c → has_line (filter (held group) lines) a ≡ held group a
      by_test a k true h = has_filtered (held group) lines a h ∙ (k ∙ sym h)
      by_test a k false h = has_filter (held group) lines a h ∙ sym h

  held_more : (group : List LineId) → Weaker (has_line group) (held group)
  held_more group a h = or_left (has_line group a) (list_any (λ b. not (can_part most terms e b a)) group) h

  closed_stays : (n : ℕ) (group : List LineId) → IsClosed group → grown most terms e lines n group ≡ group
  closed_stays zero group h = refl
  closed_stays (suc n) group h = ap (grown most terms e lines n) h ∙ closed_stays n group h

  grown_closed : (n : ℕ) (group : List LineId) → IsKept group → length lines ≤ n + length group → IsClosed (grown most terms e lines n group)
  grown_closed zero group kept enough =
      let all : group ≡ lines = sym kept ∙ all_kept (has_line group) lines (omega (arith, enough, ap length kept)) in
      sym (kept_same (has_line group) (held group) lines (held_more group) (omega (arith, filter_few (held group) lines, ap length kept, ap length all))) ∙ kept
    where
      filter_few : (p : LineId → Bool) (xs : List LineId) → length (filter p xs) ≤ length xs
      filter_few p [] = omega arith
      filter_few p (x ∷ xs) = by_test (p x) (filter_few p xs)
        where
          by_test : (c : Bool) → length (filter p xs) ≤ length xs → length (cond c (x ∷ filter p xs) (filter p xs)) ≤ length (x ∷ xs)
          by_test true rest = omega (arith, rest)
          by_test false rest = omega (arith, rest)
  grown_closed (suc n) group kept enough =
      by_test (nat_lt (length group) (length next)) refl (λ more. grown_closed n next (kept_held group) (omega (arith, enough, more)))
    where
      next : List LineId
      next = filter (is_held most terms e group) lines

      by_test : (c : Bool) → nat_lt (length group) (length next) ≡ c → (length group < length next → IsClosed (grown most terms e lines n next))
          → IsClosed (grown most terms e lines (suc n) group)
      by_test true more rest = rest (ltb-true (length group) (length next) more)
      by_test false no_more rest =
          let few : length next ≤ length group = ltb-false (length group) (length next) no_more in
          let closed : IsClosed group = sym (kept_same (has_line group) (held group) lines (held_more group) (omega (arith, few, ap length kept))) ∙ kept in
          let C : List LineId → Type 0 = λ g. IsClosed g in
          subst C (sym (closed_stays (suc n) group closed)) closed

  -- a line of the group stays in it
  grown_has : (n : ℕ) (group : List LineId) (a : LineId) → has_line lines a ≡ true → has_line group a ≡ true → has_line (grown most terms e lines n group) a ≡ true
  grown_has zero group a on h = h
  grown_has (suc n) group a on h = grown_has n (filter (held group) lines) a on (has_filtered (held group) lines a (held_more group a h) ∙ on)

  -- begun with a line of the segment
  pub begun_closed : (n : ℕ) (a : LineId) → has_line lines a ≡ true → length lines ≡ n → IsClosed (grown most terms e lines n (a ∷ []))
  begun_closed zero a on few = absurd (has_length lines a on few)
    where
      has_length : (xs : List LineId) (b : LineId) → has_line xs b ≡ true → length xs ≡ 0 → ⊥
      has_length [] b h k = true≢false (sym h)
      has_length (x ∷ xs) b h k = omega (arith, k)
  begun_closed (suc m) a on few =
      grown_closed m next (kept_held (a ∷ [])) (omega (arith, few, has_some next a (has_filtered (held (a ∷ [])) lines a (held_more (a ∷ []) a (first a)) ∙ on)))
    where
      next : List LineId
      next = filter (is_held most terms e (a ∷ [])) lines

      first : (b : LineId) → has_line (b ∷ []) b ≡ true
      first b = or_left (b.0 == b.0) false (eq-eqb b.0 b.0 refl)

      has_some : (xs : List LineId) (b : LineId) → has_line xs b ≡ true → 1 ≤ length xs
      has_some [] b h = absurd (true≢false (sym h))
      has_some (x ∷ xs) b h = omega arith

  pub begun_has : (n : ℕ) (a : LineId) → has_line lines a ≡ true → has_line (grown most terms e lines n (a ∷ [])) a ≡ true
  begun_has n a on = grown_has n (a ∷ []) a on (or_left (a.0 == a.0) false (eq-eqb a.0 a.0 refl))

and_true : (a b : Bool) → a ≡ true → b ≡ true → (a && b) ≡ true
and_true true b h k = k
and_true false b h k = absurd (true≢false (sym h))

rising_test : (xs : List LineId) → AreRising xs → is_rising xs ≡ true
rising_test [] h = refl
rising_test (a ∷ []) h = refl
rising_test (a ∷ b ∷ xs) h = and_true (nat_lt a.0 b.0) (is_rising (b ∷ xs)) (lt-ltb a.0 b.0 h.0) (rising_test (b ∷ xs) h.1)

or_later : (s t : Bool) → t ≡ true → (s || t) ≡ true
or_later true t k = refl
or_later false t k = k

all_of : (test : LineId → Bool) (xs : List LineId) → ((a : LineId) → has_line xs a ≡ true → test a ≡ true) → list_all test xs ≡ true
all_of test [] h = refl
all_of test (x ∷ xs) h =
    and_true (test x) (list_all test xs) (h x (or_left (x.0 == x.0) (has_line xs x) (eq-eqb x.0 x.0 refl)))
    (all_of test xs (λ a k. h a (or_later (x.0 == a.0) (has_line xs a) k)))

none_of : (test : LineId → Bool) (xs : List LineId) (a : LineId) → list_any test xs ≡ false → has_line xs a ≡ true → test a ≡ false
none_of test [] a h k = absurd (true≢false (sym k))
none_of test (x ∷ xs) a h k =
    let parts = or_parts (test x) (list_any test xs) h in
    elim (either_true (x.0 == a.0) (has_line xs a) k) [
      | inl same ↦ subst (λ (l : LineId). test l ≡ false) (same_line x a same) parts.0
      | inr later ↦ none_of test xs a parts.1 later
    ]

not_false : (a : Bool) → not a ≡ false → a ≡ true
not_false true h = refl
not_false false h = absurd (true≢false h)

not_of_false : (a : Bool) → a ≡ false → not a ≡ true
not_of_false true h = absurd (true≢false h)
not_of_false false h = refl

has_not_none : (xs : List LineId) (a : LineId) → has_line xs a ≡ true → not (are_none xs) ≡ true
has_not_none [] a h = absurd (true≢false (sym h))
has_not_none (x ∷ xs) a h = refl

-- a group that has each line that it holds can stand before the other lines
closed_applies : (p : ProblemParts) (e : SegId) (group : List LineId) (a : LineId) → AreRising (lines_on p.segs e)
    → IsClosed (most_apart p.segs p.terms e) p.terms e (lines_on p.segs e) group → has_line group a ≡ true → are_none (others (lines_on p.segs e) group) ≡ false
    → divide_applies p e group ≡ true
closed_applies p e group a rising closed has some =
    and_true (is_group lines group) (list_all (λ b. list_all (can_part most p.terms e b) rest) group)
    (and_true (is_rising group && list_all (has_line lines) group && not (are_none group)) (not (are_none rest))
    (and_true (is_rising group && list_all (has_line lines) group) (not (are_none group))
    (and_true (is_rising group) (list_all (has_line lines) group) (rising_test group (subst (λ (xs : List LineId). AreRising xs) closed (rising_kept held lines rising)))
    (all_of (has_line lines) group within))
    (has_not_none group a has))
    (not_of_false (are_none rest) some))
    (all_of (λ b. list_all (can_part most p.terms e b) rest) group (λ b on. all_of (can_part most p.terms e b) rest (λ c out. parts b c on out)))
  where
    lines : List LineId
    lines = lines_on p.segs e

    rest : List LineId
    rest = others (lines_on p.segs e) group

    most : ℕ
    most = most_apart p.segs p.terms e

    held : LineId → Bool
    held = is_held (most_apart p.segs p.terms e) p.terms e group

    of_closed : (b : LineId) → has_line group b ≡ has_line (filter held lines) b
    of_closed b = ap (λ (xs : List LineId). has_line xs b) (sym closed)

    within : (b : LineId) → has_line group b ≡ true → has_line lines b ≡ true
    within b on = by_test (held b) refl
      where
        by_test : (c : Bool) → held b ≡ c → has_line lines b ≡ true
        by_test true h = sym (has_filtered held lines b h) ∙ (sym (of_closed b) ∙ on)
        by_test false h = absurd (true≢false (sym on ∙ (of_closed b ∙ has_filter held lines b h)))

    -- a line of the rest is not held
    not_held : (c : LineId) → has_line rest c ≡ true → held c ≡ false
    not_held c out = by_tests (has_line group c) (held c) refl refl
      where
        by_tests : (x y : Bool) → has_line group c ≡ x → held c ≡ y → held c ≡ false
        by_tests true y h k = absurd (true≢false (sym out ∙ has_filter (λ b. not (has_line group b)) lines c (ap not h)))
        by_tests false true h k =
            let on : has_line lines c ≡ true = sym (has_filtered (λ b. not (has_line group b)) lines c (ap not h)) ∙ out in
            absurd (true≢false (sym (of_closed c ∙ (has_filtered held lines c k ∙ on)) ∙ h))
        by_tests false false h k = k

    parts : (b c : LineId) → has_line group b ≡ true → has_line rest c ≡ true → can_part most p.terms e b c ≡ true
    parts b c on out =
        let none = or_parts (has_line group c) (list_any (λ x. not (can_part most p.terms e x c)) group) (not_held c out) in
        not_false (can_part most p.terms e b c) (none_of (λ x. not (can_part most p.terms e x c)) group b none.1 on)

pub closure_applies : (p : ProblemParts) (e : SegId) (a : LineId) → AreRising (lines_on p.segs e) → has_line (lines_on p.segs e) a ≡ true
    → are_none (others (lines_on p.segs e) (closure p e a)) ≡ false → divide_applies p e (closure p e a) ≡ true
closure_applies p e a rising on some =
    let lines : List LineId = lines_on p.segs e in
    let most : ℕ = most_apart p.segs p.terms e in
    closed_applies p e (closure p e a) a rising (begun_closed most p.terms e lines (length lines) a on refl) (begun_has most p.terms e lines (length lines) a on) some
