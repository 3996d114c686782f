-- The terms of parts that share no segment cost no more than all terms.
use Rattle.std.proofs.Common.{◌≡◌, ℕ, zero, suc, ◌+◌, ◌<◌, ◌≤◌, ◌==◌, ◌||◌, Bool, true, false, cond, List, [], ◌∷◌, length, refl, sym, ap, arith, inl, inr, true≢false, eqb-true, eq-eqb, IsTrue}
use Rattle.std.specs.List.{All, Contains, AllByRecursion, sum_by}
use Rattle.std.proofs.lemmas.List.Elements.{All-contains}
use Rattle.std.proofs.lemmas.List.Sums.{sum_by-cons}
use Rattle.map_base.specs.declared.ids.SegId.{SegId}
use Rattle.map_base.specs.declared.ids.LineId.{LineId}
use Rattle.order_model.specs.declared.term.Term.{Term}
use Rattle.order_model.specs.Costs.{seg_of, other_of, term_cost, cost_of}
use Rattle.order_model.specs.Parts.{AreParts, AreByLeast, IsRisingPart, least_of, is_wide}
use Rattle.order_model.proofs.PartLemmas.{least_below_later, by_least_tail}
use Rattle.std.specs.List.{filter}
use Rattle.order_model.specs.PartTerms.{is_in, is_of}
use Rattle.order_model.proofs.Lines.{either_true, both_true}

-- Parts that share no segment.

abbrev pub ShareNone : List SegId → List SegId → Type 0
ShareNone p q = (s : SegId) → is_in p s ≡ true → is_in q s ≡ false

abbrev pub AreApartParts : List (List SegId) → Type 0
AreApartParts [] = Unit {0}
AreApartParts (p ∷ parts) = AllByRecursion (ShareNone p) parts × AreApartParts parts

pub contains_in : (p : List SegId) (s : SegId) → is_in p s ≡ true → Contains p s
contains_in [] s h = absurd (true≢false (sym h))
contains_in (t ∷ p) s h = elim (either_true (t.0 == s.0) (is_in p s) h) [
  | inl here ↦ (let P : ℕ → SegId = λ n. record { 0 = n } in (0, omega arith, ap P (eqb-true t.0 s.0 here)))
  | inr later ↦ (let rest = contains_in p s later in (suc rest.0, omega (arith, rest.1), rest.2))
]

pub in_contained : (p : List SegId) (s : SegId) → Contains p s → is_in p s ≡ true
in_contained [] s c = absurd (omega (arith, c.1))
in_contained (t ∷ p) s (zero, below, is) = rw (eq-eqb t.0 s.0 (ap (λ (u : SegId). u.0) is)) refl
in_contained (t ∷ p) s (suc k, below, is) = or_later (t.0 == s.0) (is_in p s) (in_contained p s (k, omega (arith, below), is))
  where
    or_later : (a b : Bool) → b ≡ true → (a || b) ≡ true
    or_later true b h = refl
    or_later false b h = h

rising_least : (p : List SegId) (t : SegId) → IsRisingPart p → Contains p t → least_of p ≤ t.0
rising_least [] t h c = absurd h
rising_least (s ∷ p) t h (zero, below, is) = let same : s.0 ≡ t.0 = ap (λ (u : SegId). u.0) is in omega (arith, same)
rising_least (s ∷ []) t h (suc k, below, is) = absurd (omega (arith, below))
rising_least (s ∷ u ∷ p) t h (suc k, below, is) = omega (arith, h.0, rising_least (u ∷ p) t h.1 (k, omega (arith, below), is))

pub has_least : (p : List SegId) → IsRisingPart p → Contains p (record { 0 = least_of p })
has_least [] h = absurd h
has_least (s ∷ p) h = (0, omega arith, refl)

module _ (segs : List (List LineId)) (terms : List Term) (parts : List (List SegId)) (ok : AreParts segs terms parts) where
  share_none : (p q : List SegId) → Contains parts p → Contains parts q → least_of p < least_of q → ShareNone p q
  share_none p q p_in q_in below s in_p = by_test (is_in q s) refl
    where
      least : SegId
      least = record { 0 = least_of p }

      by_test : (b : Bool) → is_in q s ≡ b → b ≡ false
      by_test false e = refl
      by_test true e =
          let p_rising : IsRisingPart p = All-contains IsRisingPart parts p ok.rising p_in in
          let q_rising : IsRisingPart q = All-contains IsRisingPart parts q ok.rising q_in in
          let least_in : Contains p least = has_least p p_rising in
          let wide = All-contains (λ (s : SegId). (s.0 < length segs) × IsTrue (is_wide segs s.0)) p least
          (All-contains (All (λ (s : SegId). (s.0 < length segs) × IsTrue (is_wide segs s.0))) parts p ok.wide p_in) least_in in
          let reached = (ok.classes p s least p_in (contains_in p s in_p) wide.0 wide.1).0 least_in in
          let in_q : Contains q least = (ok.classes q s least q_in (contains_in q s e) wide.0 wide.1).1 reached in
          absurd (omega (arith, below, rising_least q least q_rising in_q))

  apart_later : (p : List SegId) (later : List (List SegId)) → Contains parts p → ((q : List SegId) → Contains later q → Contains parts q)
      → ((q : List SegId) → Contains later q → least_of p < least_of q) → AllByRecursion (ShareNone p) later
  apart_later p [] p_in sub below = tt
  apart_later p (q ∷ later) p_in sub below = (
    share_none p q p_in (sub q (0, omega arith, refl)) (below q (0, omega arith, refl)),
    apart_later p later p_in (λ r c. sub r (suc c.0, omega (arith, c.1), c.2)) (λ r c. below r (suc c.0, omega (arith, c.1), c.2)),
  )

  apart_all : (some : List (List SegId)) → ((q : List SegId) → Contains some q → Contains parts q) → AreByLeast some → AreApartParts some
  apart_all [] sub h = tt
  apart_all (p ∷ some) sub h = (
    apart_later p some (sub p (0, omega arith, refl)) (λ q c. sub q (suc c.0, omega (arith, c.1), c.2)) (λ q c. least_below_later p q some h c),
    apart_all some (λ q c. sub q (suc c.0, omega (arith, c.1), c.2)) (by_least_tail p some h),
  )

  pub parts_apart : AreApartParts parts
  parts_apart = apart_all parts (λ q c. c) ok.by_least

-- Sums over parts.

sum_same : (f g : List SegId → ℕ) → ((p : List SegId) → f p ≡ g p) → (parts : List (List SegId)) → sum_by f parts ≡ sum_by g parts
sum_same f g same [] = refl
sum_same f g same (p ∷ parts) = let rest = sum_same f g same parts in omega (arith, same p, rest, sum_by-cons f p parts, sum_by-cons g p parts)

sum_both : (f g : List SegId → ℕ) (parts : List (List SegId)) → sum_by (λ p. f p + g p) parts ≡ sum_by f parts + sum_by g parts
sum_both f g [] = refl
sum_both f g (p ∷ parts) =
    let rest = sum_both f g parts in
    omega (arith, rest, sum_by-cons (λ p. f p + g p) p parts, sum_by-cons f p parts, sum_by-cons g p parts)

sum_none : (f : List SegId → ℕ) (parts : List (List SegId)) → AllByRecursion (λ p. f p ≡ 0) parts → sum_by f parts ≡ 0
sum_none f [] h = refl
sum_none f (p ∷ parts) h = let rest = sum_none f parts h.1 in omega (arith, rest, h.0, sum_by-cons f p parts)

-- a term's weight counts in its part alone
abbrev share : Term → ℕ → List SegId → ℕ
share t c p = cond (is_of p t) c 0

not_later : (p : List SegId) (t : Term) (c : ℕ) (later : List (List SegId)) → is_of p t ≡ true → AllByRecursion (ShareNone p) later → AllByRecursion (λ q. share t c q ≡ 0) later
not_later p t c [] h all = tt
not_later p t c (q ∷ later) h all =
    let first : is_in p (seg_of t) ≡ true = (both_true (is_in p (seg_of t)) (is_in p (other_of t)) h).0 in
    (rw (all.0 (seg_of t) first) refl, not_later p t c later h all.1)

once : (t : Term) (c : ℕ) (parts : List (List SegId)) → AreApartParts parts → sum_by (share t c) parts ≤ c
once t c [] h = omega arith
once t c (p ∷ parts) h = by_test (is_of p t) refl (once t c parts h.1)
  where
    by_test : (b : Bool) → is_of p t ≡ b → sum_by (share t c) parts ≤ c → sum_by (share t c) (p ∷ parts) ≤ c
    by_test true e rest =
        let others : sum_by (share t c) parts ≡ 0 = sum_none (share t c) parts (not_later p t c parts e h.0) in
        let here : share t c p ≡ c = rw e refl in
        omega (arith, others, here, sum_by-cons (share t c) p parts)
    by_test false e rest = let here : share t c p ≡ 0 = rw e refl in omega (arith, rest, here, sum_by-cons (share t c) p parts)

-- what the terms cost whose segments are of the part
abbrev pub part_cost : List Term → List (List LineId) → List SegId → ℕ
part_cost terms orders p = cost_of (filter (is_of p) terms) orders

one_more_term : (t : Term) (terms : List Term) (orders : List (List LineId)) (p : List SegId)
    → part_cost (t ∷ terms) orders p ≡ share t (term_cost orders t) p + part_cost terms orders p
one_more_term t terms orders p = by_test (is_of p t)
  where
    by_test : (b : Bool) → cost_of (cond b (t ∷ filter (is_of p) terms) (filter (is_of p) terms)) orders ≡ cond b (term_cost orders t) 0 + part_cost terms orders p
    by_test true = sum_by-cons (term_cost orders) t (filter (is_of p) terms)
    by_test false = omega arith

no_terms : (orders : List (List LineId)) (parts : List (List SegId)) → AllByRecursion (λ p. part_cost [] orders p ≡ 0) parts
no_terms orders [] = tt
no_terms orders (p ∷ parts) = (refl, no_terms orders parts)

pub shares_fit : (parts : List (List SegId)) (terms : List Term) (orders : List (List LineId)) → AreApartParts parts
    → sum_by (part_cost terms orders) parts ≤ cost_of terms orders
shares_fit parts [] orders h = omega (arith, sum_none (part_cost [] orders) parts (no_terms orders parts))
shares_fit parts (t ∷ terms) orders h =
    let c : ℕ = term_cost orders t in
    let rest = shares_fit parts terms orders h in
    let grown : sum_by (part_cost (t ∷ terms) orders) parts ≡ sum_by (λ p. share t c p + part_cost terms orders p) parts =
    sum_same (part_cost (t ∷ terms) orders) (λ p. share t c p + part_cost terms orders p) (one_more_term t terms orders) parts in
    omega (arith, rest, once t c parts h, grown, sum_both (share t c) (part_cost terms orders) parts, sum_by-cons (term_cost orders) t terms)
