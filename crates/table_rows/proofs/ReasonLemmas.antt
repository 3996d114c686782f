-- The first bad row.
use Rattle.std.proofs.Common.{◌≡◌, ◌∷◌, [], ◌++◌, Bool, true, false, if◌then◌else◌, ◌<◌, ◌≤◌, ℕ, zero, suc, ◌+◌, ◌⊎◌, inl, inr, Option, Some, None, refl, ap, sym, ◌∙◌, subst, arith, max, not, true≢false, Ok, List, length}
use Rattle.std.proofs.lemmas.Bool.{cases_lt}
use Rattle.std.proofs.lemmas.Option.{none-some}
use Rattle.table_rows.specs.declared.why.Table.{Table}
use Rattle.table_rows.specs.declared.fault.FeedFault.{FeedFault}
use Rattle.table_rows.specs.declared.fault.FeedFault.TheVariants as faults
use Rattle.table_rows.specs.Cells.{Row}
use Rattle.table_rows.specs.Outcome.{Refuses, never}
use Rattle.table_rows.specs.declared.why.Why.{Why}
use Rattle.table_rows.specs.Reasons.{first_met, first_below, first_of, at_place, first_bad, unless_bad}

module _ (reason : ℕ → Option Why) where
  pub first_below-more : (i : ℕ) → first_below reason i ≡ None → reason i ≡ None → first_below reason (i + 1) ≡ None
  first_below-more i before here =
      let e : i + 1 ≡ suc i = omega arith in
      ap (first_below reason) e ∙ ap (λ b. first_of b (at_place i (reason i))) before ∙ ap (at_place i) here

  pub first_below-found : (i n : ℕ) (why : Why) → i < n → first_below reason i ≡ None → reason i ≡ Some why → first_below reason n ≡ Some (i, why)
  first_below-found i zero why l before here = absurd (omega (arith, l))
  first_below-found i (suc n) why l before here = by (cases_lt i n) (first_below-found i n why)
    where
      by : (i < n) ⊎ (n ≤ i) → (i < n → first_below reason i ≡ None → reason i ≡ Some why → first_below reason n ≡ Some (i, why)) → first_below reason (suc n) ≡ Some (i, why)
      by (inl h) found = ap (λ b. first_of b (at_place n (reason n))) (found h before here)
      by (inr h) found =
          let e : i ≡ n = omega (arith, l, h) in
          subst (λ m. first_of (first_below reason m) (at_place m (reason m)) ≡ Some (i, why)) e
          (ap (λ b. first_of b (at_place i (reason i))) before ∙ ap (at_place i) here)

-- a reason whose test fails is passed over
pub first_met-past : (test : Bool) (why : Why) (others : List (Bool × Why)) → test ≡ false → first_met ((test, why) ∷ others) ≡ first_met others
first_met-past test why others fails = ap (λ b. if b then Some why else first_met others) fails

-- a reason met in the front part is the first of all
pub first_met-front : (front back : List (Bool × Why)) (why : Why) → first_met front ≡ Some why → first_met (front ++ back) ≡ Some why
first_met-front [] back why met = absurd (none-some why met)
first_met-front (reason ∷ front) back why met = by reason.0 refl (first_met-front front back why)
  where
    by : (b : Bool) → reason.0 ≡ b → (first_met front ≡ Some why → first_met (front ++ back) ≡ Some why) → first_met (reason ∷ (front ++ back)) ≡ Some why
    by true e rest =
        ap (λ b. if b then Some reason.1 else first_met (front ++ back)) e
        ∙ sym (ap (λ b. if b then Some reason.1 else first_met front) e) ∙ met
    by false e rest =
        ap (λ b. if b then Some reason.1 else first_met (front ++ back)) e
        ∙ rest (sym (ap (λ b. if b then Some reason.1 else first_met front) e) ∙ met)

-- and where none is met there, the back part decides
pub first_met-back : (front back : List (Bool × Why)) → first_met front ≡ None → first_met (front ++ back) ≡ first_met back
first_met-back [] back none = refl
first_met-back (reason ∷ front) back none = by reason.0 refl (first_met-back front back)
  where
    by : (b : Bool) → reason.0 ≡ b → (first_met front ≡ None → first_met (front ++ back) ≡ first_met back) → first_met (reason ∷ (front ++ back)) ≡ first_met back
    by true e rest = absurd (none-some reason.1 (sym none ∙ ap (λ b. if b then Some reason.1 else first_met front) e))
    by false e rest =
        ap (λ b. if b then Some reason.1 else first_met (front ++ back)) e
        ∙ rest (sym (ap (λ b. if b then Some reason.1 else first_met front) e) ∙ none)

-- a check that meets its first bad row refuses it
pub Refuses-bad : {A : Type 0} (table : Table) (reason : ℕ → Option Why) (rows : List Row) (value : A) (place : ℕ) (why : Why) (fault : FeedFault)
    → place < length rows → first_below reason place ≡ None → reason place ≡ Some why → fault ≡ faults.BadRow table (place + 1) why
    → Refuses never fault (unless_bad table (first_bad reason rows) value)
Refuses-bad table reason rows value place why fault within before here is =
    subst (λ f. Refuses never f (unless_bad table (first_bad reason rows) value)) (sym is)
    (ap (λ bad. unless_bad table bad value) (first_below-found reason place (max 1 (length rows)) why (omega arith) before here))

-- a check that passes all rows finds none bad
pub first_bad-none : (reason : ℕ → Option Why) (rows : List Row) (place : ℕ) → 0 < length rows → place ≡ length rows → first_below reason place ≡ None → first_bad reason rows ≡ None
first_bad-none reason rows place header all before =
    let e : max 1 (length rows) ≡ place = omega arith in
    ap (first_below reason) e ∙ before

-- where no row is bad, no row has a reason
pub first_below-none : (reason : ℕ → Option Why) (n place : ℕ) → place < n → first_below reason n ≡ None → reason place ≡ None
first_below-none reason zero place within none = absurd (omega (arith, within))
first_below-none reason (suc n) place within none = by (first_below reason n) refl (first_below-none reason n place) (cases_lt place n)
  where
    by : (before : Option (ℕ × Why)) → first_below reason n ≡ before → (place < n → first_below reason n ≡ None → reason place ≡ None) → (place < n) ⊎ (n ≤ place) → reason place ≡ None
    by (Some bad) is rest at = absurd (none-some bad (sym none ∙ ap (λ b. first_of b (at_place n (reason n))) is))
    by None is rest (inl l) = rest l is
    by None is rest (inr l) =
        let e : n ≡ place = omega (arith, l, within) in
        subst (λ m. reason m ≡ None) e (at (reason n) (sym (ap (λ b. first_of b (at_place n (reason n))) is) ∙ none))
      where
        at : (here : Option Why) → at_place n here ≡ None → here ≡ None
        at None h = refl
        at (Some why) h = absurd (none-some (n, why) (sym h))

pub first_bad-at : (reason : ℕ → Option Why) (rows : List Row) (place : ℕ) → place < length rows → first_bad reason rows ≡ None → reason place ≡ None
first_bad-at reason rows place within none = first_below-none reason (max 1 (length rows)) place (omega arith) none

-- where no reason is met, each test fails
pub first_met-none : (test : Bool) (why : Why) (others : List (Bool × Why)) → first_met ((test, why) ∷ others) ≡ None → (test ≡ false) × (first_met others ≡ None)
first_met-none true why others none = absurd (none-some why (sym none))
first_met-none false why others none = (refl, none)

-- a text that is not found wanting is one
not-false : (b : Bool) → not b ≡ false → b ≡ true
not-false true e = refl
not-false false e = absurd (true≢false e)

-- a row that has no reason is text, and what its fourth reason tests is false
pub text_and_fourth : (a text c d : Bool) (v w x y : Why) (others : List (Bool × Why))
    → first_met ((a, v) ∷ (not text, w) ∷ (c, x) ∷ (d, y) ∷ others) ≡ None → (text ≡ true) × (d ≡ false)
text_and_fourth a text c d v w x y others none =
    let first = first_met-none a v ((not text, w) ∷ (c, x) ∷ (d, y) ∷ others) none in
    let second = first_met-none (not text) w ((c, x) ∷ (d, y) ∷ others) first.1 in
    let third = first_met-none c x ((d, y) ∷ others) second.1 in
    let fourth = first_met-none d y others third.1 in
    (not-false text second.0, fourth.0)

-- a check that passes finds no bad row
pub unless_bad-good : (table : Table) (bad : Option (ℕ × Why)) (done : Unit {0}) → unless_bad table bad tt ≡ Ok done → bad ≡ None
unless_bad-good table None done passed = refl
unless_bad-good table (Some bad) done passed = cc
