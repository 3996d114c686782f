-- What a merge and a division make of one term: the segments that it stands on, and that nothing more is changed a second time.
use Rattle.std.proofs.Common.{◌≡◌, ◌≢◌, ℕ, ◌<◌, ◌≤◌, ◌==◌, Bool, true, false, not, ◌||◌, ◌&&◌, refl, sym, ap, ◌∙◌, arith, inl, inr, true≢false, eqb-true, eq-eqb, nat_lt}
use Rattle.std.specs.Prelude.{if◌then◌else◌}
use Rattle.std.proofs.lemmas.Bool.{eqb-false, ltb-true, or_left}
use Rattle.map_base.specs.declared.ids.SegId.{SegId}
use Rattle.order_model.specs.declared.term.Term.{Term}
use Rattle.order_model.specs.declared.term.Term.TheVariants.{Side, Link, Apart}
use Rattle.order_model.specs.Costs.{seg_of, other_of}
use Rattle.order_model.specs.Parts.{is_between}
use Rattle.order_model.proofs.Lines.{either_true, neither}
use Rattle.order_rules.specs.PairWeights.{is_on}
use Rattle.order_rules.specs.Merging.{renamed, turned, moved}
use Rattle.order_rules.specs.Dividing.{renumbered}
use Rattle.order_untangle.specs.LeftTerms.{IsFit}

pub or_later : (a b : Bool) → b ≡ true → (a || b) ≡ true
or_later true b h = refl
or_later false b h = h

or_turned : (a b : Bool) → (a || b) ≡ (b || a)
or_turned true true = refl
or_turned true false = refl
or_turned false true = refl
or_turned false false = refl

both_off : (a b : Bool) → a ≡ false → b ≡ false → (a || b) ≡ false
both_off a b h k = ap (λ (c : Bool). c || b) h ∙ k

and_none : (a : Bool) → (a && false) ≡ false
and_none true = refl
and_none false = refl

pub differ_test : (m n : ℕ) → m ≢ n → (m == n) ≡ false
differ_test m n h = by_test (m == n) refl
  where
    by_test : (c : Bool) → (m == n) ≡ c → c ≡ false
    by_test true k = absurd (h (eqb-true m n k))
    by_test false k = refl

not_both : (m n : ℕ) → nat_lt m n ≡ true → nat_lt n m ≡ false
not_both m n h = by_test (nat_lt n m) refl
  where
    by_test : (c : Bool) → nat_lt n m ≡ c → c ≡ false
    by_test true k = absurd (omega (arith, ltb-true m n h, ltb-true n m k))
    by_test false k = refl

-- A term with its lesser segment first.

turned_twice : (t : Term) → turned (turned t) ≡ turned t
turned_twice (Side seg first second w) = refl
turned_twice (Link seg other flip a b w) = by_test (nat_lt other.0 seg.0) refl
  where
    by_test : (c : Bool) → nat_lt other.0 seg.0 ≡ c → turned (if c then Link other seg flip a b w else Link seg other flip a b w) ≡ (if c then Link other seg flip a b w else Link seg other flip a b w)
    by_test true h = ap (λ (d : Bool). if d then Link seg other flip a b w else Link other seg flip a b w) (not_both other.0 seg.0 h)
    by_test false h = ap (λ (d : Bool). if d then Link other seg flip a b w else Link seg other flip a b w) h
turned_twice (Apart seg other a b w) = by_test (nat_lt other.0 seg.0) refl
  where
    by_test : (c : Bool) → nat_lt other.0 seg.0 ≡ c → turned (if c then Apart other seg a b w else Apart seg other a b w) ≡ (if c then Apart other seg a b w else Apart seg other a b w)
    by_test true h = ap (λ (d : Bool). if d then Apart seg other a b w else Apart other seg a b w) (not_both other.0 seg.0 h)
    by_test false h = ap (λ (d : Bool). if d then Apart other seg a b w else Apart seg other a b w) h

turned_on : (s : SegId) (t : Term) → is_on s (turned t) ≡ is_on s t
turned_on s (Side seg first second w) = refl
turned_on s (Link seg other flip a b w) = by_test (nat_lt other.0 seg.0)
  where
    by_test : (c : Bool) → is_on s (if c then Link other seg flip a b w else Link seg other flip a b w) ≡ is_on s (Link seg other flip a b w)
    by_test true = or_turned (other.0 == s.0) (seg.0 == s.0)
    by_test false = refl
turned_on s (Apart seg other a b w) = by_test (nat_lt other.0 seg.0)
  where
    by_test : (c : Bool) → is_on s (if c then Apart other seg a b w else Apart seg other a b w) ≡ is_on s (Apart seg other a b w)
    by_test true = or_turned (other.0 == s.0) (seg.0 == s.0)
    by_test false = refl

-- the ends of a term are among so many
abbrev IsKnown : ℕ → Term → Type 0
IsKnown n t = ((seg_of t).0 < n) × ((other_of t).0 < n)

turned_known : (n : ℕ) (t : Term) → IsKnown n t → IsKnown n (turned t)
turned_known n (Side seg first second w) h = h
turned_known n (Link seg other flip a b w) h = by_test (nat_lt other.0 seg.0)
  where
    by_test : (c : Bool) → IsKnown n (if c then Link other seg flip a b w else Link seg other flip a b w)
    by_test true = (h.1, h.0)
    by_test false = h
turned_known n (Apart seg other a b w) h = by_test (nat_lt other.0 seg.0)
  where
    by_test : (c : Bool) → IsKnown n (if c then Apart other seg a b w else Apart seg other a b w)
    by_test true = (h.1, h.0)
    by_test false = h

turned_fit : (n : ℕ) (t : Term) → IsKnown n t → IsFit n (turned t)
turned_fit n t h = let k = turned_known n t h in record { lesser_first = turned_twice t; seg_known = k.0; other_known = k.1 }

-- One segment's number in place of another's.

renamed_known : (n : ℕ) (e f x : SegId) → e.0 < n → x.0 < n → (renamed e f x).0 < n
renamed_known n e f x h k = by_test (x.0 == f.0)
  where
    by_test : (c : Bool) → (if c then e else x).0 < n
    by_test true = h
    by_test false = k

renamed_off : (e f x : SegId) → (e.0 == f.0) ≡ false → ((renamed e f x).0 == f.0) ≡ false
renamed_off e f x h = by_test (x.0 == f.0) refl
  where
    by_test : (c : Bool) → (x.0 == f.0) ≡ c → ((if c then e else x).0 == f.0) ≡ false
    by_test true k = h
    by_test false k = k

renamed_here : (e f x : SegId) → (x.0 == f.0) ≡ true → ((renamed e f x).0 == e.0) ≡ true
renamed_here e f x h = ap (λ (c : Bool). (if c then e else x).0 == e.0) h ∙ eq-eqb e.0 e.0 refl

-- A merge of f into e.

module _ (e f : SegId) (flip : Bool) where
  -- a term that does not stand on f stays
  pub moved_far : (n : ℕ) (t : Term) → IsFit n t → is_on f t ≡ false → moved e f flip t ≡ t
  moved_far n (Side seg first second w) fit h =
      ap (λ (c : Bool). if c && flip then Side e second first w else Side (if c then e else seg) first second w) (neither (seg.0 == f.0) (seg.0 == f.0) h).0
  moved_far n (Link seg other turns a b w) fit h =
      let parts = neither (seg.0 == f.0) (other.0 == f.0) h in
      ap (λ (c : Bool). turned (Link (if c then e else seg) (renamed e f other) (if (c || other.0 == f.0) && flip then not turns else turns) a b w)) parts.0
      ∙ (ap (λ (c : Bool). turned (Link seg (if c then e else other) (if c && flip then not turns else turns) a b w)) parts.1 ∙ fit.lesser_first)
  moved_far n (Apart seg other a b w) fit h =
      let parts = neither (seg.0 == f.0) (other.0 == f.0) h in
      ap (λ (c : Bool). turned (Apart (if c then e else seg) (renamed e f other) a b w)) parts.0
      ∙ (ap (λ (c : Bool). turned (Apart seg (if c then e else other) a b w)) parts.1 ∙ fit.lesser_first)

  -- a term of f comes to stand on e
  pub moved_on : (t : Term) → is_on f t ≡ true → is_on e (moved e f flip t) ≡ true
  moved_on (Side seg first second w) h = by_test ((seg.0 == f.0) && flip)
    where
      here : (seg.0 == f.0) ≡ true
      here = elim (either_true (seg.0 == f.0) (seg.0 == f.0) h) [ inl k ↦ k | inr k ↦ k ]

      by_test : (c : Bool) → is_on e (if c then Side e second first w else Side (renamed e f seg) first second w) ≡ true
      by_test true = or_left (e.0 == e.0) (e.0 == e.0) (eq-eqb e.0 e.0 refl)
      by_test false = or_left ((renamed e f seg).0 == e.0) ((renamed e f seg).0 == e.0) (renamed_here e f seg here)
  moved_on (Link seg other turns a b w) h =
      turned_on e (Link (renamed e f seg) (renamed e f other) (if (seg.0 == f.0 || other.0 == f.0) && flip then not turns else turns) a b w)
      ∙ elim (either_true (seg.0 == f.0) (other.0 == f.0) h) [
        | inl k ↦ or_left ((renamed e f seg).0 == e.0) ((renamed e f other).0 == e.0) (renamed_here e f seg k)
        | inr k ↦ or_later ((renamed e f seg).0 == e.0) ((renamed e f other).0 == e.0) (renamed_here e f other k)
      ]
  moved_on (Apart seg other a b w) h =
      turned_on e (Apart (renamed e f seg) (renamed e f other) a b w)
      ∙ elim (either_true (seg.0 == f.0) (other.0 == f.0) h) [
        | inl k ↦ or_left ((renamed e f seg).0 == e.0) ((renamed e f other).0 == e.0) (renamed_here e f seg k)
        | inr k ↦ or_later ((renamed e f seg).0 == e.0) ((renamed e f other).0 == e.0) (renamed_here e f other k)
      ]

  -- no term stands on f
  pub moved_off : (e.0 == f.0) ≡ false → (t : Term) → is_on f (moved e f flip t) ≡ false
  moved_off off (Side seg first second w) = by_test ((seg.0 == f.0) && flip)
    where
      by_test : (c : Bool) → is_on f (if c then Side e second first w else Side (renamed e f seg) first second w) ≡ false
      by_test true = both_off (e.0 == f.0) (e.0 == f.0) off off
      by_test false = both_off ((renamed e f seg).0 == f.0) ((renamed e f seg).0 == f.0) (renamed_off e f seg off) (renamed_off e f seg off)
  moved_off off (Link seg other turns a b w) =
      turned_on f (Link (renamed e f seg) (renamed e f other) (if (seg.0 == f.0 || other.0 == f.0) && flip then not turns else turns) a b w)
      ∙ both_off ((renamed e f seg).0 == f.0) ((renamed e f other).0 == f.0) (renamed_off e f seg off) (renamed_off e f other off)
  moved_off off (Apart seg other a b w) =
      turned_on f (Apart (renamed e f seg) (renamed e f other) a b w)
      ∙ both_off ((renamed e f seg).0 == f.0) ((renamed e f other).0 == f.0) (renamed_off e f seg off) (renamed_off e f other off)

  pub moved_fit : (n : ℕ) (t : Term) → e.0 < n → IsFit n t → IsFit n (moved e f flip t)
  moved_fit n (Side seg first second w) h fit = by_test ((seg.0 == f.0) && flip)
    where
      known : (renamed e f seg).0 < n
      known = renamed_known n e f seg h fit.seg_known

      by_test : (c : Bool) → IsFit n (if c then Side e second first w else Side (renamed e f seg) first second w)
      by_test true = record { lesser_first = refl; seg_known = h; other_known = h }
      by_test false = record { lesser_first = refl; seg_known = known; other_known = known }
  moved_fit n (Link seg other turns a b w) h fit =
      turned_fit n (Link (renamed e f seg) (renamed e f other) (if (seg.0 == f.0 || other.0 == f.0) && flip then not turns else turns) a b w)
      (renamed_known n e f seg h fit.seg_known, renamed_known n e f other h fit.other_known)
  moved_fit n (Apart seg other a b w) h fit =
      turned_fit n (Apart (renamed e f seg) (renamed e f other) a b w)
      (renamed_known n e f seg h fit.seg_known, renamed_known n e f other h fit.other_known)

ends_both : (a b c d : Bool) → (a || b) ≡ true → (c || d) ≡ true → (a ≡ true → c ≡ true → ⊥) → (b ≡ true → d ≡ true → ⊥) → ((a && d) || (c && b)) ≡ true
ends_both true b true d h k x y = absurd (x refl refl)
ends_both true b false true h k x y = refl
ends_both true b false false h k x y = absurd (true≢false (sym k))
ends_both false true true d h k x y = refl
ends_both false true false true h k x y = absurd (y refl refl)
ends_both false true false false h k x y = absurd (true≢false (sym k))
ends_both false false c d h k x y = absurd (true≢false (sym h))

apart_ends : (e f x : SegId) → (e.0 == f.0) ≡ false → (x.0 == e.0) ≡ true → (x.0 == f.0) ≡ true → ⊥
apart_ends e f x off h k = eqb-false e.0 f.0 off (sym (eqb-true x.0 e.0 h) ∙ eqb-true x.0 f.0 k)

-- a term on both segments lies between the two
pub between_both : (e f : SegId) → (e.0 == f.0) ≡ false → (t : Term) → is_on e t ≡ true → is_on f t ≡ true → is_between t e.0 f.0 ≡ true
between_both e f off (Side seg first second w) h k =
    let at_e : (seg.0 == e.0) ≡ true = elim (either_true (seg.0 == e.0) (seg.0 == e.0) h) [ inl m ↦ m | inr m ↦ m ] in
    let at_f : (seg.0 == f.0) ≡ true = elim (either_true (seg.0 == f.0) (seg.0 == f.0) k) [ inl m ↦ m | inr m ↦ m ] in
    absurd (apart_ends e f seg off at_e at_f)
between_both e f off (Link seg other flip a b w) h k =
    ends_both (seg.0 == e.0) (other.0 == e.0) (seg.0 == f.0) (other.0 == f.0) h k (apart_ends e f seg off) (apart_ends e f other off)
between_both e f off (Apart seg other a b w) h k =
    ends_both (seg.0 == e.0) (other.0 == e.0) (seg.0 == f.0) (other.0 == f.0) h k (apart_ends e f seg off) (apart_ends e f other off)

no_ends : (a b c d : Bool) → c ≡ false → d ≡ false → ((a && d) || (c && b)) ≡ false
no_ends a b c d h k = ap (λ (x : Bool). (a && d) || (x && b)) h ∙ (ap (λ (x : Bool). (a && x) || false) k ∙ both_off (a && false) false (and_none a) refl)

-- what lies between two segments stands on each of them
pub between_off : (e f : SegId) (t : Term) → is_on f t ≡ false → is_between t e.0 f.0 ≡ false
between_off e f (Side seg first second w) h = refl
between_off e f (Link seg other flip a b w) h =
    let parts = neither (seg.0 == f.0) (other.0 == f.0) h in
    no_ends (seg.0 == e.0) (other.0 == e.0) (seg.0 == f.0) (other.0 == f.0) parts.0 parts.1
between_off e f (Apart seg other a b w) h =
    let parts = neither (seg.0 == f.0) (other.0 == f.0) h in
    no_ends (seg.0 == e.0) (other.0 == e.0) (seg.0 == f.0) (other.0 == f.0) parts.0 parts.1

-- A division of e, whose rest goes to a new segment.

pub renumbered_off : (e new : SegId) → (new.0 == e.0) ≡ false → (t : Term) → is_on e (renumbered e new t) ≡ false
renumbered_off e new off (Side seg first second w) =
    both_off ((renamed new e seg).0 == e.0) ((renamed new e seg).0 == e.0) (renamed_off new e seg off) (renamed_off new e seg off)
renumbered_off e new off (Link seg other flip a b w) =
    turned_on e (Link (renamed new e seg) (renamed new e other) flip a b w)
    ∙ both_off ((renamed new e seg).0 == e.0) ((renamed new e other).0 == e.0) (renamed_off new e seg off) (renamed_off new e other off)
renumbered_off e new off (Apart seg other a b w) =
    turned_on e (Apart (renamed new e seg) (renamed new e other) a b w)
    ∙ both_off ((renamed new e seg).0 == e.0) ((renamed new e other).0 == e.0) (renamed_off new e seg off) (renamed_off new e other off)

pub renumbered_fit : (n : ℕ) (e new : SegId) → new.0 < n → (t : Term) → IsKnown n t → IsFit n (renumbered e new t)
renumbered_fit n e new h (Side seg first second w) known =
    record { lesser_first = refl; seg_known = renamed_known n new e seg h known.0; other_known = renamed_known n new e seg h known.1 }
renumbered_fit n e new h (Link seg other flip a b w) known =
    turned_fit n (Link (renamed new e seg) (renamed new e other) flip a b w) (renamed_known n new e seg h known.0, renamed_known n new e other h known.1)
renumbered_fit n e new h (Apart seg other a b w) known =
    turned_fit n (Apart (renamed new e seg) (renamed new e other) a b w) (renamed_known n new e seg h known.0, renamed_known n new e other h known.1)

-- a fit term does not stand on a segment past the last
pub past_off : (n : ℕ) (s : SegId) → n ≤ s.0 → (t : Term) → IsFit n t → is_on s t ≡ false
past_off n s h t fit =
    both_off ((seg_of t).0 == s.0) ((other_of t).0 == s.0)
    (differ_test (seg_of t).0 s.0 (λ e. omega (arith, e, h, fit.seg_known))) (differ_test (other_of t).0 s.0 (λ e. omega (arith, e, h, fit.other_known)))
