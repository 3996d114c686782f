-- What a term adds to slots is its share there.
use Rattle.std.proofs.Common.{◌≡◌, ◌≢◌, ℕ, zero, suc, ◌<◌, ◌==◌, ◌&&◌, ◌||◌, not, Bool, true, false, cond, List, [], ◌∷◌, length, get_or, refl, sym, ◌∙◌, ap, arith, true≢false, eqb-true, Some, None}
use Rattle.std.specs.Prelude.{ℤ, pos, ◌+ℤ◌, ◌-ℤ◌, nat_lt}
use Rattle.std.proofs.lemmas.Bool.{and_parts, eqb-false}
use Rattle.std.proofs.lemmas.Bool.Decides.{nat_tests}
use Rattle.std.proofs.lemmas.Int.{ints}
use Rattle.std.proofs.lemmas.List.{get_or_default}
use Rattle.map_base.specs.declared.ids.SegId.{SegId}
use Rattle.map_base.specs.declared.ids.LineId.{LineId}
use Rattle.order_model.specs.declared.term.Term.{Term}
use Rattle.order_model.specs.declared.term.Term.TheVariants.{Side, Link, Apart}
use Rattle.order_model.specs.Problems.{lines_on, IsTerm}
use Rattle.order_model.specs.Costs.{same_answer, comes_before}
use Rattle.order_model.specs.Looks.{is_decided}
use Rattle.order_bound.specs.declared.pairs.Pair.{Pair}
use Rattle.order_bound.specs.declared.pairs.OpenLink.{OpenLink}
use Rattle.order_bound.specs.Pairs.{pair_of, is_pair}
use Rattle.order_bound.specs.Values.{share}
use Rattle.order_values.specs.PriceLists.{price_at}
use Rattle.whole_sums.specs.Sums.{int_sum}
use Rattle.order_bound.proofs.Completing.{same_pair}
use Rattle.order_check.specs.declared.slot.Slot.{Slot}
use Rattle.order_check.specs.declared.slot.Charges.{Charges}
use Rattle.order_check.specs.Slots.{slot_of, pair_at, is_slot, has_slot, AreApartSlots, StandsAt, HasEnds, slot_share, charge_on}
use Rattle.order_check.specs.Charges.{no_charge, decided_charges, one_charge, link_charges, charges_by}
use Rattle.order_check.proofs.SlotSums.{same_slot, slot_itself}
use Rattle.order_check.proofs.SlotValues.{slot_tests}

-- Slots stand at one place each.

has_at : (slots : List Slot) (i : ℕ) (d : Slot) → i < length slots → has_slot slots (get_or slots i d) ≡ true
has_at [] i d below = absurd (omega (arith, below))
has_at (k ∷ slots) zero d below = rw (slot_itself k) refl
has_at (k ∷ slots) (suc i) d below = or_second (is_slot (get_or slots i d) k) (has_slot slots (get_or slots i d)) (has_at slots i d (omega (arith, below)))
  where
    or_second : (a b : Bool) → b ≡ true → (a || b) ≡ true
    or_second true b h = refl
    or_second false b h = h

one_place : (slots : List Slot) (i j : ℕ) (d : Slot) → AreApartSlots slots → i < length slots → j < length slots → get_or slots i d ≡ get_or slots j d → i ≡ j
one_place [] i j d apart p q e = absurd (omega (arith, p))
one_place (k ∷ slots) zero zero d apart p q e = refl
one_place (k ∷ slots) zero (suc j) d apart p q e = absurd (true≢false (sym (ap (has_slot slots) e ∙ has_at slots j d (omega (arith, q))) ∙ apart.0))
one_place (k ∷ slots) (suc i) zero d apart p q e = absurd (true≢false (sym (ap (has_slot slots) (sym e) ∙ has_at slots i d (omega (arith, p))) ∙ apart.0))
one_place (k ∷ slots) (suc i) (suc j) d apart p q e = ap suc (one_place slots i j d apart.1 (omega (arith, p)) (omega (arith, q)) e)

-- the place of a slot is this one exactly if the slot here is that slot
pub place_tests : (slots : List Slot) (i k : ℕ) (d : Slot) (s : SegId) (a b : LineId) → AreApartSlots slots → StandsAt slots i (slot_of s a b) → k < length slots
    → (i == k) ≡ (is_pair (pair_at (get_or slots k d)) (pair_of a b) && s.0 == (get_or slots k d).seg.0)
place_tests slots i k d s a b apart at below = by_test (i == k) refl ∙ slot_tests (get_or slots k d) s a b
  where
    here : get_or slots i d ≡ slot_of s a b
    here = get_or_default slots i d (slot_of s a b) at.within ∙ at.here

    by_test : (t : Bool) → (i == k) ≡ t → t ≡ is_slot (get_or slots k d) (slot_of s a b)
    by_test true e = sym (ap (λ j. is_slot (get_or slots j d) (slot_of s a b)) (sym (eqb-true i k e)) ∙ ap (λ l. is_slot l (slot_of s a b)) here ∙ slot_itself (slot_of s a b))
    by_test false e = by_slot (is_slot (get_or slots k d) (slot_of s a b)) refl
      where
        by_slot : (t : Bool) → is_slot (get_or slots k d) (slot_of s a b) ≡ t → false ≡ t
        by_slot false f = refl
        by_slot true f = absurd (eqb-false i k e (one_place slots i k d apart at.within below (here ∙ sym (same_slot (get_or slots k d) (slot_of s a b) f))))

-- Tests.

pub nothing_charged : (k : ℕ) (x : Bool) → charge_on no_charge k x ≡ pos 0
nothing_charged k x = either_way ((0 == k) && same_answer true x)
  where
    either_way : (b : Bool) → cond b (pos 0) (pos 0) ≡ pos 0
    either_way true = refl
    either_way false = refl

side_adds : (t g f x : Bool) (w : ℕ) (none : ℤ) → none ≡ pos 0 → (t ≡ true → f ≡ not g)
    → (cond (t && same_answer g x) (pos w) (pos 0) +ℤ none) ≡ (pos (cond (t && true) (cond (same_answer f x) 0 w) 0) +ℤ pos 0)
side_adds false g f x w none e h = rw e refl
side_adds true true f true w none e h = rw (h refl, e) refl
side_adds true true f false w none e h = rw (h refl, e) refl
side_adds true false f true w none e h = rw (h refl, e) refl
side_adds true false f false w none e h = rw (h refl, e) refl

decided_adds : (t : Bool) (v : ℕ) (none none_too : ℤ) → none ≡ pos 0 → none_too ≡ pos 0 → (none +ℤ none_too) ≡ (pos (cond (t && false) v 0) +ℤ pos 0)
decided_adds true v none none_too e f = rw (e, f) refl
decided_adds false v none none_too e f = rw (e, f) refl

-- what a Link adds, by its tests: a whether the pair is the slot's, b and c whether its segment and its other are
abbrev link_open : Bool → Bool → Bool → Bool → Bool → ℕ → ℕ → ℕ
link_open a b c d e v u = cond (((a && b) && not d) && e) v (cond (((a && c) && d) && not e) u 0)

both_told : (a b c : Bool) (v u : ℕ) (f : OpenLink → ℤ) (l : OpenLink) (none none_too : ℤ) → none ≡ pos 0 → none_too ≡ pos 0
    → (none +ℤ none_too) ≡ (pos (link_open a b c true true v u) +ℤ int_sum f (cond (a && not (true || true)) (l ∷ []) []))
both_told true true true v u f l none none_too e g = rw (e, g) refl
both_told true true false v u f l none none_too e g = rw (e, g) refl
both_told true false true v u f l none none_too e g = rw (e, g) refl
both_told true false false v u f l none none_too e g = rw (e, g) refl
both_told false true true v u f l none none_too e g = rw (e, g) refl
both_told false true false v u f l none none_too e g = rw (e, g) refl
both_told false false true v u f l none none_too e g = rw (e, g) refl
both_told false false false v u f l none none_too e g = rw (e, g) refl

-- one end is told, so the Link counts on the other
here_told : (a b c flip first x : Bool) (v w : ℕ) (f : OpenLink → ℤ) (l : OpenLink) (none : ℤ) → none ≡ pos 0
    → (cond ((a && c) && same_answer (same_answer flip first) x) (pos w) (pos 0) +ℤ none)
    ≡ (pos (link_open a b c true false v (cond (same_answer flip (same_answer first x)) w 0)) +ℤ int_sum f (cond (a && not (true || false)) (l ∷ []) []))
here_told false b c flip first x v w f l none e = rw e refl
here_told true b false flip first x v w f l none e = by_b b
  where
    by_b : (b : Bool) → (pos 0 +ℤ none) ≡ (pos (link_open true b false true false v (cond (same_answer flip (same_answer first x)) w 0)) +ℤ pos 0)
    by_b true = rw e refl
    by_b false = rw e refl
here_told true b true flip first x v w f l none e = by_tests b flip first x
  where
    by_tests : (b flip first x : Bool) → (cond (same_answer (same_answer flip first) x) (pos w) (pos 0) +ℤ none)
        ≡ (pos (link_open true b true true false v (cond (same_answer flip (same_answer first x)) w 0)) +ℤ pos 0)
    by_tests true true true true = rw e refl
    by_tests true true true false = rw e refl
    by_tests true true false true = rw e refl
    by_tests true true false false = rw e refl
    by_tests true false true true = rw e refl
    by_tests true false true false = rw e refl
    by_tests true false false true = rw e refl
    by_tests true false false false = rw e refl
    by_tests false true true true = rw e refl
    by_tests false true true false = rw e refl
    by_tests false true false true = rw e refl
    by_tests false true false false = rw e refl
    by_tests false false true true = rw e refl
    by_tests false false true false = rw e refl
    by_tests false false false true = rw e refl
    by_tests false false false false = rw e refl

there_told : (a b c flip first x : Bool) (u w : ℕ) (f : OpenLink → ℤ) (l : OpenLink) (none : ℤ) → none ≡ pos 0
    → (cond ((a && b) && same_answer (same_answer flip first) x) (pos w) (pos 0) +ℤ none)
    ≡ (pos (link_open a b c false true (cond (same_answer flip (same_answer x first)) w 0) u) +ℤ int_sum f (cond (a && not (false || true)) (l ∷ []) []))
there_told false b c flip first x u w f l none e = rw e refl
there_told true false c flip first x u w f l none e = by_c c
  where
    by_c : (c : Bool) → (pos 0 +ℤ none) ≡ (pos (link_open true false c false true (cond (same_answer flip (same_answer x first)) w 0) u) +ℤ pos 0)
    by_c true = rw e refl
    by_c false = rw e refl
there_told true true c flip first x u w f l none e = by_tests flip first x
  where
    by_tests : (flip first x : Bool) → (cond (same_answer (same_answer flip first) x) (pos w) (pos 0) +ℤ none) ≡ (pos (cond (same_answer flip (same_answer x first)) w 0) +ℤ pos 0)
    by_tests true true true = rw e refl
    by_tests true true false = rw e refl
    by_tests true false true = rw e refl
    by_tests true false false = rw e refl
    by_tests false true true = rw e refl
    by_tests false true false = rw e refl
    by_tests false false true = rw e refl
    by_tests false false false = rw e refl

none_told : (a b c flip x : Bool) (v u : ℕ) (y : ℤ) (f : OpenLink → ℤ) (l : OpenLink)
    → f l ≡ (cond b (cond (not x) (pos 0 -ℤ y) (pos 0)) (pos 0) +ℤ cond c (cond (same_answer flip x) y (pos 0)) (pos 0))
    → (cond ((a && b) && same_answer false x) (pos 0 -ℤ y) (pos 0) +ℤ cond ((a && c) && same_answer flip x) y (pos 0))
    ≡ (pos (link_open a b c false false v u) +ℤ int_sum f (cond (a && not (false || false)) (l ∷ []) []))
none_told false b c flip x v u y f l is = refl
none_told true b c flip x v u y f l is = by_tests b c x (same_answer flip x) is
  where
    last : (m : ℕ) (s t v : ℤ) → m ≡ 0 → v ≡ (s +ℤ t) → (s +ℤ t) ≡ (pos m +ℤ (v +ℤ pos 0))
    last m s t v e h = omega (arith, ints)

    by_tests : (b c x z : Bool) → f l ≡ (cond b (cond (not x) (pos 0 -ℤ y) (pos 0)) (pos 0) +ℤ cond c (cond z y (pos 0)) (pos 0))
        → (cond (b && not x) (pos 0 -ℤ y) (pos 0) +ℤ cond (c && z) y (pos 0)) ≡ (pos (link_open true b c false false v u) +ℤ (f l +ℤ pos 0))
    by_tests true true x z is = last 0 (cond (not x) (pos 0 -ℤ y) (pos 0)) (cond z y (pos 0)) (f l) refl is
    by_tests true false x z is = last 0 (cond (not x) (pos 0 -ℤ y) (pos 0)) (pos 0) (f l) refl is
    by_tests false true x z is = last 0 (pos 0) (cond z y (pos 0)) (f l) refl is
    by_tests false false x z is = last 0 (pos 0) (pos 0) (f l) refl is

-- which of a Side's lines is the lesser
side_lesser : (first second : LineId) → first.0 ≢ second.0 → (first.0 == (pair_of first second).lesser.0) ≡ not (nat_lt second.0 first.0)
side_lesser first second ne = by_test (nat_lt first.0 second.0) refl
  where
    by_test : (t : Bool) → nat_lt first.0 second.0 ≡ t
        → (first.0 == (let p : Pair = cond t (record { lesser = first; greater = second }) (record { lesser = second; greater = first }) in p).lesser.0) ≡ not (nat_lt second.0 first.0)
    by_test true e = grind (arith, nat_tests)
    by_test false e = grind (arith, nat_tests)

-- The shares.

module _ (segs placed : List (List LineId)) (prices : List (ℕ × ℤ)) (slots : List Slot) (apart : AreApartSlots slots) (k : ℕ) (d : Slot) (below : k < length slots) (x : Bool) where
  abbrev slot : Slot
  slot = get_or slots k d

  abbrev added : Term → ℕ → ℕ → ℤ → ℤ
  added t here there y = charge_on (charges_by segs placed t here there y).here k x +ℤ charge_on (charges_by segs placed t here there y).there k x

  side_share : (n : ℕ) (seg : SegId) (first second : LineId) (w here there : ℕ) (y : ℤ) → first.0 ≢ second.0 → StandsAt slots here (slot_of seg first second)
      → added (Side seg first second w) here there y ≡ slot_share placed prices slot x (n, Side seg first second w)
  side_share n seg first second w here there y ne at = by_test (is_decided placed seg first second)
    where
      test : (here == k) ≡ (is_pair (pair_at slot) (pair_of first second) && seg.0 == slot.seg.0)
      test = place_tests slots here k d seg first second apart at below

      same : (is_pair (pair_at slot) (pair_of first second) && seg.0 == slot.seg.0) ≡ true → (first.0 == slot.lesser.0) ≡ not (nat_lt second.0 first.0)
      same e =
          let pair : pair_at slot ≡ pair_of first second = same_pair (pair_at slot) (pair_of first second) (and_parts (is_pair (pair_at slot) (pair_of first second)) (seg.0 == slot.seg.0) e).0 in
          ap (λ (p : Pair). first.0 == p.lesser.0) pair ∙ side_lesser first second ne

      by_test : (t : Bool)
          → (charge_on (let c : Charges = cond t (decided_charges (cond (comes_before (lines_on placed seg) second first) w 0)) (one_charge here (nat_lt second.0 first.0) (pos w)) in c).here k x
          +ℤ charge_on (let c : Charges = cond t (decided_charges (cond (comes_before (lines_on placed seg) second first) w 0)) (one_charge here (nat_lt second.0 first.0) (pos w)) in c).there k x)
          ≡ (pos (cond ((is_pair (pair_at slot) (pair_of first second) && seg.0 == slot.seg.0) && not t) (cond (same_answer (first.0 == slot.lesser.0) x) 0 w) 0) +ℤ pos 0)
      by_test true = decided_adds (is_pair (pair_at slot) (pair_of first second) && seg.0 == slot.seg.0) (cond (same_answer (first.0 == slot.lesser.0) x) 0 w)
          (charge_on no_charge k x) (charge_on no_charge k x) (nothing_charged k x) (nothing_charged k x)
      by_test false = ap (λ b. cond (b && same_answer (nat_lt second.0 first.0) x) (pos w) (pos 0) +ℤ charge_on no_charge k x) test
          ∙ side_adds (is_pair (pair_at slot) (pair_of first second) && seg.0 == slot.seg.0) (nat_lt second.0 first.0) (first.0 == slot.lesser.0) x w (charge_on no_charge k x) (nothing_charged k x) same

  link_share : (n : ℕ) (seg other : SegId) (flip : Bool) (a b : LineId) (w here there : ℕ) → StandsAt slots here (slot_of seg a b) → StandsAt slots there (slot_of other a b)
      → added (Link seg other flip a b w) here there (price_at prices n) ≡ slot_share placed prices slot x (n, Link seg other flip a b w)
  link_share n seg other flip a b w here there at at_too = by_tests (is_decided placed seg a b) (is_decided placed other a b)
    where
      test : (here == k) ≡ (is_pair (pair_at slot) (pair_of a b) && seg.0 == slot.seg.0)
      test = place_tests slots here k d seg a b apart at below

      test_too : (there == k) ≡ (is_pair (pair_at slot) (pair_of a b) && other.0 == slot.seg.0)
      test_too = place_tests slots there k d other a b apart at_too below

      first : Bool
      first = comes_before (lines_on placed seg) a b

      first_too : Bool
      first_too = comes_before (lines_on placed other) a b

      told : Bool → Bool → Charges
      told t u = link_charges here there (cond t (Some first) None) (cond u (Some first_too) None) flip w (price_at prices n)

      l : OpenLink
      l = record { number = n; seg = seg; other = other; flip = flip; weight = w }

      f : OpenLink → ℤ
      f m = share (price_at prices m.number) m slot.seg x

      by_tests : (t u : Bool) → (charge_on (told t u).here k x +ℤ charge_on (told t u).there k x)
          ≡ (pos (link_open (is_pair (pair_at slot) (pair_of a b)) (seg.0 == slot.seg.0) (other.0 == slot.seg.0) t u
          (cond (same_answer flip (same_answer x first_too)) w 0) (cond (same_answer flip (same_answer first x)) w 0))
          +ℤ int_sum f (cond (is_pair (pair_at slot) (pair_of a b) && not (t || u)) (l ∷ []) []))
      by_tests true true = both_told (is_pair (pair_at slot) (pair_of a b)) (seg.0 == slot.seg.0) (other.0 == slot.seg.0) _ _ f l (charge_on no_charge k x) (charge_on no_charge k x)
          (nothing_charged k x) (nothing_charged k x)
      by_tests true false = ap (λ c. cond (c && same_answer (same_answer flip first) x) (pos w) (pos 0) +ℤ charge_on no_charge k x) test_too
          ∙ here_told (is_pair (pair_at slot) (pair_of a b)) (seg.0 == slot.seg.0) (other.0 == slot.seg.0) flip first x _ w f l (charge_on no_charge k x) (nothing_charged k x)
      by_tests false true = ap (λ c. cond (c && same_answer (same_answer flip first_too) x) (pos w) (pos 0) +ℤ charge_on no_charge k x) test
          ∙ there_told (is_pair (pair_at slot) (pair_of a b)) (seg.0 == slot.seg.0) (other.0 == slot.seg.0) flip first_too x _ w f l (charge_on no_charge k x) (nothing_charged k x)
      by_tests false false = ap (λ c. cond (c && same_answer false x) (pos 0 -ℤ price_at prices n) (pos 0) +ℤ cond ((there == k) && same_answer flip x) (price_at prices n) (pos 0)) test
          ∙ ap (λ c. cond ((is_pair (pair_at slot) (pair_of a b) && seg.0 == slot.seg.0) && same_answer false x) (pos 0 -ℤ price_at prices n) (pos 0) +ℤ cond (c && same_answer flip x) (price_at prices n) (pos 0)) test_too
          ∙ none_told (is_pair (pair_at slot) (pair_of a b)) (seg.0 == slot.seg.0) (other.0 == slot.seg.0) flip x _ _ (price_at prices n) f l refl

  -- what a term adds to a slot
  pub adds_share : (n : ℕ) (t : Term) (here there : ℕ) → IsTerm segs t → HasEnds slots t here there
      → added t here there (price_at prices n) ≡ slot_share placed prices slot x (n, t)
  adds_share n (Side seg first second w) here there fits at = side_share n seg first second w here there (price_at prices n) fits.differ at
  adds_share n (Link seg other flip a b w) here there fits at = link_share n seg other flip a b w here there at.0 at.1
  adds_share n (Apart seg other a b w) here there fits at = rw (nothing_charged k x) refl
