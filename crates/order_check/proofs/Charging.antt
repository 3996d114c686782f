-- What the terms of a part add to a slot, one by one.
use Rattle.std.proofs.Common.{◌≡◌, ℕ, zero, suc, ◌+◌, ◌*◌, ◌<◌, ◌≤◌, ◌==◌, ◌&&◌, Bool, true, false, cond, List, [], ◌∷◌, ◌++◌, length, map, take, get_or, refl, sym, ◌∙◌, ap, arith, Option, Some, None}
use Rattle.std.specs.Prelude.{ℤ, pos, ◌+ℤ◌, ◌-ℤ◌, unsigned_abs, nat_lt}
use Rattle.std.specs.List.{All}
use Rattle.std.proofs.lemmas.Int.{ints}
use Rattle.std.proofs.lemmas.List.{take_more, map_push}
use Rattle.map_base.specs.declared.ids.LineId.{LineId}
use Rattle.order_model.specs.declared.term.Term.{Term}
use Rattle.order_model.specs.declared.term.Term.TheVariants.{Side, Link, Apart}
use Rattle.order_model.specs.Problems.{lines_on, IsTerm}
use Rattle.order_model.specs.Costs.{same_answer, comes_before}
use Rattle.order_model.specs.Looks.{is_decided, neighbours_on}
use Rattle.order_bound.specs.Decided.{apart_cost, decided_cost}
use Rattle.order_values.specs.PriceLists.{price_at}
use Rattle.whole_sums.specs.Sums.{int_sum}
use Rattle.whole_sums.proofs.Sums.{int_sum-append}
use Rattle.order_check.specs.declared.slot.Slot.{Slot}
use Rattle.order_check.specs.declared.slot.PartTerm.{PartTerm}
use Rattle.order_check.specs.declared.slot.Charge.{Charge}
use Rattle.order_check.specs.declared.slot.Charges.{Charges}
use Rattle.order_check.specs.Slots.{plain_term, AreApartSlots, HasEnds, slot_share, slot_total, charge_on}
use Rattle.order_check.specs.Charges.{no_charge, decided_charges, one_charge, looked, link_charges, charges_by}
use Rattle.order_check.specs.Charging.{no_part_term, added_at, charged, AreTerms}
use Rattle.order_check.proofs.ChargeLemmas.{nothing_charged, adds_share}
use Rattle.order_check.proofs.SignedSums.{abs_sum}

-- How much is added.

-- small additions, whatever they are: none is above the greatest weight, nor are both together at one place
pub record AreSmallCharges (c : Charges) : Type 0 where
  pub decided : c.decided ≤ 256000
  pub here : unsigned_abs c.here.amount ≤ 256000
  pub there : unsigned_abs c.there.amount ≤ 256000
  pub both : (k : ℕ) (x : Bool) → unsigned_abs (charge_on c.here k x +ℤ charge_on c.there k x) ≤ 256000

small_nothing : (v w : ℤ) → v ≡ pos 0 → w ≡ pos 0 → unsigned_abs (v +ℤ w) ≤ 256000
small_nothing v w p q = omega (arith, ints, p, q)

small_one : (b : Bool) (n : ℕ) (w : ℤ) → n ≤ 256000 → w ≡ pos 0 → unsigned_abs (cond b (pos n) (pos 0) +ℤ w) ≤ 256000
small_one true n w p q = omega (arith, ints, p, q)
small_one false n w p q = omega (arith, ints, q)

small_two : (b c : Bool) (y : ℤ) → unsigned_abs y ≤ 256000 → unsigned_abs (cond b (pos 0 -ℤ y) (pos 0) +ℤ cond c y (pos 0)) ≤ 256000
small_two true true y h = omega (arith, ints, h)
small_two true false y h = omega (arith, ints, h)
small_two false true y h = omega (arith, ints, h)
small_two false false y h = omega (arith, ints)

small_minus : (y : ℤ) → unsigned_abs y ≤ 256000 → unsigned_abs (pos 0 -ℤ y) ≤ 256000
small_minus y h = omega (arith, ints, h)

small_decided : (n : ℕ) → n ≤ 256000 → AreSmallCharges (decided_charges n)
small_decided n h = record {
  decided = h;
  here = omega (arith, ints);
  there = omega (arith, ints);
  both = λ k x. small_nothing (charge_on no_charge k x) (charge_on no_charge k x) (nothing_charged k x) (nothing_charged k x);
}

small_one_charge : (slot : ℕ) (first : Bool) (w : ℕ) → w ≤ 256000 → AreSmallCharges (one_charge slot first (pos w))
small_one_charge slot first w h = record {
  decided = omega arith;
  here = omega (arith, ints, h);
  there = omega (arith, ints);
  both = λ k x. small_one ((slot == k) && same_answer first x) w (charge_on no_charge k x) h (nothing_charged k x);
}

small_if : (b : Bool) (w : ℕ) → w ≤ 256000 → cond b w 0 ≤ 256000
small_if true w h = h
small_if false w h = omega arith

small_link : (here there : ℕ) (o p : Option Bool) (flip : Bool) (w : ℕ) (y : ℤ) → w ≤ 256000 → unsigned_abs y ≤ 256000 → AreSmallCharges (link_charges here there o p flip w y)
small_link here there (Some first) (Some first_too) flip w y h g = small_decided (cond (same_answer flip (same_answer first first_too)) w 0) (small_if (same_answer flip (same_answer first first_too)) w h)
small_link here there (Some first) None flip w y h g = small_one_charge there (same_answer flip first) w h
small_link here there None (Some first_too) flip w y h g = small_one_charge here (same_answer flip first_too) w h
small_link here there None None flip w y h g = record {
  decided = omega arith;
  here = small_minus y g;
  there = g;
  both = λ k x. small_two ((here == k) && same_answer false x) ((there == k) && same_answer flip x) y g;
}

small_apart : (w : ℕ) (o p : Option Bool) → w ≤ 256000 → apart_cost w o p ≤ 256000
small_apart w None p h = omega arith
small_apart w (Some here) None h = omega arith
small_apart w (Some here) (Some there) h = by_test (same_answer here there)
  where
    by_test : (b : Bool) → cond b 0 w ≤ 256000
    by_test true = omega arith
    by_test false = h

pub small_charges : (segs placed : List (List LineId)) (t : Term) (here there : ℕ) (y : ℤ) → IsTerm segs t → unsigned_abs y ≤ 256000 → AreSmallCharges (charges_by segs placed t here there y)
small_charges segs placed (Side seg first second w) here there y fits h = by_test (is_decided placed seg first second)
  where
    by_test : (b : Bool) → AreSmallCharges (cond b (decided_charges (cond (comes_before (lines_on placed seg) second first) w 0)) (one_charge here (nat_lt second.0 first.0) (pos w)))
    by_test true = small_decided (cond (comes_before (lines_on placed seg) second first) w 0) (small_if (comes_before (lines_on placed seg) second first) w fits.weight.1)
    by_test false = small_one_charge here (nat_lt second.0 first.0) w fits.weight.1
small_charges segs placed (Link seg other flip a b w) here there y fits h = small_link here there (looked placed seg a b) (looked placed other a b) flip w y fits.weight.1 h
small_charges segs placed (Apart seg other a b w) here there y fits h =
    small_decided (apart_cost w (neighbours_on (lines_on segs seg) (lines_on placed seg) a b) (neighbours_on (lines_on segs other) (lines_on placed other) a b))
    (small_apart w (neighbours_on (lines_on segs seg) (lines_on placed seg) a b) (neighbours_on (lines_on segs other) (lines_on placed other) a b) fits.weight.1)

pub small_charge_on : (c : Charge) (k : ℕ) (x : Bool) → unsigned_abs c.amount ≤ 256000 → unsigned_abs (charge_on c k x) ≤ 256000
small_charge_on c k x h = by_test ((c.slot == k) && same_answer c.lesser_first x)
  where
    by_test : (b : Bool) → unsigned_abs (cond b c.amount (pos 0)) ≤ 256000
    by_test true = h
    by_test false = omega (arith, ints)

-- What is decided.

pub decided_is : (segs placed : List (List LineId)) (t : Term) (here there : ℕ) (y : ℤ) → (charges_by segs placed t here there y).decided ≡ decided_cost segs placed t
decided_is segs placed (Side seg first second w) here there y = by_test (is_decided placed seg first second)
  where
    by_test : (b : Bool) → (let c : Charges = cond b (decided_charges (cond (comes_before (lines_on placed seg) second first) w 0)) (one_charge here (nat_lt second.0 first.0) (pos w)) in c).decided
        ≡ cond b (cond (comes_before (lines_on placed seg) second first) w 0) 0
    by_test true = refl
    by_test false = refl
decided_is segs placed (Link seg other flip a b w) here there y = by_tests (is_decided placed seg a b) (is_decided placed other a b)
  where
    by_tests : (t u : Bool) → (link_charges here there (cond t (Some (comes_before (lines_on placed seg) a b)) None) (cond u (Some (comes_before (lines_on placed other) a b)) None) flip w y).decided
        ≡ cond (t && u) (cond (same_answer flip (same_answer (comes_before (lines_on placed seg) a b) (comes_before (lines_on placed other) a b))) w 0) 0
    by_tests true true = refl
    by_tests true false = refl
    by_tests false true = refl
    by_tests false false = refl
decided_is segs placed (Apart seg other a b w) here there y = refl

-- The sums.

pub small_charged : (segs placed : List (List LineId)) (table : List PartTerm) (prices : List ℤ) (i k : ℕ) (x : Bool) → AreTerms segs table
    → ((j : ℕ) → j < length table → unsigned_abs (get_or prices j (pos 0)) ≤ 256000) → i ≤ length table → unsigned_abs (charged segs placed table prices i k x) ≤ 256000 * i
small_charged segs placed table prices zero k x fits small h = omega (arith, ints)
small_charged segs placed table prices (suc i) k x fits small h =
    let t : PartTerm = get_or table i no_part_term in
    let one = small_charges segs placed t.term t.here t.there (get_or prices i (pos 0)) (fits i no_part_term (omega (arith, h))) (small i (omega (arith, h))) in
    let rest = small_charged segs placed table prices i k x fits small (omega (arith, h)) in
    let sum = abs_sum (charged segs placed table prices i k x) (added_at segs placed table prices i k x) (256000 * i) 256000 rest (one.both k x) in
    omega (arith, sum)

-- the terms' shares on the slot
pub charged_total : (segs placed : List (List LineId)) (table : List PartTerm) (dense : List ℤ) (prices : List (ℕ × ℤ)) (slots : List Slot) (i k : ℕ) (d : Slot) (x : Bool) → AreTerms segs table
    → AreApartSlots slots → All (λ (t : PartTerm). HasEnds slots t.term t.here t.there) table → ((j : ℕ) → j < length table → get_or dense j (pos 0) ≡ price_at prices (get_or table j no_part_term).number)
    → k < length slots → i ≤ length table → charged segs placed table dense i k x ≡ slot_total placed prices (map plain_term (take i table)) (get_or slots k d) x
charged_total segs placed table dense prices slots zero k d x fits apart ends told below h = refl
charged_total segs placed table dense prices slots (suc i) k d x fits apart ends told below h =
    let t : PartTerm = get_or table i no_part_term in
    let inside : i < length table = omega (arith, h) in
    let rest = charged_total segs placed table dense prices slots i k d x fits apart ends told below (omega (arith, h)) in
    let f : ℕ × Term → ℤ = slot_share placed prices (get_or slots k d) x in
    let here : added_at segs placed table dense i k x ≡ f (plain_term t) =
    ap (λ y. charge_on (charges_by segs placed t.term t.here t.there y).here k x +ℤ charge_on (charges_by segs placed t.term t.here t.there y).there k x) (told i inside)
    ∙ adds_share segs placed prices slots apart k d below x t.number t.term t.here t.there (fits i no_part_term inside) (ends i no_part_term inside) in
    let e : suc i ≡ i + 1 = omega arith in
    let more : map plain_term (take (suc i) table) ≡ map plain_term (take i table) ++ plain_term t ∷ [] =
    ap (λ n. map plain_term (take n table)) e ∙ ap (map plain_term) (take_more table i no_part_term inside) ∙ map_push plain_term (take i table) t in
    ap (λ v. v +ℤ added_at segs placed table dense i k x) rest ∙ ap (λ v. slot_total placed prices (map plain_term (take i table)) (get_or slots k d) x +ℤ v) here
    ∙ last (slot_total placed prices (map plain_term (take i table)) (get_or slots k d) x) (f (plain_term t))
    ∙ sym (ap (int_sum f) more ∙ int_sum-append f (map plain_term (take i table)) (plain_term t ∷ []))
  where
    last : (a b : ℤ) → a +ℤ b ≡ a +ℤ (b +ℤ pos 0)
    last a b = omega (arith, ints)
