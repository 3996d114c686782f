-- The sum over the slots of what the cheaper order of their lines costs.
use Rattle.std.proofs.Common.{◌≡◌, ℕ, ◌*◌, ◌<◌, ◌≤◌, ◌^◌, ◌==◌, ◌&&◌, Bool, true, false, cond, List, [], ◌∷◌, suc, length, set, get_or, refl, sym, ◌∙◌, ap, arith}
use Rattle.std.specs.Prelude.{ℤ, pos, ◌+ℤ◌, ◌-ℤ◌, ◌≤ℤ◌, int_lt, unsigned_abs}
use Rattle.std.proofs.lemmas.Bool.{eqb-true, eqb-false}
use Rattle.std.proofs.lemmas.Int.{ints}
use Rattle.std.proofs.lemmas.List.{get_or-set_same, get_or-set_other}
use Rattle.order_model.specs.Costs.{same_answer}
use Rattle.order_bound.specs.Values.{least_answer}
use Rattle.order_check.specs.declared.slot.Charge.{Charge}
use Rattle.order_check.specs.declared.slot.SlotCost.{SlotCost}
use Rattle.order_check.specs.Slots.{no_cost, cost_in, cost_at, charge_on}
use Rattle.order_check.specs.Counting.{least_sum}
use Rattle.order_check.proofs.SignedSums.{sums_by_place, sum_set, sum_bound}

least_small : (cost : Bool → ℤ) (m : ℕ) → unsigned_abs (cost true) ≤ m → unsigned_abs (cost false) ≤ m → unsigned_abs (least_answer cost) ≤ m
least_small cost m h g = by_test (int_lt (cost false) (cost true))
  where
    by_test : (b : Bool) → unsigned_abs (cond b (cost false) (cost true)) ≤ m
    by_test true = g
    by_test false = h

-- the sum is small
pub record IsWithin (least : ℤ) : Type 0 where
  pub low : (pos 0 -ℤ pos (2 ^ 100)) ≤ℤ least
  pub high : least ≤ℤ pos (2 ^ 100)

pub least_bound : (costs : List SlotCost) (least : ℤ) → length costs ≤ 8000000 → ((k : ℕ) (x : Bool) → k < length costs → unsigned_abs (cost_at costs k x) ≤ 2305843009213693952)
    → least ≡ least_sum costs → IsWithin least
least_bound costs least few small is =
    let most = sum_bound (λ (c : SlotCost). least_answer (cost_in c)) costs no_cost
    (λ k h. least_small (cost_in (get_or costs k no_cost)) 2305843009213693952 (small k true h) (small k false h)) in
    within least (least_sum costs) (length costs) is most few
  where
    within : (a b : ℤ) (n : ℕ) → a ≡ b → unsigned_abs b ≤ 2305843009213693952 * n → n ≤ 8000000 → IsWithin a
    within a b n e p q = record { low = omega (arith, ints, e, p, q); high = omega (arith, ints, e, p, q) }

-- one slot costs something else
pub least_moved : (old new : List SlotCost) (k : ℕ) (c : SlotCost) (least before after result : ℤ) → k < length old → new ≡ set old k c → least ≡ least_sum old
    → before ≡ least_answer (cost_in (get_or old k no_cost)) → after ≡ least_answer (cost_in c) → result ≡ (least -ℤ before) +ℤ after → result ≡ least_sum new
least_moved old new k c least before after result below is is_least was will moved =
    moved ∙ ap (λ v. (v -ℤ before) +ℤ after) is_least ∙ ap (λ v. (least_sum old -ℤ v) +ℤ after) was ∙ ap (λ v. (least_sum old -ℤ least_answer (cost_in (get_or old k no_cost))) +ℤ v) will
    ∙ sym (sum_set (λ (d : SlotCost). least_answer (cost_in d)) old k c no_cost below) ∙ ap least_sum (sym is)

-- tables that have the same costs have one sum
pub same_least : (some others : List SlotCost) → length some ≡ length others → ((k : ℕ) → k < length some → (x : Bool) → cost_at some k x ≡ cost_at others k x) → least_sum some ≡ least_sum others
same_least some others each same =
    sums_by_place (λ (c : SlotCost). least_answer (cost_in c)) (λ (c : SlotCost). least_answer (cost_in c)) some others no_cost no_cost each (λ i h. rw (same i h true, same i h false) refl)

-- a table in which nothing costs anything
pub least_none : (costs : List SlotCost) → ((k : ℕ) (x : Bool) → cost_at costs k x ≡ pos 0) → pos 0 ≡ least_sum costs
least_none costs clear = sym (none costs (λ k h. rw (clear k true, clear k false) refl))
  where
    none : (cs : List SlotCost) → ((k : ℕ) → k < length cs → least_answer (cost_in (get_or cs k no_cost)) ≡ pos 0) → least_sum cs ≡ pos 0
    none [] h = refl
    none (c ∷ cs) h =
        let one : least_answer (cost_in c) ≡ pos 0 = h 0 (omega arith) in
        let rest = none cs (λ k below. h (suc k) (omega (arith, below))) in
        zero_sum (least_answer (cost_in c)) (least_sum cs) one rest
      where
        zero_sum : (a b : ℤ) → a ≡ pos 0 → b ≡ pos 0 → a +ℤ b ≡ pos 0
        zero_sum a b p q = omega (arith, ints, p, q)

-- A charge at its slot.
pub charge_set : (costs : List SlotCost) (charge : Charge) (c : SlotCost) → charge.slot < length costs
    → ((x : Bool) → cost_in c x ≡ cost_in (get_or costs charge.slot no_cost) x +ℤ cond (same_answer charge.lesser_first x) charge.amount (pos 0))
    → (k : ℕ) → k < length costs → (x : Bool) → cost_at (set costs charge.slot c) k x ≡ cost_at costs k x +ℤ charge_on charge k x
charge_set costs charge c within changed k below x = by_test (charge.slot == k) refl
  where
    none_more : (a : ℤ) → a ≡ a +ℤ pos 0
    none_more a = omega (arith, ints)

    by_test : (b : Bool) → (charge.slot == k) ≡ b → cost_at (set costs charge.slot c) k x ≡ cost_at costs k x +ℤ cond (b && same_answer charge.lesser_first x) charge.amount (pos 0)
    by_test true e =
        let same : charge.slot ≡ k = eqb-true charge.slot k e in
        ap (λ n. cost_at (set costs charge.slot c) n x) (sym same) ∙ ap (λ d. cost_in d x) (get_or-set_same costs charge.slot c no_cost within) ∙ changed x
        ∙ ap (λ n. cost_in (get_or costs n no_cost) x +ℤ cond (same_answer charge.lesser_first x) charge.amount (pos 0)) same
    by_test false e =
        ap (λ d. cost_in d x) (get_or-set_other costs charge.slot k c no_cost (λ h. eqb-false charge.slot k e (sym h))) ∙ none_more (cost_at costs k x)

-- a charge of 0 adds nothing
pub none_added : (c : Charge) (k : ℕ) (x : Bool) (v : ℤ) → c.amount ≡ pos 0 → v ≡ v +ℤ charge_on c k x
none_added c k x v none = by_test ((c.slot == k) && same_answer c.lesser_first x)
  where
    by_test : (b : Bool) → v ≡ v +ℤ cond b c.amount (pos 0)
    by_test true = omega (arith, ints, none)
    by_test false = omega (arith, ints)
