-- What the tables of a Close come to.
use Rattle.std.proofs.Common.{◌≡◌, ℕ, zero, suc, ◌<◌, ◌≤◌, Bool, true, false, cond, List, [], ◌∷◌, length, map, get_or, refl, sym, ◌∙◌, ap, subst, arith, Some, None}
use Rattle.std.specs.Prelude.{ℤ, pos, ◌+ℤ◌, int_le}
use Rattle.std.specs.List.{AllByRecursion}
use Rattle.std.proofs.lemmas.List.{take_all, get_or-map, length-map}
use Rattle.map_base.specs.declared.ids.SegId.{SegId}
use Rattle.map_base.specs.declared.ids.LineId.{LineId}
use Rattle.order_model.specs.declared.term.Term.{Term}
use Rattle.order_model.specs.Problems.{IsTerm}
use Rattle.order_model.specs.PartTerms.{part_terms, plain_terms}
use Rattle.order_model.proofs.KeptTerms.{part_terms_fit, part_terms_few}
use Rattle.order_bound.specs.Decided.{decided_sum}
use Rattle.order_bound.specs.Pairs.{pairs_of}
use Rattle.order_bound.specs.Values.{least_answer, are_allowed, value_of, pair_value}
use Rattle.order_values.specs.PriceLists.{price_at}
use Rattle.whole_sums.specs.Sums.{int_sum}
use Rattle.order_bound.specs.Accepting.{reaches, is_closed}
use Rattle.order_model.specs.Questions.{Question}
use Rattle.order_bound.proofs.Bounding.{AreNumbered}
use Rattle.order_bound.proofs.Completing.{IsPart}
use Rattle.order_bound.proofs.Parts.{part_of_problem, part_numbered}
use Rattle.order_check.specs.declared.slot.Slot.{Slot}
use Rattle.order_check.specs.declared.slot.PartTerm.{PartTerm}
use Rattle.order_check.specs.declared.slot.SlotCost.{SlotCost}
use Rattle.order_check.specs.declared.asked.Asked.{Asked}
use Rattle.order_check.specs.Asking.{question_of, IsAsked}
use Rattle.order_check.specs.Slots.{plain_term, slot_total, slots_value, slot_of, no_cost, cost_in, cost_at}
use Rattle.order_check.specs.Charging.{no_part_term, charged, AreTerms}
use Rattle.order_check.specs.Prices.{AreRisingNumbers, AreNumbersOf}
use Rattle.order_check.proofs.SlotValues.{slots_apart, value_by_slots}
use Rattle.order_check.proofs.SignedSums.{sums_by_place}
use Rattle.order_check.proofs.Charging.{charged_total}
use Rattle.order_check.proofs.TableSteps.{few_slots}

-- the terms of the table are the problem's
pub table_fits : (asked : Asked) → IsAsked asked → AreTerms asked.problem.now.segs asked.table.now.terms.items
table_fits asked ok k d below =
    let table : List PartTerm = asked.table.now.terms.items in
    let e : ℕ × Term = plain_term (get_or table k d) in
    let count : length table ≡ length (part_terms asked.problem.now.terms asked.part.now) = sym (length-map table plain_term) ∙ ap length ok.table.listed in
    let plain : get_or (part_terms asked.problem.now.terms asked.part.now) k e ≡ e = ap (λ ts. get_or ts k e) (sym ok.table.listed) ∙ get_or-map plain_term table k d e below in
    let term_in : ℕ × Term → Term = λ q. q.1 in
    let at : get_or (plain_terms (part_terms asked.problem.now.terms asked.part.now)) k e.1 ≡ e.1 =
    get_or-map term_in (part_terms asked.problem.now.terms asked.part.now) k e e.1 (omega (arith, below, count)) ∙ ap term_in plain in
    subst (IsTerm asked.problem.now.segs) at
    (part_terms_fit asked.problem.now.segs asked.part.now asked.problem.now.terms ok.problem.terms k e.1
    (omega (arith, below, count, length-map (part_terms asked.problem.now.terms asked.part.now) term_in)))

pub table_count : (asked : Asked) → IsAsked asked → length asked.table.now.terms.items ≡ length (part_terms asked.problem.now.terms asked.part.now)
table_count asked ok = sym (length-map asked.table.now.terms.items plain_term) ∙ ap length ok.table.listed

pub table_few : (asked : Asked) → IsAsked asked → length asked.table.now.terms.items ≤ 4000000
table_few asked ok = omega (arith, table_count asked ok, part_terms_few asked.part.now asked.problem.now.terms, ok.problem.few_terms)

pub slots_few : (asked : Asked) → IsAsked asked → length asked.table.now.slots.keys ≤ 8000000
slots_few asked ok =
    omega (arith, ap length ok.table.are_slots, few_slots (part_terms asked.problem.now.terms asked.part.now), table_count asked ok, table_few asked ok)

-- the numbers of terms rise
above_all : (k : ℕ) (terms : List (ℕ × Term)) (j : ℕ) → AllByRecursion (λ (u : ℕ × Term). k < u.0) terms → j < length terms → k < get_or (map (λ (q : ℕ × Term). q.0) terms) j 0
above_all k [] j h below = absurd (omega (arith, below))
above_all k (t ∷ terms) zero h below = h.0
above_all k (t ∷ terms) (suc j) h below = above_all k terms j h.1 (omega (arith, below))

rising_numbers : (terms : List (ℕ × Term)) → AreNumbered terms → (i j : ℕ) → i < j → j < length terms
    → get_or (map (λ (q : ℕ × Term). q.0) terms) i 0 < get_or (map (λ (q : ℕ × Term). q.0) terms) j 0
rising_numbers [] h i j below known = absurd (omega (arith, known))
rising_numbers (t ∷ terms) h zero zero below known = absurd (omega (arith, below))
rising_numbers (t ∷ terms) h zero (suc j) below known = above_all t.0 terms j h.0 (omega (arith, known))
rising_numbers (t ∷ terms) h (suc i) zero below known = absurd (omega (arith, below))
rising_numbers (t ∷ terms) h (suc i) (suc j) below known = rising_numbers terms h.1 i j (omega (arith, below)) (omega (arith, known))

number_lists : (table : List PartTerm) → map (λ (t : PartTerm). t.number) table ≡ map (λ (q : ℕ × Term). q.0) (map plain_term table)
number_lists [] = refl
number_lists (t ∷ table) = ap (λ l. t.number ∷ l) (number_lists table)

pub table_numbers : (asked : Asked) → IsAsked asked → AreNumbersOf asked.table.now.terms.items asked.terms.now
table_numbers asked ok = record {
  listed = number_lists asked.table.now.terms.items ∙ ap (map (λ (q : ℕ × Term). q.0)) ok.table.listed ∙ sym ok.terms;
  rising = subst AreRisingNumbers (sym ok.terms) (λ i j below known.
      rising_numbers (part_terms asked.problem.now.terms asked.part.now) (part_numbered asked.problem.now.terms asked.part.now) i j below
      (omega (arith, known, length-map (part_terms asked.problem.now.terms asked.part.now) (λ (q : ℕ × Term). q.0))));
}

-- a Close fails where a price isn't allowed
pub not_closed : (q : Question) (placed : List (List LineId)) (prices : List (ℕ × ℤ)) → are_allowed placed q.terms prices ≡ false → is_closed q placed prices ≡ false
not_closed q placed prices h = rw h refl

-- what the tables come to is the value
pub closed_by_costs : (asked : Asked) (placed : List (List LineId)) (prices : List (ℕ × ℤ)) (dense : List ℤ) (costs : List SlotCost) (decided : ℕ) (least : ℤ) → IsAsked asked
    → are_allowed placed (map plain_term asked.table.now.terms.items) prices ≡ true
    → ((i : ℕ) → i < length asked.table.now.terms.items → get_or dense i (pos 0) ≡ price_at prices (get_or asked.table.now.terms.items i no_part_term).number)
    → length costs ≡ length asked.table.now.slots.keys
    → ((k : ℕ) → k < length costs → (x : Bool) → cost_at costs k x ≡ charged asked.problem.now.segs placed asked.table.now.terms.items dense (length asked.table.now.terms.items) k x)
    → decided ≡ decided_sum asked.problem.now.segs placed (map plain_term asked.table.now.terms.items) → least ≡ int_sum (λ c. least_answer (cost_in c)) costs
    → int_le (pos asked.target) (pos decided +ℤ least) ≡ is_closed (question_of asked) placed prices
closed_by_costs asked placed prices dense costs decided least ok allowed told each at decided_is least_is =
    ap (λ v. int_le (pos asked.target) v) sums ∙ sym (ap (λ b. reaches asked.target (cond b (Some (value_of segs part terms placed prices)) None)) all_allowed)
  where
    segs : List (List LineId)
    segs = asked.problem.now.segs

    part : List SegId
    part = asked.part.now

    terms : List (ℕ × Term)
    terms = part_terms asked.problem.now.terms asked.part.now

    table : List PartTerm
    table = asked.table.now.terms.items

    slots : List Slot
    slots = asked.table.now.slots.keys

    no_slot : Slot
    no_slot = slot_of (record { 0 = 0 }) (record { 0 = 0 }) (record { 0 = 0 })

    all_allowed : are_allowed placed (part_terms asked.problem.now.terms asked.part.now) prices ≡ true
    all_allowed = ap (λ ts. are_allowed placed ts prices) (sym ok.table.listed) ∙ allowed

    is_part : IsPart asked.problem.now.segs asked.part.now (part_terms asked.problem.now.terms asked.part.now)
    is_part = part_of_problem asked.problem.now.segs asked.problem.now.terms asked.part.now ok.problem.rising ok.problem.terms ok.rising

    slot_at : (k : ℕ) → k < length costs → (x : Bool)
        → cost_in (get_or costs k no_cost) x ≡ slot_total placed prices (part_terms asked.problem.now.terms asked.part.now) (get_or asked.table.now.slots.keys k (slot_of (record { 0 = 0 }) (record { 0 = 0 }) (record { 0 = 0 }))) x
    slot_at k below x =
        at k below x
        ∙ charged_total asked.problem.now.segs placed asked.table.now.terms.items dense prices asked.table.now.slots.keys (length asked.table.now.terms.items) k
        (slot_of (record { 0 = 0 }) (record { 0 = 0 }) (record { 0 = 0 })) x (table_fits asked ok)
        (rw ok.table.are_slots (slots_apart [] (part_terms asked.problem.now.terms asked.part.now) tt)) ok.table.ends told (omega (arith, below, each)) (omega arith)
        ∙ ap (λ ts. slot_total placed prices (map plain_term ts) (get_or asked.table.now.slots.keys k (slot_of (record { 0 = 0 }) (record { 0 = 0 }) (record { 0 = 0 }))) x)
        (take_all (length asked.table.now.terms.items) asked.table.now.terms.items (omega arith))
        ∙ ap (λ ts. slot_total placed prices ts (get_or asked.table.now.slots.keys k (slot_of (record { 0 = 0 }) (record { 0 = 0 }) (record { 0 = 0 }))) x) ok.table.listed

    least_same : int_sum (λ c. least_answer (cost_in c)) costs ≡ int_sum (pair_value asked.problem.now.segs placed asked.part.now (part_terms asked.problem.now.terms asked.part.now) prices)
        (pairs_of (part_terms asked.problem.now.terms asked.part.now))
    least_same =
        sums_by_place (λ (c : SlotCost). least_answer (cost_in c)) (λ (k : Slot). least_answer (slot_total placed prices (part_terms asked.problem.now.terms asked.part.now) k)) costs asked.table.now.slots.keys
        no_cost (slot_of (record { 0 = 0 }) (record { 0 = 0 }) (record { 0 = 0 })) each
        (λ i h. rw (slot_at i h true, slot_at i h false) refl)
        ∙ ap (slots_value placed prices (part_terms asked.problem.now.terms asked.part.now)) ok.table.are_slots
        ∙ value_by_slots asked.problem.now.segs placed asked.part.now (part_terms asked.problem.now.terms asked.part.now) prices is_part

    sums : (pos decided +ℤ least) ≡ value_of asked.problem.now.segs asked.part.now (part_terms asked.problem.now.terms asked.part.now) placed prices
    sums =
        ap (λ n. pos n +ℤ least) (decided_is ∙ ap (decided_sum asked.problem.now.segs placed) ok.table.listed)
        ∙ ap (λ v. pos (decided_sum asked.problem.now.segs placed (part_terms asked.problem.now.terms asked.part.now)) +ℤ v) (least_is ∙ least_same)
