-- What the terms of a part come to with no prices, as it is kept while lines are placed.
use Rattle.std.specs.Prelude.{◌≡◌, ℕ, ◌+◌, ◌<◌, ◌≤◌, Bool, true, false, List, length, map, sum_by, slice_set, if◌then◌else◌}
use Rattle.std.specs.Prelude.{ℤ, pos, ◌+ℤ◌, ◌-ℤ◌, unsigned_abs}
use Rattle.map_base.specs.declared.ids.SegId.{SegId}
use Rattle.map_base.specs.declared.ids.LineId.{LineId}
use Rattle.order_model.specs.declared.term.Term.{Term}
use Rattle.order_model.specs.Problems.{lines_on}
use Rattle.order_model.specs.Prefixes.{without_last}
use Rattle.order_bound.specs.Decided.{decided_cost, decided_sum}
use Rattle.order_bound.specs.Values.{least_answer}
use Rattle.whole_sums.specs.Sums.{int_sum}
use Rattle.order_check.specs.declared.slot.PartTerm.{PartTerm}
use Rattle.order_check.specs.declared.slot.SlotCost.{SlotCost}
use Rattle.order_check.specs.declared.slot.Charge.{Charge}
use Rattle.order_check.specs.declared.slot.Charges.{Charges}
use Rattle.order_check.specs.declared.slot.Sums.{Sums}
use Rattle.order_check.specs.declared.asked.Asked.{Asked}
use Rattle.order_check.specs.Slots.{plain_term, cost_in, cost_at, charge_on}
use Rattle.order_check.specs.Charges.{charges_by}
use Rattle.order_check.specs.Charging.{AreTerms}

-- what a term adds to a slot by an order of its lines, with no price
abbrev pub added_by : List (List LineId) → List (List LineId) → ℕ → Bool → PartTerm → ℤ
added_by segs placed k x t =
    let c : Charges = charges_by segs placed t.term t.here t.there (pos 0) in charge_on c.here k x +ℤ charge_on c.there k x

-- what it costs where it is decided
abbrev pub decided_of : List (List LineId) → List (List LineId) → PartTerm → ℕ
decided_of segs placed t = decided_cost segs placed t.term

-- a number less another, or more
abbrev pub shifted : Bool → ℤ → ℤ → ℤ
shifted true a v = a -ℤ v
shifted false a v = a +ℤ v

-- the contrary of a charge where it is taken off
abbrev pub turned : Bool → Charge → Charge
turned true c = record { slot = c.slot; lesser_first = c.lesser_first; amount = pos 0 -ℤ c.amount }
turned false c = c

-- no more stands in the table than so many terms add
abbrev pub AreSmallCosts : List SlotCost → Type 0
AreSmallCosts costs = (k : ℕ) (x : Bool) → k < length costs → unsigned_abs (cost_at costs k x) ≤ 1024000000000

-- the sum over the slots of what the cheaper order of their lines costs
abbrev pub least_sum : List SlotCost → ℤ
least_sum costs = int_sum (λ (c : SlotCost). least_answer (cost_in c)) costs

-- the table has what all terms of the part add with no prices, and the sums are those of the decided terms and of the slots
pub record IsTally (asked : Asked) (placed : List (List LineId)) (sums : Sums) (costs : List SlotCost) : Type 0 where
  pub decided : sums.decided ≡ decided_sum asked.problem.now.segs placed (map plain_term asked.table.now.terms.items)
  pub slots : (k : ℕ) → k < length costs → (x : Bool) → cost_at costs k x ≡ int_sum (added_by asked.problem.now.segs placed k x) asked.table.now.terms.items
  pub least : sums.least ≡ least_sum costs

-- these are the part's terms that a test picks, none of them twice: whatever is summed over them
pub record AreThose (picks : Term → Bool) (asked : Asked) (some : List PartTerm) : Type 0 where
  pub fits : AreTerms asked.problem.now.segs some
  pub few : length some ≤ 12000000
  pub sums : (f : PartTerm → ℤ) → int_sum f some ≡ int_sum (λ (t : PartTerm). if picks t.term then f t else pos 0) asked.table.now.terms.items

-- these are some of the part's terms
abbrev pub ArePicked : Asked → List PartTerm → Type 0
ArePicked asked some = (picks : Term → Bool) × AreThose picks asked some

-- the sums and the costs of slots are the tally of all terms but some
pub record IsTallyWithout (some : List PartTerm) (asked : Asked) (placed : List (List LineId)) (sums : Sums) (costs : List SlotCost) : Type 0 where
  pub decided : sums.decided + sum_by (decided_of asked.problem.now.segs placed) some ≡ decided_sum asked.problem.now.segs placed (map plain_term asked.table.now.terms.items)
  pub slots : (k : ℕ) → k < length costs → (x : Bool)
      → cost_at costs k x +ℤ int_sum (added_by asked.problem.now.segs placed k x) some ≡ int_sum (added_by asked.problem.now.segs placed k x) asked.table.now.terms.items
  pub least : sums.least ≡ least_sum costs

-- beside these terms a tally for the one prefix is one for the other
abbrev pub IsSameBeside : List PartTerm → Asked → List (List LineId) → List (List LineId) → Type 0
IsSameBeside some asked before after = (sums : Sums) (costs : List SlotCost) → IsTallyWithout some asked before sums costs → IsTallyWithout some asked after sums costs

-- the lines placed once the last placing on a segment is taken back
abbrev pub placed_less : List (List LineId) → List (List LineId) → SegId → List (List LineId)
placed_less segs placed s = slice_set placed s.0 (without_last (lines_on segs s) (lines_on placed s))
