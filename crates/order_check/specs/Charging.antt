-- What the first terms of a part add to a slot, as a checker sums it.
use Rattle.std.specs.Prelude.{ℕ, zero, suc, Bool, List, All, slice_index_or}
use Rattle.std.specs.Prelude.{ℤ, pos, ◌+ℤ◌}
use Rattle.map_base.specs.declared.ids.LineId.{LineId}
use Rattle.order_model.specs.Problems.{IsTerm}
use Rattle.order_model.specs.PartTerms.{no_term}
use Rattle.order_check.specs.declared.slot.PartTerm.{PartTerm}
use Rattle.order_check.specs.declared.slot.Charges.{Charges}
use Rattle.order_check.specs.Slots.{charge_on}
use Rattle.order_check.specs.Charges.{charges_by}

-- what stands for a term that there is not
abbrev pub no_part_term : PartTerm
no_part_term = record { number = 0; term = no_term; here = 0; there = 0 }

-- what the term at this place adds, under its price
abbrev pub charges_at : List (List LineId) → List (List LineId) → List PartTerm → List ℤ → ℕ → Charges
charges_at segs placed table prices i =
    let t : PartTerm = slice_index_or table i no_part_term in charges_by segs placed t.term t.here t.there (slice_index_or prices i (pos 0))

-- what it adds to a slot by an order of its lines
abbrev pub added_at : List (List LineId) → List (List LineId) → List PartTerm → List ℤ → ℕ → ℕ → Bool → ℤ
added_at segs placed table prices i k x =
    let c : Charges = charges_at segs placed table prices i in charge_on c.here k x +ℤ charge_on c.there k x

-- what so many terms add
abbrev pub charged : List (List LineId) → List (List LineId) → List PartTerm → List ℤ → ℕ → ℕ → Bool → ℤ
charged segs placed table prices zero k x = pos 0
charged segs placed table prices (suc i) k x = charged segs placed table prices i k x +ℤ added_at segs placed table prices i k x

-- the terms are the problem's
abbrev pub AreTerms : List (List LineId) → List PartTerm → Type 0
AreTerms segs table = All (λ (t : PartTerm). IsTerm segs t.term) table
