-- The terms of a part with the slots at their ends, as a checker keeps them.
use Rattle.std.specs.Prelude.{◌≡◌, ℕ, List, map, All}
use Rattle.order_model.specs.declared.term.Term.{Term}
use Rattle.order_check.specs.declared.slot.Slot.{Slot}
use Rattle.order_check.specs.declared.slot.PartTerm.{PartTerm}
use Rattle.order_check.specs.Slots.{slots_of, plain_term, HasEnds}

-- these terms, each with the places of its slots among the slots of all
pub record IsPartTable (terms : List (ℕ × Term)) (table : List PartTerm) (slots : List Slot) : Type 0 where
  pub listed : map plain_term table ≡ terms
  pub are_slots : slots ≡ slots_of terms
  pub ends : All (λ (t : PartTerm). HasEnds slots t.term t.here t.there) table
