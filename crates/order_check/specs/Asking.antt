-- What a tree is asked to show.
use Rattle.std.specs.Prelude.{◌≡◌, ◌<◌, List, length, All}
use Rattle.map_base.specs.declared.ids.SegId.{SegId}
use Rattle.order_model.specs.Problems.{IsProblem}
use Rattle.order_model.specs.Parts.{IsRisingPart}
use Rattle.order_model.specs.PartTerms.{part_terms, part_numbers}
use Rattle.order_model.specs.Numbers.{TellPart}
use Rattle.order_model.specs.Questions.{Question, question}
use Rattle.order_check.specs.PartTables.{IsPartTable}
use Rattle.order_check.specs.Spots.{term_lists, IsSpotTable}
use Rattle.order_check.specs.declared.slot.SlotCost.{SlotCost}
use Rattle.order_check.specs.declared.asked.Asked.{Asked}

-- the question that a tree is to answer
abbrev pub question_of : Asked → Question
question_of asked = question asked.problem.now.segs asked.part.now (part_terms asked.problem.now.terms asked.part.now) asked.target

-- the segments and the numbers are those of a part of the problem, and the table is that of its terms
pub record IsAsked (asked : Asked) : Type 0 where
  pub problem : IsProblem asked.problem.now
  pub rising : IsRisingPart asked.part.now
  pub known : All (λ (s : SegId). s.0 < length asked.problem.now.segs) asked.part.now
  pub numbers : TellPart asked.part.now asked.k (length asked.problem.now.segs) asked.numbers.now
  pub terms : asked.terms.now ≡ part_numbers asked.problem.now.terms asked.part.now
  pub table : IsPartTable (part_terms asked.problem.now.terms asked.part.now) asked.table.now.terms.items asked.table.now.slots.keys
  pub spots : IsSpotTable asked.table.now.terms.items asked.table.now.spots.spots.keys (term_lists asked.table.now.spots.lists.items)

-- a table with a place for each slot of the part
abbrev pub HasTable : Asked → List SlotCost → Type 0
HasTable asked costs = length costs ≡ length asked.table.now.slots.keys
