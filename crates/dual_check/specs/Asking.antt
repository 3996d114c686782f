-- What a tree is asked to show, and the room at hand.
use Rattle.std.specs.Prelude.{◌≡◌, ◌≤◌, ◌<◌, true, map, length, All}
use Rattle.map_base.specs.declared.ids.SegId.{SegId}
use Rattle.order_model.specs.Problems.{IsProblem, lines_on}
use Rattle.order_model.specs.Parts.{IsRisingPart}
use Rattle.order_model.specs.Places.{tables_of}
use Rattle.order_model.specs.PartTerms.{part_terms, part_numbers}
use Rattle.order_model.specs.Questions.{Question, question}
use Rattle.dual_bound.specs.Accepting.{is_narrow}
use Rattle.dual_shares.specs.Groups.{numbers_on}
use Rattle.dual_shares.specs.CostRows.{HasRoom}
use Rattle.dual_check.specs.declared.asked.Asked.{Asked}
use Rattle.dual_check.specs.declared.solver.Solver.{Solver}

-- the question that a tree is to answer
abbrev pub question_of : Asked → Question
question_of asked = question asked.problem.now.segs asked.part.now (part_terms asked.problem.now.terms asked.part.now) asked.target

-- the segments are a part of the problem's, the numbers those of its terms, and the groups tell which terms are on each
pub record IsAsked (asked : Asked) : Type 0 where
  pub problem : IsProblem asked.problem.now
  pub rising : IsRisingPart asked.part.now
  pub known : All (λ (s : SegId). s.0 < length asked.problem.now.segs) asked.part.now
  pub numbers : asked.numbers.now ≡ part_numbers asked.problem.now.terms asked.part.now
  pub groups : tables_of asked.groups.now ≡ map (numbers_on asked.problem.now.terms asked.numbers.now) asked.part.now
  pub narrow : asked.narrow ≡ is_narrow asked.problem.now.segs asked.part.now

-- there is room for each segment of the part where none is too wide
pub record HasRoomFor (asked : Asked) (solver : Solver) : Type 0 where
  pub rows : HasRoom solver.rows
  pub ahead : length solver.ahead.items ≡ 16
  pub program : asked.narrow ≡ true → All (λ (s : SegId). length (lines_on asked.problem.now.segs s) ≤ solver.program) asked.part.now
