use Rattle.std.proofs.Common.{pos, All}
use Rattle.dual_rounds.specs.Ranges.{IsDirection}
use Rattle.dual_rounds.proofs.Filling.{IsFilledTo}
use Rattle.dual_rounds.proofs.TermLists.{direction_by}
use Rattle.dual_rounds.proofs.directions.direct.Given as goal

abbrev pub invariant-loop-k : goal.invariant-loop-k
invariant-loop-k l = IsFilledTo (direction_by l.problem.terms l.orders l.prices) (pos 0) l.k l.initial.directions l.directions × All IsDirection l.directions
