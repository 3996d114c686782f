use Rattle.std.proofs.Common.{◌≡◌, length, take, drop, None}
use Rattle.octi_grid.specs.Legal.{first_illegal, first_illegal_after, legs_of, why_illegal}
use Rattle.octi_grid.specs.Taking.{IsTaken}
use Rattle.octi_grid.proofs.check.check_drawing.Given as goal

-- the walks so far are legal and taken, and what is first illegal is found in the rest
abbrev pub invariant-loop-k : goal.invariant-loop-k
invariant-loop-k l = record {
  taken : IsTaken (length l.graph.kinds) (take l.k (legs_of l.graph.ends l.walks)) l.taken;
  legal : why_illegal l.graph.rounds (take l.k (legs_of l.graph.ends l.walks)) ≡ None;
  rest : first_illegal_after l.graph.rounds (take l.k (legs_of l.graph.ends l.walks)) (drop l.k (legs_of l.graph.ends l.walks)) ≡ first_illegal l.graph l.walks;
}
